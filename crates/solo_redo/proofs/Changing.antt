-- Bits of a word are set or cleared, with room made for the change.
use Rattle.std.proofs.Common.{ℕ, slice_index, refl}
use Rattle.pm_record.specs.declared.redo.Op.TheVariants as op
use Rattle.solo_view.specs.Steps.Step.{Or, And}
use Rattle.solo_view.specs.View.{View}
use Rattle.solo_view.specs.Views.{after, after_all}
use Rattle.solo_world.specs.Lawful.{MayChange}
use Rattle.solo_world.specs.Sequences.{Ready, ands, finds_in, makes_room, ors}
use Rattle.solo_world.proofs.Going.{Goes, goes_then}
use Rattle.solo_undo.specs.Working.{HasMadeRoom}
use Rattle.solo_undo.proofs.Settled.{room_lawful}

pub goes_ors : (P Q : View → Type 0) (w x : ℕ) → ((u m : View) → P u → HasMadeRoom u m → MayChange m op.Or w x × Q (after m (Or w x (slice_index m.words w)))) → Goes P (ors w x) Q
unfolding ors finds_in Ready after_all
goes_ors P Q w x each =
    goes_then P (λ m. (u : View) × (P u × HasMadeRoom u m)) Q makes_room (finds_in w (Or w x))
    (λ v p. let r = room_lawful v in (r.0, (v, (p, r.1))))
    (λ m t. let r = each t.0 m t.1.0 t.1.1 in ((r.0, (λ alone. refl), tt), r.1))

pub goes_ands : (P Q : View → Type 0) (w x : ℕ) → ((u m : View) → P u → HasMadeRoom u m → MayChange m op.And w x × Q (after m (And w x (slice_index m.words w)))) → Goes P (ands w x) Q
unfolding ands finds_in Ready after_all
goes_ands P Q w x each =
    goes_then P (λ m. (u : View) × (P u × HasMadeRoom u m)) Q makes_room (finds_in w (And w x))
    (λ v p. let r = room_lawful v in (r.0, (v, (p, r.1))))
    (λ m t. let r = each t.0 m t.1.0 t.1.1 in ((r.0, (λ alone. refl), tt), r.1))
