-- Sequences from one view, and stores with room made for them.
use Rattle.std.proofs.Common.{◌≡◌, ℕ, sym, subst}
use Rattle.solo_view.specs.Steps.Step.{Store}
use Rattle.solo_view.specs.View.{View}
use Rattle.solo_view.specs.Views.{after, after_all}
use Rattle.solo_world.specs.Lawful.{MayStore}
use Rattle.solo_world.specs.Sequences.{Sequence, makes_room, one, stores, Ready}
use Rattle.solo_world.proofs.Going.{Goes, goes_one, goes_then}
use Rattle.solo_undo.specs.Working.{HasMadeRoom}
use Rattle.solo_undo.proofs.Settled.{room_lawful}

-- the view is this one
abbrev pub Is : View → View → Type 0
Is v u = u ≡ v

pub goes_from : (v : View) (Q : View → Type 0) (s : Sequence) → Ready v (s v) × Q (after_all v (s v)) → Goes (Is v) s Q
goes_from v Q s r u e = subst (λ w. Ready w (s w) × Q (after_all w (s w))) (sym e) r

-- room is made, and the word stored
pub goes_stores : (P Q : View → Type 0) (w x : ℕ) → ((u m : View) → P u → HasMadeRoom u m → MayStore m w x × Q (after m (Store w x))) → Goes P (stores w x) Q
unfolding stores
goes_stores P Q w x each =
    goes_then P (λ m. (u : View) × (P u × HasMadeRoom u m)) Q makes_room (one (Store w x))
    (λ v p. let r = room_lawful v in (r.0, (v, (p, r.1))))
    (goes_one (λ m. (u : View) × (P u × HasMadeRoom u m)) Q (Store w x) (λ m t. let r = each t.0 m t.1.0 t.1.1 in (r.0, tt, r.1)))
