-- A lane at work may put its records back, and then end them.
use Rattle.std.proofs.Common.{◌≡◌, List, [], ◌∷◌, length, Ok, refl, sym, ap, ◌∙◌, subst, arith}
use Rattle.solo_undo.proofs.Restored.{restore_lawful}
use Rattle.solo_undo.proofs.Retired.{retire_given_up}
use Rattle.solo_undo.proofs.Settled.{settle_lawful}
use Rattle.solo_undo.specs.Sequences.{restores, retires}
use Rattle.solo_undo.specs.Working.{IsPutBack, IsSeenWithArea}
use Rattle.solo_view.specs.Log.{Log}
use Rattle.solo_view.specs.View.{View}
use Rattle.solo_view.specs.Views.{after_all}
use Rattle.solo_world.specs.Sequences.{IsReady, Ready, Runs, settles}
use Rattle.solo_world.specs.declared.lane.Lane.{Lane}
use Rattle.solo_world.specs.declared.lane.Span.{Span}
use Rattle.solo_tx.specs.Ending.{IsWorkingLane}
use Rattle.solo_tx.specs.Sequences.{takes_back, undoes}

-- whatever is undrained may be made persistent
pub settle_ready : (old : View → Type 0) (v : View) → old v → IsReady old settles
unfolding IsReady
settle_ready old v seen = (v, (seen, (settle_lawful v).0))

module _ {M : Type 0} (at : M → View → Type 0) (lane : Lane M) (is : IsWorkingLane at lane) where
  abbrev pub v : View
  v = is.0

  abbrev pub spans : List Span
  spans = lane.records.items

  back : Ready v (restores spans v) × IsPutBack v (after_all v (restores spans v))
  back = subst (λ (spans : List Span). Ready v (restores spans v) × IsPutBack v (after_all v (restores spans v))) (sym is.1.0.records) (restore_lawful v is.1.1)

  pub restore_ready : IsReady (at lane.memory) (restores spans)
  unfolding IsReady
  restore_ready = (v, (is.1.0.memory, back.0))

  module _ (mid : View → Type 0) (T : Type 0) (answer : T) (ran : Runs (at lane.memory) mid (restores spans) (Ok answer)) where
    there : mid (after_all v (restores spans v))
    unfolding Runs
    there = ran v is.1.0.memory back.0

    pub restored_area : IsSeenWithArea mid
    restored_area = (after_all v (restores spans v), (there, back.1.working.area))

    pub retire_ready : IsReady mid retires
    unfolding IsReady
    retire_ready = (after_all v (restores spans v), (there, (retire_given_up (after_all v (restores spans v)) back.1.working back.1.drained (ap (λ (l : Log). l.entries) back.1.log ∙ is.1.2) back.1.restored).0))

pub takes_none : (spans : List Span) → length spans ≡ 0 → takes_back spans ≡ settles
unfolding takes_back
takes_none [] none = refl
takes_none (s ∷ rest) none = absurd (omega (arith, none))

pub takes_some : (spans : List Span) → (length spans ≡ 0 → ⊥) → takes_back spans ≡ undoes spans
unfolding takes_back
takes_some [] some = absurd (some refl)
takes_some (s ∷ rest) some = refl
