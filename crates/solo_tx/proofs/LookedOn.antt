-- What a lane's looks leave of its call and of what it knew, whichever words they were of, and so of the objects under the locks that it keeps.
use Rattle.std.proofs.Common.{◌≡◌, ◌≢◌, ℕ, zero, suc, ◌+◌, ◌*◌, ⊎_elim, Bool, true, false, cond, eqb, Contains, [], ◌∷◌, map, set, slice_index, refl, sym, ap, ◌∙◌, subst, get_or-set_other}
use Rattle.std.specs.List.{list_any}
use Rattle.std.proofs.lemmas.Bool.{cases_eq, or_right}
use Rattle.std.proofs.lemmas.List.{set-get_or}
use Rattle.std.proofs.lemmas.List.Elements.{Contains-append_left, Contains-append_right}
use Rattle.solo_crash.specs.OnActions.{CanSet}
use Rattle.solo_model.specs.Actions.{Action}
use Rattle.solo_model.specs.Actions.Action.{SetWord}
use Rattle.solo_undo.proofs.Staying.{still_known}
use Rattle.solo_view.proofs.SameLane.{same_lane, same_lane-after, same_lane-then}
use Rattle.solo_view.specs.Constants.{IsSameLane}
use Rattle.solo_view.specs.Founds.{FindsKnown}
use Rattle.solo_view.specs.Held.{is_held, is_known}
use Rattle.solo_view.specs.Steps.{Step}
use Rattle.solo_view.specs.Steps.Step.{Load}
use Rattle.solo_view.specs.View.{View}
use Rattle.solo_view.specs.Views.{after}
use Rattle.solo_world.specs.Lanes.{lock_of}
use Rattle.solo_world.specs.Opening.{Opening}
use Rattle.solo_world.specs.declared.lane.Lane.{Lane}
use Rattle.solo_tx.proofs.AddsAtWork.{listed_is_known}
use Rattle.solo_tx.proofs.GoingOn.{KeepsObjects}
use Rattle.solo_tx.proofs.LearnsAtWork.{range_kept}
use Rattle.solo_tx.specs.AtWork.{IsAtWork}
use Rattle.solo_tx.specs.Learning.{Looks}

-- the call is as it was, and what was known is known and as it was. Locks are left out: a load may tell of a block
pub record IsLookedOn (v w : View) : Type 0 where
  pub lane : IsSameLane v w
  pub number : w.number ≡ v.number
  pub call : w.call ≡ v.call
  pub entries : w.entries ≡ v.entries
  pub remembers : (u : ℕ) → Contains v.known u → Contains w.known u
  pub seen : (s : Step) → Contains v.seen s → Contains w.seen s
  pub known : (u : ℕ) → is_known v u ≡ true → is_known w u ≡ true
  pub values : (u : ℕ) → is_known v u ≡ true → slice_index w.words u ≡ slice_index v.words u

looked_never : (v : View) → IsLookedOn v v
looked_never v = record { lane = same_lane v; number = refl; call = refl; entries = refl; remembers = λ u there. there; seen = λ s there. there; known = λ u is. is; values = λ u is. refl }

looked_then : (u v w : View) → IsLookedOn u v → IsLookedOn v w → IsLookedOn u w
looked_then u v w first second = record {
  lane = same_lane-then u v w first.lane second.lane;
  number = second.number ∙ first.number;
  call = second.call ∙ first.call;
  entries = second.entries ∙ first.entries;
  remembers = λ i there. second.remembers i (first.remembers i there);
  seen = λ s there. second.seen s (first.seen s there);
  known = λ i is. second.known i (first.known i is);
  values = λ i is. second.values i (first.known i is) ∙ first.values i is;
}

-- a load, whatever is found of a word that was not known
pub looked_once : (v : View) (w x : ℕ) → FindsKnown v w x → IsLookedOn v (after v (Load w x))
looked_once v w x finds = record {
  lane = same_lane-after v (Load w x);
  number = refl;
  call = refl;
  entries = refl;
  remembers = λ u there. more u (is_held v w) there;
  seen = λ s there. Contains-append_left v.seen (Load w x ∷ []) s there;
  known = λ u. still_known v (cond (is_held v w) (w ∷ v.known) v.known) u (listed u (is_held v w));
  values = λ u known.
      ⊎_elim (λ (here : u ≡ w). ap (λ y. slice_index (set v.words w y) u) (finds (ap (is_known v) (sym here) ∙ known)) ∙ ap (λ ws. slice_index ws u) (set-get_or v.words w 0))
      (λ (there : u ≢ w). get_or-set_other v.words w u x 0 there) (cases_eq u w);
} where
  more : (u : ℕ) (b : Bool) → Contains v.known u → Contains (cond b (w ∷ v.known) v.known) u
  more u true there = Contains-append_right (w ∷ []) v.known u there
  more u false there = there

  listed : (u : ℕ) (b : Bool) → list_any (λ other. eqb other u) v.known ≡ true → list_any (λ other. eqb other u) (cond b (w ∷ v.known) v.known) ≡ true
  listed u true e = or_right (eqb w u) (list_any (λ other. eqb other u) v.known) e
  listed u false e = e

pub looked_on : (n : ℕ) (v w : View) → Looks n v w → IsLookedOn v w
unfolding Looks
looked_on zero v w is = subst (IsLookedOn v) (sym is) (looked_never v)
looked_on (suc n) v w t =
    subst (IsLookedOn v) (sym t.6) (looked_then v t.0 (after t.0 (Load t.1 t.2)) (looked_on n v t.0 t.3) (looked_once t.0 t.1 t.2 t.5.0))

-- a lane that is at work before and behind, with the same list of locks, keeps the objects under them
pub objects_looked : {M : Type 0} (o : Opening) (at : M → View → Type 0) (lane next : Lane M) (v w : View) → IsAtWork o at lane v → IsAtWork o at next w → next.locks ≡ lane.locks → IsLookedOn v w → KeepsObjects v w
objects_looked o at lane next v w before behind locks looks = record {
  lane = looks.lane;
  locks = sym behind.seen.locks ∙ (ap (λ locks. map lock_of locks.items) locks ∙ before.seen.locks);
  number = looks.number;
  entries = looks.entries;
  remembers = looks.remembers;
  seen = looks.seen;
  sizes = λ l held. looks.values (8 * l.line + 1) (listed_is_known v (8 * l.line + 1) (before.objects l held).known);
}

-- what the lane may set stays so
pub can_set_kept : (v w : View) → KeepsObjects v w → (a : Action) → CanSet v a → CanSet w a
can_set_kept v w keeps (SetWord id off value) can = (range_kept v w id off 8 true keeps can.0, can.1)
