-- What a lane that is alone has of the pool's words stays as it is while no counted call is made; so does what is missing in them.
use Rattle.std.proofs.Common.{◌≡◌, inl, inr, ℕ, ◌+◌, ◌*◌, Bool, true, false, cond, eqb, ◌&&◌, Any, List, [], ◌∷◌, set, slice_index, refl, ap, ◌∙◌, sym, arith}
use Rattle.std.proofs.lemmas.Bool.{false≢true}
use Rattle.std.proofs.lemmas.List.{set-get_or}
use Rattle.solo_crash.specs.Leading.{Leads}
use Rattle.solo_model.specs.Places.{can_begin}
use Rattle.pm_objects.specs.declared.calls.Want.{Want}
use Rattle.solo_view.proofs.SameLane.{same_lane-after}
use Rattle.solo_view.specs.Blocks.{block_at}
use Rattle.solo_view.specs.Counts.{counted, is_counted}
use Rattle.solo_view.specs.Founds.{FoundAlone, IsAlone}
use Rattle.solo_view.specs.Log.Phase.{Idle}
use Rattle.solo_view.specs.Log.{Phase}
use Rattle.solo_view.specs.Steps.Step.{Load, Store, Or, And, NumberSeen}
use Rattle.solo_view.specs.Steps.{Step}
use Rattle.solo_view.specs.View.{View}
use Rattle.solo_view.specs.Views.{after, begun}
use Rattle.solo_lock.specs.Lacking.{HasNoObject, LacksObject}
use Rattle.solo_lock.specs.Leading.{IsLed}

pub begun_words : (p : Phase) (v : View) → (begun p v).words ≡ v.words
begun_words Idle v = refl
begun_words p v = refl

-- a step that is no counted call leaves the words as they are
pub step_words : (v : View) (s : Step) → FoundAlone v s → is_counted s ≡ false → IsAlone v → (after v s).words ≡ v.words
step_words v (Load w x) found free alone = ap (set v.words w) (found alone) ∙ set-get_or v.words w 0
step_words v (Store w x) found free alone = absurd (false≢true (sym free))
step_words v (Or w bits x) found free alone = absurd (false≢true (sym free))
step_words v (And w bits x) found free alone = absurd (false≢true (sym free))
step_words v (NumberSeen n) found free alone = begun_words v.log.phase v
step_words v s found free alone = refl

-- where no call is counted, neither the first is nor one of the rest
pub none_counted : (b : Bool) (n : ℕ) → cond b 1 0 + n ≡ 0 → (b ≡ false) × (n ≡ 0)
none_counted true n none = absurd (omega (arith, none))
none_counted false n none = (refl, omega (arith, none))

leads_words : (v w : View) (steps : List Step) → Leads v steps w → counted steps ≡ 0 → IsAlone v → w.words ≡ v.words
unfolding Leads counted
leads_words v w [] leads none alone = ap (λ (u : View). u.words) leads
leads_words v w (s ∷ steps) leads none alone =
    let free = none_counted (is_counted s) (counted steps) none in
    leads_words (after v s) w steps leads.3 free.1 ((same_lane-after v s).table ∙ alone) ∙ step_words v s leads.1 free.0 alone

pub led_words : (v w : View) → IsLed v w → IsAlone v → w.words ≡ v.words
led_words v w led alone = leads_words v w led.steps led.leads led.uncounted alone

-- what is missing depends on the pool and its words alone
module _ (v w : View) (lanes : w.lanes ≡ v.lanes) (zones : w.zones ≡ v.zones) (pool : w.pool ≡ v.pool) (words : w.words ≡ v.words) where
  none_same : (line : ℕ) → HasNoObject v line → HasNoObject w line
  none_same line (inl none) = inl ((λ i. block_at (lanes i) (words i) line) ∙ none)
  none_same line (inr passes) = inr (record {
    lines = passes.lines;
    block = (λ i. block_at (lanes i) (words i) line) ∙ passes.block;
    past = (let e : slice_index w.words (8 * line + 1) ≡ slice_index v.words (8 * line + 1) = ap (λ ws. slice_index ws (8 * line + 1)) words in let past = passes.past in omega (arith, e, past));
  })

  lacks_same : (want : Want) → LacksObject v want → LacksObject w want
  lacks_same want (inl unplaced) = inl ((λ i. eqb want.id.pool (pool i) && can_begin (lanes i) (zones i) want.id.off) ∙ unplaced)
  lacks_same want (inr none) = inr (record { line = none.line; place = none.place; none = none_same none.line none.none })

  pub any_lacks_same : (wants : List Want) → Any (LacksObject v) wants → Any (LacksObject w) wants
  any_lacks_same wants some = (some.0, some.1, some.2, some.3, lacks_same some.1 some.4)
