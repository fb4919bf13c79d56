-- A lane that works alone knows each word of what it has reserved that it knew, behind steps that lead on, none of them a counted call, each of which leaves what it has reserved.
use Rattle.std.proofs.Common.{◌≡◌, ℕ, Bool, true, false, cond, Contains, List, [], ◌∷◌, ◌||◌, refl, sym, ap, ◌∙◌, subst}
use Rattle.std.specs.List.{filter, list_any}
use Rattle.std.proofs.lemmas.Bool.{false≢true, or_right}
use Rattle.solo_crash.proofs.Includes.{kept_member}
use Rattle.solo_crash.specs.Leading.{Leads}
use Rattle.std.proofs.lemmas.List.Elements.{Contains-append_right}
use Rattle.solo_lock.proofs.Leads.{led_same}
use Rattle.solo_lock.proofs.LookedAlone.{none_counted, step_words}
use Rattle.solo_lock.specs.Leading.{IsLed, LeaveBlocks}
use Rattle.solo_view.proofs.SameLane.{same_lane-after}
use Rattle.solo_view.specs.Counts.{counted, is_counted}
use Rattle.solo_view.specs.Founds.{FoundAlone, IsAlone}
use Rattle.solo_view.specs.Held.{is_held, is_reserved, is_under}
use Rattle.solo_view.specs.Area.{is_in_area}
use Rattle.solo_view.specs.Log.{Phase}
use Rattle.solo_view.specs.Log.Phase.{Idle}
use Rattle.solo_view.specs.Steps.{Step}
use Rattle.solo_view.specs.Steps.Step.{And, Drain, Draw, Flush, Give, Load, NumberSeen, Or, Store, Vacate}
use Rattle.solo_view.specs.View.{View}
use Rattle.solo_view.specs.Views.{after, begun, changes_heap, unallocated}

-- what is reserved is so by the same pool, words and list
reserved_alike : (v w : View) (i : ℕ) → w.lanes ≡ v.lanes → w.words ≡ v.words → w.reserved ≡ v.reserved → is_reserved v i ≡ true → is_reserved w i ≡ true
reserved_alike v w i lanes words reserved is = (λ j. is_reserved (record v { lanes = lanes j; words = words j; reserved = reserved j }) i) ∙ is

reserved_is_held : (v : View) (i : ℕ) → is_reserved v i ≡ true → is_held v i ≡ true
reserved_is_held v i is = or_right (is_in_area v.lane i || list_any (is_under i) v.locks) (is_reserved v i) is

begun_known : (p : Phase) (v : View) → (begun p v).known ≡ v.known
begun_known Idle v = refl
begun_known p v = refl

-- one more word, if any
one_more : (b : Bool) (w i : ℕ) (known : List ℕ) → Contains known i → Contains (cond b (w ∷ known) known) i
one_more true w i known there = Contains-append_right (w ∷ []) known i there
one_more false w i known there = there

step_remembers : (v : View) (s : Step) (i : ℕ) → is_counted s ≡ false → (after v s).reserved ≡ v.reserved → is_reserved v i ≡ true → Contains v.known i → Contains (after v s).known i
step_remembers v (Store w x) i free leaves is there = absurd (false≢true (sym free))
step_remembers v (Or w bits x) i free leaves is there = absurd (false≢true (sym free))
step_remembers v (And w bits x) i free leaves is there = absurd (false≢true (sym free))
step_remembers v (Flush line) i free leaves is there = absurd (false≢true (sym free))
step_remembers v Drain i free leaves is there = absurd (false≢true (sym free))
step_remembers v (Load w x) i free leaves is there = one_more (is_held v w) w i v.known there
step_remembers v (NumberSeen n) i free leaves is there = subst (λ (known : List ℕ). Contains known i) (sym (begun_known v.log.phase v)) there
step_remembers v (Give line) i free leaves is there =
    let u : View = after v (Give line) in
    kept_member (is_held u) v.known i there (reserved_is_held u i is)
step_remembers v (Vacate at bits) i free leaves is there =
    let u : View = after v (Vacate at bits) in
    kept_member (is_held u) v.known i there (reserved_is_held u i (reserved_alike v u i refl refl leaves is))
step_remembers v (Draw n) i free leaves is there = by (changes_heap v) leaves where
  by : (b : Bool) → cond b (unallocated v) v.reserved ≡ v.reserved → Contains (cond b (filter (is_held (record v { reserved = unallocated v })) v.known) v.known) i
  by true same =
      let u : View = record v { reserved = unallocated v } in
      kept_member (is_held u) v.known i there (reserved_is_held u i (reserved_alike v u i refl refl same is))
  by false same = there
step_remembers v s i free leaves is there = there

leads_remember : (v w : View) (steps : List Step) (i : ℕ) → Leads v steps w → counted steps ≡ 0 → LeaveBlocks v steps → IsAlone v → is_reserved v i ≡ true → Contains v.known i → Contains w.known i
unfolding Leads counted LeaveBlocks
leads_remember v w [] i leads none leave alone is there = subst (λ (x : View). Contains x.known i) (sym leads) there
leads_remember v w (s ∷ steps) i leads none leave alone is there =
    let free = none_counted (is_counted s) (counted steps) none in
    let same = same_lane-after v s in
    leads_remember (after v s) w steps i leads.3 free.1 leave.1 (same.table ∙ alone)
    (reserved_alike v (after v s) i same.lanes (step_words v s leads.1 free.0 alone) leave.0 is) (step_remembers v s i free.0 leave.0 is there)

pub led_remembers : (v w : View) → IsLed v w → IsAlone v → (i : ℕ) → is_reserved v i ≡ true → Contains v.known i → Contains w.known i
led_remembers v w led alone i = leads_remember v w led.steps i led.leads led.uncounted led.leaves alone
