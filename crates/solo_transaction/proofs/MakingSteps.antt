-- Steps that make few stores and keep the call, put together; and those of a search, and of the first of a sequence that makes a run or fills a block.
use Rattle.std.proofs.Common.{◌≡◌, ◌⊎◌, ⊎_elim, inl, inr, ℕ, ◌+◌, ◌≤◌, true, false, cond, Bool, eqb, Contains, List, [], ◌∷◌, ◌++◌, length, take, slice_index, refl, sym, ap, ◌∙◌, subst, arith}
use Rattle.std.proofs.lemmas.Bool.{false≢true}
use Rattle.std.proofs.lemmas.List.{length-append}
use Rattle.pm_layout.specs.declared.shape.Shape.{Shape}
use Rattle.solo_view.specs.declared.change.Change.{Change}
use Rattle.solo_view.specs.Area.{is_in_area}
use Rattle.solo_view.specs.Counts.{counted, is_counted, stores_among}
use Rattle.solo_view.specs.Log.Phase.{Open}
use Rattle.solo_view.specs.Steps.{Step}
use Rattle.solo_view.specs.Steps.Step.{And, Drain, Draw, Flush, Give, Load, NumberSeen, Occupied, Occupy, Or, Raise, SetStop, StopSeen, Store, TakeRead, TakeWrite, Tell, Vacate, ZoneGive, ZoneTry}
use Rattle.solo_view.specs.View.{Taken, View}
use Rattle.solo_view.specs.Views.{after, after_all}
use Rattle.solo_view.proofs.SameLane.{same_lane-after_all, same_lane-then}
use Rattle.solo_world.specs.Searches.{HasSearched, Searches, is_search}
use Rattle.solo_alloc.specs.NewObjects.{CanMakeObject}
use Rattle.solo_crash.proofs.Leading.{leads_then}
use Rattle.solo_crash.proofs.Raises.{raise_by, raises_append}
use Rattle.solo_crash.specs.Alone.{raises}
use Rattle.solo_crash.specs.Leading.{Leads}
use Rattle.solo_crash.specs.OpenCall.{IsUnderBlock}
use Rattle.solo_epoch.proofs.GainedRooms.{IsCallStill, search_still, search_words}
use Rattle.solo_epoch.proofs.HeldApart.{AllFound}
use Rattle.solo_epoch.proofs.QuietSteps.{search_leads}
use Rattle.solo_lock.specs.Leading.{LeaveBlocks}
use Rattle.solo_tx.proofs.StepKinds.{Each, each_first}
use Rattle.solo_tx.proofs.StoreCounts.{stores_append, stores_counted, stores_first}
use Rattle.solo_transaction.proofs.MakingKept.{HasChangeOf, Keeps, keeps_all}
use Rattle.solo_transaction.proofs.MakingKinds.{IsMaking, making_raises}
use Rattle.solo_transaction.specs.MakingSteps.{MakesBy}

-- ---- put together

under_still : (v w : View) → w.locks ≡ v.locks → (i : ℕ) → IsUnderBlock v i → IsUnderBlock w i
under_still v w same i under = record { lock = under.lock; lines = under.lines; held = subst (λ ls. Contains ls under.lock) (sym same) under.held; found = under.found; from = under.from; to = under.to }

pub makes_then : (u v w : View) (a b n : ℕ) → a + b ≤ n → MakesBy u v a → MakesBy v w b → MakesBy u w n
makes_then u v w a b n most first second = record {
  steps = first.steps ++ second.steps;
  leads = leads_then u v w first.steps second.steps first.leads second.leads;
  few = (let both = stores_append first.steps second.steps in let one = first.few in let two = second.few in omega (arith, both, one, two, most));
  unraised = (let both = raises_append first.steps second.steps in let one = first.unraised in let two = second.unraised in omega (arith, both, one, two));
  lane = same_lane-then u v w first.lane second.lane;
  call = second.call ∙ first.call;
  entries = second.entries ∙ first.entries;
  number = second.number ∙ first.number;
  log = second.log ∙ first.log;
  locks = second.locks ∙ first.locks;
  found = λ i under. second.found i (under_still u v first.locks i under) ∙ first.found i under;
  apart = λ c there. ⊎_elim
      (λ (out : is_in_area v.lane c.word ≡ false). inl (ap (λ n. is_in_area n c.word) (sym first.lane.lane) ∙ out))
      (λ (old : HasChangeOf v.changes c.word). subst (λ i. (is_in_area u.lane i ≡ false) ⊎ HasChangeOf u.changes i) old.2 (first.apart old.0 old.1))
      (second.apart c there);
}

pub makes_more : (v w : View) (a b : ℕ) → a ≤ b → MakesBy v w a → MakesBy v w b
makes_more v w a b less makes = record {
  steps = makes.steps;
  leads = makes.leads;
  few = (let few = makes.few in omega (arith, few, less));
  unraised = makes.unraised;
  lane = makes.lane;
  call = makes.call;
  entries = makes.entries;
  number = makes.number;
  log = makes.log;
  locks = makes.locks;
  found = makes.found;
  apart = makes.apart;
}

-- ---- a search

search_uncounted : (s : Step) → is_search s ≡ true → is_counted s ≡ false
search_uncounted (Store w x) is = absurd (false≢true is)
search_uncounted (Or w bits found) is = absurd (false≢true is)
search_uncounted (And w bits found) is = absurd (false≢true is)
search_uncounted (Flush line) is = absurd (false≢true is)
search_uncounted Drain is = absurd (false≢true is)
search_uncounted s is = refl

abbrev count_by : Step → ℕ
count_by s = cond (is_counted s) 1 0

-- none of its steps is a counted call
pub searches_uncounted : (v w : View) (steps : List Step) → Searches v steps w → counted steps ≡ 0
unfolding Searches counted
searches_uncounted v w [] searches = refl
searches_uncounted v w (s ∷ steps) searches =
    let none : count_by s ≡ 0 = ap (λ (b : Bool). cond b 1 0) (search_uncounted s searches.0) in
    let rest = searches_uncounted (after v s) w steps searches.4 in omega (arith, none, rest)

-- what is reserved stays at each of its steps, or grows by one
search_grows : (v : View) (s : Step) → is_search s ≡ true → ((after v s).reserved ≡ v.reserved) ⊎ (length (after v s).reserved ≡ length v.reserved + 1)
search_grows v (Load w found) is = inl refl
search_grows v (Occupied at found) is = inl refl
search_grows v (Occupy at bits true) is = inr (length-append v.reserved (record { at = at; bits = bits } ∷ []))
search_grows v (Occupy at bits false) is = inl refl
search_grows v (ZoneTry zone won) is = inl refl
search_grows v (ZoneGive zone) is = inl refl
search_grows v (Store w x) is = absurd (false≢true is)
search_grows v (Or w bits found) is = absurd (false≢true is)
search_grows v (And w bits found) is = absurd (false≢true is)
search_grows v (Flush line) is = absurd (false≢true is)
search_grows v Drain is = absurd (false≢true is)
search_grows v (TakeWrite line won) is = absurd (false≢true is)
search_grows v (TakeRead line won) is = absurd (false≢true is)
search_grows v (Raise line won) is = absurd (false≢true is)
search_grows v (Give line) is = absurd (false≢true is)
search_grows v (Vacate at bits) is = absurd (false≢true is)
search_grows v (Draw n) is = absurd (false≢true is)
search_grows v (NumberSeen n) is = absurd (false≢true is)
search_grows v (StopSeen set) is = absurd (false≢true is)
search_grows v SetStop is = absurd (false≢true is)
search_grows v (Tell operation reply) is = absurd (false≢true is)

searches_grow : (v w : View) (steps : List Step) → Searches v steps w → length v.reserved ≤ length w.reserved
unfolding Searches
searches_grow v w [] searches = let same = ap (λ (u : View). length u.reserved) searches in omega (arith, same)
searches_grow v w (s ∷ steps) searches =
    let rest = searches_grow (after v s) w steps searches.4 in
    ⊎_elim
    (λ (same : (after v s).reserved ≡ v.reserved). let one = ap length same in omega (arith, rest, one))
    (λ (more : length (after v s).reserved ≡ length v.reserved + 1). omega (arith, rest, more))
    (search_grows v s searches.0)

-- where it reserved nothing in the end, none of its steps did
pub searches_leave : (v w : View) (steps : List Step) → Searches v steps w → length w.reserved ≡ length v.reserved → LeaveBlocks v steps
unfolding Searches LeaveBlocks
searches_leave v w [] searches none = tt
searches_leave v w (s ∷ steps) searches none =
    let rest = searches_grow (after v s) w steps searches.4 in
    ⊎_elim
    (λ (same : (after v s).reserved ≡ v.reserved). let one = ap length same in (same, searches_leave (after v s) w steps searches.4 (omega (arith, none, one))))
    (λ (more : length (after v s).reserved ≡ length v.reserved + 1). absurd (omega (arith, rest, more, none)))
    (search_grows v s searches.0)

raise_counts : (s : Step) → raise_by s ≤ count_by s
raise_counts (Store w x) = at (eqb w 512) where
  at : (b : Bool) → cond b 1 0 ≤ 1
  at true = omega arith
  at false = omega arith
raise_counts s = omega arith

raises_counted : (steps : List Step) → raises steps ≤ counted steps
unfolding raises counted
raises_counted [] = omega arith
raises_counted (s ∷ steps) = let one = raise_counts s in let rest = raises_counted steps in omega (arith, one, rest)

module _ (v : View) (shape : Shape) (can : CanMakeObject v shape) (all : AllFound v.locks) (at : View → Type 0) (more : List Taken) (Q : View → Type 0) (searched : HasSearched at v more Q) where
  abbrev x : View
  x = searched.view

  still : IsCallStill v x
  still = search_still v shape can all at more Q searched

  pub search_changes : x.changes ≡ v.changes
  search_changes = ap (λ (z : View). z.changes) searched.kept.same

  pub search_makes : MakesBy v x 0
  search_makes =
      let none = searches_uncounted v x searched.steps searched.searches in
      record {
        steps = searched.steps;
        leads = search_leads v x searched.steps searched.searches;
        few = (let few = stores_counted searched.steps in omega (arith, few, none));
        unraised = (let few = raises_counted searched.steps in omega (arith, few, none));
        lane = still.same_lane;
        call = still.call;
        entries = still.entries;
        number = still.number;
        log = still.log;
        locks = still.locks;
        found = λ i under. ap (λ (ws : List ℕ). slice_index ws i) (search_words v shape can all at more Q searched);
        apart = λ c there. inr (c, subst (λ (cs : List Change). Contains cs c) search_changes there, refl);
      }

-- ---- the first of steps that store words of this kind alone

module _ (K : ℕ → Type 0) (v : View) (outside : (w : ℕ) → K w → is_in_area 0 w ≡ false) (unfound : (i : ℕ) → IsUnderBlock v i → K i → ⊥) (lane : v.lane ≡ 0) (opens : v.log.phase ≡ Open [] []) where
  pub front_makes : (steps : List Step) (made most : ℕ) → Each (IsMaking K) steps → Leads v (take made steps) (after_all v (take made steps)) → stores_among steps ≤ most → MakesBy v (after_all v (take made steps)) most
  front_makes steps made most each leads few =
      let front : List Step = take made steps in
      let first : Each (IsMaking K) front = each_first (IsMaking K) made steps each in
      let k : Keeps K v (after_all v front) = keeps_all K outside v front lane opens first in
      record {
        steps = front;
        leads = leads;
        few = (let fewer = stores_first made steps in omega (arith, fewer, few));
        unraised = making_raises K outside front first;
        lane = same_lane-after_all v front;
        call = k.call;
        entries = k.entries;
        number = k.number;
        log = k.log;
        locks = k.locks;
        found = λ i under. k.words i (unfound i under);
        apart = λ c there. ⊎_elim (λ (kind : K c.word). inl (ap (λ n. is_in_area n c.word) lane ∙ outside c.word kind)) (λ (old : HasChangeOf v.changes c.word). inr old) (k.changes c there);
      }
