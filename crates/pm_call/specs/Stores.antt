-- HOW MANY STORES OPERATIONS MAKE, by their plans, and that no flush and no drain is idle, as laws
-- of data: docs/FORMAT.md, "How many counted calls". An OR and an AND of a word are stores too. A
-- lane may stop anywhere, so a law is of the first k of some steps, for every k.
use Rattle.std.specs.Prelude.{◌≡◌, ℕ, zero, suc, ◌+◌, ◌*◌, ◌≤◌, List, [], ◌∷◌, length, take}
use Rattle.pm_model.specs.Transaction.{covered_words}
use Rattle.pm_view.specs.Counts.{among, counted, is_drain, is_flush, is_store}
use Rattle.pm_view.specs.Steps.{Step}
use Rattle.pm_view.specs.View.{View}
use Rattle.pm_view.specs.Views.{after_all}
use Rattle.pm_world.specs.LaneFields.{Standing}
use Rattle.pm_world.specs.declared.lane.KeptRecord.{KeptRecord}
use Rattle.pm_plan.specs.Plans.{Plan, Ready, in_turn, nothing}
use Rattle.pm_undo.specs.Records.{kept_by}
use Rattle.pm_undo.specs.Spans.{plan_of, words_in}
use Rattle.pm_undo.specs.Working.{IsWorking}
use Rattle.pm_call.specs.Did.{IsOver}
use Rattle.pm_call.specs.Planned.{Planned, entries_to_log, steps_of, words_to_set}
use Rattle.pm_call.specs.Planned.Planned.{Adds, Commits, Increments, Publishes, RollsBack, Writes}

abbrev pub stores_in : List Step → ℕ
stores_in steps = among is_store steps

abbrev pub flushes_in : List Step → ℕ
flushes_in steps = among is_flush steps

abbrev pub drains_in : List Step → ℕ
drains_in steps = among is_drain steps

-- ---- THE TABLE OF STORES

-- of a log of so many entries: 2 for each and for the one that ends the generation, 1 that applies
-- it, and 2 of the seal
abbrev pub log_stores : ℕ → ℕ
log_stores n = 3 * (n + 1) + 2

-- a commit without entries ends the generation; a publish of nothing stores nothing
abbrev pub commit_stores : ℕ → ℕ
commit_stores zero = 1
commit_stores (suc n) = log_stores (suc n)

abbrev pub publish_stores : ℕ → ℕ
publish_stores zero = 0
publish_stores (suc n) = log_stores (suc n)

-- by the view before: 8 for each record that a range needs, 1 for each word that bytes cover, 1 for
-- each word that has a record and is rolled back, and 1
abbrev pub most_stores : Planned → View → ℕ
most_stores (Adds id off len) v = 8 * length (plan_of (kept_by v) (id.off + off) len)
most_stores (Writes id off bytes) v = length (covered_words (id.off + off) (length bytes))
most_stores (Increments id off by) v = length (covered_words (id.off + off) 8)
most_stores (Commits found n) v = commit_stores (length (entries_to_log v))
most_stores (RollsBack op reply n given) v = length (words_in (kept_by v)) + 1
most_stores (Publishes found n) v = publish_stores (length (words_to_set v))
most_stores p v = 0

-- no word of an entry is stored
pub record HasNoEntry (v : View) : Type 0 where
  pub entries : v.log.entries ≡ []
  pub pair : v.log.pair ≡ []

-- THE LAW: where none is, what a lane does makes no more stores
abbrev pub TableOfStores : Type 0
TableOfStores = (p : Planned) (v : View) (k : ℕ) → HasNoEntry v
    → stores_in (take k (steps_of p v)) ≤ most_stores p v

-- THE LAW: none is at work, and none once a call is over; and none comes to be without a store
abbrev pub WorkHasNoEntry : Type 0
WorkHasNoEntry = (v : View) → IsWorking v → HasNoEntry v

abbrev pub OverHasNoEntry : Type 0
OverHasNoEntry = (s : Standing) → IsOver s → HasNoEntry s.view

abbrev pub EntriesAreStored : Type 0
EntriesAreStored = (v : View) (steps : List Step) → HasNoEntry v → stores_in steps ≡ 0
    → HasNoEntry (after_all v steps)

-- THE LAW: a range needs no more records than it covers words
abbrev pub RecordsAreFew : Type 0
RecordsAreFew = (records : List KeptRecord) (place len : ℕ)
    → length (plan_of records place len) ≤ length (covered_words place len)

-- ---- A RUN OF A LANE: what it does, one after another, each where no word of an entry is stored
unfoldable pub runs : List Planned → Plan
runs [] = nothing
runs (p ∷ ps) = in_turn (steps_of p) (runs ps)

unfoldable pub IsRun : List Planned → View → Type 0
IsRun [] v = Unit {0}
IsRun (p ∷ ps) v = HasNoEntry v × IsRun ps (after_all v (steps_of p v))

unfoldable pub most_in_run : List Planned → View → ℕ
most_in_run [] v = 0
most_in_run (p ∷ ps) v = most_stores p v + most_in_run ps (after_all v (steps_of p v))

-- THE LAW: its stores are no more than those of all that it does
abbrev pub RunsMakeFewStores : Type 0
RunsMakeFewStores = (ps : List Planned) (v : View) (k : ℕ) → IsRun ps v
    → stores_in (take k (runs ps v)) ≤ most_in_run ps v

-- ---- NO FLUSH AND NO DRAIN IS IDLE: a flush marks a change that was unmarked, and a drain drops
-- one that was marked

-- THE LAW: of any steps that a lane may make, where nothing is undrained before, no more are
-- flushes than stores, and no more are drains
abbrev pub FlushesAreFew : Type 0
FlushesAreFew = (v : View) (steps : List Step) (k : ℕ) → v.changes ≡ [] → Ready v steps
    → flushes_in (take k steps) ≤ stores_in (take k steps)

abbrev pub DrainsAreFew : Type 0
DrainsAreFew = (v : View) (steps : List Step) (k : ℕ) → v.changes ≡ [] → Ready v steps
    → drains_in (take k steps) ≤ stores_in (take k steps)

-- THE LAW: these three are all counted calls
abbrev pub CountedCallsAreThree : Type 0
CountedCallsAreThree = (steps : List Step)
    → counted steps ≡ stores_in steps + flushes_in steps + drains_in steps
