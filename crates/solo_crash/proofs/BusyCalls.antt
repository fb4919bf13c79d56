-- No flush and no drain is idle: along steps that may be asked for there are at most as many as stores made changes for them.
use Rattle.std.proofs.Common.{◌≡◌, ℕ, zero, suc, ◌+◌, ◌<◌, ◌≤◌, Bool, true, false, not, cond, IsTrue, List, [], ◌∷◌, ◌++◌, length, slice_index, slice_index_or, refl, ap, ◌∙◌, arith, rules, length-append}
use Rattle.std.proofs.lemmas.Bool.{cond-true, cond-false}
use Rattle.solo_crash.specs.Leading.{Leads}
use Rattle.solo_crash.specs.Walking.{Walks}
use Rattle.solo_view.specs.declared.change.Change.{Change}
use Rattle.solo_view.specs.Changes.{and_change, drained, flushed, is_in_line, mark, or_change, store_change}
use Rattle.solo_view.specs.Counts.{DropsSome, FlushesSome, among, drains_among, flushes_among, is_drain, is_flush, is_store, stores_among}
use Rattle.solo_view.specs.Log.{Phase}
use Rattle.solo_view.specs.Log.Phase.{Idle, Open, Drawn, Sealing, Applying, Clearing, Retiring}
use Rattle.solo_view.specs.Steps.{Step}
use Rattle.solo_view.specs.Steps.Step.{Load, Store, Or, And, Flush, Drain, TakeWrite, TakeRead, Raise, Give, ZoneTry, ZoneGive, Occupied, Occupy, Vacate, Draw, NumberSeen, StopSeen, SetStop, Tell}
use Rattle.solo_view.specs.View.{View}
use Rattle.solo_view.specs.Views.{after, begun}
use Rattle.solo_world.specs.Lawful.{Allowed}

-- one for each that is true
abbrev one_if : Bool → ℕ
one_if b = cond b 1 0

-- the changes that no flush has marked
unflushed : List Change → ℕ
unflushed [] = 0
unflushed (c ∷ changes) = one_if (not c.flushed) + unflushed changes

unflushed_few : (changes : List Change) → unflushed changes ≤ length changes
unfolding unflushed
unflushed_few [] = omega arith
unflushed_few (c ∷ changes) = let rest = unflushed_few changes in let one = at c.flushed in omega (arith, rest, one) where
  at : (b : Bool) → one_if (not b) ≤ 1
  at true = omega arith
  at false = omega arith

unflushed_more : (changes : List Change) (c : Change) → unflushed (changes ++ c ∷ []) ≤ unflushed changes + 1
unfolding unflushed
unflushed_more [] c = at c.flushed where
  at : (b : Bool) → one_if (not b) + 0 ≤ 0 + 1
  at true = omega arith
  at false = omega arith
unflushed_more (d ∷ changes) c = let rest = unflushed_more changes c in omega (arith, rest)

-- a flush unmarks none, and marks one that is unmarked
mark_less : (line : ℕ) (c : Change) → one_if (not (mark line c).flushed) ≤ one_if (not c.flushed)
mark_less line c = at (is_in_line line c) where
  at : (b : Bool) → one_if (not (cond b (record c { flushed = true }) c).flushed) ≤ one_if (not c.flushed)
  at true = omega arith
  at false = omega arith

mark_one : (line : ℕ) (c : Change) → is_in_line line c ≡ true → c.flushed ≡ false → one_if (not (mark line c).flushed) + 1 ≤ one_if (not c.flushed)
mark_one line c here unmarked =
    let now : one_if (not (mark line c).flushed) ≡ 0 = ap (λ (d : Change). one_if (not d.flushed)) (cond-true (is_in_line line c) (record c { flushed = true }) c here) in
    let then : one_if (not c.flushed) ≡ 1 = ap (λ (b : Bool). one_if (not b)) unmarked in
    omega (arith, now, then)

flush_less : (line : ℕ) (changes : List Change) → unflushed (flushed line changes) ≤ unflushed changes
unfolding unflushed
flush_less line [] = omega arith
flush_less line (c ∷ changes) = let one = mark_less line c in let rest = flush_less line changes in omega (arith, one, rest)

flush_at : (line k : ℕ) (changes : List Change) (c : Change) → k < length changes → slice_index_or changes k c ≡ c → is_in_line line c ≡ true → c.flushed ≡ false
    → unflushed (flushed line changes) + 1 ≤ unflushed changes
unfolding unflushed
flush_at line k [] c below there here unmarked = absurd (omega (arith, below))
flush_at line zero (d ∷ changes) c below there here unmarked =
    let one = mark_one line d (ap (is_in_line line) there ∙ here) (ap (λ (e : Change). e.flushed) there ∙ unmarked) in
    let rest = flush_less line changes in omega (arith, one, rest)
flush_at line (suc k) (d ∷ changes) c below there here unmarked =
    let one = mark_less line d in let rest = flush_at line k changes c (omega (arith, below)) there here unmarked in omega (arith, one, rest)

flush_marks : (line : ℕ) (changes : List Change) → FlushesSome line changes → unflushed (flushed line changes) + 1 ≤ unflushed changes
flush_marks line changes some = flush_at line some.0 changes some.1 some.2 some.3 (is_true (is_in_line line some.1) some.4.0) some.4.1 where
  is_true : (b : Bool) → IsTrue b → b ≡ true
  is_true true t = refl
  is_true false t = absurd (search rules)

-- a drain leaves what is unmarked, and drops what is marked
drain_less : (changes : List Change) → (unflushed (drained changes) ≤ unflushed changes) × (length (drained changes) ≤ length changes)
unfolding unflushed
drain_less [] = (omega arith, omega arith)
drain_less (c ∷ changes) = at (not c.flushed) (drain_less changes) where
  at : (b : Bool) → (unflushed (drained changes) ≤ unflushed changes) × (length (drained changes) ≤ length changes)
      → (unflushed (cond b (c ∷ drained changes) (drained changes)) ≤ one_if (not c.flushed) + unflushed changes) × (length (cond b (c ∷ drained changes) (drained changes)) ≤ length (c ∷ changes))
  at true rest = (let r = rest.0 in omega (arith, r), let r = rest.1 in omega (arith, r))
  at false rest = (let r = rest.0 in omega (arith, r), let r = rest.1 in omega (arith, r))

drain_at : (k : ℕ) (changes : List Change) (c : Change) → k < length changes → slice_index_or changes k c ≡ c → c.flushed ≡ true → length (drained changes) + 1 ≤ length changes
drain_at k [] c below there marked = absurd (omega (arith, below))
drain_at zero (d ∷ changes) c below there marked =
    let gone : drained (d ∷ changes) ≡ drained changes = cond-false (not d.flushed) (d ∷ drained changes) (drained changes) (ap (λ (e : Change). not e.flushed) there ∙ ap not marked) in
    let n = ap length gone in let rest = (drain_less changes).1 in omega (arith, n, rest)
drain_at (suc k) (d ∷ changes) c below there marked = at (not d.flushed) (drain_at k changes c (omega (arith, below)) there marked) where
  at : (b : Bool) → length (drained changes) + 1 ≤ length changes → length (cond b (d ∷ drained changes) (drained changes)) + 1 ≤ length (d ∷ changes)
  at true rest = omega (arith, rest)
  at false rest = omega (arith, rest)

drain_drops : (changes : List Change) → DropsSome changes → length (drained changes) + 1 ≤ length changes
drain_drops changes some = drain_at some.0 changes some.1 some.2 some.3 some.4

same_many : (line : ℕ) (changes : List Change) → length (flushed line changes) ≡ length changes
same_many line [] = refl
same_many line (c ∷ changes) = ap suc (same_many line changes)

begun_changes : (phase : Phase) (v : View) → (begun phase v).changes ≡ v.changes
begun_changes Idle v = refl
begun_changes (Open slot pair) v = refl
begun_changes Drawn v = refl
begun_changes Sealing v = refl
begun_changes (Applying applied) v = refl
begun_changes Clearing v = refl
begun_changes Retiring v = refl

-- what one step does: a store makes one change, a flush marks one at least, and a drain drops one at least
flush_step : (v : View) (s : Step) → Allowed v s → one_if (is_flush s) + unflushed (after v s).changes ≤ one_if (is_store s) + unflushed v.changes
flush_step v (Load w x) may = omega arith
flush_step v (Store w x) may = let more = unflushed_more v.changes (store_change w (slice_index v.words w) x) in omega (arith, more)
flush_step v (Or w bits found) may = let more = unflushed_more v.changes (or_change w bits found) in omega (arith, more)
flush_step v (And w bits found) may = let more = unflushed_more v.changes (and_change w bits found) in omega (arith, more)
flush_step v (Flush line) may = let less = flush_marks line v.changes may in omega (arith, less)
flush_step v Drain may = let less = (drain_less v.changes).0 in omega (arith, less)
flush_step v (TakeWrite line won) may = omega arith
flush_step v (TakeRead line won) may = omega arith
flush_step v (Raise line won) may = omega arith
flush_step v (Give line) may = omega arith
flush_step v (ZoneTry zone won) may = omega arith
flush_step v (ZoneGive zone) may = omega arith
flush_step v (Occupied at found) may = omega arith
flush_step v (Occupy at bits won) may = omega arith
flush_step v (Vacate at bits) may = omega arith
flush_step v (Draw n) may = omega arith
flush_step v (NumberSeen n) may = let same = ap unflushed (begun_changes v.log.phase v) in omega (arith, same)
flush_step v (StopSeen set) may = omega arith
flush_step v SetStop may = omega arith
flush_step v (Tell operation reply) may = omega arith

drain_step : (v : View) (s : Step) → Allowed v s → one_if (is_drain s) + length (after v s).changes ≤ one_if (is_store s) + length v.changes
drain_step v (Load w x) may = omega arith
drain_step v (Store w x) may = let more = length-append v.changes (store_change w (slice_index v.words w) x ∷ []) in omega (arith, more)
drain_step v (Or w bits found) may = let more = length-append v.changes (or_change w bits found ∷ []) in omega (arith, more)
drain_step v (And w bits found) may = let more = length-append v.changes (and_change w bits found ∷ []) in omega (arith, more)
drain_step v (Flush line) may = let same = same_many line v.changes in omega (arith, same)
drain_step v Drain may = let less = drain_drops v.changes may in omega (arith, less)
drain_step v (TakeWrite line won) may = omega arith
drain_step v (TakeRead line won) may = omega arith
drain_step v (Raise line won) may = omega arith
drain_step v (Give line) may = omega arith
drain_step v (ZoneTry zone won) may = omega arith
drain_step v (ZoneGive zone) may = omega arith
drain_step v (Occupied at found) may = omega arith
drain_step v (Occupy at bits won) may = omega arith
drain_step v (Vacate at bits) may = omega arith
drain_step v (Draw n) may = omega arith
drain_step v (NumberSeen n) may = let same = ap length (begun_changes v.log.phase v) in omega (arith, same)
drain_step v (StopSeen set) may = omega arith
drain_step v SetStop may = omega arith
drain_step v (Tell operation reply) may = omega arith

-- steps that lead from one view to another are such
pub walks_of : (v w : View) (steps : List Step) → Leads v steps w → Walks v steps w
unfolding Leads Walks
walks_of v w [] leads = leads
walks_of v w (s ∷ steps) leads = (leads.0, leads.1, walks_of (after v s) w steps leads.3)

flushes_owed : (v w : View) (steps : List Step) → Walks v steps w → flushes_among steps + unflushed w.changes ≤ stores_among steps + unflushed v.changes
unfolding Walks among
flushes_owed v w [] walks = let same = ap (λ (u : View). unflushed u.changes) walks in omega (arith, same)
flushes_owed v w (s ∷ steps) walks = let one = flush_step v s walks.0 in let rest = flushes_owed (after v s) w steps walks.2 in omega (arith, one, rest)

drains_owed : (v w : View) (steps : List Step) → Walks v steps w → drains_among steps + length w.changes ≤ stores_among steps + length v.changes
unfolding Walks among
drains_owed v w [] walks = let same = ap (λ (u : View). length u.changes) walks in omega (arith, same)
drains_owed v w (s ∷ steps) walks = let one = drain_step v s walks.0 in let rest = drains_owed (after v s) w steps walks.2 in omega (arith, one, rest)

-- each flush marks a change that was unmarked: one of the stores', or one that was undrained before
pub flushes_few : (v w : View) (steps : List Step) → Walks v steps w → flushes_among steps ≤ stores_among steps + length v.changes
flushes_few v w steps walks = let owed = flushes_owed v w steps walks in let few = unflushed_few v.changes in omega (arith, owed, few)

-- and each drain drops one
pub drains_few : (v w : View) (steps : List Step) → Walks v steps w → drains_among steps ≤ stores_among steps + length v.changes
drains_few v w steps walks = let owed = drains_owed v w steps walks in omega (arith, owed)

-- the counted calls are the stores, the flushes and the drains
begun_calls : (phase : Phase) (v : View) → (begun phase v).calls ≡ v.calls
begun_calls Idle v = refl
begun_calls (Open slot pair) v = refl
begun_calls Drawn v = refl
begun_calls Sealing v = refl
begun_calls (Applying applied) v = refl
begun_calls Clearing v = refl
begun_calls Retiring v = refl

calls_step : (v : View) (s : Step) → (after v s).calls ≡ v.calls + (one_if (is_store s) + one_if (is_flush s) + one_if (is_drain s))
calls_step v (Load w x) = omega arith
calls_step v (Store w x) = omega arith
calls_step v (Or w bits found) = omega arith
calls_step v (And w bits found) = omega arith
calls_step v (Flush line) = omega arith
calls_step v Drain = omega arith
calls_step v (TakeWrite line won) = omega arith
calls_step v (TakeRead line won) = omega arith
calls_step v (Raise line won) = omega arith
calls_step v (Give line) = omega arith
calls_step v (ZoneTry zone won) = omega arith
calls_step v (ZoneGive zone) = omega arith
calls_step v (Occupied at found) = omega arith
calls_step v (Occupy at bits won) = omega arith
calls_step v (Vacate at bits) = omega arith
calls_step v (Draw n) = omega arith
calls_step v (NumberSeen n) = let same = begun_calls v.log.phase v in omega (arith, same)
calls_step v (StopSeen set) = omega arith
calls_step v SetStop = omega arith
calls_step v (Tell operation reply) = omega arith

pub calls_are : (v w : View) (steps : List Step) → Walks v steps w → w.calls ≡ v.calls + (stores_among steps + flushes_among steps + drains_among steps)
unfolding Walks among
calls_are v w [] walks = let same = ap (λ (u : View). u.calls) walks in omega (arith, same)
calls_are v w (s ∷ steps) walks = let one = calls_step v s in let rest = calls_are (after v s) w steps walks.2 in omega (arith, one, rest)
