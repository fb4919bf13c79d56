-- What lines and calls are good for, put together, and what records are left of views.
use Rattle.std.proofs.Common.{◌≡◌, ℕ, ◌+◌, ◌*◌, ◌≤◌, Bool, true, false, cond, List, [], ◌∷◌, ◌++◌, length, map, refl, sym, ap, subst, arith, length-append}
use Rattle.std.specs.List.{range_with_len}
use Rattle.std.proofs.lemmas.Bool.{false≢true}
use Rattle.std.proofs.lemmas.List.Sums.{sum_by-append, sum_by-cons, sum_by_push}
use Rattle.solo_crash.proofs.BusyCalls.{calls_are, drains_few, flushes_few, walks_of}
use Rattle.solo_crash.proofs.Leading.{leads_end}
use Rattle.solo_crash.proofs.NewRecords.{words_of_all, words_of_new}
use Rattle.solo_crash.specs.Leading.{Leads}
use Rattle.solo_crash.specs.Walking.{Walks}
use Rattle.solo_crash.specs.OpenCall.{words_recorded}
use Rattle.solo_crash.specs.Operations.{AddsRange}
use Rattle.solo_model.specs.Bytes.{covered_words, new_words}
use Rattle.pm_objects.specs.declared.ids.Oid.{Oid}
use Rattle.solo_script.specs.declared.script.ScriptLine.{ScriptLine}
use Rattle.solo_lock.specs.Leading.{IsLed}
use Rattle.solo_tx.proofs.PlannedWords.{new_are_covered}
use Rattle.solo_tx.proofs.StoreCounts.{stores_counted}
use Rattle.solo_tx.specs.Sequences.{word_count}
use Rattle.solo_undo.specs.Spans.{words_in}
use Rattle.solo_view.specs.Counts.{among, counted, is_counted, is_store, stores_among}
use Rattle.solo_view.specs.Log.{Log, Phase, Recorded, no_log, log_drawn}
use Rattle.solo_view.specs.Log.Phase.{Idle, Open, Drawn, Sealing, Applying, Clearing, Retiring}
use Rattle.solo_view.specs.Steps.{Step}
use Rattle.solo_view.specs.Steps.Step.{Load, Store, Or, And, Flush, Drain, TakeWrite, TakeRead, Raise, Give, ZoneTry, ZoneGive, Occupied, Occupy, Vacate, Draw, NumberSeen, StopSeen, SetStop, Tell}
use Rattle.solo_view.specs.View.{View}
use Rattle.solo_view.specs.Views.{after, after_all, begun}
use Rattle.solo_world.specs.Lanes.{span_of}
use Rattle.solo_exec.specs.Bounds.{IsBounded, IsWalked, most_stores, recorded_count, stores_of_call, stores_of_calls, stores_of_lines}
use Rattle.solo_exec.specs.declared.calls.Names.{Names}

-- one line more
pub lines_more : (names : Names) (front : List ScriptLine) (said : ScriptLine) → stores_of_lines names (front ++ said ∷ []) ≡ stores_of_lines names front + most_stores names said.operation
lines_more names front said = sum_by_push (λ (line : ScriptLine). most_stores names line.operation) front said

-- lines and the next are some of all
pub lines_within : (names : Names) (front rest : List ScriptLine) (said : ScriptLine) → stores_of_lines names front + most_stores names said.operation ≤ stores_of_lines names (front ++ said ∷ rest)
lines_within names front rest said =
    let both = sum_by-append (λ (line : ScriptLine). most_stores names line.operation) front (said ∷ rest) in
    let next = sum_by-cons (λ (line : ScriptLine). most_stores names line.operation) said rest in
    omega (arith, both, next)

-- one call more
pub calls_more : (names : Names) (calls : List (List ScriptLine)) (lines : List ScriptLine) → stores_of_calls names (calls ++ lines ∷ []) ≡ stores_of_calls names calls + stores_of_call names lines
calls_more names calls lines = sum_by_push (stores_of_call names) calls lines

pub calls_within : (names : Names) (calls behind : List (List ScriptLine)) (lines : List ScriptLine) → stores_of_calls names calls + stores_of_call names lines ≤ stores_of_calls names (calls ++ lines ∷ behind)
calls_within names calls behind lines =
    let both = sum_by-append (stores_of_call names) calls (lines ∷ behind) in
    let next = sum_by-cons (stores_of_call names) lines behind in
    omega (arith, both, next)

pub calls_front : (names : Names) (calls behind : List (List ScriptLine)) → stores_of_calls names calls ≤ stores_of_calls names (calls ++ behind)
calls_front names calls behind = let both = sum_by-append (stores_of_call names) calls behind in omega (arith, both)

-- steps that are no counted calls store nothing
pub led_stores : (v w : View) (led : IsLed v w) → stores_among led.steps ≡ 0
led_stores v w led = let few = stores_counted led.steps in let none = led.uncounted in omega (arith, few, none)

begun_count : (phase : Phase) (v : View) → recorded_count (begun phase v) ≤ recorded_count v
begun_count Idle v = omega arith
begun_count (Open slot pair) v = omega arith
begun_count Drawn v = omega arith
begun_count Sealing v = omega arith
begun_count (Applying applied) v = omega arith
begun_count Clearing v = omega arith
begun_count Retiring v = omega arith

drawn_records : (phase : Phase) (log : Log) → (log_drawn phase log).records ≡ log.records
drawn_records Idle log = refl
drawn_records (Open slot pair) log = refl
drawn_records Drawn log = refl
drawn_records Sealing log = refl
drawn_records (Applying applied) log = refl
drawn_records Clearing log = refl
drawn_records Retiring log = refl

-- nor do they record a word
count_step : (v : View) (s : Step) → is_counted s ≡ false → recorded_count (after v s) ≤ recorded_count v
count_step v (Load w x) free = omega arith
count_step v (Store w x) free = absurd (false≢true (sym free))
count_step v (Or w bits found) free = absurd (false≢true (sym free))
count_step v (And w bits found) free = absurd (false≢true (sym free))
count_step v (Flush line) free = absurd (false≢true (sym free))
count_step v Drain free = absurd (false≢true (sym free))
count_step v (TakeWrite line won) free = omega arith
count_step v (TakeRead line won) free = omega arith
count_step v (Raise line won) free = omega arith
count_step v (Give line) free = omega arith
count_step v (ZoneTry zone won) free = omega arith
count_step v (ZoneGive zone) free = omega arith
count_step v (Occupied at found) free = omega arith
count_step v (Occupy at bits won) free = omega arith
count_step v (Vacate at bits) free = omega arith
count_step v (Draw n) free = let same = ap (λ (rs : List Recorded). length (words_recorded rs)) (drawn_records v.log.phase v.log) in omega (arith, same)
count_step v (NumberSeen n) free = begun_count v.log.phase v
count_step v (StopSeen set) free = omega arith
count_step v SetStop free = omega arith
count_step v (Tell operation reply) free = omega arith

uncounted_parts : (b : Bool) (n : ℕ) → cond b 1 0 + n ≡ 0 → (b ≡ false) × (n ≡ 0)
uncounted_parts true n none = absurd (omega (arith, none))
uncounted_parts false n none = (refl, omega (arith, none))

count_along : (v : View) (steps : List Step) → counted steps ≡ 0 → recorded_count (after_all v steps) ≤ recorded_count v
unfolding after_all counted
count_along v [] none = omega arith
count_along v (s ∷ steps) none =
    let t = uncounted_parts (is_counted s) (counted steps) none in
    let one = count_step v s t.0 in let rest = count_along (after v s) steps t.1 in omega (arith, one, rest)

pub led_count : (v w : View) (led : IsLed v w) → recorded_count w ≤ recorded_count v
led_count v w led = subst (λ (u : View). recorded_count u ≤ recorded_count v) (sym (leads_end v w led.steps led.leads)) (count_along v led.steps led.uncounted)

-- a lane that rests has none
pub idle_count : (v : View) → v.log ≡ no_log Idle → recorded_count v ≡ 0
idle_count v idle = ap (λ (log : Log). length (words_recorded log.records)) idle

-- a range that is recorded brings at most the words that it covers
pub added_count : (v w : View) (id : Oid) (off len : ℕ) → AddsRange v w id off len → recorded_count w ≤ recorded_count v + word_count (id.off + off) len
added_count v w id off len a =
    let all = ap (λ (rs : List Recorded). length (words_recorded rs)) a.records in
    let parts = ap length (words_of_all v.log.records a.added) in
    let both = length-append (words_recorded v.log.records) (words_recorded a.added) in
    let new = ap length (words_of_new a.added (new_words (words_recorded v.log.records) (covered_words (id.off + off) len)) a.extents) in
    let few = new_are_covered (words_recorded v.log.records) (id.off + off) len in
    omega (arith, all, parts, both, new, few)

-- the words of a view's records, by its records' spans
pub spans_count : (records : List Recorded) → length (words_in (map span_of records)) ≡ length (words_recorded records)
unfolding words_in
spans_count records = ap length (at records) where
  at : (rs : List Recorded) → words_in (map span_of rs) ≡ words_recorded rs
  at [] = refl
  at (r ∷ rs) = ap (λ (l : List ℕ). range_with_len r.word (length r.old) ++ l) (at rs)

-- steps one behind the other
pub walks_then : (u v w : View) (xs ys : List Step) → Walks u xs v → Walks v ys w → Walks u (xs ++ ys) w
unfolding Walks
walks_then u v w [] ys first second = subst (λ (x : View). Walks x ys w) first second
walks_then u v w (s ∷ xs) ys first second = (first.0, first.1, walks_then (after u s) v w xs ys first.2 second)

-- by steps that lead
pub walked : (v w : View) (most : ℕ) (steps : List Step) → Leads v steps w → stores_among steps ≤ most → IsWalked v w most
walked v w most steps leads few = record { steps = steps; walks = walks_of v w steps leads; stores = few }

-- one behind the other
among_append : (kind : Step → Bool) (xs ys : List Step) → among kind (xs ++ ys) ≡ among kind xs + among kind ys
unfolding among
among_append kind [] ys = (let e : among kind ys ≡ 0 + among kind ys = omega arith in e)
among_append kind (x ∷ xs) ys = let rest = among_append kind xs ys in omega (arith, rest)

pub walked_then : (u v w : View) (most more : ℕ) → IsWalked u v most → IsWalked v w more → IsWalked u w (most + more)
walked_then u v w most more first second =
    let stores = among_append is_store first.steps second.steps in
    record {
      steps = first.steps ++ second.steps;
      walks = walks_then u v w first.steps second.steps first.walks second.walks;
      stores = (let a = first.stores in let b = second.stores in omega (arith, stores, a, b));
    }

pub walked_within : (v w : View) (most more : ℕ) → most ≤ more → IsWalked v w most → IsWalked v w more
walked_within v w most more few b = record { steps = b.steps; walks = b.walks; stores = (let s = b.stores in omega (arith, s, few)) }

-- from a view at which nothing was undrained
pub bounded : (v w : View) (most : ℕ) → v.changes ≡ [] → IsWalked v w most → IsBounded v w most
bounded v w most none b =
    let empty = ap length none in
    record {
      steps = b.steps;
      walks = b.walks;
      stores = b.stores;
      flushes = (let f = flushes_few v w b.steps b.walks in omega (arith, f, empty));
      drains = (let d = drains_few v w b.steps b.walks in omega (arith, d, empty));
      calls = calls_are v w b.steps b.walks;
    }

pub calls_bounded : (v w : View) (most : ℕ) → v.calls ≡ 0 → IsBounded v w most → w.calls ≤ 3 * most
calls_bounded v w most none b = let c = b.calls in let s = b.stores in let f = b.flushes in let d = b.drains in omega (arith, none, c, s, f, d)
