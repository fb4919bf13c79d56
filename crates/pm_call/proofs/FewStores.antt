-- HOW MANY STORES THE PLANS OF OPERATIONS MAKE.
use Rattle.std.proofs.Common.{◌≡◌, ◌==◌, ℕ, zero, suc, ◌+◌, ◌-◌, ◌*◌, ◌/◌, ◌≤◌, Bool, true, false, cond, not, nat_lt, List, [], ◌∷◌, ◌++◌, length, length-append, map, replicate, sum_by, take, slice_index, refl, ap, arith, Option, None, Some}
use Rattle.std.specs.List.{AllByRecursion, filter, range_with_len}
use Rattle.std.proofs.lemmas.List.{length-map, length-replicate, length-take}
use Rattle.std.proofs.lemmas.List.Sums.{sum_by-cons}
use Rattle.std.proofs.lemmas.List.FromFn.{length-map-range_with_len, length-range_with_len}
use Rattle.pm_layout.specs.Areas.{line_of_slot, word_of_entry, word_of_generation, word_of_seal}
use Rattle.pm_layout.specs.declared.shape.Shape.{Shape}
use Rattle.pm_model.specs.Items.{is_among, number_bytes}
use Rattle.pm_model.specs.Pending.{SetWord}
use Rattle.pm_model.specs.Transaction.{covered_words, new_words}
use Rattle.pm_model.specs.Items.{number_bytes}
use Rattle.pm_objects.specs.declared.calls.Operation.{Operation}
use Rattle.pm_objects.specs.declared.calls.Operation.TheVariants.{AddRange, Cancel, Commit, Increment, Publish, Read, Write}
use Rattle.pm_objects.specs.declared.history.Value.{Value}
use Rattle.pm_objects.specs.declared.history.Value.TheVariants.{Number}
use Rattle.pm_record.specs.Redo.{redo_words}
use Rattle.pm_record.specs.declared.redo.Op.{Op}
use Rattle.pm_record.specs.declared.redo.Op.TheVariants as op
use Rattle.pm_record.specs.declared.redo.Redo.{Redo}
use Rattle.pm_view.specs.Changes.{Undrained, drained}
use Rattle.pm_view.specs.Claims.{class}
use Rattle.pm_view.specs.Counts.{among, is_store, max_changes, unflushed_lines}
use Rattle.pm_view.specs.Log.{Log, Phase, Idle, Open, Drawn, Sealing, Applying, entered, log_changed, log_drained, log_stored, with_pair}
use Rattle.pm_view.specs.Parts.{Part, EntryPart, SlotPart, GenerationPart}
use Rattle.pm_view.specs.Steps.{Step}
use Rattle.pm_view.specs.Steps.Step.{Store, Or, And, Flush, Drain, Occupy, NumberSeen, Draw, Tell}
use Rattle.pm_view.specs.View.{View}
use Rattle.pm_view.specs.Views.{after, after_all, begun, log_left, part_in}
use Rattle.pm_world.specs.declared.lane.KeptRecord.{KeptRecord}
use Rattle.pm_crash.specs.Writes.{written_word}
use Rattle.pm_plan.specs.Plans.{Plan, ands, drains, flushes, in_turn, known_word, looks, makes_room, nothing, one, ors, persists, persists_all, repeated, stores, stores_from}
use Rattle.pm_undo.specs.Plans.{ends_word, logs, logs_here, looks_at, looks_first, looks_from, puts_back, records_all, restores, restores_record, retires, snapshots, writes_all, writes_record, writes_records, writes_slot}
use Rattle.pm_undo.specs.Records.{kept_by, kept_in, record_at, slot_of}
use Rattle.pm_undo.specs.Spans.{plan_of, span_at, words_in}
use Rattle.pm_undo.specs.declared.spans.Span.{Span}
use Rattle.pm_undo.proofs.Fitting.{AreAll, counts_words, plan_all}
use Rattle.pm_redo.specs.Entries.{ending, entry_at, listed_entries, listed_entry}
use Rattle.pm_redo.specs.Plans.{applies, applies_all, applies_each, applies_entry, clears, does, ends_entries, performs, seals, writes_entries, writes_log, writes_pair, writes_pairs, writes_seal}
use Rattle.pm_call.specs.At.{set_entry}
use Rattle.pm_call.specs.Plans.{commits, ends_call, ends_records, finishes, gives_up, known_sum, logs_entries, performs_call, takes_back, tells, writes_word, writes_words}
use Rattle.pm_call.specs.Publications.{publishes}
use Rattle.pm_call.specs.Stores.{EntriesAreStored, HasNoEntry, IsRun, OverHasNoEntry, RecordsAreFew, RunsMakeFewStores, TableOfStores, WorkHasNoEntry, commit_stores, log_stores, most_in_run, most_stores, publish_stores, runs, stores_in}
use Rattle.pm_call.specs.Planned.{Planned, entries_to_log, steps_of, words_to_set}
use Rattle.pm_call.specs.Quiet.{AreQuiet, is_quiet}
use Rattle.pm_call.specs.Planned.Planned.{Quiet, Records, Adds, Writes, Reads, Increments, Cancels, Commits, RollsBack, Lone, Publishes}

-- from each view the plan makes at most so many
abbrev Few : ℕ → Plan → Type 0
Few n plan = (v : View) → stores_in (plan v) ≤ n

-- ---- HOW THEY ADD UP

stores_both : (xs ys : List Step) → stores_in (xs ++ ys) ≡ stores_in xs + stores_in ys
unfolding among
stores_both [] ys = omega arith
stores_both (x ∷ xs) ys = let rest = stores_both xs ys in omega (arith, rest)

stores_first : (k : ℕ) (steps : List Step) → stores_in (take k steps) ≤ stores_in steps
unfolding among
stores_first zero steps = omega arith
stores_first (suc k) [] = omega arith
stores_first (suc k) (s ∷ steps) = let rest = stores_first k steps in omega (arith, rest)

turn_at : (a b : ℕ) (s t : Plan) (v : View) → stores_in (s v) ≤ a
    → stores_in (t (after_all v (s v))) ≤ b → stores_in (in_turn s t v) ≤ a + b
unfolding in_turn
turn_at a b s t v first second =
    omega (arith, stores_both (s v) (t (after_all v (s v))), first, second)

few_turn : (a b : ℕ) (s t : Plan) → Few a s → Few b t → Few (a + b) (in_turn s t)
few_turn a b s t first second v = turn_at a b s t v (first v) (second (after_all v (s v)))

few_nothing : Few 0 nothing
unfolding nothing among
few_nothing v = omega arith

-- of plans in turn, a sum; where each makes as many, a product
sum_to : (ℕ → ℕ) → ℕ → ℕ
sum_to f zero = 0
sum_to f (suc n) = sum_to f n + f n

few_sum : (plans : ℕ → Plan) (f : ℕ → ℕ) (n : ℕ) → ((i : ℕ) → Few (f i) (plans i))
    → Few (sum_to f n) (repeated plans n)
unfolding repeated sum_to
few_sum plans f zero each = few_nothing
few_sum plans f (suc n) each =
    few_turn (sum_to f n) (f n) (repeated plans n) (plans n) (few_sum plans f n each) (each n)

few_times : (plans : ℕ → Plan) (k n : ℕ) → ((i : ℕ) → Few k (plans i))
    → Few (n * k) (repeated plans n)
unfolding sum_to
few_times plans k n each v =
    let all = few_sum plans (λ i. k) n each v in let sum = product n in omega (arith, all, sum)
  where
    product : (n : ℕ) → sum_to (λ i. k) n ≡ n * k
    product zero = grind arith
    product (suc n) =
        let rest = product n in
        let e : suc n * k ≡ n * k + k = grind arith in
        omega (arith, rest, e)

few_none : (plans : ℕ → Plan) (n : ℕ) → ((i : ℕ) → Few 0 (plans i)) → Few 0 (repeated plans n)
few_none plans n each v = let all = few_times plans 0 n each v in omega (arith, all)

-- ---- PARTS OF PLANS

few_one : (s : Step) → is_store s ≡ false → Few 0 (one s)
unfolding one among
few_one s other v = let e = ap {B = ℕ} (λ b. cond b 1 0) other in omega (arith, e)

few_look : (w : ℕ) → Few 0 (looks w)
unfolding looks among
few_look w v = omega arith

few_persist : Few 0 persists_all
unfolding persists_all flushes drains among
few_persist = few_turn 0 0 flushes drains (λ v. lines (unflushed_lines v.changes))
    (λ v. by (length v.changes == 0))
  where
    lines : (ls : List ℕ) → stores_in (map Flush ls) ≤ 0
    lines [] = omega arith
    lines (l ∷ ls) = let rest = lines ls in omega (arith, rest)

    by : (b : Bool) → stores_in (cond b [] (Drain ∷ [])) ≤ 0
    by true = omega arith
    by false = omega arith

few_line : (line : ℕ) → Few 0 (persists line)
unfolding persists
few_line line =
    few_turn 0 0 (one (Flush line)) (one Drain) (few_one (Flush line) refl) (few_one Drain refl)

-- a store, an OR or an AND, with room made for its change
few_change : (s : Step) → Few 1 (in_turn makes_room (one s))
unfolding makes_room one among
few_change s = few_turn 0 1 makes_room (one s) (λ v. room v (nat_lt (length v.changes) max_changes))
    (λ v. by (is_store s))
  where
    room : (v : View) (b : Bool) → stores_in (cond b [] (persists_all v)) ≤ 0
    room v true = omega arith
    room v false = few_persist v

    by : (b : Bool) → cond b 1 0 + 0 ≤ 1
    by true = omega arith
    by false = omega arith

few_store : (w x : ℕ) → Few 1 (stores w x)
unfolding stores
few_store w x = few_change (Store w x)

few_stores : (w : ℕ) (xs : List ℕ) → Few (length xs) (stores_from w xs)
unfolding stores_from
few_stores w xs v =
    let all = few_times (λ i. stores (w + i) (slice_index xs i)) 1 (length xs)
    (λ i. few_store (w + i) (slice_index xs i)) v in
    omega (arith, all)

few_told : (s : Plan) (op : Operation) (reply : Option Value) (a : ℕ) (v : View)
    → stores_in (s v) ≤ a → stores_in (in_turn s (tells op reply) v) ≤ a
few_told s op reply a v first =
    let told = few_one (Tell op reply) refl (after_all v (s v)) in
    let all = turn_at a 0 s (tells op reply) v first told in omega (arith, all)

-- ---- UNDO LOGGING

few_looks : (spans : List Span) → Few 0 (looks_at spans)
unfolding looks_at looks_first looks_from
few_looks spans =
    few_none (λ i. looks_from (span_at spans i).word (span_at spans i).count) (length spans)
    (λ i. few_none (λ j. looks ((span_at spans i).word + j)) (span_at spans i).count
    (λ j. few_look ((span_at spans i).word + j)))

-- a record of at most four words
abbrev IsShort : KeptRecord → Type 0
IsShort r = length r.old ≤ 4

few_record : (sh : Shape) (lane generation slot : ℕ) (r : KeptRecord) → IsShort r
    → Few 8 (writes_record sh lane generation slot r)
unfolding writes_slot
few_record sh lane generation slot r short v =
    let line : ℕ = line_of_slot sh lane slot in
    let words : List ℕ = slot_of generation r in
    let many : length words ≡ suc (suc (suc (length r.old + 1))) =
    ap (λ n. suc (suc (suc n))) (length-append r.old _) in
    let all = few_turn (length words) 0 (stores_from (8 * line) words) (one (Flush line))
    (few_stores (8 * line) words) (few_one (Flush line) refl) v in
    omega (arith, all, many, short)

few_logs : (sh : Shape) (lane generation slot : ℕ) (records : List KeptRecord)
    → ((i : ℕ) → IsShort (record_at records i))
    → Few (8 * length records) (logs sh lane generation slot records)
unfolding logs writes_all writes_records
few_logs sh lane generation slot [] short v = few_nothing v
few_logs sh lane generation slot (r ∷ records) short v =
    let all : List KeptRecord = r ∷ records in
    let n : ℕ = length all in
    let more = few_turn (n * 8) 0 (writes_records sh lane generation slot all) (one Drain)
    (few_times (λ i. writes_record sh lane generation (slot + i) (record_at all i)) 8 n
    (λ i. few_record sh lane generation (slot + i) (record_at all i) (short i)))
    (few_one Drain refl) v in
    omega (arith, more)

-- spans of one to four words each
abbrev AreSpans : List Span → Type 0
AreSpans spans = AllByRecursion (AreAll (λ w. Unit {0})) spans

planned_are_spans : (records : List KeptRecord) (place len : ℕ)
    → AreSpans (plan_of records place len)
planned_are_spans records place len =
    plan_all (λ w. Unit {0}) records place len (λ w some from to new. tt)

short_at : (v : View) (spans : List Span) → AreSpans spans
    → (i : ℕ) → IsShort (record_at (map (kept_in v) spans) i)
short_at v [] all i = omega arith
short_at v (s ∷ spans) all zero =
    let words : List ℕ = map (known_word v) (range_with_len s.word s.count) in
    let most = all.0.most in
    omega (
      arith,
      most,
      length-append words (replicate (4 - length words) 0),
      length-replicate {A = ℕ} (4 - length words) 0,
      length-map-range_with_len (known_word v) s.word s.count,
    )
short_at v (s ∷ spans) all (suc i) = short_at v spans all.1 i

few_snapshots : (place len : ℕ) (v : View)
    → stores_in (snapshots place len v) ≤ 8 * length (plan_of (kept_by v) place len)
unfolding snapshots records_all logs_here
few_snapshots place len v =
    let slot : ℕ = length v.log.records in
    let spans : List Span = plan_of (kept_by v) place len in
    let kept : List KeptRecord = map (kept_in v) spans in
    let short = short_at v spans (planned_are_spans (kept_by v) place len) in
    let all = few_turn 0 (8 * length kept) (looks_at spans)
    (logs_here v.fixed.shape v.log.generation slot kept) (few_looks spans)
    (λ u. few_logs v.fixed.shape u.fixed.lane v.log.generation slot kept short u) v in
    omega (arith, all, length-map spans (kept_in v))

-- each record has a word at least, and no word that the range does not cover
pub records_are_few : RecordsAreFew
unfolding new_words
records_are_few records place len =
    let words : List ℕ = covered_words place len in
    let each = spans_few (plan_of records place len) (planned_are_spans records place len) in
    let counts = counts_words records place len in
    let new = new_few (λ w. not (is_among (words_in records) w)) words in
    omega (arith, each, counts, new)
  where
    spans_few : (spans : List Span) → AreSpans spans
        → length spans ≤ sum_by (λ (s : Span). s.count) spans
    spans_few [] all = omega arith
    spans_few (s ∷ spans) all =
        let some = all.0.some in
        omega (arith, some, spans_few spans all.1, sum_by-cons (λ (s : Span). s.count) s spans)

    one_few : (b : Bool) (w : ℕ) (xs : List ℕ) → length (cond b (w ∷ xs) xs) ≤ 1 + length xs
    one_few true w xs = omega arith
    one_few false w xs = omega arith

    new_few : (p : ℕ → Bool) (ws : List ℕ) → length (filter p ws) ≤ length ws
    new_few p [] = omega arith
    new_few p (w ∷ ws) = omega (arith, new_few p ws, one_few (p w) w (filter p ws))

-- each recorded word is put back
abbrev count_at : List KeptRecord → ℕ → ℕ
count_at records i = (record_at records i).count

sum_front : (f : ℕ → ℕ) (n : ℕ) → sum_to f (suc n) ≡ f 0 + sum_to (λ i. f (suc i)) n
unfolding sum_to
sum_front f zero = omega arith
sum_front f (suc n) = let rest = sum_front f n in omega (arith, rest)

counts_are_words : (records : List KeptRecord)
    → sum_to (count_at records) (length records) ≡ length (words_in records)
unfolding words_in sum_to
counts_are_words [] = refl
counts_are_words (r ∷ records) = omega (
  arith,
  sum_front (count_at (r ∷ records)) (length records),
  counts_are_words records,
  length-range_with_len r.word r.count,
  length-append (range_with_len r.word r.count) (words_in records),
)

few_restores : (v : View) → stores_in (restores v) ≤ length (words_in (kept_by v))
unfolding restores puts_back restores_record
few_restores v =
    let records : List KeptRecord = kept_by v in
    let n : ℕ = length records in
    let all = few_turn (sum_to (count_at records) n) 0 (puts_back records) persists_all
    (few_sum (λ i. restores_record (record_at records i)) (count_at records) n (λ i u.
    let r : KeptRecord = record_at records i in
    let words = few_stores r.word (take r.count r.old) u in
    omega (arith, words, length-take r.count r.old)))
    few_persist v in
    omega (arith, all, counts_are_words records)

few_retires : Few 1 retires
unfolding retires ends_word
few_retires v =
    let w : ℕ = word_of_generation v.fixed.shape v.fixed.lane in
    let next : ℕ = v.log.generation + 1 in
    few_turn 1 0 (stores w next) (persists (w / 8)) (few_store w next) (few_line (w / 8)) v

few_writes : (place : ℕ) (bytes : List ℕ)
    → Few (length (covered_words place (length bytes))) (writes_words place bytes)
unfolding writes_words writes_word
few_writes place bytes v =
    let n : ℕ = length (covered_words place (length bytes)) in
    let all = few_times (λ i. writes_word place bytes (place / 8 + i)) 1 n (λ i u.
    let w : ℕ = place / 8 + i in
    let x : ℕ = written_word place bytes w (known_word u w) in
    few_turn 0 1 (looks w) (stores w x) (few_look w) (few_store w x) u) v in
    omega (arith, all)

-- ---- WORDS OF ENTRIES that are stored: each is, by one store

abbrev entry_words : Log → ℕ
entry_words log = 2 * length log.entries + length log.pair

either : (n : ℕ) (b : Bool) (l m : Log) → entry_words l ≤ n → entry_words m ≤ n
    → entry_words (cond b l m) ≤ n
either n true l m first second = first
either n false l m first second = second

entered_one : (sh : Shape) (cl : ℕ → ℕ) (pair : List ℕ) (x : ℕ) (log : Log) → log.pair ≡ pair
    → entry_words (with_pair sh cl pair x log) ≤ entry_words log + 1
entered_one sh cl [] x log is = let none = ap length is in omega (arith, none)
entered_one sh cl (head ∷ rest) x log is =
    let some = ap length is in
    omega (arith, some, length-append log.entries (entered sh cl head x ∷ []))

stored_one : (sh : Shape) (cl : ℕ → ℕ) (phase : Phase) (part : Part) (x : ℕ) (log : Log)
    → entry_words (log_stored sh cl phase part x log) ≤ entry_words log + 1
stored_one sh cl Open EntryPart x log = entered_one sh cl log.pair x log refl
stored_one sh cl Open SlotPart x log = either (entry_words log + 1)
    (length (log.slot ++ x ∷ []) == 8) _ _ (omega arith) (omega arith)
stored_one sh cl (Drawn n) GenerationPart x log = omega arith
stored_one sh cl (Applying todo) GenerationPart x log = omega arith
stored_one sh cl phase part x log = omega arith

changed_none : (phase : Phase) (log : Log) → entry_words (log_changed phase log) ≤ entry_words log
changed_none (Applying todo) log = omega arith
changed_none phase log = omega arith

drained_none : (left : List Undrained) (phase : Phase) (log : Log)
    → entry_words (log_drained phase log) ≤ entry_words log
drained_none left (Sealing n) log = omega arith
drained_none left phase log = omega arith

left_none : (left : List Undrained) (log : Log) → entry_words (log_left left log) ≤ entry_words log
left_none [] log = drained_none [] log.phase log
left_none (c ∷ left) log = omega arith

begun_none : (phase : Phase) (v : View) → entry_words (begun phase v).log ≤ entry_words v.log
begun_none Idle v = omega arith
begun_none phase v = omega arith

one_enters : (v : View) (s : Step)
    → entry_words (after v s).log ≤ entry_words v.log + cond (is_store s) 1 0
one_enters v (Store w x) =
    stored_one v.fixed.shape (class v.claims) v.log.phase (part_in v w) x v.log
one_enters v (Or w bits found) = let less = changed_none v.log.phase v.log in omega (arith, less)
one_enters v (And w bits found) = let less = changed_none v.log.phase v.log in omega (arith, less)
one_enters v Drain = let less = left_none (drained v.changes) v.log in omega (arith, less)
one_enters v (NumberSeen n) = let less = begun_none v.log.phase v in omega (arith, less)
one_enters v (Occupy at bits true) = omega arith
one_enters v s = omega arith

all_enter : (v : View) (steps : List Step)
    → entry_words (after_all v steps).log ≤ entry_words v.log + stores_in steps
unfolding among after_all
all_enter v [] = omega arith
all_enter v (s ∷ steps) = omega (arith, one_enters v s, all_enter (after v s) steps)

none_entered : (v : View) → HasNoEntry v → entry_words v.log ≡ 0
none_entered v h =
    let entries = ap length h.entries in let pair = ap length h.pair in omega (arith, entries, pair)

-- ---- REDO LOGGING

few_pair : (sh : Shape) (lane i : ℕ) (e : Redo) → Few 2 (writes_pair sh lane i e)
unfolding writes_pair
few_pair sh lane i e = few_stores (word_of_entry sh lane i) (redo_words e)

few_log : (entries : List Redo) → Few (2 * (length entries + 1)) (writes_log entries)
unfolding writes_log writes_entries writes_pairs ends_entries
few_log entries v =
    let sh : Shape = v.fixed.shape in
    let lane : ℕ = v.fixed.lane in
    let n : ℕ = length entries in
    let e : Redo = ending sh lane v.log.generation in
    let all = few_turn (n * 2) 2 (writes_pairs sh lane entries) (ends_entries sh lane n e)
    (few_times (λ i. writes_pair sh lane i (entry_at entries i)) 2 n
    (λ i. few_pair sh lane i (entry_at entries i)))
    (few_turn 2 0 (writes_pair sh lane n e) persists_all (few_pair sh lane n e) few_persist) v in
    omega (arith, all)

few_seal : (w n : ℕ) → Few 1 (writes_seal w n)
unfolding writes_seal
few_seal w n = few_turn 1 0 (stores w n) (persists (w / 8)) (few_store w n) (few_line (w / 8))

few_does : (o : Op) (w x found : ℕ) → Few 1 (does o w x found)
unfolding ors ands
few_does op.Set w x found = few_store w x
few_does op.Or w x found = few_change (Or w x found)
few_does op.And w x found = few_change (And w x found)

few_applies : (found : ℕ → ℕ) (v : View) → stores_in (applies found v) ≤ length v.log.entries
unfolding applies applies_all applies_each applies_entry
few_applies found v =
    let es : List Redo = listed_entries v in
    let n : ℕ = length es in
    let all = few_turn (n * 1) 0 (applies_each es found) persists_all
    (few_times (λ i. applies_entry (entry_at es i) (found i)) 1 n
    (λ i. few_does (entry_at es i).op ((entry_at es i).place / 8) (entry_at es i).value
    (found i))) few_persist v in
    omega (arith, all, length-map v.log.entries listed_entry)

-- no more entries are applied than were stored, each by two stores; the seal's is one more
few_performs : (found : ℕ → ℕ) (v : View)
    → 2 * stores_in (performs found v) ≤ entry_words v.log + 5
unfolding performs seals clears
few_performs found v =
    let sealed : View = after_all v (seals v) in
    let applied : View = after_all sealed (applies found sealed) in
    let n : ℕ = length sealed.log.entries in
    let seal = few_seal (word_of_seal v.fixed.shape v.fixed.lane) (length v.log.entries) v in
    let clear = few_seal (word_of_seal applied.fixed.shape applied.fixed.lane) 0 applied in
    let all = turn_at 1 (n + 1) seals (in_turn (applies found) clears) v seal
    (turn_at n 1 (applies found) clears sealed (few_applies found sealed) clear) in
    omega (arith, seal, all, all_enter v (seals v))

-- ---- OPERATIONS

few_ends : (op : Operation) (reply : Option Value) (n : ℕ) → Few 0 (ends_call op reply n)
few_ends op reply n = few_turn 0 0 (tells op reply) (one (Draw n)) (few_one (Tell op reply) refl)
    (few_one (Draw n) refl)

few_entries : (op : Operation) (entries : List Redo) (found : ℕ → ℕ) (n : ℕ) (v : View)
    → entry_words v.log ≡ 0
    → stores_in (logs_entries op entries found n v) ≤ log_stores (length entries)
few_entries op entries found n v none =
    let logged : View = after_all v (writes_log entries v) in
    let numbered : View = after_all logged (ends_call op None n logged) in
    let performed : ℕ = stores_in (performs found numbered) in
    let log = few_log entries v in
    let ends = few_ends op None n logged in
    let all = turn_at (2 * (length entries + 1)) (0 + performed) (writes_log entries)
    (performs_call op found n) v log
    (turn_at 0 performed (ends_call op None n) (performs found) logged ends (omega arith)) in
    omega (
      arith,
      none,
      log,
      ends,
      all,
      few_performs found numbered,
      all_enter v (writes_log entries v),
      all_enter logged (ends_call op None n logged),
    )

few_finishes : (entries : List Redo) (found : ℕ → ℕ) (n : ℕ) (v : View) → entry_words v.log ≡ 0
    → stores_in (finishes entries found n v) ≤ commit_stores (length entries)
unfolding among
few_finishes [] found n v none =
    few_turn 0 1 (ends_call Commit None n) ends_records (few_ends Commit None n)
    (λ u. by u (length u.log.records == 0)) v
  where
    by : (u : View) (b : Bool) → stores_in (cond b [] (retires u)) ≤ 1
    by u true = omega arith
    by u false = few_retires u
few_finishes (e ∷ entries) found n v none = few_entries Commit (e ∷ entries) found n v none

few_commits : (entries : List Redo) (found : ℕ → ℕ) (n : ℕ) (v : View) → entry_words v.log ≡ 0
    → stores_in (commits entries found n v) ≤ commit_stores (length entries)
few_commits entries found n v none =
    let drained : View = after_all v (persists_all v) in
    let persist = few_persist v in
    let enter = all_enter v (persists_all v) in
    let finish = few_finishes entries found n drained (omega (arith, none, persist, enter)) in
    let all = turn_at 0 (commit_stores (length entries)) persists_all (finishes entries found n) v
    persist finish in
    omega (arith, all)

few_rolls_back : (op : Operation) (reply : Option Value) (n : ℕ) (v : View)
    → stores_in (gives_up op reply n v) ≤ length (words_in (kept_by v)) + 1
few_rolls_back op reply n v =
    let all = turn_at (length (words_in (kept_by v)) + 1) 0 takes_back (ends_call op reply n) v
    (by (length v.log.records == 0)) (few_ends op reply n (after_all v (takes_back v))) in
    omega (arith, all)
  where
    by : (b : Bool) → stores_in (cond b (persists_all v) (in_turn restores retires v))
        ≤ length (words_in (kept_by v)) + 1
    by true = let none = few_persist v in omega (arith, none)
    by false = turn_at (length (words_in (kept_by v))) 1 restores retires v (few_restores v)
        (few_retires (after_all v (restores v)))

few_publishes : (words : List SetWord) (found : ℕ → ℕ) (n : ℕ) (v : View) → entry_words v.log ≡ 0
    → stores_in (publishes words found n v) ≤ publish_stores (length words)
few_publishes [] found n v none = few_ends Publish None n v
few_publishes (a ∷ words) found n v none =
    let all = few_entries Publish (map set_entry (a ∷ words)) found n v none in
    omega (arith, all, length-map words set_entry)

-- what is of no plan stores nothing
few_quiet : (steps : List Step) → AreQuiet steps → stores_in steps ≤ 0
unfolding among
few_quiet [] quiet = omega arith
few_quiet (s ∷ steps) quiet =
    let first = by s quiet.0 in let rest = few_quiet steps quiet.1 in omega (arith, first, rest)
  where
    by : (s : Step) → is_quiet s ≡ true → cond (is_store s) 1 0 ≤ 0
    by (Store w x) quiet = absurd (let clash : false ≡ true = quiet in cc)
    by (Or w bits found) quiet = absurd (let clash : false ≡ true = quiet in cc)
    by (And w bits found) quiet = absurd (let clash : false ≡ true = quiet in cc)
    by s quiet = omega arith

few_steps : (p : Planned) (v : View) → HasNoEntry v → stores_in (steps_of p v) ≤ most_stores p v
few_steps (Quiet steps quiet) v h = few_quiet steps quiet
few_steps (Records op reply alone) v h = few_one (Tell op reply) refl v
few_steps (Adds id off len) v h = let place : ℕ = id.off + off in
    few_told (snapshots place len) (AddRange id off len) None _ v (few_snapshots place len v)
few_steps (Writes id off bytes) v h = let place : ℕ = id.off + off in
    few_told (writes_words place bytes) (Write id off bytes) None _ v (few_writes place bytes v)
few_steps (Reads id off len) v h = few_one (Tell (Read id off len) _) refl v
few_steps (Increments id off by) v h =
    let place : ℕ = id.off + off in
    let sum : ℕ = known_sum v id off by in
    few_told (writes_words place (number_bytes sum)) (Increment id off by) (Some (Number sum)) _ v
    (few_writes place (number_bytes sum) v)
few_steps Cancels v h = few_told persists_all Cancel None 0 v (few_persist v)
few_steps (Commits found n) v h = few_commits (entries_to_log v) found n v (none_entered v h)
few_steps (RollsBack op reply n given) v h = few_rolls_back op reply n v
few_steps (Lone op reply n alone) v h = few_ends op reply n v
few_steps (Publishes found n) v h = few_publishes (words_to_set v) found n v (none_entered v h)

-- THE LAWS
pub table_of_stores : TableOfStores
table_of_stores p v k h = omega (arith, few_steps p v h, stores_first k (steps_of p v))

pub work_has_no_entry : WorkHasNoEntry
work_has_no_entry v at = record { entries = at.unentered; pair = at.whole.1 }

pub over_has_no_entry : OverHasNoEntry
over_has_no_entry s over =
    record {
      entries = ap (λ (l : Log). l.entries) over.log;
      pair = ap (λ (l : Log). l.pair) over.log;
    }

pub entries_are_stored : EntriesAreStored
entries_are_stored v steps h none =
    let w : View = after_all v steps in
    let few = all_enter v steps in
    let before = none_entered v h in
    record {
      entries = empty w.log.entries (omega (arith, few, before, none));
      pair = empty w.log.pair (omega (arith, few, before, none));
    }
  where
    empty : {A : Type 0} (xs : List A) → length xs ≡ 0 → xs ≡ []
    empty [] e = refl
    empty (x ∷ xs) e = absurd (omega (arith, e))

few_run : (ps : List Planned) (v : View) → IsRun ps v → stores_in (runs ps v) ≤ most_in_run ps v
unfolding runs IsRun most_in_run
few_run [] v run = few_nothing v
few_run (p ∷ ps) v run = let next : View = after_all v (steps_of p v) in
    turn_at (most_stores p v) (most_in_run ps next) (steps_of p) (runs ps) v (few_steps p v run.0)
    (few_run ps next run.1)

pub runs_make_few_stores : RunsMakeFewStores
runs_make_few_stores ps v k run = omega (arith, few_run ps v run, stores_first k (runs ps v))
