-- WHAT MOST STEPS LEAVE: a lane that tells nothing and takes no number leaves what it told, the
-- number of its call, and the entries of its calls.
use Rattle.std.proofs.Common.{◌≡◌, ℕ, zero, suc, ◌+◌, ◌*◌, ◌/◌, ◌==◌, true, false, Bool, if◌then◌else◌, nat_lt, List, [], ◌∷◌, ◌++◌, length, map, take, slice_index, refl, ◌∙◌}
use Rattle.std.specs.List.{AllByRecursion}
use Rattle.std.proofs.lemmas.Bool.{both_ways}
use Rattle.pm_layout.specs.Areas.{line_of_slot, word_of_entry, word_of_generation, word_of_seal}
use Rattle.pm_layout.specs.declared.shape.Shape.{Shape}
use Rattle.pm_model.specs.Transaction.{covered_words}
use Rattle.pm_record.specs.Redo.{redo_words}
use Rattle.pm_record.specs.declared.redo.Op.{Op}
use Rattle.pm_record.specs.declared.redo.Op.TheVariants as op
use Rattle.pm_record.specs.declared.redo.Redo.{Redo}
use Rattle.pm_view.specs.Counts.{max_changes}
use Rattle.pm_view.specs.Steps.{Step}
use Rattle.pm_view.specs.declared.occ.Occ.{Occ}
use Rattle.pm_view.specs.Steps.Step.{Load, Store, Or, And, Flush, Drain, TakeWrite, TakeRead, Raise, Give, ZoneTry, ZoneGive, Occupied, Occupy, Vacate, Draw, NumberSeen, StopSeen, SetStop, Tell}
use Rattle.pm_view.specs.View.{View}
use Rattle.pm_view.specs.Views.{after, after_all, occupied}
use Rattle.pm_plan.specs.Plans.{Plan, drains, flushes, in_turn, known_word, looks, makes_room, nothing, one, persists, persists_all, repeated, stores, stores_from, ors, ands}
use Rattle.pm_undo.specs.Plans.{ends_word, logs, logs_here, looks_at, looks_first, looks_from, puts_back, records_all, restores, restores_record, retires, snapshots, writes_all, writes_record, writes_records, writes_slot}
use Rattle.pm_undo.specs.Records.{kept_by, kept_in, record_at, slot_of}
use Rattle.pm_world.specs.declared.lane.KeptRecord.{KeptRecord}
use Rattle.pm_undo.specs.Spans.{plan_of, span_at}
use Rattle.pm_undo.specs.declared.spans.Span.{Span}
use Rattle.pm_redo.specs.Entries.{ending, entry_at, listed_entries}
use Rattle.pm_redo.specs.Plans.{applies, applies_all, applies_each, applies_entry, clears, does, ends_entries, performs, seals, writes_entries, writes_log, writes_pair, writes_pairs, writes_seal}
use Rattle.pm_crash.specs.Writes.{written_word}
use Rattle.pm_call.specs.Plans.{ends_records, takes_back, writes_word, writes_words}

-- a step that tells nothing, takes no number, and opens no call
abbrev pub is_silent : Step → Bool
is_silent (Draw n) = false
is_silent (NumberSeen n) = false
is_silent (Tell operation reply) = false
is_silent s = true

abbrev pub AreSilent : List Step → Type 0
AreSilent steps = AllByRecursion (λ s. is_silent s ≡ true) steps

-- what it leaves
pub record IsAsTold (v w : View) : Type 0 where
  pub call : w.call ≡ v.call
  pub entries : w.entries ≡ v.entries
  pub number : w.number ≡ v.number
  pub fixed : w.fixed ≡ v.fixed

pub told_same : (v : View) → IsAsTold v v
told_same v = record { call = refl; entries = refl; number = refl; fixed = refl }

pub told_then : (u v w : View) → IsAsTold u v → IsAsTold v w → IsAsTold u w
told_then u v w one more = record {
  call = more.call ∙ one.call;
  entries = more.entries ∙ one.entries;
  number = more.number ∙ one.number;
  fixed = more.fixed ∙ one.fixed;
}

occupied_same : (won : Bool) (v : View) (at : Occ) (bits : ℕ)
    → IsAsTold v (occupied won v at bits)
occupied_same true v at bits = record { call = refl; entries = refl; number = refl; fixed = refl }
occupied_same false v at bits = told_same v

pub silent_step : (v : View) (s : Step) → is_silent s ≡ true → IsAsTold v (after v s)
silent_step v (Load w x) e = record { call = refl; entries = refl; number = refl; fixed = refl }
silent_step v (Store w x) e = record { call = refl; entries = refl; number = refl; fixed = refl }
silent_step v (Or w bits found) e = record { call = refl; entries = refl; number = refl; fixed = refl }
silent_step v (And w bits found) e = record { call = refl; entries = refl; number = refl; fixed = refl }
silent_step v (Flush line) e = record { call = refl; entries = refl; number = refl; fixed = refl }
silent_step v Drain e = record { call = refl; entries = refl; number = refl; fixed = refl }
silent_step v (TakeWrite line won) e = record { call = refl; entries = refl; number = refl; fixed = refl }
silent_step v (TakeRead line won) e = record { call = refl; entries = refl; number = refl; fixed = refl }
silent_step v (Raise line won) e = record { call = refl; entries = refl; number = refl; fixed = refl }
silent_step v (Give line) e = record { call = refl; entries = refl; number = refl; fixed = refl }
silent_step v (ZoneTry zone won) e = record { call = refl; entries = refl; number = refl; fixed = refl }
silent_step v (ZoneGive zone) e = record { call = refl; entries = refl; number = refl; fixed = refl }
silent_step v (Occupied at found) e = record { call = refl; entries = refl; number = refl; fixed = refl }
silent_step v (Occupy at bits won) e =
    let o = occupied_same won v at bits in
    record { call = o.call; entries = o.entries; number = o.number; fixed = o.fixed }
silent_step v (Vacate at bits) e = record { call = refl; entries = refl; number = refl; fixed = refl }
silent_step v (Draw n) e = absurd (both_ways false refl e)
silent_step v (NumberSeen n) e = absurd (both_ways false refl e)
silent_step v (StopSeen set) e = record { call = refl; entries = refl; number = refl; fixed = refl }
silent_step v SetStop e = record { call = refl; entries = refl; number = refl; fixed = refl }
silent_step v (Tell operation reply) e = absurd (both_ways false refl e)

pub silent_steps : (v : View) (steps : List Step) → AreSilent steps
    → IsAsTold v (after_all v steps)
unfolding after_all
silent_steps v [] are = told_same v
silent_steps v (s ∷ steps) are = told_then v (after v s) (after_all (after v s) steps)
    (silent_step v s are.0) (silent_steps (after v s) steps are.1)

-- and so do the first of them
pub silent_so_far : (v : View) (steps : List Step) (k : ℕ) → AreSilent steps
    → IsAsTold v (after_all v (take k steps))
unfolding after_all
silent_so_far v steps zero are = told_same v
silent_so_far v [] (suc k) are = told_same v
silent_so_far v (s ∷ steps) (suc k) are = told_then v (after v s) _ (silent_step v s are.0)
    (silent_so_far (after v s) steps k are.1)

-- ---- PLANS of such steps

abbrev pub IsSilentPlan : Plan → Type 0
IsSilentPlan plan = (v : View) → AreSilent (plan v)

pub silent_both : (one two : List Step) → AreSilent one → AreSilent two
    → AreSilent (one ++ two)
silent_both [] two a b = b
silent_both (s ∷ one) two a b = (a.0, silent_both one two a.1 b)

pub silent_map : {A : Type 0} (f : A → Step) → ((x : A) → is_silent (f x) ≡ true)
    → (xs : List A) → AreSilent (map f xs)
silent_map f each [] = tt
silent_map f each (x ∷ xs) = (each x, silent_map f each xs)

pub silent_turn : (a b : Plan) → IsSilentPlan a → IsSilentPlan b → IsSilentPlan (in_turn a b)
unfolding in_turn
silent_turn a b one two v =
    silent_both (a v) (b (after_all v (a v))) (one v) (two (after_all v (a v)))

silent_nothing : IsSilentPlan nothing
unfolding nothing
silent_nothing v = tt

silent_one : (s : Step) → is_silent s ≡ true → IsSilentPlan (one s)
unfolding one
silent_one s e v = (e, tt)

pub silent_times : (plans : ℕ → Plan) → ((n : ℕ) → IsSilentPlan (plans n)) → (n : ℕ)
    → IsSilentPlan (repeated plans n)
unfolding repeated
silent_times plans each zero = silent_nothing
silent_times plans each (suc n) =
    silent_turn (repeated plans n) (plans n) (silent_times plans each n) (each n)

pub silent_look : (w : ℕ) → IsSilentPlan (looks w)
unfolding looks
silent_look w v = (refl, tt)

silent_flushes : IsSilentPlan flushes
unfolding flushes
silent_flushes v = silent_map Flush (λ l. refl) _

silent_drains : IsSilentPlan drains
unfolding drains
silent_drains v = by (length v.changes == 0) where
  by : (b : Bool) → AreSilent (if b then [] else Drain ∷ [])
  by true = tt
  by false = (refl, tt)

pub silent_persists : IsSilentPlan persists_all
unfolding persists_all
silent_persists = silent_turn flushes drains silent_flushes silent_drains

silent_line : (line : ℕ) → IsSilentPlan (persists line)
unfolding persists
silent_line line = silent_turn (one (Flush line)) (one Drain) (silent_one (Flush line) refl)
    (silent_one Drain refl)

pub silent_room : IsSilentPlan makes_room
unfolding makes_room
silent_room v = by (nat_lt (length v.changes) max_changes) where
  by : (b : Bool) → AreSilent (if b then [] else persists_all v)
  by true = tt
  by false = silent_persists v

pub silent_store : (w x : ℕ) → IsSilentPlan (stores w x)
unfolding stores
silent_store w x =
    silent_turn makes_room (one (Store w x)) silent_room (silent_one (Store w x) refl)

silent_stores : (w : ℕ) (xs : List ℕ) → IsSilentPlan (stores_from w xs)
unfolding stores_from
silent_stores w xs = silent_times (λ i. stores (w + i) (slice_index xs i))
    (λ i. silent_store (w + i) (slice_index xs i)) (length xs)

-- ---- undo logging

silent_words : (w n : ℕ) → IsSilentPlan (looks_from w n)
unfolding looks_from
silent_words w n = silent_times (λ i. looks (w + i)) (λ i. silent_look (w + i)) n

silent_spans : (spans : List Span) → IsSilentPlan (looks_at spans)
unfolding looks_at looks_first
silent_spans spans = silent_times (λ i. looks_from (span_at spans i).word (span_at spans i).count)
    (λ i. silent_words (span_at spans i).word (span_at spans i).count) (length spans)

silent_record : (sh : Shape) (lane generation slot : ℕ) (r : KeptRecord)
    → IsSilentPlan (writes_record sh lane generation slot r)
unfolding writes_slot
silent_record sh lane generation slot r =
    silent_turn (stores_from (8 * line_of_slot sh lane slot) (slot_of generation r))
    (one (Flush (line_of_slot sh lane slot)))
    (silent_stores (8 * line_of_slot sh lane slot) (slot_of generation r))
    (silent_one (Flush (line_of_slot sh lane slot)) refl)

silent_logs : (sh : Shape) (lane generation slot : ℕ) (records : List KeptRecord)
    → IsSilentPlan (logs sh lane generation slot records)
unfolding logs writes_all writes_records
silent_logs sh lane generation slot [] = silent_nothing
silent_logs sh lane generation slot (r ∷ records) =
    silent_turn (writes_records sh lane generation slot (r ∷ records)) (one Drain)
    (silent_times
    (λ i. writes_record sh lane generation (slot + i) (record_at (r ∷ records) i))
    (λ i. silent_record sh lane generation (slot + i) (record_at (r ∷ records) i))
    (length (r ∷ records)))
    (silent_one Drain refl)

silent_here : (sh : Shape) (generation slot : ℕ) (records : List KeptRecord)
    → IsSilentPlan (logs_here sh generation slot records)
unfolding logs_here
silent_here sh generation slot records v = silent_logs sh v.fixed.lane generation slot records v

pub silent_snapshots : (place len : ℕ) → IsSilentPlan (snapshots place len)
unfolding snapshots records_all
silent_snapshots place len v =
    let spans : List Span = plan_of (kept_by v) place len in
    silent_turn (looks_at spans) (logs_here v.fixed.shape v.log.generation (length v.log.records)
    (map (kept_in v) spans)) (silent_spans spans)
    (silent_here v.fixed.shape v.log.generation (length v.log.records) (map (kept_in v) spans)) v

pub silent_restores : IsSilentPlan restores
unfolding restores puts_back restores_record
silent_restores v =
    let back : ℕ → Plan = λ i. restores_record (record_at (kept_by v) i) in
    silent_turn (puts_back (kept_by v)) persists_all
    (silent_times back (λ i. silent_stores (record_at (kept_by v) i).word
    (take (record_at (kept_by v) i).count (record_at (kept_by v) i).old)) (length (kept_by v)))
    silent_persists v

pub silent_retires : IsSilentPlan retires
unfolding retires ends_word
silent_retires v =
    let w : ℕ = word_of_generation v.fixed.shape v.fixed.lane in
    silent_turn (stores w (v.log.generation + 1)) (persists (w / 8))
    (silent_store w (v.log.generation + 1)) (silent_line (w / 8)) v

-- ---- redo logging

silent_pair : (sh : Shape) (lane i : ℕ) (e : Redo) → IsSilentPlan (writes_pair sh lane i e)
unfolding writes_pair
silent_pair sh lane i e = silent_stores (word_of_entry sh lane i) (redo_words e)

silent_ends : (sh : Shape) (lane i : ℕ) (e : Redo) → IsSilentPlan (ends_entries sh lane i e)
unfolding ends_entries
silent_ends sh lane i e =
    silent_turn (writes_pair sh lane i e) persists_all (silent_pair sh lane i e) silent_persists

pub silent_log : (entries : List Redo) → IsSilentPlan (writes_log entries)
unfolding writes_log writes_entries writes_pairs
silent_log entries v =
    let sh : Shape = v.fixed.shape in
    let lane : ℕ = v.fixed.lane in
    let e : Redo = ending sh lane v.log.generation in
    silent_turn (writes_pairs sh lane entries) (ends_entries sh lane (length entries) e)
    (silent_times (λ i. writes_pair sh lane i (entry_at entries i))
    (λ i. silent_pair sh lane i (entry_at entries i)) (length entries))
    (silent_ends sh lane (length entries) e) v

pub silent_seal : (w n : ℕ) → IsSilentPlan (writes_seal w n)
unfolding writes_seal
silent_seal w n =
    silent_turn (stores w n) (persists (w / 8)) (silent_store w n) (silent_line (w / 8))

silent_does : (o : Op) (w x found : ℕ) → IsSilentPlan (does o w x found)
unfolding ors ands
silent_does op.Set w x found = silent_store w x
silent_does op.Or w x found =
    silent_turn makes_room (one (Or w x found)) silent_room (silent_one (Or w x found) refl)
silent_does op.And w x found =
    silent_turn makes_room (one (And w x found)) silent_room (silent_one (And w x found) refl)

pub silent_applies : (found : ℕ → ℕ) → IsSilentPlan (applies found)
unfolding applies applies_all applies_each applies_entry
silent_applies found v =
    let es : List Redo = listed_entries v in
    silent_turn (applies_each es found) persists_all
    (silent_times (λ i. applies_entry (entry_at es i) (found i))
    (λ i. silent_does (entry_at es i).op ((entry_at es i).place / 8) (entry_at es i).value
    (found i))
    (length es)) silent_persists v

pub silent_performs : (found : ℕ → ℕ) → IsSilentPlan (performs found)
unfolding performs seals clears
silent_performs found = silent_turn seals (in_turn (applies found) clears)
    (λ v. silent_seal (word_of_seal v.fixed.shape v.fixed.lane) (length v.log.entries) v)
    (silent_turn (applies found) clears (silent_applies found)
    (λ v. silent_seal (word_of_seal v.fixed.shape v.fixed.lane) 0 v))

-- ---- parts of a transaction

silent_word : (place : ℕ) (bytes : List ℕ) (w : ℕ) → IsSilentPlan (writes_word place bytes w)
unfolding writes_word
silent_word place bytes w v =
    let x : ℕ = written_word place bytes w (known_word v w) in
    silent_turn (looks w) (stores w x) (silent_look w) (silent_store w x) v

pub silent_writes : (place : ℕ) (bytes : List ℕ) → IsSilentPlan (writes_words place bytes)
unfolding writes_words
silent_writes place bytes = silent_times (λ i. writes_word place bytes (place / 8 + i))
    (λ i. silent_word place bytes (place / 8 + i)) (length (covered_words place (length bytes)))

pub silent_back : IsSilentPlan takes_back
silent_back v = by (length v.log.records == 0) where
  by : (b : Bool) → AreSilent (if b then persists_all v else in_turn restores retires v)
  by true = silent_persists v
  by false = silent_turn restores retires silent_restores silent_retires v

pub silent_ends_records : IsSilentPlan ends_records
silent_ends_records v = by (length v.log.records == 0) where
  by : (b : Bool) → AreSilent (if b then [] else retires v)
  by true = tt
  by false = silent_retires v
