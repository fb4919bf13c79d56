-- Sequences of a transaction that store no slot word: behind each of their steps a lane that was quiet is so still.
use Rattle.std.proofs.Common.{◌≡◌, ◌⊎◌, inl, inr, ℕ, ◌+◌, ◌/◌, ◌<◌, ◌≤◌, Bool, true, false, All, List, [], ◌∷◌, ◌++◌, length, length-append, map, take, Option, None, Some, refl, sym, ap, ◌∙◌, subst, arith, bit_or, ⊎_elim, bit_and, Contains, slice_index}
use Rattle.std.proofs.lemmas.Bool.{false≢true}
use Rattle.std.proofs.lemmas.List.Elements.{All-append, All-cons, All-get_or, All-nil, All-weaker, Contains-append_cases}
use Rattle.pm_record.specs.declared.redo.Op.{Op}
use Rattle.pm_record.specs.declared.redo.Op.TheVariants.{Set, Or, And}
use Rattle.solo_crash.specs.Writes.{written_word}
use Rattle.pm_objects.specs.declared.calls.Operation.{Operation}
use Rattle.pm_objects.specs.declared.calls.Operation.TheVariants.{Commit, Read, Write}
use Rattle.pm_objects.specs.declared.history.Value.TheVariants.{Bytes}
use Rattle.pm_objects.specs.declared.history.Value.{Value}
use Rattle.pm_objects.specs.declared.ids.Oid.{Oid}
use Rattle.pm_record.specs.Redo.{op_code}
use Rattle.pm_record.specs.declared.redo.Redo.{Redo}
use Rattle.solo_redo.proofs.PairWords.{pair_part, seal_part}
use Rattle.solo_redo.proofs.Whole.{may_outside}
use Rattle.solo_redo.specs.Entering.{MayEnter, ending}
use Rattle.solo_redo.specs.Sequences.{applies, applies_each, applies_entry, ending_of, entry_at, logs, no_entry, performs, performs_on, stores_two, writes_entries, writes_log, writes_pair, writes_pairs, writes_seal, does}
use Rattle.solo_undo.specs.Sequences.{ends_generation, persists, restores, retires}
use Rattle.solo_undo.specs.Working.{IsWorking}
use Rattle.solo_view.specs.Area.{Part, area_word, is_in_area, part_of}
use Rattle.solo_view.specs.Area.Part.{EntryWord, SealWord}
use Rattle.solo_view.specs.Log.{Log, Phase, log_stored, with_pair, log_changed}
use Rattle.solo_view.specs.Log.Phase.{Applying, Clearing, Drawn, Idle, Open, Retiring, Sealing}
use Rattle.solo_view.specs.Steps.{Step}
use Rattle.solo_view.specs.Steps.Step.{Or as Or_step, And as And_step, Draw, Give, NumberSeen, Store, Tell}
use Rattle.solo_view.specs.View.{View}
use Rattle.solo_view.specs.Views.{after, after_all, changed}
use Rattle.solo_world.specs.Lanes.{span_of}
use Rattle.solo_world.specs.Entries.{entry_word}
use Rattle.solo_world.specs.Sequences.{Sequence, in_turn, looks, one, settles, stores, finds_in, ors, makes_room, ands}
use Rattle.solo_world.specs.declared.lane.HeldLock.{HeldLock}
use Rattle.solo_world.specs.declared.lane.Span.{Span}
use Rattle.solo_lock.specs.Locking.{gives, line_at, takes}
use Rattle.solo_transaction.specs.Published.{logs_call}
use Rattle.solo_tx.proofs.Retirement.{records_beside}
use Rattle.solo_tx.proofs.StepKinds.{Each, HasOnly, HasQuietSteps, each_first, each_more, only_by_lane, only_counted, only_in_turn, only_looks, only_looks_from, only_nothing, only_one, only_persists, only_restores, only_settles, only_stores, only_with_generation, only_with_word, only_makes_room}
use Rattle.solo_tx.specs.Ranges.{reads_range, writes_range}
use Rattle.solo_tx.specs.Sequences.{commits, decides, decides_all, ends_call, gives_up, performs_logged, publishes, reads, retires_any, sees_generation, starts, takes_back, undoes, word_count, writes, writes_word}
use Rattle.solo_exec.specs.Quiet.{IsQuiet, MakesNone}
use Rattle.solo_exec.proofs.QuietSlots.{IsCalm, quiet_after, quiet_at, quiet_store}
use Rattle.pm_image.proofs.Members.{only_member}
use Rattle.solo_undo.proofs.Areas.{in_area}
use Rattle.solo_view.specs.Changes.{or_change, and_change}
use Rattle.solo_view.specs.declared.change.Change.{Change}

pub calm_steps : HasQuietSteps IsCalm
calm_steps = record { load = λ w x. tt; flush = λ line. tt; drain = tt }

-- a sequence all of whose steps are calm, from a quiet lane
pub quiet_by : (steps : Sequence) → HasOnly IsCalm steps → (v : View) (k : ℕ) → IsQuiet v → IsQuiet (after_all v (take k (steps v)))
quiet_by steps only v k quiet = quiet_at v (steps v) k quiet (only v quiet.lane)

calm_writes : (id : Oid) (off : ℕ) (bytes : List ℕ) → ((u : ℕ) → u < word_count (id.off + off) (length bytes) → is_in_area 0 ((id.off + off) / 8 + u) ≡ false) → HasOnly IsCalm (writes_range id off bytes)
unfolding writes_range writes writes_word
calm_writes id off bytes outside =
    let place : ℕ = id.off + off in
    only_in_turn IsCalm (writes place bytes) (one (Tell (Write id off bytes) None))
    (only_counted IsCalm (λ i. writes_word place bytes (place / 8 + i)) (word_count place (length bytes))
    (λ i below. only_with_word IsCalm calm_steps (place / 8 + i) (λ x. stores (place / 8 + i) (written_word place bytes (place / 8 + i) x))
    (λ x. only_stores IsCalm calm_steps (place / 8 + i) (written_word place bytes (place / 8 + i) x) (inr (outside i below)))))
    (only_one IsCalm (Tell (Write id off bytes) None) tt)

calm_ends : (operation : Operation) (reply : Option Value) (n : ℕ) → HasOnly IsCalm (ends_call operation reply n)
unfolding ends_call
calm_ends operation reply n = only_in_turn IsCalm (one (Tell operation reply)) (one (Draw n)) (only_one IsCalm (Tell operation reply) tt) (only_one IsCalm (Draw n) tt)

-- the end of a generation stores that alone
calm_retires : HasOnly IsCalm retires
unfolding retires ends_generation
calm_retires =
    only_with_generation IsCalm calm_steps ends_generation
    (λ x. only_in_turn IsCalm (stores (area_word 0) (x + 1)) (persists (area_word 0 / 8))
    (only_stores IsCalm calm_steps (area_word 0) (x + 1) (inl refl))
    (only_persists IsCalm calm_steps (area_word 0 / 8)))

calm_retires_any : (spans : List Span) → HasOnly IsCalm (retires_any spans)
unfolding retires_any
calm_retires_any [] = only_nothing IsCalm
calm_retires_any (s ∷ spans) = calm_retires

calm_decides : (spans : List Span) (n : ℕ) → HasOnly IsCalm (decides spans n)
unfolding decides
calm_decides spans n = only_in_turn IsCalm (ends_call Commit None n) (retires_any spans) (calm_ends Commit None n) (calm_retires_any spans)

-- a step that stores a word of an entry's pair, or the seal, or sets or clears bits of a word outside of the area
abbrev IsOfLog : Step → Type 0
IsOfLog (Store w x) = (w < area_word 0 + 136) × ((part_of 0 w ≡ EntryWord) ⊎ (part_of 0 w ≡ SealWord))
IsOfLog (Or_step w bits found) = is_in_area 0 w ≡ false
IsOfLog (And_step w bits found) = is_in_area 0 w ≡ false
IsOfLog s = ⊥

-- a step that stores no slot word, but may store one of the redo log
abbrev IsSlotless : Step → Type 0
IsSlotless s = IsCalm s ⊎ IsOfLog s

slotless_steps : HasQuietSteps IsSlotless
slotless_steps = record { load = λ w x. inl tt; flush = λ line. inl tt; drain = inl tt }

only_slotless : (steps : Sequence) → HasOnly IsCalm steps → HasOnly IsSlotless steps
only_slotless steps only v lane = each_more IsCalm IsSlotless (λ s calm. inl calm) (steps v) (only v lane)

pair_unbegun : (log : Log) (pair : List ℕ) → MakesNone (with_pair log [] pair).phase
pair_unbegun log [] = tt
pair_unbegun log (a ∷ []) = tt
pair_unbegun log (a ∷ b ∷ []) = tt
pair_unbegun log (a ∷ b ∷ c ∷ pair) = tt

entry_unbegun : (x : ℕ) (log : Log) (p : Phase) → log.phase ≡ p → MakesNone p → MakesNone (log_stored p EntryWord x log).phase
entry_unbegun x log (Open [] pair) is un = pair_unbegun log (pair ++ x ∷ [])
entry_unbegun x log (Open (y ∷ slot) pair) is un = absurd un
entry_unbegun x log (Applying applied) is un = tt
entry_unbegun x log Idle is un = subst MakesNone (sym is) un
entry_unbegun x log Drawn is un = subst MakesNone (sym is) un
entry_unbegun x log Sealing is un = subst MakesNone (sym is) un
entry_unbegun x log Clearing is un = subst MakesNone (sym is) un
entry_unbegun x log Retiring is un = subst MakesNone (sym is) un

seal_unbegun : (x : ℕ) (log : Log) (p : Phase) → log.phase ≡ p → MakesNone p → MakesNone (log_stored p SealWord x log).phase
seal_unbegun x log Drawn is un = tt
seal_unbegun x log (Applying applied) is un = tt
seal_unbegun x log (Open slot pair) is un = subst MakesNone (sym is) un
seal_unbegun x log Idle is un = subst MakesNone (sym is) un
seal_unbegun x log Sealing is un = subst MakesNone (sym is) un
seal_unbegun x log Clearing is un = subst MakesNone (sym is) un
seal_unbegun x log Retiring is un = subst MakesNone (sym is) un

log_unbegun : (x : ℕ) (log : Log) (part : Part) → (part ≡ EntryWord) ⊎ (part ≡ SealWord) → MakesNone log.phase → MakesNone (log_stored log.phase part x log).phase
log_unbegun x log part (inl entry) un = subst (λ (p : Part). MakesNone (log_stored log.phase p x log).phase) (sym entry) (entry_unbegun x log log.phase refl un)
log_unbegun x log part (inr seal) un = subst (λ (p : Part). MakesNone (log_stored log.phase p x log).phase) (sym seal) (seal_unbegun x log log.phase refl un)

-- such a word lies before the slots
quiet_before_slots : (v : View) (w x : ℕ) → IsQuiet v → IsOfLog (Store w x) → IsQuiet (after v (Store w x))
quiet_before_slots v w x quiet of_log =
    quiet_store v w x quiet (λ slots. let low = slots.low in let below = of_log.0 in omega (arith, low, below))
    (log_unbegun x v.log (part_of v.lane w) (subst (λ n. (part_of n w ≡ EntryWord) ⊎ (part_of n w ≡ SealWord)) (sym quiet.lane) of_log.1) quiet.unbegun)

changed_unbegun : (log : Log) (p : Phase) → log.phase ≡ p → MakesNone p → MakesNone (log_changed p log).phase
changed_unbegun log (Applying applied) is un = tt
changed_unbegun log (Open slot pair) is un = subst MakesNone (sym is) un
changed_unbegun log Idle is un = subst MakesNone (sym is) un
changed_unbegun log Drawn is un = subst MakesNone (sym is) un
changed_unbegun log Sealing is un = subst MakesNone (sym is) un
changed_unbegun log Clearing is un = subst MakesNone (sym is) un
changed_unbegun log Retiring is un = subst MakesNone (sym is) un

quiet_bits : (v : View) (w y : ℕ) (c : Change) → c.word ≡ w → IsQuiet v → is_in_area 0 w ≡ false → IsQuiet (changed v w y c (log_changed v.log.phase v.log))
quiet_bits v w y c word quiet out = record {
  lane = quiet.lane;
  unchanged = λ d there slots. ⊎_elim
      (λ (old : Contains v.changes d). quiet.unchanged d old slots)
      (λ (last : Contains (c ∷ []) d).
      let same : w ≡ d.word = sym word ∙ ap (λ (e : Change). e.word) (only_member c d last) in
      let low = slots.low in let high = slots.high in
      false≢true (sym out ∙ in_area 0 w (omega (arith, low, same)) (omega (arith, high, same))))
      (Contains-append_cases v.changes (c ∷ []) d there);
  unbegun = changed_unbegun v.log v.log.phase refl quiet.unbegun;
}

quiet_slotless : (v : View) (s : Step) → IsQuiet v → IsSlotless s → IsQuiet (after v s)
quiet_slotless v s quiet (inl calm) = quiet_after v s quiet calm
quiet_slotless v (Store w x) quiet (inr of_log) = quiet_before_slots v w x quiet of_log
quiet_slotless v (Or_step w bits found) quiet (inr of_log) = quiet_bits v w (bit_or found bits) (or_change w bits found) refl quiet of_log
quiet_slotless v (And_step w bits found) quiet (inr of_log) = quiet_bits v w (bit_and found bits) (and_change w bits found) refl quiet of_log
quiet_slotless v s quiet (inr of_log) = absurd of_log

quiet_all : (v : View) (steps : List Step) → IsQuiet v → Each IsSlotless steps → IsQuiet (after_all v steps)
unfolding Each after_all
quiet_all v [] quiet each = quiet
quiet_all v (s ∷ steps) quiet each = quiet_all (after v s) steps (quiet_slotless v s quiet each.0) each.1

-- entries are logged
only_pair : (i : ℕ) (e : Redo) → i < 64 → HasOnly IsSlotless (writes_pair 0 i e)
unfolding writes_pair stores_two
only_pair i e low =
    let word : ℕ = entry_word 0 i in
    let first = (pair_part 0 i 0 word low (omega arith) (omega arith)).0 in
    let second = (pair_part 0 i 1 (word + 1) low (omega arith) refl).0 in
    only_in_turn IsSlotless (stores word (e.place + op_code e.op)) (stores (word + 1) e.value)
    (only_stores IsSlotless slotless_steps word (e.place + op_code e.op) (inr (omega (arith, low), inl first)))
    (only_stores IsSlotless slotless_steps (word + 1) e.value (inr (omega (arith, low), inl second)))

only_entries : (all : List Redo) → length all ≤ 64 → HasOnly IsSlotless (writes_entries 0 all)
unfolding writes_entries writes_pairs
only_entries all few =
    only_in_turn IsSlotless (writes_pairs 0 all) settles
    (only_counted IsSlotless (λ i. writes_pair 0 i (entry_at all i)) (length all) (λ i below. only_pair i (entry_at all i) (omega (arith, below, few))))
    (only_settles IsSlotless slotless_steps)

only_logs : (entries : List Redo) → length entries ≤ 63 → HasOnly IsSlotless (logs entries)
unfolding logs
only_logs entries few =
    only_with_generation IsSlotless slotless_steps (writes_log entries)
    (λ x. only_entries (entries ++ ending_of 0 x ∷ []) (let more = length-append entries (ending_of 0 x ∷ []) in omega (arith, more, few)))

-- and performed, each of which is of a word outside of the area, or sets the generation
abbrev SetsNoSlot : Redo → Type 0
SetsNoSlot e = (is_in_area 0 (e.place / 8) ≡ false) ⊎ ((e.place / 8 ≡ 512) × (e.op ≡ Set))

-- bits of a word outside of the area are set or cleared
only_finds : (w : ℕ) (s : ℕ → Step) → ((x : ℕ) → IsSlotless (s x)) → HasOnly IsSlotless (in_turn makes_room (finds_in w s))
unfolding finds_in Each
only_finds w s is = only_in_turn IsSlotless makes_room (finds_in w s) (only_makes_room IsSlotless slotless_steps) (λ v lane. (is (slice_index v.words w), tt))

only_does : (op : Op) (w x : ℕ) → (is_in_area 0 w ≡ false) ⊎ ((w ≡ 512) × (op ≡ Set)) → HasOnly IsSlotless (does op w x)
unfolding ors ands
only_does Set w x sets = only_stores IsSlotless slotless_steps w x (inl (⊎_elim inr (λ (here : (w ≡ 512) × (Set ≡ Set)). inl here.0) sets))
only_does Or w x sets = only_finds w (Or_step w x) (λ found. inr (⊎_elim (λ (out : is_in_area 0 w ≡ false). out) (λ (here : (w ≡ 512) × (Or ≡ Set)). let clash = here.1 in absurd cc) sets))
only_does And w x sets = only_finds w (And_step w x) (λ found. inr (⊎_elim (λ (out : is_in_area 0 w ≡ false). out) (λ (here : (w ≡ 512) × (And ≡ Set)). let clash = here.1 in absurd cc) sets))

only_seal : (n : ℕ) → HasOnly IsSlotless (writes_seal 0 n)
unfolding writes_seal
only_seal n =
    only_in_turn IsSlotless (stores (area_word 0 + 1) n) (persists (area_word 0 / 8))
    (only_stores IsSlotless slotless_steps (area_word 0 + 1) n (inr (omega arith, inr (seal_part 0).0)))
    (only_persists IsSlotless slotless_steps (area_word 0 / 8))

only_applies : (all : List Redo) → All SetsNoSlot all → HasOnly IsSlotless (applies all)
unfolding applies applies_each applies_entry
only_applies all each =
    only_in_turn IsSlotless (applies_each all) settles
    (only_counted IsSlotless (λ i. applies_entry (entry_at all i)) (length all)
    (λ i below. only_does (entry_at all i).op ((entry_at all i).place / 8) (entry_at all i).value (All-get_or SetsNoSlot all i no_entry below each)))
    (only_settles IsSlotless slotless_steps)

only_performs : (all : List Redo) → All SetsNoSlot all → HasOnly IsSlotless (performs all)
unfolding performs performs_on
only_performs all each =
    only_by_lane IsSlotless (λ lane. performs_on lane all)
    (only_in_turn IsSlotless (writes_seal 0 (length all)) (in_turn (applies all) (writes_seal 0 0)) (only_seal (length all))
    (only_in_turn IsSlotless (applies all) (writes_seal 0 0) (only_applies all each) (only_seal 0)))

only_performs_logged : (entries : List Redo) → All SetsNoSlot entries → HasOnly IsSlotless (performs_logged entries)
unfolding performs_logged
only_performs_logged entries each v lane =
    only_performs (entries ++ ending v ∷ []) (All-append SetsNoSlot entries (ending v ∷ []) each (All-cons SetsNoSlot (ending v) [] (inr (omega (arith, lane), refl)) (All-nil SetsNoSlot))) v lane

only_publishes : (entries : List Redo) (operation : Operation) (n : ℕ) → length entries ≤ 63 → All SetsNoSlot entries → HasOnly IsSlotless (publishes entries operation n)
unfolding publishes
only_publishes entries operation n few each =
    only_in_turn IsSlotless (logs entries) (in_turn (ends_call operation None n) (performs_logged entries)) (only_logs entries few)
    (only_in_turn IsSlotless (ends_call operation None n) (performs_logged entries) (only_slotless (ends_call operation None n) (calm_ends operation None n)) (only_performs_logged entries each))

only_decides_all : (spans : List Span) (entries : List Redo) (n : ℕ) → length entries ≤ 63 → All SetsNoSlot entries → HasOnly IsSlotless (decides_all spans entries n)
unfolding decides_all
only_decides_all spans [] n few each = only_slotless (decides spans n) (calm_decides spans n)
only_decides_all spans (e ∷ entries) n few each = only_publishes (e ∷ entries) Commit n few each

only_commits : (spans : List Span) (entries : List Redo) (n : ℕ) → length entries ≤ 63 → All SetsNoSlot entries → HasOnly IsSlotless (commits spans entries n)
unfolding commits
only_commits spans entries n few each =
    only_in_turn IsSlotless settles (decides_all spans entries n) (only_settles IsSlotless slotless_steps) (only_decides_all spans entries n few each)

-- entries that lane 0 may enter are outside of its area
pool_sets : (v : View) (entries : List Redo) → v.lane ≡ 0 → All (MayEnter v) entries → All SetsNoSlot entries
pool_sets v entries lane each = All-weaker (MayEnter v) SetsNoSlot (λ e may. inl (ap (λ n. is_in_area n (e.place / 8)) (sym lane) ∙ may_outside v e may)) entries each

-- recorded words are put back, none of which is of a slot
module _ (v : View) (working : IsWorking v) (lane : v.lane ≡ 0) where
  calm_undoes : HasOnly IsCalm (undoes (map span_of v.log.records))
  unfolding undoes
  calm_undoes =
      only_in_turn IsCalm (restores (map span_of v.log.records)) retires
      (only_restores IsCalm calm_steps (map span_of v.log.records) (λ slot i x low below. inr (records_beside v lane working slot i x low below)))
      calm_retires

  calm_takes_back : (spans : List Span) → map span_of v.log.records ≡ spans → HasOnly IsCalm (takes_back spans)
  unfolding takes_back
  calm_takes_back [] are = only_settles IsCalm calm_steps
  calm_takes_back (s ∷ spans) are = subst (λ all. HasOnly IsCalm (undoes all)) are calm_undoes

  calm_gives_up : (spans : List Span) (operation : Operation) (reply : Option Value) (n : ℕ) → spans ≡ map span_of v.log.records → HasOnly IsCalm (gives_up spans operation reply n)
  unfolding gives_up
  calm_gives_up spans operation reply n are = only_in_turn IsCalm (takes_back spans) (ends_call operation reply n) (calm_takes_back spans (sym are)) (calm_ends operation reply n)

pub quiet_in_write : (v : View) (id : Oid) (off : ℕ) (bytes : List ℕ) (k : ℕ) → IsQuiet v → ((u : ℕ) → u < word_count (id.off + off) (length bytes) → is_in_area 0 ((id.off + off) / 8 + u) ≡ false) → IsQuiet (after_all v (take k (writes_range id off bytes v)))
quiet_in_write v id off bytes k quiet outside = quiet_by (writes_range id off bytes) (calm_writes id off bytes outside) v k quiet

-- nor does a call that one log decides
pub quiet_in_log : (v : View) (entries : List Redo) (operation : Operation) (n k : ℕ) → IsQuiet v → length entries ≤ 63 → All (MayEnter v) entries → IsQuiet (after_all v (take k (logs_call operation entries n v)))
unfolding logs_call
quiet_in_log v entries operation n k quiet few each =
    let steps : List Step = logs_call operation entries n v in
    quiet_all v (take k steps) quiet
    (each_first IsSlotless k steps (only_in_turn IsSlotless settles (publishes entries operation n) (only_settles IsSlotless slotless_steps) (only_publishes entries operation n few (pool_sets v entries quiet.lane each)) v quiet.lane))

-- nor does a commit
pub quiet_in_commit : (v : View) (spans : List Span) (entries : List Redo) (n k : ℕ) → IsQuiet v → length entries ≤ 63 → All (MayEnter v) entries → IsQuiet (after_all v (take k (commits spans entries n v)))
quiet_in_commit v spans entries n k quiet few each =
    let steps : List Step = commits spans entries n v in
    quiet_all v (take k steps) quiet (each_first IsSlotless k steps (only_commits spans entries n few (pool_sets v entries quiet.lane each) v quiet.lane))

pub quiet_in_give_up : (v : View) (spans : List Span) (operation : Operation) (reply : Option Value) (n k : ℕ) → IsQuiet v → IsWorking v → spans ≡ map span_of v.log.records
    → IsQuiet (after_all v (take k (gives_up spans operation reply n v)))
quiet_in_give_up v spans operation reply n k quiet working are = quiet_by (gives_up spans operation reply n) (calm_gives_up v working quiet.lane spans operation reply n are) v k quiet
