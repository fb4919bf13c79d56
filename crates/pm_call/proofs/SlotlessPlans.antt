-- PLANS THAT LEAVE A LANE'S UNDO SLOTS ALONE: those of the operations other than `add`.
use Rattle.std.proofs.Common.{◌≡◌, inl, ℕ, zero, suc, ◌+◌, ◌/◌, ◌<◌, ◌≤◌, ◌==◌, Bool, true, false, if◌then◌else◌, nat_lt, List, [], ◌∷◌, ◌++◌, length, map, take, slice_index, subst, arith, Option, None}
use Rattle.std.specs.List.{AllByRecursion}
use Rattle.std.proofs.lemmas.List.{length-take}
use Rattle.pm_layout.specs.declared.shape.Shape.{Shape}
use Rattle.pm_layout.specs.Areas.{word_of_entry, word_of_generation}
use Rattle.pm_model.specs.Items.{number_bytes}
use Rattle.pm_model.specs.Transaction.{covered_words}
use Rattle.pm_objects.specs.declared.calls.Operation.{Operation}
use Rattle.pm_objects.specs.declared.calls.Operation.TheVariants.{Cancel, Commit, Increment, Read, Write}
use Rattle.pm_objects.specs.declared.history.Value.{Value}
use Rattle.pm_objects.specs.declared.ids.Oid.{Oid}
use Rattle.pm_record.specs.Redo.{redo_words}
use Rattle.pm_record.specs.declared.redo.Redo.{Redo}
use Rattle.pm_view.specs.Counts.{max_changes, unflushed_lines}
use Rattle.pm_view.specs.Log.{Open, Recorded}
use Rattle.pm_view.specs.Places.{place_after}
use Rattle.pm_view.specs.Steps.{Step}
use Rattle.pm_view.specs.Steps.Step.{Store, Flush, Drain, Draw, Tell}
use Rattle.pm_view.specs.View.{View, Constants}
use Rattle.pm_view.specs.Views.{after, after_all}
use Rattle.pm_world.specs.LaneFields.{kept_of, padded}
use Rattle.pm_world.specs.declared.lane.KeptRecord.{KeptRecord}
use Rattle.pm_crash.specs.Writes.{written_word}
use Rattle.pm_plan.specs.Notes.{IsBeyond}
use Rattle.pm_plan.specs.Plans.{Plan, Ready, drains, flushes, in_turn, known_word, looks, makes_room, nothing, one, persists, persists_all, repeated, stores, stores_from}
use Rattle.pm_plan.proofs.AreaParts.{data_beyond}
use Rattle.pm_plan.proofs.Plans.{ready_right}
use Rattle.pm_undo.specs.Plans.{ends_word, puts_back, restores, restores_record, retires}
use Rattle.pm_undo.specs.Records.{kept_by, record_at}
use Rattle.pm_undo.specs.Working.{IsNoSlot, IsStanding, IsWorking}
use Rattle.pm_redo.specs.Entries.{ending, entry_at}
use Rattle.pm_redo.specs.Plans.{ends_entries, performs, writes_entries, writes_log, writes_pair, writes_pairs}
use Rattle.pm_call.specs.Plans.{cancels, commits, commits_inner, ends_call, ends_records, finishes, gets, gives_up, increments, known_sum, logs_entries, performs_call, puts, takes_back, tells, writes_word, writes_words}
use Rattle.pm_call.proofs.SilentPlans.{AreSilent, silent_ends_records, silent_performs}
use Rattle.pm_call.proofs.Slotless.{AreSlotless, IsSlotless, IsUnslotted, beyond_no_slot, drawn_past, fixed_steps, past_so_far, slotless_all, slotless_so_far, working_unslotted}

-- ---- HOW PLANS OF SUCH STEPS ARE PUT TOGETHER

module _ (sh : Shape) (lane : ℕ) where
  abbrev IsSlotlessPlan : Plan → Type 0
  IsSlotlessPlan plan = (v : View) → AreSlotless sh lane (plan v)

  slotless_both : (xs ys : List Step) → AreSlotless sh lane xs → AreSlotless sh lane ys
      → AreSlotless sh lane (xs ++ ys)
  slotless_both [] ys a b = b
  slotless_both (s ∷ xs) ys a b = (a.0, slotless_both xs ys a.1 b)

  slotless_turn : (a b : Plan) → IsSlotlessPlan a → IsSlotlessPlan b → IsSlotlessPlan (in_turn a b)
  unfolding in_turn
  slotless_turn a b first second v =
      slotless_both (a v) (b (after_all v (a v))) (first v) (second (after_all v (a v)))

  slotless_one : (s : Step) → IsSlotless sh lane s → IsSlotlessPlan (one s)
  unfolding one
  slotless_one s is v = (is, tt)

  slotless_times : (plans : ℕ → Plan) (n : ℕ) → ((i : ℕ) → i < n → IsSlotlessPlan (plans i))
      → IsSlotlessPlan (repeated plans n)
  unfolding repeated nothing
  slotless_times plans zero each v = tt
  slotless_times plans (suc n) each v = slotless_turn (repeated plans n) (plans n)
      (slotless_times plans n (λ i low. each i (omega (arith, low)))) (each n (omega arith)) v

  slotless_look : (w : ℕ) → IsSlotlessPlan (looks w)
  unfolding looks
  slotless_look w v = (tt, tt)

  slotless_persists : IsSlotlessPlan persists_all
  unfolding persists_all flushes drains
  slotless_persists = slotless_turn flushes drains (λ v. lines (unflushed_lines v.changes))
      (λ v. by (length v.changes == 0))
    where
      lines : (ls : List ℕ) → AreSlotless sh lane (map Flush ls)
      lines [] = tt
      lines (l ∷ ls) = (tt, lines ls)

      by : (b : Bool) → AreSlotless sh lane (if b then [] else Drain ∷ [])
      by true = tt
      by false = (tt, tt)

  slotless_line : (line : ℕ) → IsSlotlessPlan (persists line)
  unfolding persists
  slotless_line line = slotless_turn (one (Flush line)) (one Drain) (slotless_one (Flush line) tt)
      (slotless_one Drain tt)

  slotless_room : IsSlotlessPlan makes_room
  unfolding makes_room
  slotless_room v = by (nat_lt (length v.changes) max_changes) where
    by : (b : Bool) → AreSlotless sh lane (if b then [] else persists_all v)
    by true = tt
    by false = slotless_persists v

  slotless_store : (w x : ℕ) → IsNoSlot sh lane w → IsSlotlessPlan (stores w x)
  unfolding stores
  slotless_store w x out =
      slotless_turn makes_room (one (Store w x)) slotless_room (slotless_one (Store w x) out)

  slotless_stores : (w : ℕ) (xs : List ℕ) → ((i : ℕ) → i < length xs → IsNoSlot sh lane (w + i))
      → IsSlotlessPlan (stores_from w xs)
  unfolding stores_from
  slotless_stores w xs out = slotless_times (λ i. stores (w + i) (slice_index xs i)) (length xs)
      (λ i low. slotless_store (w + i) (slice_index xs i) (out i low))

  -- ---- words of objects

  slotless_word : (place : ℕ) (bytes : List ℕ) (w : ℕ) → IsNoSlot sh lane w
      → IsSlotlessPlan (writes_word place bytes w)
  unfolding writes_word
  slotless_word place bytes w out v =
      let x : ℕ = written_word place bytes w (known_word v w) in
      slotless_turn (looks w) (stores w x) (slotless_look w) (slotless_store w x out) v

  slotless_writes : (place : ℕ) (bytes : List ℕ) → lane < sh.lanes → IsBeyond sh (place / 8)
      → IsSlotlessPlan (writes_words place bytes)
  unfolding writes_words
  slotless_writes place bytes low far = slotless_times
      (λ i. writes_word place bytes (place / 8 + i)) (length (covered_words place (length bytes)))
      (λ i within. slotless_word place bytes (place / 8 + i)
      (beyond_no_slot sh lane (place / 8 + i) low (omega (arith, far))))

  slotless_tells : (op : Operation) (reply : Option Value) → IsSlotlessPlan (tells op reply)
  slotless_tells op reply = slotless_one (Tell op reply) tt

  slotless_ends : (op : Operation) (reply : Option Value) (n : ℕ)
      → IsSlotlessPlan (ends_call op reply n)
  slotless_ends op reply n = slotless_turn (tells op reply) (one (Draw n)) (slotless_tells op reply)
      (slotless_one (Draw n) tt)

  -- ---- words of the log's other parts

  slotless_pair : (i : ℕ) (e : Redo) → i < 64 → IsSlotlessPlan (writes_pair sh lane i e)
  unfolding writes_pair
  slotless_pair i e few = slotless_stores (word_of_entry sh lane i) (redo_words e)
      (λ j low. inl (omega (arith, few, low)))

  slotless_entries : (entries : List Redo) (e : Redo) → length entries < 64
      → IsSlotlessPlan (writes_entries sh lane entries e)
  unfolding writes_entries writes_pairs ends_entries
  slotless_entries entries e few =
      let n : ℕ = length entries in
      slotless_turn (writes_pairs sh lane entries) (ends_entries sh lane n e)
      (slotless_times (λ i. writes_pair sh lane i (entry_at entries i)) n
      (λ i low. slotless_pair i (entry_at entries i) (omega (arith, few, low))))
      (slotless_turn (writes_pair sh lane n e) persists_all (slotless_pair n e few)
      slotless_persists)

-- ---- PLANS that draw no number

pub slotless_puts : (v : View) (id : Oid) (off : ℕ) (bytes : List ℕ)
    → v.fixed.lane < v.fixed.shape.lanes → v.fixed.shape.lanes ≤ 32
    → IsBeyond v.fixed.shape ((id.off + off) / 8)
    → AreSlotless v.fixed.shape v.fixed.lane (puts id off bytes v)
slotless_puts v id off bytes low lanes far =
    let sh : Shape = v.fixed.shape in
    let lane : ℕ = v.fixed.lane in
    slotless_turn sh lane (writes_words (id.off + off) bytes) (tells (Write id off bytes) None)
    (slotless_writes sh lane (id.off + off) bytes low far)
    (slotless_tells sh lane (Write id off bytes) None) v

pub slotless_increments : (v : View) (id : Oid) (off by : ℕ)
    → v.fixed.lane < v.fixed.shape.lanes → v.fixed.shape.lanes ≤ 32
    → IsBeyond v.fixed.shape ((id.off + off) / 8)
    → AreSlotless v.fixed.shape v.fixed.lane (increments id off by v)
slotless_increments v id off by low lanes far =
    let sh : Shape = v.fixed.shape in
    let lane : ℕ = v.fixed.lane in
    let bytes : List ℕ = number_bytes (known_sum v id off by) in
    slotless_turn sh lane (writes_words (id.off + off) bytes) (tells (Increment id off by) _)
    (slotless_writes sh lane (id.off + off) bytes low far)
    (slotless_tells sh lane (Increment id off by) _) v

pub slotless_gets : (v : View) (id : Oid) (off len : ℕ)
    → AreSlotless v.fixed.shape v.fixed.lane (gets id off len v)
slotless_gets v id off len =
    slotless_tells v.fixed.shape v.fixed.lane (Read id off len) _ v

pub slotless_cancels : (v : View) → AreSlotless v.fixed.shape v.fixed.lane (cancels v)
slotless_cancels v =
    let sh : Shape = v.fixed.shape in
    let lane : ℕ = v.fixed.lane in
    slotless_turn sh lane persists_all (tells Cancel None) (slotless_persists sh lane)
    (slotless_tells sh lane Cancel None) v

pub slotless_inner : (v : View) → AreSlotless v.fixed.shape v.fixed.lane (commits_inner v)
slotless_inner v = slotless_tells v.fixed.shape v.fixed.lane Commit None v

-- ---- AN ABORT: what is put back are words of data

kept_beyond : (v : View) (rs : List Recorded) (i j : ℕ) → AllByRecursion (IsStanding v) rs
    → i < length (map (kept_of v.fixed.shape) rs)
    → j < length (take (record_at (map (kept_of v.fixed.shape) rs) i).count
    (record_at (map (kept_of v.fixed.shape) rs) i).old)
    → IsBeyond v.fixed.shape ((record_at (map (kept_of v.fixed.shape) rs) i).word + j)
kept_beyond v [] i j all low within = absurd (omega (arith, low))
kept_beyond v (r ∷ rs) zero j all low within =
    let s = all.0 in
    let old : j < length r.old =
    let most = length-take (length r.old) (padded r.old) in omega (arith, within, most) in
    subst (IsBeyond v.fixed.shape) (s.row j old).1
    (data_beyond v.fixed.shape (place_after r.place j) (s.data_ j old))
kept_beyond v (r ∷ rs) (suc i) j all low within =
    kept_beyond v rs i j all.1 (omega (arith, low)) within

slotless_restores : (v : View) → IsWorking v
    → AreSlotless v.fixed.shape v.fixed.lane (restores v)
unfolding restores puts_back restores_record
slotless_restores v working =
    let sh : Shape = v.fixed.shape in
    let lane : ℕ = v.fixed.lane in
    let kept : List KeptRecord = kept_by v in
    slotless_turn sh lane (puts_back kept) persists_all
    (slotless_times sh lane (λ i. restores_record (record_at kept i)) (length kept)
    (λ i low. slotless_stores sh lane (record_at kept i).word
    (take (record_at kept i).count (record_at kept i).old)
    (λ j within. beyond_no_slot sh lane ((record_at kept i).word + j) working.lane
    (kept_beyond v v.log.records i j working.standing low within))))
    (slotless_persists sh lane) v

slotless_retires : (v : View) → AreSlotless v.fixed.shape v.fixed.lane (retires v)
unfolding retires ends_word
slotless_retires v =
    let sh : Shape = v.fixed.shape in
    let lane : ℕ = v.fixed.lane in
    let w : ℕ = word_of_generation sh lane in
    slotless_turn sh lane (stores w (v.log.generation + 1)) (persists (w / 8))
    (slotless_store sh lane w (v.log.generation + 1) (inl (omega arith)))
    (slotless_line sh lane (w / 8)) v

slotless_back : (v : View) → IsWorking v → AreSlotless v.fixed.shape v.fixed.lane (takes_back v)
unfolding in_turn
slotless_back v working = by (length v.log.records == 0) where
  by : (b : Bool) → AreSlotless v.fixed.shape v.fixed.lane
      (if b then persists_all v else in_turn restores retires v)
  by true = slotless_persists v.fixed.shape v.fixed.lane v
  by false =
      let u : View = after_all v (restores v) in
      slotless_both v.fixed.shape v.fixed.lane (restores v) (retires u)
      (slotless_restores v working)
      (subst (λ (f : Constants). AreSlotless f.shape f.lane (retires u)) (fixed_steps v (restores v))
      (slotless_retires u))

pub slotless_gives_up : (v : View) (op : Operation) (reply : Option Value) (n : ℕ) → IsWorking v
    → AreSlotless v.fixed.shape v.fixed.lane (gives_up op reply n v)
unfolding in_turn
slotless_gives_up v op reply n working =
    let u : View = after_all v (takes_back v) in
    slotless_both v.fixed.shape v.fixed.lane (takes_back v) (ends_call op reply n u)
    (slotless_back v working) (slotless_ends v.fixed.shape v.fixed.lane op reply n u)

-- ---- PLANS that draw a number and go on

-- a lane stops in the first steps, or in those after them
unslotted_then : (v : View) (xs ys : List Step) (k : ℕ)
    → ((j : ℕ) → IsUnslotted (after_all v (take j xs)))
    → ((j : ℕ) → IsUnslotted (after_all (after_all v xs) (take j ys)))
    → IsUnslotted (after_all v (take k (xs ++ ys)))
unfolding after_all
unslotted_then v [] ys k first second = second k
unslotted_then v (s ∷ xs) ys zero first second = first 0
unslotted_then v (s ∷ xs) ys (suc k) first second =
    unslotted_then (after v s) xs ys k (λ j. first (suc j)) second

pub ends_unslotted : (v : View) (op : Operation) (reply : Option Value) (n k : ℕ) → IsUnslotted v
    → IsUnslotted (after_all v (take k (ends_call op reply n v)))
ends_unslotted v op reply n k un = slotless_so_far v (ends_call op reply n v) k un
    (slotless_ends v.fixed.shape v.fixed.lane op reply n v)

-- the call takes its number, and silent steps come after it
numbered_unslotted : (v : View) (op : Operation) (rest : Plan) (n k : ℕ) → IsUnslotted v
    → ((w : View) → AreSilent (rest w)) → Ready v (in_turn (ends_call op None n) rest v)
    → IsUnslotted (after_all v (take k (in_turn (ends_call op None n) rest v)))
unfolding in_turn one after_all
numbered_unslotted v op rest n k un silent may =
    let steps : List Step = ends_call op None n v in
    let w : View = after_all v steps in
    let here : IsUnslotted w =
    slotless_all v steps un (slotless_ends v.fixed.shape v.fixed.lane op None n v) in
    unslotted_then v steps (rest w) k (λ j. ends_unslotted v op None n j un)
    (λ j. past_so_far w (rest w) j here (drawn_past n v.log.records v.log.entries) (silent w)
    (ready_right v steps (rest w) may))

logged_unslotted : (v : View) (op : Operation) (entries : List Redo) (found : ℕ → ℕ) (n k : ℕ)
    → IsUnslotted v → length entries < 64 → Ready v (logs_entries op entries found n v)
    → IsUnslotted (after_all v (take k (logs_entries op entries found n v)))
unfolding in_turn writes_log
logged_unslotted v op entries found n k un few may =
    let steps : List Step = writes_log entries v in
    let w : View = after_all v steps in
    let stores : AreSlotless v.fixed.shape v.fixed.lane steps =
    slotless_entries v.fixed.shape v.fixed.lane entries
    (ending v.fixed.shape v.fixed.lane v.log.generation) few v in
    let rest : List Step = performs_call op found n w in
    unslotted_then v steps rest k (λ j. slotless_so_far v steps j un stores)
    (λ j. numbered_unslotted w op (performs found) n j (slotless_all v steps un stores)
    (silent_performs found) (ready_right v steps rest may))

pub logs_unslotted : (v : View) (op : Operation) (entries : List Redo) (found : ℕ → ℕ) (n k : ℕ)
    → IsUnslotted v → v.fixed.lane < v.fixed.shape.lanes → v.log.phase ≡ Open
    → length entries < 64 → Ready v (logs_entries op entries found n v)
    → IsUnslotted (after_all v (take k (logs_entries op entries found n v)))
logs_unslotted v op entries found n k un low is_open few may =
    logged_unslotted v op entries found n k un few may

finished_unslotted : (v : View) (entries : List Redo) (found : ℕ → ℕ) (n k : ℕ) → IsUnslotted v
    → length entries < 64 → Ready v (finishes entries found n v)
    → IsUnslotted (after_all v (take k (finishes entries found n v)))
finished_unslotted v [] found n k un few may =
    numbered_unslotted v Commit ends_records n k un silent_ends_records may
finished_unslotted v (e ∷ entries) found n k un few may =
    logged_unslotted v Commit (e ∷ entries) found n k un few may

pub commits_unslotted : (v : View) (entries : List Redo) (found : ℕ → ℕ) (n k : ℕ) → IsWorking v
    → length entries < 64 → Ready v (commits entries found n v)
    → IsUnslotted (after_all v (take k (commits entries found n v)))
unfolding in_turn
commits_unslotted v entries found n k working few may =
    let un : IsUnslotted v = working_unslotted v working in
    let steps : List Step = persists_all v in
    let w : View = after_all v steps in
    let stores : AreSlotless v.fixed.shape v.fixed.lane steps =
    slotless_persists v.fixed.shape v.fixed.lane v in
    let rest : List Step = finishes entries found n w in
    unslotted_then v steps rest k (λ j. slotless_so_far v steps j un stores)
    (λ j. finished_unslotted w entries found n j (slotless_all v steps un stores) few
    (ready_right v steps rest may))
