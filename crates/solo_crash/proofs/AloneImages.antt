-- What a power failure leaves of the work of a lane that is alone.
use Rattle.std.proofs.Common.{◌≡◌, ◌≢◌, ◌⊎◌, ⊎_elim, ℕ, zero, suc, ◌+◌, ◌-◌, ◌<◌, ◌≤◌, Bool, true, false, not, eqb, ◌||◌, ◌&&◌, List, [], ◌∷◌, length, map, drop, slice_index, Option, Some, None, refl, sym, ◌∙◌, ap, subst, arith, eq-eqb, ne_eqb}
use Rattle.std.specs.List.{Contains, filter, list_any, range_with_len}
use Rattle.std.proofs.lemmas.Bool.{and_from, and_left, and_parts, and_right, cases_Bool, cases_eq, cond-false, cond-true, eqb-true, false_from_ne_true, false≢true}
use Rattle.std.proofs.lemmas.List.{length-append}
use Rattle.std.proofs.lemmas.List.Elements.{All-contains_itself, All-weaker}
use Rattle.std.proofs.lemmas.Option.{none-some}
use Rattle.pm_header.specs.declared.header.Header.{Header}
use Rattle.pm_objects.specs.Pool.{offsets}
use Rattle.pm_objects.specs.declared.pool.PoolView.{PoolView}
use Rattle.pm_image.specs.declared.block.Block.{Block}
use Rattle.pm_image.specs.Blocks.{blocks}
use Rattle.pm_image.specs.Contents.{object_in, objects_in, offset_in}
use Rattle.pm_image.specs.Logs.{generation, generation_word, recovered_at, seal_word}
use Rattle.pm_image.specs.Means.{pool_in}
use Rattle.pm_image.proofs.Members.{first_member, later_member, member_cases, member_kept, no_member}
use Rattle.solo_model.specs.History.{opened}
use Rattle.solo_model.specs.Names.{Replays}
use Rattle.solo_model.specs.Step.{Act, State}
use Rattle.solo_view.specs.declared.change.Change.{Change}
use Rattle.solo_view.specs.Changes.{changes_of}
use Rattle.solo_view.specs.Log.{Phase}
use Rattle.solo_view.specs.Log.Phase.{Idle, Open, Drawn, Sealing, Applying, Clearing, Retiring}
use Rattle.solo_view.specs.Steps.{Step}
use Rattle.solo_view.specs.View.{Numbered, View}
use Rattle.solo_memory.specs.Keep.{IsKeptImage, kept}
use Rattle.solo_world.specs.Course.{flight, flight_in, is_number}
use Rattle.solo_world.specs.Crash.{IsBeingWritten, IsUndrained, IsWhole, NoneTorn, Survives, is_deciding_in, is_kept, is_lost, loses}
use Rattle.solo_world.specs.Entries.{AreWhole}
use Rattle.solo_world.specs.Fits.{LaneFits, PhaseFits}
use Rattle.solo_world.specs.History.{Entry, Flies, entries_by, settled}
use Rattle.solo_world.specs.Opening.{Opening}
use Rattle.solo_world.specs.Records.{generation_of, records_generation}
use Rattle.solo_world.proofs.CrashEntries.{generation_is}
use Rattle.solo_world.proofs.CrashLogs.{GenerationIs, SealIs}
use Rattle.solo_world.proofs.CrashRecords.{generation_unsealed}
use Rattle.solo_world.proofs.CrashWords.{seal_is}
use Rattle.solo_crash.specs.Alone.{Begins, IsDrawnAt, IsUnsealed, MeansCalls, WorksAlone, alone_views, kept_numbered}
use Rattle.solo_crash.specs.OneLane.{HoldsReplay, Moment, kept_entries}
use Rattle.solo_crash.specs.Pending.{acts_alone, state_after, state_alone}
use Rattle.solo_crash.proofs.AloneCourse.{StandsAlone, alone_else, stands_at, begins_clean, begins_holds}
use Rattle.solo_crash.proofs.AloneMemory.{memory_of}
use Rattle.solo_crash.proofs.HistoryActs.{acts_of_all, state_of_one}
use Rattle.solo_crash.proofs.FrontWords.{front_survives}
use Rattle.solo_crash.proofs.KeptEntries.{image_means, image_replays}

-- of lanes of which only the first can pass the test, one passes where the first does
none_later : (p : ℕ → Bool) (from n : ℕ) → 1 ≤ from → ((k : ℕ) → k ≢ 0 → p k ≡ false) → list_any p (range_with_len from n) ≡ false
none_later p from zero some others = refl
none_later p from (suc n) some others = ap (λ (b : Bool). b || list_any p (range_with_len (from + 1) n)) (others from (λ same. omega arith)) ∙ none_later p (from + 1) n (omega arith) others

or_false : (b : Bool) → (b || false) ≡ b
or_false true = refl
or_false false = refl

first_alone : (p : ℕ → Bool) (lanes : ℕ) → 1 ≤ lanes → ((k : ℕ) → k ≢ 0 → p k ≡ false) → list_any p (range_with_len 0 lanes) ≡ p 0
first_alone p zero some others = absurd (omega arith)
first_alone p (suc n) some others = ap (λ (b : Bool). p 0 || b) (none_later p 1 n (omega arith) others) ∙ or_false (p 0)

-- the entries of one lane's history are its view's
kept_same : (keep other : ℕ → Bool) (log : List Entry) → ((n : ℕ) → keep n ≡ other n) → ((e : Entry) → Contains log e → e.lane ≡ 0)
    → entries_by 0 (filter (λ (e : Entry). keep e.number) log) ≡ filter (λ (e : Numbered). other e.number) (entries_by 0 log)
unfolding entries_by
kept_same keep other [] same alone = refl
kept_same keep other (e ∷ log) same alone =
    let d : Numbered = record { number = e.number; call = e.call } in
    let is : e.lane ≡ 0 = alone e (first_member e log) in
    let rest = kept_same keep other log same (λ x there. alone x (later_member e log x there)) in
    let entries : entries_by 0 (e ∷ log) ≡ d ∷ entries_by 0 log = cond-true (eqb e.lane 0) (d ∷ entries_by 0 log) (entries_by 0 log) (eq-eqb e.lane 0 is) in
    let passes : Numbered → Bool = λ (x : Numbered). other x.number in
    let ours : List Entry = filter (λ (x : Entry). keep x.number) log in
    ⊎_elim
    (λ (yes_ : keep e.number ≡ true).
    ap (entries_by 0) (cond-true (keep e.number) (e ∷ ours) ours yes_)
    ∙ cond-true (eqb e.lane 0) (d ∷ entries_by 0 ours) (entries_by 0 ours) (eq-eqb e.lane 0 is)
    ∙ ap (λ (es : List Numbered). d ∷ es) rest
    ∙ sym (ap (filter passes) entries ∙ cond-true (other e.number) (d ∷ filter passes (entries_by 0 log)) (filter passes (entries_by 0 log)) (sym (same e.number) ∙ yes_)))
    (λ (no_ : keep e.number ≡ false).
    ap (entries_by 0) (cond-false (keep e.number) (e ∷ ours) ours no_)
    ∙ rest
    ∙ sym (ap (filter passes) entries ∙ cond-false (other e.number) (d ∷ filter passes (entries_by 0 log)) (filter passes (entries_by 0 log)) (sym (same e.number) ∙ no_)))
    (cases_Bool (keep e.number))

-- the objects of blocks stand at the blocks' offsets
object_offsets : (w : ℕ → ℕ) (n : ℕ) (bs : List Block) → offsets (map (λ block. (offset_in block, object_in w n block)) bs) ≡ map offset_in bs
object_offsets w n [] = refl
object_offsets w n (b ∷ bs) = ap (λ (offs : List ℕ). offset_in b ∷ offs) (object_offsets w n bs)

blocks_offsets : (w : ℕ → ℕ) (lanes zones : ℕ) (header : Header) (pool : PoolView) → pool ≡ pool_in w lanes zones header → map offset_in (blocks w lanes zones) ≡ offsets pool.objects
unfolding objects_in
blocks_offsets w lanes zones header pool is =
    sym (ap (λ (p : PoolView). offsets p.objects) is ∙ object_offsets w (length (blocks w lanes zones)) (blocks w lanes zones))

-- a call that has ended is lost by no image
ended_phase : (image : List ℕ) (w : View) (n : ℕ) (phase : Phase) → phase ≡ Idle → (is_number w.number n && not (is_deciding_in image w phase)) ≡ true → ⊥
ended_phase image w n phase idle lost =
    let t = and_parts (is_number w.number n) (not (is_deciding_in image w phase)) lost in
    false≢true (sym (ap (λ (p : Phase). not (is_deciding_in image w p)) idle) ∙ t.1)

number_is : (number : Option ℕ) (n : ℕ) → is_number number n ≡ true → number ≡ Some n
number_is None n e = absurd (false≢true e)
number_is (Some m) n e = ap Some (eqb-true m n e)

pub ended_stays : (w : View) (image : List ℕ) (n : ℕ) → (w.log.phase ≡ Idle) ⊎ (w.number ≢ Some n) → loses image w n ≡ false
ended_stays w image n ended = false_from_ne_true (loses image w n) (λ lost. ⊎_elim
    (λ (idle : w.log.phase ≡ Idle). ended_phase image w n w.log.phase idle lost)
    (λ (other : w.number ≢ Some n). other (number_is w.number n (and_parts (is_number w.number n) (not (is_deciding_in image w w.log.phase)) lost).0))
    ended)

-- members of what is left of a list, and of those that pass a test
dropped_member : {X : Type 0} (n : ℕ) (xs : List X) (x : X) → Contains (drop n xs) x → Contains xs x
dropped_member zero xs x there = there
dropped_member (suc n) [] x there = there
dropped_member (suc n) (y ∷ xs) x there = later_member y xs x (dropped_member n xs x there)

passing_member : {X : Type 0} (p : X → Bool) (xs : List X) (x : X) → Contains (filter p xs) x → p x ≡ true
passing_member p [] x there = absurd (no_member x there)
passing_member {X = X} p (y ∷ xs) x there = ⊎_elim
    (λ (passes : p y ≡ true). ⊎_elim
    (λ (here : y ≡ x). ap p (sym here) ∙ passes)
    (λ (later : Contains (filter p xs) x). passing_member p xs x later)
    (member_cases y (filter p xs) x (subst (λ (ys : List X). Contains ys x) (cond-true (p y) (y ∷ filter p xs) (filter p xs) passes) there)))
    (λ (fails : p y ≡ false). passing_member p xs x (subst (λ (ys : List X). Contains ys x) (cond-false (p y) (y ∷ filter p xs) (filter p xs) fails) there))
    (cases_Bool (p y))

-- a log that ends its generation has an entry
whole_some : (v : View) {generation : ℕ} → AreWhole v generation → 1 ≤ length v.log.entries
whole_some v whole = let long = ap length whole.are ∙ length-append whole.front (_ ∷ []) in omega (arith, long)

module _ (o : Opening) (header : Header) (pool : PoolView) (w : View) (s : StandsAlone o header pool w) where
  abbrev now : Moment
  now = record { memory = memory_of w; views = s.views; log = s.log; decided = s.decided }

  pub same_views : (k : ℕ) → s.views k ≡ alone_views o w k
  same_views k = ⊎_elim
      (λ (same : k ≡ 0). subst (λ (n : ℕ). s.views n ≡ alone_views o w n) (sym same) s.here)
      (λ (other : k ≢ 0). s.others k other ∙ sym (alone_else o w k other))
      (cases_eq k 0)

  pub own_fits : LaneFits o (memory_of w) (settled o s.log s.decided) (Flies s.log s.decided 0) 0 w
  own_fits = subst (LaneFits o (memory_of w) (settled o s.log s.decided) (Flies s.log s.decided 0) 0) s.here (s.goes.world.each_lane 0 s.goes.in_lanes)

  module _ (image : List ℕ) where
    -- the image that a choice leaves may survive
    pub kept_survives : (keep : ℕ) → IsKeptImage keep w.words (w.changes ∷ []) image → Survives o (memory_of w) s.views image
    kept_survives keep is =
        let size : length w.words ≡ length o.words = ap (λ (u : View). length u.words) (sym s.here) ∙ (s.goes.world.each_lane 0 s.goes.in_lanes).lane.size in
        record {
          size = is.size ∙ size;
          each = λ i inside. record {
            lost = drop (kept keep (length w.words) (w.changes ∷ []) 0 i) (changes_of i w.changes);
            undrained =
                let lost : List Change = drop (kept keep (length w.words) (w.changes ∷ []) 0 i) (changes_of i w.changes) in
                All-weaker (Contains lost) (IsUndrained s.views o.lanes i) (λ c there. undrained i c (dropped_member (kept keep (length w.words) (w.changes ∷ []) 0 i) (changes_of i w.changes) c there)) lost (All-contains_itself lost);
            left = is.each i (subst (λ n. i < n) (sym size) inside);
          };
        } where
          undrained : (i : ℕ) (c : Change) → Contains (changes_of i w.changes) c → IsUndrained s.views o.lanes i c
          undrained i c there = record {
            of_word = eqb-true c.word i (passing_member (λ (d : Change). eqb d.word i) w.changes c there);
            lane = 0;
            of_lane = s.goes.in_lanes;
            there = subst (λ (u : View). Contains u.changes c) (sym s.here) (member_kept (λ (d : Change). eqb d.word i) w.changes c there);
          }

    pub none_torn : NoneTorn o (alone_views o w) image → NoneTorn o s.views image
    none_torn whole k slot u low within being valid =
        subst (λ (x : View). IsBeingWritten x slot → IsWhole x image slot) (sym (same_views k)) (λ there. whole k slot u low within there valid) being

    -- only its own call can be lost
    lost_own : (n : ℕ) → is_lost o s.views image n ≡ loses image w n
    lost_own n =
        first_alone (λ k. loses image (s.views k) n) o.lanes (let low = s.goes.in_lanes in omega arith) (λ k other. ap (λ (x : View). loses image x n) (s.others k other))
        ∙ ap (λ (x : View). loses image x n) s.here

    kept_calls : entries_by 0 (kept_entries o now image) ≡ kept_numbered image w
    kept_calls =
        kept_same (is_kept o s.views image) (λ n. not (loses image w n)) s.log (λ n. ap not (lost_own n)) s.goes.alone
        ∙ ap (filter (λ (e : Numbered). not (loses image w e.number))) (s.goes.world.own_entries 0 s.goes.in_lanes ∙ ap (λ (u : View). u.entries) s.here)

    kept_alone : (e : Entry) → Contains (kept_entries o now image) e → e.lane ≡ 0
    kept_alone e there = s.goes.alone e (member_kept (λ (d : Entry). is_kept o s.views image d.number) s.log e there)

    pub image_calls : (v : View) → Begins o header pool v → Survives o (memory_of w) s.views image → NoneTorn o s.views image → MeansCalls image o.lanes o.zones pool (kept_numbered image w)
    image_calls v begins survives whole =
        let held : HoldsReplay (recovered_at image o.lanes) o.lanes o.zones header pool (kept_entries o now image) = image_replays o 0 header pool now s.goes image survives whole in
        record {
          last = held.last;
          replays =
              subst (λ (calls : List Numbered). Replays (opened pool) (acts_alone calls) (state_alone held.last calls)) kept_calls
              (subst (λ (s : State). Replays (opened pool) (acts_alone (entries_by 0 (kept_entries o now image))) s) (state_of_one held.last (kept_entries o now image) kept_alone)
              (subst (λ (acts : List Act). Replays (opened pool) acts (state_after held.last (kept_entries o now image))) (acts_of_all (kept_entries o now image) kept_alone) held.replays));
          means = image_means o 0 header pool now s.goes image (begins_holds o header pool v begins).0 (begins_holds o header pool v begins).1 (begins_clean o header pool v begins) survives whole held;
          blocks_are = blocks_offsets (recovered_at image o.lanes) o.lanes o.zones header held.last held.holds.is_pool;
        }

    -- no step of the lane is of the header page
    pub header_page : Survives o (memory_of w) s.views image → (i : ℕ) → i < 512 → slice_index image i ≡ slice_index o.words i
    header_page survives i low = front_survives o (memory_of w) s.views s.log s.decided s.goes.world image survives i low ∙ s.goes.front i low

    -- a call in flight is lost where the generation of its records is the image's still
    lost_in : (n : ℕ) (phase : Phase) → flight_in phase w.number ≡ Some n → SealIs w (seal_word image 0) phase → GenerationIs w (seal_word image 0) (generation image 0) phase
        → not (is_deciding_in image w phase) ≡ eqb (generation image 0) (records_generation phase w)
    lost_in n Idle flies seal is = absurd (none-some n flies)
    lost_in n (Open slot pair) flies seal is = absurd (none-some n flies)
    lost_in n Drawn flies seal is = sym (eq-eqb (generation image 0) (generation_of w) is)
    lost_in n Sealing flies seal is =
        ap (λ (lane : ℕ). not (not (eqb (seal_word image lane) 0))) own_fits.lane.lane
        ∙ ⊎_elim
        (λ (lost : (seal_word image 0 ≡ 0) × (generation image 0 ≡ generation_of w)).
        ap (λ (b : Bool). not (not b)) (eq-eqb (seal_word image 0) 0 lost.0) ∙ sym (eq-eqb (generation image 0) (generation_of w) lost.1))
        (λ (kept : (seal_word image 0 ≢ 0) × (generation image 0 ≡ generation_of w + 1)).
        let next = kept.1 in
        ap (λ (b : Bool). not (not b)) (ne_eqb (seal_word image 0) 0 kept.0) ∙ sym (ne_eqb (generation image 0) (generation_of w) (λ same. omega (arith, same, next))))
        is
    lost_in n (Applying applied) flies seal is = absurd (none-some n flies)
    lost_in n Clearing flies seal is = absurd (none-some n flies)
    lost_in n Retiring flies seal is =
        let some : 1 ≤ generation_of w = own_fits.first_generation in
        let word : generation image 0 ≡ generation_word image 0 = generation_unsealed image 0 seal in
        ap (λ (lane : ℕ). not (eqb (generation_word image lane) (generation_of w))) own_fits.lane.lane
        ∙ ⊎_elim
        (λ (next : generation image 0 ≡ generation_of w).
        ap not (eq-eqb (generation_word image 0) (generation_of w) (sym word ∙ next)) ∙ sym (ne_eqb (generation image 0) (generation_of w - 1) (λ same. omega arith)))
        (λ (last : generation image 0 + 1 ≡ generation_of w).
        ap not (ne_eqb (generation_word image 0) (generation_of w) (λ same. omega arith)) ∙ sym (eq-eqb (generation image 0) (generation_of w - 1) (omega arith)))
        is

    number_in : (n : ℕ) (phase : Phase) → flight_in phase w.number ≡ Some n → w.number ≡ Some n
    number_in n Idle flies = absurd (none-some n flies)
    number_in n (Open slot pair) flies = absurd (none-some n flies)
    number_in n Drawn flies = flies
    number_in n Sealing flies = flies
    number_in n (Applying applied) flies = absurd (none-some n flies)
    number_in n Clearing flies = absurd (none-some n flies)
    number_in n Retiring flies = flies

    own_seal : Survives o (memory_of w) s.views image → SealIs w (seal_word image 0) w.log.phase
    own_seal survives = subst (λ (u : View). SealIs u (seal_word image 0) u.log.phase) s.here (seal_is o (memory_of w) s.views s.log s.decided s.goes.world image survives 0 s.goes.in_lanes)

    pub lost_by_generation : Survives o (memory_of w) s.views image → (n : ℕ) → flight w ≡ Some n → loses image w n ≡ eqb (generation image 0) (records_generation w.log.phase w)
    lost_by_generation survives n flies =
        let is : GenerationIs w (seal_word image 0) (generation image 0) w.log.phase =
        subst (λ (u : View). GenerationIs u (seal_word image 0) (generation image 0) u.log.phase) s.here (generation_is o (memory_of w) s.views s.log s.decided s.goes.world image survives 0 s.goes.in_lanes) in
        let here : is_number w.number n ≡ true = ap (λ (m : Option ℕ). is_number m n) (number_in n w.log.phase flies) ∙ eq-eqb n n refl in
        ap (λ (b : Bool). b && not (is_deciding_in image w w.log.phase)) here ∙ lost_in n w.log.phase flies (own_seal survives) is

    flies_unsealed : (n : ℕ) (phase : Phase) → IsUnsealed phase → w.number ≡ Some n → flight_in phase w.number ≡ Some n
    flies_unsealed n Idle unsealed number = absurd unsealed
    flies_unsealed n (Open slot pair) unsealed number = absurd unsealed
    flies_unsealed n Drawn unsealed number = number
    flies_unsealed n Sealing unsealed number = absurd unsealed
    flies_unsealed n (Applying applied) unsealed number = absurd unsealed
    flies_unsealed n Clearing unsealed number = absurd unsealed
    flies_unsealed n Retiring unsealed number = number

    no_seal : (phase : Phase) → IsUnsealed phase → SealIs w (seal_word image 0) phase → seal_word image 0 ≡ 0
    no_seal Idle unsealed seal = seal
    no_seal (Open slot pair) unsealed seal = seal
    no_seal Drawn unsealed seal = seal
    no_seal Sealing unsealed seal = absurd unsealed
    no_seal (Applying applied) unsealed seal = absurd unsealed
    no_seal Clearing unsealed seal = absurd unsealed
    no_seal Retiring unsealed seal = seal

    own_generation : Survives o (memory_of w) s.views image → GenerationIs w (seal_word image 0) (generation image 0) w.log.phase
    own_generation survives =
        subst (λ (u : View). GenerationIs u (seal_word image 0) (generation image 0) u.log.phase) s.here (generation_is o (memory_of w) s.views s.log s.decided s.goes.world image survives 0 s.goes.in_lanes)

    -- what the words of the image tell of a call that began with generation g
    abbrev is_unmade : ℕ → Bool
    is_unmade g = eqb (seal_word image 0) 0 && eqb (generation_word image 0) g

    unmade : (g : ℕ) → seal_word image 0 ≡ 0 → generation image 0 ≡ g → is_unmade g ≡ true
    unmade g seal is = and_from (eqb (seal_word image 0) 0) (eqb (generation_word image 0) g) (eq-eqb (seal_word image 0) 0 seal) (eq-eqb (generation_word image 0) g (sym (generation_unsealed image 0 seal) ∙ is))

    made_by_seal : (g : ℕ) → seal_word image 0 ≢ 0 → is_unmade g ≡ false
    made_by_seal g sealed = and_left (eqb (seal_word image 0) 0) (eqb (generation_word image 0) g) (ne_eqb (seal_word image 0) 0 sealed)

    made_by_word : (g : ℕ) → generation image 0 ≢ g → is_unmade g ≡ false
    made_by_word g other = ⊎_elim
        (λ (seal : seal_word image 0 ≡ 0). and_right (eqb (seal_word image 0) 0) (eqb (generation_word image 0) g) (ne_eqb (generation_word image 0) g (λ same. other (generation_unsealed image 0 seal ∙ same))))
        (λ (sealed : seal_word image 0 ≢ 0). made_by_seal g sealed)
        (cases_eq (seal_word image 0) 0)

    undecided_by_words : (g : ℕ) (phase : Phase) → IsDrawnAt g w phase → PhaseFits (Flies s.log s.decided 0) w phase → SealIs w (seal_word image 0) phase → GenerationIs w (seal_word image 0) (generation image 0) phase
        → not (is_deciding_in image w phase) ≡ is_unmade g
    undecided_by_words g Idle drawn fits seal is = sym (made_by_word g (λ same. omega (arith, is, drawn, same)))
    undecided_by_words g (Open slot pair) drawn fits seal is = absurd drawn
    undecided_by_words g Drawn drawn fits seal is = sym (unmade g seal (is ∙ drawn))
    undecided_by_words g Sealing drawn fits seal is =
        ap (λ (lane : ℕ). not (not (eqb (seal_word image lane) 0))) own_fits.lane.lane
        ∙ ⊎_elim
        (λ (lost : (seal_word image 0 ≡ 0) × (generation image 0 ≡ generation_of w)). ap (λ (b : Bool). not (not b)) (eq-eqb (seal_word image 0) 0 lost.0) ∙ sym (unmade g lost.0 (lost.1 ∙ drawn)))
        (λ (kept : (seal_word image 0 ≢ 0) × (generation image 0 ≡ generation_of w + 1)). ap (λ (b : Bool). not (not b)) (ne_eqb (seal_word image 0) 0 kept.0) ∙ sym (made_by_seal g kept.0))
        is
    undecided_by_words g (Applying applied) drawn fits seal is =
        let some : 1 ≤ length w.log.entries = whole_some w fits.whole in
        sym (made_by_seal g (λ none. omega (arith, some, seal, none)))
    undecided_by_words g Clearing drawn fits seal is = sym (made_by_word g (λ same. omega (arith, is, drawn, same)))
    undecided_by_words g Retiring drawn fits seal is =
        let word : generation image 0 ≡ generation_word image 0 = generation_unsealed image 0 seal in
        ap (λ (lane : ℕ). not (eqb (generation_word image lane) (generation_of w))) own_fits.lane.lane
        ∙ ⊎_elim
        (λ (next : generation image 0 ≡ generation_of w).
        ap not (eq-eqb (generation_word image 0) (generation_of w) (sym word ∙ next)) ∙ sym (made_by_word g (λ same. omega (arith, next, drawn, same))))
        (λ (last : generation image 0 + 1 ≡ generation_of w).
        ap not (ne_eqb (generation_word image 0) (generation_of w) (λ same. omega arith)) ∙ sym (unmade g seal (omega (arith, last, drawn))))
        is

    pub lost_by_words : Survives o (memory_of w) s.views image → (g n : ℕ) → w.number ≡ Some n → IsDrawnAt g w w.log.phase → loses image w n ≡ is_unmade g
    lost_by_words survives g n number drawn =
        let here : is_number w.number n ≡ true = ap (λ (m : Option ℕ). is_number m n) number ∙ eq-eqb n n refl in
        ap (λ (b : Bool). b && not (is_deciding_in image w w.log.phase)) here ∙ undecided_by_words g w.log.phase drawn own_fits.phase (own_seal survives) (own_generation survives)

    -- without a seal the image's generation is its word
    pub lost_by_word : Survives o (memory_of w) s.views image → (n : ℕ) → w.number ≡ Some n → IsUnsealed w.log.phase → loses image w n ≡ eqb (generation_word image 0) (records_generation w.log.phase w)
    lost_by_word survives n number unsealed =
        lost_by_generation survives n (flies_unsealed n w.log.phase unsealed number)
        ∙ ap (λ g. eqb g (records_generation w.log.phase w)) (generation_unsealed image 0 (no_seal w.log.phase unsealed (own_seal survives)))

module _ (o : Opening) (header : Header) (pool : PoolView) (v w : View) (steps : List Step) (works : WorksAlone o header pool v steps w) (keep : ℕ) (image : List ℕ) (is : IsKeptImage keep w.words (w.changes ∷ []) image) where
  stands : StandsAlone o header pool w
  stands = stands_at o header pool v steps w works.begins works.leads works.numbered works.within

  left_so : Survives o (memory_of w) stands.views image
  left_so = kept_survives o header pool w stands image keep is

  pub calls_meant : NoneTorn o (alone_views o w) image → MeansCalls image o.lanes o.zones pool (kept_numbered image w)
  calls_meant whole = image_calls o header pool w stands image v works.begins left_so (none_torn o header pool w stands image whole)

  pub header_stays : (i : ℕ) → i < 512 → slice_index image i ≡ slice_index o.words i
  header_stays = header_page o header pool w stands image left_so

  pub size_stays : length image ≡ length o.words
  size_stays = left_so.size

  pub fate : (n : ℕ) → flight w ≡ Some n → loses image w n ≡ eqb (generation image 0) (records_generation w.log.phase w)
  fate = lost_by_generation o header pool w stands image left_so

  -- where the generation of its records is this one
  fate_by : (g n : ℕ) → w.number ≡ Some n → IsUnsealed w.log.phase → records_generation w.log.phase w ≡ g → loses image w n ≡ eqb (generation_word image 0) g
  fate_by g n number unsealed same = lost_by_word o header pool w stands image left_so n number unsealed ∙ ap (eqb (generation_word image 0)) same

  pub words_fate : (g n : ℕ) → w.number ≡ Some n → IsDrawnAt g w w.log.phase → loses image w n ≡ (eqb (seal_word image 0) 0 && eqb (generation_word image 0) g)
  words_fate = lost_by_words o header pool w stands image left_so

  pub first_fate : (n : ℕ) → w.number ≡ Some n → IsUnsealed w.log.phase → records_generation w.log.phase w ≡ generation_word o.words 0 → loses image w n ≡ eqb (generation_word image 0) (generation_word o.words 0)
  first_fate = fate_by (generation_word o.words 0)

  pub since_fate : (b : View) (n : ℕ) → w.number ≡ Some n → IsUnsealed w.log.phase → records_generation w.log.phase w ≡ generation_of b → loses image w n ≡ eqb (generation_word image 0) (generation_of b)
  since_fate b = fate_by (generation_of b)
