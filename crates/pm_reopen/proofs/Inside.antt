-- What a lane's log changes is inside of the image.
use Rattle.std.proofs.Common.{◌≡◌, ⊎_elim, ℕ, zero, suc, ◌+◌, ◌/◌, ◌%◌, ◌<◌, ◌≤◌, true, false, All, List, [], ◌∷◌, length, map, slice_index, Option, Some, None, refl, sym, subst, arith}
use Rattle.std.specs.List.{flat_map, range_with_len}
use Rattle.std.specs.Option.{option_to_list}
use Rattle.std.proofs.lemmas.Bool.{cases_Bool}
use Rattle.std.proofs.lemmas.List.Elements.{All-append, All-cons, All-head, All-nil, All-tail, All-weaker}
use Rattle.pm_record.specs.declared.redo.Redo.{Redo}
use Rattle.pm_record.specs.declared.undo.Undo.{Undo}
use Rattle.pm_image.specs.Logs.{area_word, entries, generation, is_sealed, records}
use Rattle.pm_image.specs.Steps.{HasLanes, valid_record}
use Rattle.pm_image.proofs.Gathering.{record_at, records_by_number}
use Rattle.pm_memory.specs.Solo.{Solo}
use Rattle.pm_recover.specs.Recovery.{is_raised}
use Rattle.pm_recover.specs.Steps.{HasSoundLogs}
use Rattle.pm_reopen.specs.Plan.{lane_plan, log_end, restores, store_of, writes}
use Rattle.pm_reopen.specs.Premise.{HasTargets}
use Rattle.pm_reopen.specs.Running.{Makes}
use Rattle.pm_reopen.proofs.LogEnds.{ends_nothing, ends_raised, ends_sealed}

-- the plan of so many lanes was made
pub record HasMade (image : List ℕ) (old now : Solo) (lane : ℕ) : Type 0 where
  pub made : Makes old now (flat_map (lane_plan image) (range_with_len 0 lane))
  pub drained : now.changes ≡ []

pub fewer_sound : (image : List ℕ) (lanes few : ℕ) → HasSoundLogs image lanes → few ≤ lanes → HasSoundLogs image few
fewer_sound image lanes few sound less =
    let has : HasLanes image lanes = sound.has_lanes in
    let fit = has.lanes_fit in let areas = has.areas in
    record {
      has_lanes = record { lanes_fit = omega (arith, fit, less); areas = omega (arith, areas, less); small = has.small };
      first_generation = λ lane inside. sound.first_generation lane (omega (arith, inside, less));
      last_generation = λ lane inside. sound.last_generation lane (omega (arith, inside, less));
      restorable = λ lane slot u inside in_slots is.
          let r = sound.restorable lane slot u (omega (arith, inside, less)) in_slots is in
          let behind = r.behind in
          record { aligned = r.aligned; few = r.few; behind = omega (arith, behind, less); within = r.within; raisable = r.raisable };
    }

pub fewer_targets : (image : List ℕ) (lanes few : ℕ) → HasTargets image lanes → few ≤ lanes → HasTargets image few
fewer_targets image lanes few targets less = record { inside = λ lane near. targets.inside lane (omega (arith, near, less)) }

pub all_parts : {X : Type 0} (P : X → Type 0) (f : ℕ → List X) (a n : ℕ) → ((k : ℕ) → a ≤ k → k < a + n → All P (f k)) → All P (flat_map f (range_with_len a n))
all_parts P f a zero each = All-nil P
all_parts P f a (suc n) each =
    All-append P (f a) (flat_map f (range_with_len (a + 1) n)) (each a (omega arith) (omega arith)) (all_parts P f (a + 1) n (λ k from to. each k (omega (arith, from)) (omega (arith, to))))

all_mapped : {X : Type 0} (P : Redo → Type 0) (f : X → List Redo) (xs : List X) → All (λ x. All P (f x)) xs → All P (flat_map f xs)
all_mapped P f [] all = All-nil P
all_mapped {X = X} P f (x ∷ xs) all = All-append P (f x) (flat_map f xs) (All-head (λ (y : X). All P (f y)) x xs all) (all_mapped P f xs (All-tail (λ (y : X). All P (f y)) x xs all))

-- the words of a record
restores_from : (u : Undo) (n a k : ℕ) → u.place / 8 + (a + k) ≤ n → All (λ (e : Redo). e.place / 8 < n) (map (λ i. store_of (u.place / 8 + i) (slice_index u.old i)) (range_with_len a k))
restores_from u n a zero within = All-nil (λ (e : Redo). e.place / 8 < n)
restores_from u n a (suc k) within =
    All-cons (λ (e : Redo). e.place / 8 < n) (store_of (u.place / 8 + a) (slice_index u.old a)) (map (λ i. store_of (u.place / 8 + i) (slice_index u.old i)) (range_with_len (a + 1) k))
    (omega (arith, within)) (restores_from u n (a + 1) k (omega (arith, within)))

slot_inside : (image : List ℕ) (lane slot : ℕ) → HasSoundLogs image (lane + 1) → slot < 64 → All (λ (u : Undo). All (λ (e : Redo). e.place / 8 < length image) (restores u)) (record_at image lane slot)
slot_inside image lane slot sound few = go (valid_record image lane slot) refl where
  go : (o : Option Undo) → valid_record image lane slot ≡ o → All (λ (u : Undo). All (λ (e : Redo). e.place / 8 < length image) (restores u)) (option_to_list o)
  go None is = All-nil (λ (u : Undo). All (λ (e : Redo). e.place / 8 < length image) (restores u))
  go (Some u) is =
      let within = (sound.restorable lane slot u (omega arith) few is).within in
      All-cons (λ (v : Undo). All (λ (e : Redo). e.place / 8 < length image) (restores v)) u [] (restores_from u (length image) 0 u.count (omega (arith, within))) (All-nil (λ (v : Undo). All (λ (e : Redo). e.place / 8 < length image) (restores v)))

pub restored_inside : (image : List ℕ) (lane : ℕ) → HasSoundLogs image (lane + 1) → All (λ (e : Redo). e.place / 8 < length image) (flat_map restores (records image lane))
restored_inside image lane sound =
    all_mapped (λ (e : Redo). e.place / 8 < length image) restores (records image lane)
    (subst (All (λ (u : Undo). All (λ (e : Redo). e.place / 8 < length image) (restores u))) (sym (records_by_number image lane))
    (all_parts (λ (u : Undo). All (λ (e : Redo). e.place / 8 < length image) (restores u)) (record_at image lane) 0 64 (λ slot from to. slot_inside image lane slot sound (omega (arith, to)))))

pub words_inside : (image : List ℕ) (lane : ℕ) → HasSoundLogs image (lane + 1) → HasTargets image (lane + 1) → All (λ (e : Redo). e.place / 8 < length image) (writes image lane)
unfolding writes
words_inside image lane sound targets =
    All-append (λ (e : Redo). e.place / 8 < length image) (flat_map restores (records image lane)) (entries image lane) (restored_inside image lane sound) (targets.inside lane (omega arith))

in_lines : (n : ℕ) (e : Redo) → n % 8 ≡ 0 → e.place / 8 < n → e.place / 64 < n / 8
in_lines n e whole inside = omega (arith, whole, inside)

pub writes_inside : (image : List ℕ) (lane : ℕ) → HasSoundLogs image (lane + 1) → HasTargets image (lane + 1) → length image % 8 ≡ 0 → All (λ (e : Redo). e.place / 64 < length image / 8) (writes image lane)
writes_inside image lane sound targets whole =
    All-weaker (λ (e : Redo). e.place / 8 < length image) (λ (e : Redo). e.place / 64 < length image / 8) (λ e inside. in_lines (length image) e whole inside) (writes image lane) (words_inside image lane sound targets)

one_inside : (n w x : ℕ) → w < n → n % 8 ≡ 0 → All (λ (e : Redo). e.place / 64 < n / 8) (store_of w x ∷ [])
one_inside n w x inside whole = All-cons (λ (e : Redo). e.place / 64 < n / 8) (store_of w x) [] (omega (arith, inside, whole)) (All-nil (λ (e : Redo). e.place / 64 < n / 8))

pub end_inside : (image : List ℕ) (lane : ℕ) → HasSoundLogs image (lane + 1) → length image % 8 ≡ 0 → All (λ (e : Redo). e.place / 64 < length image / 8) (log_end image lane)
end_inside image lane sound whole =
    let areas = sound.has_lanes.areas in
    let P : List Redo → Type 0 = All (λ (e : Redo). e.place / 64 < length image / 8) in
    ⊎_elim
    (λ (sealed : is_sealed image lane ≡ true). subst P (sym (ends_sealed image lane sealed)) (one_inside (length image) (area_word lane + 1) 0 (omega (arith, areas)) whole))
    (λ (unsealed : is_sealed image lane ≡ false). ⊎_elim
    (λ (raised : is_raised image lane ≡ true). subst P (sym (ends_raised image lane unsealed raised)) (one_inside (length image) (area_word lane) (generation image lane + 1) (omega (arith, areas)) whole))
    (λ (kept : is_raised image lane ≡ false). subst P (sym (ends_nothing image lane unsealed kept)) (All-nil (λ (e : Redo). e.place / 64 < length image / 8)))
    (cases_Bool (is_raised image lane)))
    (cases_Bool (is_sealed image lane))
