-- The calls of the plan, part by part: by the numbers of a range.
use Rattle.std.proofs.Common.{◌≡◌, ⊎_elim, ℕ, zero, suc, ◌+◌, ◌*◌, ◌/◌, ◌<◌, ◌≤◌, Bool, true, false, cond, slice_index, All, List, [], ◌∷◌, ◌++◌, map, Option, Some, None, refl, sym, ◌∙◌, ap, subst, arith}
use Rattle.std.specs.List.{filter, flat_map, range_with_len}
use Rattle.std.specs.Option.{option_to_list}
use Rattle.std.proofs.lemmas.Bool.{cases_lt}
use Rattle.std.proofs.lemmas.List.Elements.{All-cons, All-head, All-nil, All-tail}
use Rattle.std.proofs.lemmas.List.{append-nil, map-append}
use Rattle.std.proofs.lemmas.Grind.{flat_map-append}
use Rattle.pm_record.specs.declared.redo.Redo.{Redo}
use Rattle.pm_record.specs.declared.undo.Undo.{Undo}
use Rattle.pm_image.specs.Logs.{entries, is_sealed, records, seal_word, undo_slot}
use Rattle.pm_recover.specs.Recovery.{generation_after, is_stray}
use Rattle.pm_image.proofs.Gathering.{entries_by_number, entry_at, record_at, records_by_number}
use Rattle.pm_reopen.specs.Plan.{MemoryCall, cleared_slot, restores, store_of, strays, writes, zeros}
use Rattle.pm_reopen.specs.Plan.MemoryCall.{Change}

-- changes, one for each number
pub each_change : (g : ℕ → Redo) (ks : List ℕ) → map Change (map g ks) ≡ flat_map (λ k. Change (g k) ∷ []) ks
each_change g [] = refl
each_change g (k ∷ ks) = ap (λ (cs : List MemoryCall). Change (g k) ∷ cs) (each_change g ks)

-- changes of parts, part by part
pub changes_of_parts : {X : Type 0} (f : X → List Redo) (r : ℕ → List X) (ks : List ℕ) → map Change (flat_map f (flat_map r ks)) ≡ flat_map (λ k. map Change (flat_map f (r k))) ks
changes_of_parts f r [] = refl
changes_of_parts {X = X} f r (k ∷ ks) =
    ap (map Change) (flat_map-append f (r k) (flat_map r ks))
    ∙ map-append Change (flat_map f (r k)) (flat_map f (flat_map r ks))
    ∙ ap (λ (cs : List MemoryCall). map Change (flat_map f (r k)) ++ cs) (changes_of_parts f r ks)

pub changes_by_part : (r : ℕ → List Redo) (ks : List ℕ) → map Change (flat_map r ks) ≡ flat_map (λ k. map Change (r k)) ks
changes_by_part r [] = refl
changes_by_part r (k ∷ ks) =
    map-append Change (r k) (flat_map r ks) ∙ ap (λ (cs : List MemoryCall). map Change (r k) ++ cs) (changes_by_part r ks)

-- a part for each number that passes
pub chosen_parts : (p : ℕ → Bool) (f : ℕ → List MemoryCall) (ks : List ℕ) → flat_map f (filter p ks) ≡ flat_map (λ k. cond (p k) (f k) []) ks
chosen_parts p f [] = refl
chosen_parts p f (k ∷ ks) = one (p k) ∙ ap (λ (cs : List MemoryCall). cond (p k) (f k) [] ++ cs) (chosen_parts p f ks) where
  one : (b : Bool) → flat_map f (cond b (k ∷ filter p ks) (filter p ks)) ≡ cond b (f k) [] ++ flat_map f (filter p ks)
  one true = refl
  one false = refl

pub chosen_calls : (p : ℕ → Bool) (g : ℕ → MemoryCall) (ks : List ℕ) → map g (filter p ks) ≡ flat_map (λ k. cond (p k) (g k ∷ []) []) ks
chosen_calls p g [] = refl
chosen_calls p g (k ∷ ks) = one (p k) ∙ ap (λ (cs : List MemoryCall). cond (p k) (g k ∷ []) [] ++ cs) (chosen_calls p g ks) where
  one : (b : Bool) → map g (cond b (k ∷ filter p ks) (filter p ks)) ≡ cond b (g k ∷ []) [] ++ map g (filter p ks)
  one true = refl
  one false = refl

pub same_calls : (f g : ℕ → List MemoryCall) (ks : List ℕ) → ((k : ℕ) → f k ≡ g k) → flat_map f ks ≡ flat_map g ks
same_calls f g ks same = ap (λ (h : ℕ → List MemoryCall). flat_map h ks) (λ i k. same k i)

-- ---- the parts of a lane's words

abbrev pub restore_call : Undo → ℕ → List MemoryCall
restore_call u k = Change (store_of (u.place / 8 + k) (slice_index u.old k)) ∷ []

pub restores_by_number : (u : Undo) → map Change (restores u) ≡ flat_map (restore_call u) (range_with_len 0 u.count)
restores_by_number u = each_change (λ k. store_of (u.place / 8 + k) (slice_index u.old k)) (range_with_len 0 u.count)

abbrev pub slot_calls : List ℕ → ℕ → ℕ → List MemoryCall
slot_calls image lane slot = map Change (flat_map restores (record_at image lane slot))

pub records_by_slot : (image : List ℕ) (lane : ℕ) → map Change (flat_map restores (records image lane)) ≡ flat_map (slot_calls image lane) (range_with_len 0 64)
records_by_slot image lane =
    ap (λ (us : List Undo). map Change (flat_map restores us)) (records_by_number image lane) ∙ changes_of_parts restores (record_at image lane) (range_with_len 0 64)

abbrev pub entry_calls : List ℕ → ℕ → ℕ → List MemoryCall
entry_calls image lane i = map Change (entry_at image lane i)

pub entries_by_call : (image : List ℕ) (lane : ℕ) → is_sealed image lane ≡ true → map Change (entries image lane) ≡ flat_map (entry_calls image lane) (range_with_len 0 (seal_word image lane))
entries_by_call image lane sealed =
    ap (map Change) (entries_by_number image lane sealed) ∙ changes_by_part (entry_at image lane) (range_with_len 0 (seal_word image lane))

pub of_one : (o : Option Undo) (u : Undo) → o ≡ Some u → map Change (restores u) ≡ map Change (flat_map restores (option_to_list o))
of_one o u is =
    ap (map Change) (sym (append-nil (restores u))) ∙ ap (λ (p : Option Undo). map Change (flat_map restores (option_to_list p))) (sym is)

pub of_none : (o : Option Undo) → o ≡ None → [] ≡ map Change (flat_map restores (option_to_list o))
of_none o is = ap (λ (p : Option Undo). map Change (flat_map restores (option_to_list p))) (sym is)

pub entry_of_one : (o : Option Redo) (e : Redo) → o ≡ Some e → Change e ∷ [] ≡ map Change (option_to_list o)
entry_of_one o e is = ap (λ (p : Option Redo). map Change (option_to_list p)) (sym is)

pub entry_of_none : (o : Option Redo) → o ≡ None → [] ≡ map Change (option_to_list o)
entry_of_none o is = ap (λ (p : Option Redo). map Change (option_to_list p)) (sym is)

pub All-first : {X : Type 0} (P : X → Type 0) (xs ys : List X) → All P (xs ++ ys) → All P xs
All-first P [] ys all = All-nil P
All-first P (x ∷ xs) ys all = All-cons P x xs (All-head P x (xs ++ ys) all) (All-first P xs ys (All-tail P x (xs ++ ys) all))

pub All-second : {X : Type 0} (P : X → Type 0) (xs ys : List X) → All P (xs ++ ys) → All P ys
All-second P [] ys all = all
All-second P (x ∷ xs) ys all = All-second P xs ys (All-tail P x (xs ++ ys) all)

-- what holds of all parts holds of one
pub part_inside : {X : Type 0} (P : X → Type 0) (f : ℕ → List X) (a n k : ℕ) → a ≤ k → k < a + n → All P (flat_map f (range_with_len a n)) → All P (f k)
part_inside P f a zero k from to all = absurd (omega (arith, from, to))
part_inside P f a (suc n) k from to all = ⊎_elim
    (λ (later : a < k). part_inside P f (a + 1) n k (omega (arith, later)) (omega (arith, to)) (All-second P (f a) (flat_map f (range_with_len (a + 1) n)) all))
    (λ (here : k ≤ a). let same : a ≡ k = omega (arith, here, from) in subst (λ (j : ℕ). All P (f j)) same (All-first P (f a) (flat_map f (range_with_len (a + 1) n)) all))
    (cases_lt a k)

pub writes_parts : (image : List ℕ) (lane : ℕ) → map Change (writes image lane) ≡ map Change (flat_map restores (records image lane)) ++ map Change (entries image lane)
unfolding writes
writes_parts image lane = map-append Change (flat_map restores (records image lane)) (entries image lane)

-- ---- the parts of cleared slots

abbrev pub zero_call : ℕ → ℕ → List MemoryCall
zero_call line k = Change (store_of (8 * line + k) 0) ∷ []

pub zeros_by_number : (line : ℕ) → map Change (zeros line) ≡ flat_map (zero_call line) (range_with_len 0 8)
zeros_by_number line = each_change (λ k. store_of (8 * line + k) 0) (range_with_len 0 8)

abbrev pub stray_calls : List ℕ → ℕ → ℕ → List MemoryCall
stray_calls image lane slot = cond (is_stray (generation_after image lane) (undo_slot image lane slot)) (cleared_slot lane slot) []

pub strays_by_number : (image : List ℕ) (lane : ℕ) → flat_map (cleared_slot lane) (strays image lane) ≡ flat_map (stray_calls image lane) (range_with_len 0 64)
unfolding strays
strays_by_number image lane = chosen_parts (λ slot. is_stray (generation_after image lane) (undo_slot image lane slot)) (cleared_slot lane) (range_with_len 0 64)
