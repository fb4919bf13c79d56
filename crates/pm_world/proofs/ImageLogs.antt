-- What is read back of a lane's log in an image: its entries where they are sealed, and the records that are valid, each in its slot.
use Rattle.std.proofs.Common.{◌≡◌, ◌≢◌, ℕ, zero, suc, ◌+◌, ◌-◌, ◌*◌, ◌/◌, ◌%◌, ◌<◌, ◌≤◌, ◌⊎◌, inl, inr, ⊎_elim, Bool, true, false, cond, ◌&&◌, eqb, leb, ltb, List, [], ◌∷◌, ◌++◌, length, length-append, replicate, take, drop, get_or, map, slice_get, slice_index, slice_range, refl, sym, ap, ◌∙◌, subst, arith, Option, None, Some}
use Rattle.std.specs.List.{cons_option, filter_map, find, flat_map, range_with_len}
use Rattle.std.specs.Option.{option_map, option_and_then, option_to_list}
use Rattle.std.proofs.lemmas.Bool.{cases_eq, cases_Bool, eqb-true, eq-eqb, and_from, and_parts, cond-true, le-leb, lt-ltb, leb-true, ltb-true}
use Rattle.std.proofs.lemmas.List.{ext_get_or, get_or-take, get_or-drop, length-take, length-drop, length-replicate, get_or_append_left}
use Rattle.std.proofs.lemmas.Option.{none-some, same_Some, cond_some}
use Rattle.pm_record.specs.Redo.{op_code, op_of, redo_of}
use Rattle.pm_record.specs.Undo.{undo_words, undo_of}
use Rattle.pm_record.specs.declared.redo.Op.{Op}
use Rattle.pm_record.specs.declared.redo.Op.TheVariants.{Set, Or, And}
use Rattle.pm_record.specs.declared.redo.Redo.{Redo}
use Rattle.pm_record.specs.declared.undo.Undo.{Undo}
use Rattle.pm_layout.specs.declared.shape.Shape.{Shape}
use Rattle.pm_view.specs.Places.{word_of}
use Rattle.pm_view.specs.Entries.{Entry, entry_head}
use Rattle.pm_view.specs.Log.{Recorded}
use Rattle.pm_image.specs.Logs.{covers, old_word, undo_slot, generation, records}
use Rattle.pm_image.specs.Steps.{valid_record}
use Rattle.pm_image.proofs.Gathering.{records_by_number}
use Rattle.pm_world.specs.Logs.{spelled, slot_list}

-- ---- eight words

pub eight : (xs : List ℕ) → length xs ≡ 8 → xs ≡ slot_list (slice_index xs)
eight xs long = ext_get_or 0 xs (slot_list (slice_index xs)) long (λ i l. at i (omega arith))
  where
    at : (i : ℕ) → i < 8 → get_or xs i 0 ≡ get_or (slot_list (slice_index xs)) i 0
    at zero l = refl
    at (suc zero) l = refl
    at (suc (suc zero)) l = refl
    at (suc (suc (suc zero))) l = refl
    at (suc (suc (suc (suc zero)))) l = refl
    at (suc (suc (suc (suc (suc zero))))) l = refl
    at (suc (suc (suc (suc (suc (suc zero)))))) l = refl
    at (suc (suc (suc (suc (suc (suc (suc zero))))))) l = refl
    at (suc (suc (suc (suc (suc (suc (suc (suc i)))))))) l = absurd (omega arith)

-- slots that agree word by word are the same
pub slots_alike : (f h : ℕ → ℕ) → ((i : ℕ) → i < 8 → f i ≡ h i) → slot_list f ≡ slot_list h
slots_alike f h e = λ t. e 0 (omega arith) t ∷ e 1 (omega arith) t ∷ e 2 (omega arith) t ∷ e 3 (omega arith) t ∷ e 4 (omega arith) t ∷ e 5 (omega arith) t ∷ e 6 (omega arith) t ∷ e 7 (omega arith) t ∷ []

pub slice_eight : (xs : List ℕ) (a : ℕ) → a + 8 ≤ length xs → slice_range xs a (a + 8) ≡ slot_list (λ i. slice_index xs (a + i))
slice_eight xs a long =
    let n : a + 8 - a ≡ 8 = omega arith in
    let count : length (take 8 (drop a xs)) ≡ 8 = let dropped = length-drop a xs in let taken = length-take 8 (drop a xs) in omega (arith, dropped, taken) in
    ap (λ (z : ℕ). take z (drop a xs)) n ∙ (eight (take 8 (drop a xs)) count ∙ slots_alike (slice_index (take 8 (drop a xs))) (λ i. slice_index xs (a + i)) (λ i l. get_or-take 8 (drop a xs) i 0 l ∙ get_or-drop a xs i 0))

-- ---- ENTRIES

-- the entry that an image has for one of a lane's
abbrev pub redo_at : Entry → Redo
redo_at e = record { place = 8 * e.word; op = e.op; value = e.value }

pub redo_again : (e : Entry) → redo_of (entry_head e ∷ e.value ∷ []) ≡ Some (redo_at e)
redo_again e = go e.op e.word e.value
  where
    go : (op : Op) (w x : ℕ) → redo_of ((8 * w + op_code op) ∷ x ∷ []) ≡ Some (record { place = 8 * w; op = op; value = x })
    go Set w x = let code : (8 * w + 0) % 8 ≡ 0 = omega arith in let place : (8 * w + 0) / 8 * 8 ≡ 8 * w = omega arith in
        ap (λ c. option_map (λ op. record { place = (8 * w + 0) / 8 * 8; op = op; value = x }) (op_of c)) code ∙ ap (λ (p : ℕ). let d : Redo = record { place = p; op = Set; value = x } in Some d) place
    go Or w x = let code : (8 * w + 1) % 8 ≡ 1 = omega arith in let place : (8 * w + 1) / 8 * 8 ≡ 8 * w = omega arith in
        ap (λ c. option_map (λ op. record { place = (8 * w + 1) / 8 * 8; op = op; value = x }) (op_of c)) code ∙ ap (λ (p : ℕ). let d : Redo = record { place = p; op = Or; value = x } in Some d) place
    go And w x = let code : (8 * w + 2) % 8 ≡ 2 = omega arith in let place : (8 * w + 2) / 8 * 8 ≡ 8 * w = omega arith in
        ap (λ c. option_map (λ op. record { place = (8 * w + 2) / 8 * 8; op = op; value = x }) (op_of c)) code ∙ ap (λ (p : ℕ). let d : Redo = record { place = p; op = And; value = x } in Some d) place

pub read_all : (read : ℕ → Option Redo) (es : List Entry) (from : ℕ) → ((i : ℕ) (e : Entry) → slice_get es i ≡ Some e → read (from + i) ≡ Some (redo_at e)) → filter_map read (range_with_len from (length es)) ≡ map redo_at es
read_all read [] from each = refl
read_all read (e ∷ es) from each = let here : from + 0 ≡ from = omega arith in
    ap (λ o. cons_option o (filter_map read (range_with_len (from + 1) (length es)))) (ap read (sym here) ∙ each 0 e refl)
    ∙ ap (λ (t : List Redo). redo_at e ∷ t) (read_all read es (from + 1) (λ i d at. let next : from + 1 + i ≡ from + suc i = omega arith in ap read next ∙ each (suc i) d at))

-- ---- RECORDS

-- what is read back of a record of this generation
abbrev pub undo_from : Shape → ℕ → Recorded → Undo
undo_from sh n r = record { generation = n; place = 8 * word_of sh r.place; count = length r.old; old = r.old ++ replicate (4 - length r.old) 0 }

undo_again : (n place count : ℕ) (old : List ℕ) → length old ≡ 4 → undo_of (undo_words (record { generation = n; place = place; count = count; old = old })) ≡ Some (record { generation = n; place = place; count = count; old = old })
undo_again n place count [] four = absurd (omega arith)
undo_again n place count (a ∷ []) four = absurd (omega arith)
undo_again n place count (a ∷ b ∷ []) four = absurd (omega arith)
undo_again n place count (a ∷ b ∷ c ∷ []) four = absurd (omega arith)
undo_again n place count (a ∷ b ∷ c ∷ d ∷ []) four = let sum : ℕ = slice_index (undo_words (record { generation = n; place = place; count = count; old = a ∷ b ∷ c ∷ d ∷ [] })) 7 in
    ap (λ t. cond t (Some (record { generation = n; place = place; count = count; old = a ∷ b ∷ c ∷ d ∷ [] })) None) (eq-eqb sum sum refl)
undo_again n place count (a ∷ b ∷ c ∷ d ∷ e ∷ old) four = absurd (omega arith)

four_old : (r : Recorded) → length r.old ≤ 4 → length (r.old ++ replicate (4 - length r.old) 0) ≡ 4
four_old r most = let whole = length-append r.old (replicate (4 - length r.old) 0) in let zeros = length-replicate {A = ℕ} (4 - length r.old) 0 in omega (arith, whole, zeros)

pub spelled_long : (sh : Shape) (n : ℕ) (r : Recorded) → length r.old ≤ 4 → length (spelled sh n r) ≡ 8
spelled_long sh n r most = go n (8 * word_of sh r.place) (length r.old) (r.old ++ replicate (4 - length r.old) 0) (four_old r most)
  where
    go : (n place count : ℕ) (old : List ℕ) → length old ≡ 4 → length (undo_words (record { generation = n; place = place; count = count; old = old })) ≡ 8
    go n place count [] four = absurd (omega arith)
    go n place count (a ∷ []) four = absurd (omega arith)
    go n place count (a ∷ b ∷ []) four = absurd (omega arith)
    go n place count (a ∷ b ∷ c ∷ []) four = absurd (omega arith)
    go n place count (a ∷ b ∷ c ∷ d ∷ []) four = refl
    go n place count (a ∷ b ∷ c ∷ d ∷ e ∷ old) four = absurd (omega arith)

pub undo_spelled : (sh : Shape) (n : ℕ) (r : Recorded) → length r.old ≤ 4 → undo_of (spelled sh n r) ≡ Some (undo_from sh n r)
undo_spelled sh n r most = undo_again n (8 * word_of sh r.place) (length r.old) (r.old ++ replicate (4 - length r.old) 0) (four_old r most)

-- a valid record is its slot's, of the lane's generation
pub valid_from : (image : List ℕ) (lane slot : ℕ) (u : Undo) → undo_of (undo_slot image lane slot) ≡ Some u → u.generation ≡ generation image lane → valid_record image lane slot ≡ Some u
valid_from image lane slot u stands same = ap (option_and_then (λ (v : Undo). cond (eqb v.generation (generation image lane)) (Some v) None)) stands ∙ cond-true _ _ _ (eq-eqb u.generation (generation image lane) same)

pub valid_parts : (image : List ℕ) (lane slot : ℕ) (u : Undo) → valid_record image lane slot ≡ Some u → (undo_of (undo_slot image lane slot) ≡ Some u) × (u.generation ≡ generation image lane)
valid_parts image lane slot u valid = go (undo_of (undo_slot image lane slot)) refl valid where
  go : (o : Option Undo) → undo_of (undo_slot image lane slot) ≡ o → option_and_then (λ (v : Undo). cond (eqb v.generation (generation image lane)) (Some v) None) o ≡ Some u → (undo_of (undo_slot image lane slot) ≡ Some u) × (u.generation ≡ generation image lane)
  go None is e = absurd (none-some u e)
  go (Some v) is e = let t = cond_some (eqb v.generation (generation image lane)) v u e in (is ∙ ap Some t.1, ap (λ (z : Undo). z.generation) (sym t.1) ∙ eqb-true v.generation (generation image lane) t.0)

-- the words that it covers are the record's, and have its old values
pub covered : (sh : Shape) (n : ℕ) (r : Recorded) (w : ℕ) → covers (undo_from sh n r) (8 * w) ≡ true → (word_of sh r.place ≤ w) × (w < word_of sh r.place + length r.old)
covered sh n r w e = let W : ℕ = word_of sh r.place in
    let p = and_parts (leb (8 * W) (8 * w) && ltb ((8 * w - 8 * W) / 8) (length r.old) && ltb ((8 * w - 8 * W) / 8) 4) (eqb ((8 * w - 8 * W) % 8) 0) e in
    let q = and_parts (leb (8 * W) (8 * w) && ltb ((8 * w - 8 * W) / 8) (length r.old)) (ltb ((8 * w - 8 * W) / 8) 4) p.0 in
    let s = and_parts (leb (8 * W) (8 * w)) (ltb ((8 * w - 8 * W) / 8) (length r.old)) q.0 in
    let low = leb-true (8 * W) (8 * w) s.0 in let high = ltb-true ((8 * w - 8 * W) / 8) (length r.old) s.1 in (omega arith, omega arith)

pub covers_from : (sh : Shape) (n : ℕ) (r : Recorded) (w : ℕ) → length r.old ≤ 4 → word_of sh r.place ≤ w → w < word_of sh r.place + length r.old → covers (undo_from sh n r) (8 * w) ≡ true
covers_from sh n r w most low high = let W : ℕ = word_of sh r.place in
    and_from _ _ (and_from _ _ (and_from _ _ (le-leb (8 * W) (8 * w) (omega arith)) (lt-ltb ((8 * w - 8 * W) / 8) (length r.old) (omega arith))) (lt-ltb ((8 * w - 8 * W) / 8) 4 (omega arith))) (eq-eqb ((8 * w - 8 * W) % 8) 0 (omega arith))

pub old_from : (sh : Shape) (n : ℕ) (r : Recorded) (w : ℕ) → word_of sh r.place ≤ w → w < word_of sh r.place + length r.old → old_word (undo_from sh n r) (8 * w) ≡ slice_index r.old (w - word_of sh r.place)
old_from sh n r w low high = let W : ℕ = word_of sh r.place in let at : (8 * w - 8 * W) / 8 ≡ w - W = omega arith in
    ap (slice_index (r.old ++ replicate (4 - length r.old) 0)) at ∙ get_or_append_left r.old (replicate (4 - length r.old) 0) 0 (w - W) (omega arith)

-- ---- the first record that covers a word is in some slot, or none is

find_cases : {X : Type 0} (p : X → Bool) (x : X) (xs : List X) → (p x ≡ true) ⊎ (p x ≡ false) → ((p x ≡ true) × (find p (x ∷ xs) ≡ Some x)) ⊎ ((p x ≡ false) × (find p (x ∷ xs) ≡ find p xs))
find_cases p x xs (inl t) = inl (t, ap (λ b. cond b (Some x) (find p xs)) t)
find_cases p x xs (inr f) = inr (f, ap (λ b. cond b (Some x) (find p xs)) f)

abbrev InSlot : (ℕ → Option Undo) → (Undo → Bool) → ℕ → ℕ → Undo → Type 0
InSlot h p from n u = (j : ℕ) × (from ≤ j) × (j < from + n) × (h j ≡ Some u) × (p u ≡ true)

found_in : (h : ℕ → Option Undo) (p : Undo → Bool) (from n : ℕ) (u : Undo) → find p (flat_map (λ j. option_to_list (h j)) (range_with_len from n)) ≡ Some u → InSlot h p from n u
found_in h p from zero u e = absurd (none-some u e)
found_in h p from (suc n) u e = go (h from) refl (found_in h p (from + 1) n u) e
  where
    later : InSlot h p (from + 1) n u → InSlot h p from (suc n) u
    later t = let low = t.1 in let high = t.2 in (t.0, omega arith, omega arith, t.3, t.4)

    go : (d : Option Undo) → h from ≡ d → (find p (flat_map (λ j. option_to_list (h j)) (range_with_len (from + 1) n)) ≡ Some u → InSlot h p (from + 1) n u) → find p (option_to_list d ++ flat_map (λ j. option_to_list (h j)) (range_with_len (from + 1) n)) ≡ Some u → InSlot h p from (suc n) u
    go None is r q = later (r q)
    go (Some v) is r q = ⊎_elim (λ (z : (p v ≡ true) × (find p (v ∷ flat_map (λ j. option_to_list (h j)) (range_with_len (from + 1) n)) ≡ Some v)). let same : v ≡ u = same_Some v u (sym z.1 ∙ q) in (from, omega arith, omega arith, is ∙ ap Some same, subst (λ t. p t ≡ true) same z.0))
        (λ z. later (r (sym z.1 ∙ q))) (find_cases p v (flat_map (λ j. option_to_list (h j)) (range_with_len (from + 1) n)) (cases_Bool (p v)))

none_in : (h : ℕ → Option Undo) (p : Undo → Bool) (from n : ℕ) → find p (flat_map (λ j. option_to_list (h j)) (range_with_len from n)) ≡ None → (j : ℕ) (u : Undo) → from ≤ j → j < from + n → h j ≡ Some u → p u ≡ false
none_in h p from zero e j u low high is = absurd (omega arith)
none_in h p from (suc n) e j u low high is = go (h from) refl (λ q. none_in h p (from + 1) n q j u) e
  where
    go : (d : Option Undo) → h from ≡ d → (find p (flat_map (λ j. option_to_list (h j)) (range_with_len (from + 1) n)) ≡ None → from + 1 ≤ j → j < from + 1 + n → h j ≡ Some u → p u ≡ false)
        → find p (option_to_list d ++ flat_map (λ j. option_to_list (h j)) (range_with_len (from + 1) n)) ≡ None → p u ≡ false
    go None was r q = ⊎_elim (λ (s : j ≡ from). absurd (none-some u (sym (ap h s ∙ was) ∙ is))) (λ (ne : j ≢ from). r q (omega arith) (omega arith) is) (cases_eq j from)
    go (Some v) was r q = ⊎_elim (λ (z : (p v ≡ true) × (find p (v ∷ flat_map (λ j. option_to_list (h j)) (range_with_len (from + 1) n)) ≡ Some v)). absurd (none-some v (sym q ∙ z.1)))
        (λ z. ⊎_elim (λ (s : j ≡ from). subst (λ t. p t ≡ false) (same_Some v u (sym (ap h s ∙ was) ∙ is)) z.0) (λ (ne : j ≢ from). r (sym z.1 ∙ q) (omega arith) (omega arith) is) (cases_eq j from))
        (find_cases p v (flat_map (λ j. option_to_list (h j)) (range_with_len (from + 1) n)) (cases_Bool (p v)))

pub found_slot : (image : List ℕ) (lane place : ℕ) (u : Undo) → find (λ r. covers r place) (records image lane) ≡ Some u → (j : ℕ) × (j < 64) × (valid_record image lane j ≡ Some u) × (covers u place ≡ true)
found_slot image lane place u e = let t = found_in (valid_record image lane) (λ r. covers r place) 0 64 u (sym (ap (find (λ r. covers r place)) (records_by_number image lane)) ∙ e) in (t.0, t.2, t.3, t.4)

pub no_slot : (image : List ℕ) (lane place : ℕ) → find (λ r. covers r place) (records image lane) ≡ None → (j : ℕ) (u : Undo) → j < 64 → valid_record image lane j ≡ Some u → covers u place ≡ false
no_slot image lane place e j u l v = none_in (valid_record image lane) (λ r. covers r place) 0 64 (sym (ap (find (λ r. covers r place)) (records_by_number image lane)) ∙ e) j u (omega arith) l v
