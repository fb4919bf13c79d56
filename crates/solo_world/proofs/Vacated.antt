-- What is left of a lane's blocks once some bits of an occupancy word are given back; and single bits of words that were joined or cleared.
use Rattle.std.proofs.Common.{◌≡◌, ◌≢◌, ◌⊎◌, inl, inr, ⊎_elim, lt_of_le_of_lt, ℕ, ◌-◌, ◌/◌, ◌%◌, ◌^◌, ◌<◌, ◌≤◌, ◌&&◌, leb, Bool, true, false, not, cond, eqb, bit_and, bit_or, All, List, [], ◌∷◌, map, slice_index, sym, ap, ◌∙◌, subst, arith, eq-eqb}
use Rattle.std.proofs.Math.Nat.{div-le_self}
use Rattle.std.specs.Int.{bit_at, bit_not, w64}
use Rattle.std.specs.List.{filter, list_any}
use Rattle.std.proofs.lemmas.Bool.{and_parts, and_from, cases_Bool, cases_lt, cond-true, cond-false, eqb-true, eqb-false, false≢true, ne_eqb, not_from_false, or_cases, or_left, or_right}
use Rattle.std.proofs.lemmas.List.Elements.{All-cons, All-head, All-tail}
use Rattle.std.proofs.lemmas.Nat.Bits.{bit_at-lt, bit_at-zero, bit_at_above, bit_at_and, bit_at_not, bit_at_or}
use Rattle.solo_view.specs.declared.occ.Occ.{Occ}
use Rattle.solo_view.specs.declared.occ.Occ.TheVariants.{Run, Zone}
use Rattle.solo_view.specs.Blocks.{zone_of, chunk_of, descriptor_word, is_chunk, page_told, covers}
use Rattle.solo_view.specs.View.{Taken}
use Rattle.solo_view.specs.Views.{has_bit, is_same_occ, without_taken}
use Rattle.solo_world.proofs.Reserved.{held_by_parts, occ_same}
use Rattle.std.proofs.lemmas.Nat.{and_le_l}

-- ---- single bits

pub and_bits : (a b i : ℕ) → bit_at (bit_and a b) i ≡ 1 → (bit_at a i ≡ 1) × (bit_at b i ≡ 1)
and_bits a b i e = let both = bit_at_and a b i in let low = bit_at-lt a i in let less = bit_at-lt b i in (omega (arith, e, both, low, less), omega (arith, e, both, low, less))

pub and_bit : (a b i : ℕ) → bit_at a i ≡ 1 → bit_at b i ≡ 1 → bit_at (bit_and a b) i ≡ 1
and_bit a b i one other = let both = bit_at_and a b i in omega (arith, both, one, other)

pub or_bits : (a b i : ℕ) → bit_at (bit_or a b) i ≡ 1 → (bit_at a i ≡ 1) ⊎ (bit_at b i ≡ 1)
or_bits a b i e = let both = bit_at_or a b i in let low = bit_at-lt a i in let less = bit_at-lt b i in
    ⊎_elim (λ (one : eqb (bit_at a i) 1 ≡ true). inl (eqb-true (bit_at a i) 1 one))
    (λ (none : eqb (bit_at a i) 1 ≡ false). let off : bit_at a i ≢ 1 = eqb-false (bit_at a i) 1 none in let zero : bit_at a i ≡ 0 = omega (arith, low, off) in inr (omega (arith, e, both, zero, less)))
    (cases_Bool (eqb (bit_at a i) 1))

pub or_bit_left : (a b i : ℕ) → bit_at a i ≡ 1 → bit_at (bit_or a b) i ≡ 1
or_bit_left a b i one = let both = bit_at_or a b i in let less = bit_at-lt b i in omega (arith, both, one, less)

pub or_bit_right : (a b i : ℕ) → bit_at b i ≡ 1 → bit_at (bit_or a b) i ≡ 1
or_bit_right a b i one = let both = bit_at_or a b i in let low = bit_at-lt a i in omega (arith, both, one, low)

pub low_bit : (a i : ℕ) → a < 2 ^ 64 → bit_at a i ≡ 1 → i < 64
low_bit a i small one =
    ⊎_elim (λ (low : i < 64). low) (λ (high : 64 ≤ i). absurd (let none = bit_at_above a 64 i small high in omega (arith, one, none))) (cases_lt i 64)

pub not_bit : (a i : ℕ) → a < 2 ^ 64 → i < 64 → bit_at a i ≢ 1 → bit_at (bit_not w64 a) i ≡ 1
not_bit a i small low off = let turned = bit_at_not w64 a i small low in let less = bit_at-lt a i in omega (arith, turned, less, off)

pub not_both : (a i : ℕ) → a < 2 ^ 64 → i < 64 → bit_at (bit_not w64 a) i ≡ 1 → bit_at a i ≢ 1
not_both a i small low one other = let turned = bit_at_not w64 a i small low in omega (arith, turned, one, other)

-- ---- blocks

pub list_any-less : {X : Type 0} (p q : X → Bool) (xs : List X) → list_any p (filter q xs) ≡ true → list_any p xs ≡ true
list_any-less p q [] e = e
list_any-less p q (x ∷ xs) e =
    ⊎_elim (λ (keeps : q x ≡ true). held_by_parts (p x) (p x) (list_any p (filter q xs)) (list_any p xs) (λ here. here) (list_any-less p q xs) (ap (list_any p) (sym (cond-true (q x) (x ∷ filter q xs) (filter q xs) keeps)) ∙ e))
    (λ (drops : q x ≡ false). or_right (p x) (list_any p xs) (list_any-less p q xs (ap (list_any p) (sym (cond-false (q x) (x ∷ filter q xs) (filter q xs) drops)) ∙ e)))
    (cases_Bool (q x))

module _ {X : Type 0} (p q : X → Bool) (f : X → X) where
  kept_before : ((x : X) → p (f x) ≡ true → p x ≡ true) → (xs : List X) → list_any p (filter q (map f xs)) ≡ true → list_any p xs ≡ true
  kept_before each [] e = e
  kept_before each (x ∷ xs) e =
      ⊎_elim (λ (keeps : q (f x) ≡ true). held_by_parts (p (f x)) (p x) (list_any p (filter q (map f xs))) (list_any p xs) (each x) (kept_before each xs) (ap (list_any p) (sym (cond-true (q (f x)) (f x ∷ filter q (map f xs)) (filter q (map f xs)) keeps)) ∙ e))
      (λ (drops : q (f x) ≡ false). or_right (p x) (list_any p xs) (kept_before each xs (ap (list_any p) (sym (cond-false (q (f x)) (f x ∷ filter q (map f xs)) (filter q (map f xs)) drops)) ∙ e)))
      (cases_Bool (q (f x)))

  kept_after : ((x : X) → p x ≡ true → (p (f x) ≡ true) × (q (f x) ≡ true)) → (xs : List X) → list_any p xs ≡ true → list_any p (filter q (map f xs)) ≡ true
  kept_after each [] e = e
  kept_after each (x ∷ xs) e =
      let rest : List X = filter q (map f xs) in
      ⊎_elim (λ (here : p x ≡ true). ap (list_any p) (cond-true (q (f x)) (f x ∷ rest) rest (each x here).1) ∙ or_left (p (f x)) (list_any p rest) (each x here).0)
      (λ (later : list_any p xs ≡ true). ⊎_elim (λ (keeps : q (f x) ≡ true). ap (list_any p) (cond-true (q (f x)) (f x ∷ rest) rest keeps) ∙ or_right (p (f x)) (list_any p rest) (kept_after each xs later))
      (λ (drops : q (f x) ≡ false). ap (list_any p) (cond-false (q (f x)) (f x ∷ rest) rest drops) ∙ kept_after each xs later) (cases_Bool (q (f x))))
      (or_cases (p x) (list_any p xs) e)

  kept_none : ((x : X) → p (f x) ≡ true → ⊥) → (xs : List X) → list_any p (filter q (map f xs)) ≡ true → ⊥
  kept_none each [] e = false≢true e
  kept_none each (x ∷ xs) e =
      let rest : List X = filter q (map f xs) in
      ⊎_elim (λ (keeps : q (f x) ≡ true). ⊎_elim (λ (here : p (f x) ≡ true). each x here) (λ (later : list_any p rest ≡ true). kept_none each xs later)
      (or_cases (p (f x)) (list_any p rest) (ap (list_any p) (sym (cond-true (q (f x)) (f x ∷ rest) rest keeps)) ∙ e)))
      (λ (drops : q (f x) ≡ false). kept_none each xs (ap (list_any p) (sym (cond-false (q (f x)) (f x ∷ rest) rest drops)) ∙ e))
      (cases_Bool (q (f x)))

all_kept : {X : Type 0} (P : X → Type 0) (q : X → Bool) (f : X → X) → ((x : X) → P x → P (f x)) → (xs : List X) → All P xs → All P (filter q (map f xs))
all_kept P q f each [] all = all
all_kept P q f each (x ∷ xs) all =
    let rest = all_kept P q f each xs (All-tail P x xs all) in
    ⊎_elim (λ (keeps : q (f x) ≡ true). subst (All P) (sym (cond-true (q (f x)) (f x ∷ filter q (map f xs)) (filter q (map f xs)) keeps)) (All-cons P (f x) (filter q (map f xs)) (each x (All-head P x xs all)) rest))
    (λ (drops : q (f x) ≡ false). subst (All P) (sym (cond-false (q (f x)) (f x ∷ filter q (map f xs)) (filter q (map f xs)) drops)) rest)
    (cases_Bool (q (f x)))

-- which bit of the occupancy word a word's block or chunk has
abbrev index_of : ℕ → List ℕ → ℕ → Occ → ℕ
index_of lanes words w (Run place) = (w % 512 / 8 - 1) / (slice_index words (descriptor_word lanes (place / 4096)) / 256)
index_of lanes words w (Zone zone) = chunk_of lanes (page_told lanes w) - 1

index_low : (lanes : ℕ) (words : List ℕ) (w : ℕ) (at : Occ) → index_of lanes words w at < 64
index_low lanes words w (Run place) =
    let lines : ℕ = slice_index words (descriptor_word lanes (place / 4096)) / 256 in
    let line : ℕ = w % 512 / 8 - 1 in
    let most : line / lines ≤ line = div-le_self line lines in
    let few : line < 64 = omega arith in
    lt_of_le_of_lt most few
index_low lanes words w (Zone zone) = omega arith

-- a word is covered by these bits, and by others that have its bit
covered_bit : (lanes : ℕ) (words : List ℕ) (w : ℕ) (at : Occ) (bits : ℕ) → covers lanes words at bits w ≡ true → bit_at bits (index_of lanes words w at) ≡ 1
covered_bit lanes words w (Run place) bits e = eqb-true (bit_at bits (index_of lanes words w (Run place))) 1 (and_parts (eqb (w / 512) (place / 4096) && leb 8 (w % 512)) _ e).1
covered_bit lanes words w (Zone zone) bits e = eqb-true (bit_at bits (index_of lanes words w (Zone zone))) 1 (and_parts (is_chunk lanes (page_told lanes w) && eqb (zone_of lanes (page_told lanes w)) zone) _ e).1

covered_by : (lanes : ℕ) (words : List ℕ) (w : ℕ) (at : Occ) (bits others : ℕ) → covers lanes words at bits w ≡ true → bit_at others (index_of lanes words w at) ≡ 1 → covers lanes words at others w ≡ true
covered_by lanes words w (Run place) bits others e set =
    let t = and_parts (eqb (w / 512) (place / 4096) && leb 8 (w % 512)) _ e in and_from (eqb (w / 512) (place / 4096) && leb 8 (w % 512)) _ t.0 (eq-eqb (bit_at others (index_of lanes words w (Run place))) 1 set)
covered_by lanes words w (Zone zone) bits others e set =
    let t = and_parts (is_chunk lanes (page_told lanes w) && eqb (zone_of lanes (page_told lanes w)) zone) _ e in
    and_from (is_chunk lanes (page_told lanes w) && eqb (zone_of lanes (page_told lanes w)) zone) _ t.0 (eq-eqb (bit_at others (index_of lanes words w (Zone zone))) 1 set)

module _ (at : Occ) (bits : ℕ) (small : bits < 2 ^ 64) where
  cleared : Taken → Taken
  cleared t = record t { bits = bit_and t.bits (bit_not w64 bits) }

  given : Taken → Taken
  given t = cond (is_same_occ at t.at) (cleared t) t

  left : Taken → Bool
  left t = not (eqb t.bits 0)

  given_so : (t : Taken) → ((is_same_occ at t.at ≡ true) × (given t ≡ cleared t)) ⊎ ((is_same_occ at t.at ≡ false) × (given t ≡ t))
  unfolding given
  given_so t =
      ⊎_elim (λ (same : is_same_occ at t.at ≡ true). inl (same, cond-true (is_same_occ at t.at) (cleared t) t same))
      (λ (other : is_same_occ at t.at ≡ false). inr (other, cond-false (is_same_occ at t.at) (cleared t) t other)) (cases_Bool (is_same_occ at t.at))

  has_parts : (other : Occ) (bit : ℕ) (t : Taken) → has_bit other bit t ≡ true → (is_same_occ other t.at ≡ true) × (bit_at t.bits bit ≡ 1)
  has_parts other bit t e = let both = and_parts (is_same_occ other t.at) (eqb (bit_at t.bits bit) 1) e in (both.0, eqb-true (bit_at t.bits bit) 1 both.1)

  has_from : (other : Occ) (bit : ℕ) (t : Taken) → is_same_occ other t.at ≡ true → bit_at t.bits bit ≡ 1 → has_bit other bit t ≡ true
  has_from other bit t same set = and_from (is_same_occ other t.at) (eqb (bit_at t.bits bit) 1) same (eq-eqb (bit_at t.bits bit) 1 set)

  some_left : (t : Taken) (bit : ℕ) → bit_at t.bits bit ≡ 1 → left t ≡ true
  unfolding left
  some_left t bit set = not_from_false (eqb t.bits 0) (ne_eqb t.bits 0 (λ none. absurd (let off = bit_at-zero bit in let on : bit_at 0 bit ≡ 1 = ap (λ n. bit_at n bit) (sym none) ∙ set in omega (arith, off, on))))

  left_is : (blocks : List Taken) → without_taken at bits blocks ≡ filter left (map given blocks)
  unfolding left given cleared
  left_is blocks = λ i. without_taken at bits blocks

  -- what is had still was had before
  pub vacated_before : (other : Occ) (bit : ℕ) (blocks : List Taken) → list_any (has_bit other bit) (without_taken at bits blocks) ≡ true → list_any (has_bit other bit) blocks ≡ true
  unfolding cleared
  vacated_before other bit blocks e = kept_before (has_bit other bit) left given
      (λ t has. ⊎_elim
      (λ (s : (is_same_occ at t.at ≡ true) × (given t ≡ cleared t)). let parts = has_parts other bit (cleared t) (ap (has_bit other bit) (sym s.1) ∙ has) in has_from other bit t parts.0 (and_bits t.bits (bit_not w64 bits) bit parts.1).0)
      (λ (s : (is_same_occ at t.at ≡ false) × (given t ≡ t)). ap (has_bit other bit) (sym s.1) ∙ has) (given_so t))
      blocks (ap (list_any (has_bit other bit)) (sym (left_is blocks)) ∙ e)

  -- and what was had, but for these bits, is had still
  pub vacated_after : (other : Occ) (bit : ℕ) (blocks : List Taken) → bit < 64 → (other ≡ at → bit_at bits bit ≢ 1) → list_any (has_bit other bit) blocks ≡ true → list_any (has_bit other bit) (without_taken at bits blocks) ≡ true
  unfolding cleared
  vacated_after other bit blocks low apart e = ap (list_any (has_bit other bit)) (left_is blocks) ∙ kept_after (has_bit other bit) left given
      (λ t has. let parts = has_parts other bit t has in ⊎_elim
      (λ (s : (is_same_occ at t.at ≡ true) × (given t ≡ cleared t)).
      let off = apart (occ_same other t.at parts.0 ∙ sym (occ_same at t.at s.0)) in
      let set : bit_at (bit_and t.bits (bit_not w64 bits)) bit ≡ 1 = and_bit t.bits (bit_not w64 bits) bit parts.1 (not_bit bits bit small low off) in
      (ap (has_bit other bit) s.1 ∙ has_from other bit (cleared t) parts.0 set, ap left s.1 ∙ some_left (cleared t) bit set))
      (λ (s : (is_same_occ at t.at ≡ false) × (given t ≡ t)). (ap (has_bit other bit) s.1 ∙ has, ap left s.1 ∙ some_left t bit parts.1)) (given_so t))
      blocks e

  -- these bits are not
  pub vacated_gone : (bit : ℕ) (blocks : List Taken) → bit < 64 → bit_at bits bit ≡ 1 → list_any (has_bit at bit) (without_taken at bits blocks) ≡ true → ⊥
  unfolding cleared
  vacated_gone bit blocks low set e = kept_none (has_bit at bit) left given
      (λ t has. ⊎_elim
      (λ (s : (is_same_occ at t.at ≡ true) × (given t ≡ cleared t)). let parts = has_parts at bit (cleared t) (ap (has_bit at bit) (sym s.1) ∙ has) in not_both bits bit small low (and_bits t.bits (bit_not w64 bits) bit parts.1).1 set)
      (λ (s : (is_same_occ at t.at ≡ false) × (given t ≡ t)). let parts = has_parts at bit t (ap (has_bit at bit) (sym s.1) ∙ has) in false≢true (sym s.0 ∙ parts.0)) (given_so t))
      blocks (ap (list_any (has_bit at bit)) (sym (left_is blocks)) ∙ e)

  -- a word of the blocks that is none of these bits' is of a block that is left
  pub covered_still : (lanes : ℕ) (words : List ℕ) (w : ℕ) (blocks : List Taken) → covers lanes words at bits w ≡ false → list_any (λ (t : Taken). covers lanes words t.at t.bits w) blocks ≡ true
      → list_any (λ (t : Taken). covers lanes words t.at t.bits w) (without_taken at bits blocks) ≡ true
  unfolding cleared
  covered_still lanes words w blocks apart e = ap (list_any (λ (t : Taken). covers lanes words t.at t.bits w)) (left_is blocks) ∙ kept_after (λ (t : Taken). covers lanes words t.at t.bits w) left given
      (λ t covered. let set = covered_bit lanes words w t.at t.bits covered in ⊎_elim
      (λ (s : (is_same_occ at t.at ≡ true) × (given t ≡ cleared t)).
      let off : bit_at bits (index_of lanes words w t.at) ≢ 1 = λ one. false≢true (sym apart ∙ subst (λ x. covers lanes words x bits w ≡ true) (sym (occ_same at t.at s.0)) (covered_by lanes words w t.at t.bits bits covered one)) in
      let kept : bit_at (bit_and t.bits (bit_not w64 bits)) (index_of lanes words w t.at) ≡ 1 = and_bit t.bits (bit_not w64 bits) (index_of lanes words w t.at) set (not_bit bits (index_of lanes words w t.at) small (index_low lanes words w t.at) off) in
      (ap (λ (u : Taken). covers lanes words u.at u.bits w) s.1 ∙ covered_by lanes words w t.at t.bits (bit_and t.bits (bit_not w64 bits)) covered kept, ap left s.1 ∙ some_left (cleared t) (index_of lanes words w t.at) kept))
      (λ (s : (is_same_occ at t.at ≡ false) × (given t ≡ t)). (ap (λ (u : Taken). covers lanes words u.at u.bits w) s.1 ∙ covered, ap left s.1 ∙ some_left t (index_of lanes words w t.at) set)) (given_so t))
      blocks e

  -- each block left is of the occupancy word that it was of
  pub vacated_all : (P : Occ → Type 0) (blocks : List Taken) → All (λ (t : Taken). P t.at) blocks → All (λ (t : Taken). P t.at) (without_taken at bits blocks)
  unfolding cleared
  vacated_all P blocks all = subst (All (λ (t : Taken). P t.at)) (sym (left_is blocks)) (all_kept (λ (t : Taken). P t.at) left given
      (λ t of. ⊎_elim (λ (s : (is_same_occ at t.at ≡ true) × (given t ≡ cleared t)). subst (λ (u : Taken). P u.at) (sym s.1) of) (λ (s : (is_same_occ at t.at ≡ false) × (given t ≡ t)). subst (λ (u : Taken). P u.at) (sym s.1) of) (given_so t))
      blocks all)

  -- and its bits are a word of 64 still
  pub vacated_small : (blocks : List Taken) → All (λ (t : Taken). t.bits < 2 ^ 64) blocks → All (λ (t : Taken). t.bits < 2 ^ 64) (without_taken at bits blocks)
  unfolding cleared
  vacated_small blocks all = subst (All (λ (t : Taken). t.bits < 2 ^ 64)) (sym (left_is blocks)) (all_kept (λ (t : Taken). t.bits < 2 ^ 64) left given
      (λ t few. ⊎_elim (λ (s : (is_same_occ at t.at ≡ true) × (given t ≡ cleared t)). subst (λ (u : Taken). u.bits < 2 ^ 64) (sym s.1) (let less = and_le_l t.bits (bit_not w64 bits) in omega (arith, less, few)))
      (λ (s : (is_same_occ at t.at ≡ false) × (given t ≡ t)). subst (λ (u : Taken). u.bits < 2 ^ 64) (sym s.1) few) (given_so t))
      blocks all)
