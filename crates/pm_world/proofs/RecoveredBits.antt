-- The bits of a recovered word: what the sealed entries of all lanes make of each, or an old word; and where one lane's log alone gives it.
use Rattle.pm_world.proofs.Basics.{none_of}
use Rattle.std.proofs.Common.{◌≡◌, ◌≢◌, ℕ, zero, suc, ◌+◌, ◌*◌, ◌<◌, ◌≤◌, ◌⊎◌, inl, inr, ⊎_elim, min, max, Bool, true, false, cond, not, ◌&&◌, eqb, List, [], ◌∷◌, ◌++◌, slice_index, refl, sym, ap, ◌∙◌, arith, bit_and, bit_or, Option, None, Some}
use Rattle.std.specs.Int.{bit_at}
use Rattle.std.specs.List.{filter, find, flat_map, range_with_len}
use Rattle.std.specs.Option.{option_map, option_or}
use Rattle.std.proofs.lemmas.Bool.{cases_eq, cases_lt, cases_Bool, both_ways, eqb-true, false_from_ne_true}
use Rattle.std.proofs.lemmas.List.Folds.{find-append}
use Rattle.std.proofs.lemmas.Nat.Bits.{bit_at_and, bit_at_or, bit_at-lt}
use Rattle.pm_record.specs.Redo.{applied, outcome}
use Rattle.pm_record.specs.declared.redo.Op.{Op}
use Rattle.pm_record.specs.declared.redo.Op.TheVariants.{Set, Or, And}
use Rattle.pm_record.specs.declared.redo.Redo.{Redo}
use Rattle.pm_record.specs.declared.undo.Undo.{Undo}
use Rattle.pm_image.specs.Logs.{all_applied, entries, entries_for, records, record_for, covers, old_word, restored, recovered, recovered_by}
use Rattle.pm_view.specs.Claims.{is_run}
use Rattle.pm_view.specs.Entries.{op_bit, given_bit, first_of_two}
use Rattle.pm_world.specs.States.{given, over}
use Rattle.pm_world.specs.Memory.{bit, huge_told}

-- what entries make of bit b of word w: the last that gives it does
abbrev pub entry_bit : List Redo → ℕ → ℕ → Option Bool
entry_bit [] w b = None
entry_bit (e ∷ t) w b = first_of_two (entry_bit t w b) (cond (eqb e.place (8 * w)) (given_bit e.op e.value b) None)

-- what the first of some records that covers the word does
abbrev pub record_bit : List Undo → ℕ → ℕ → Option Bool
record_bit us w b = option_map (λ u. bit (old_word u (8 * w)) b) (find (λ u. covers u (8 * w)) us)

abbrev pub of_word : ℕ → List Redo → List Redo
of_word w es = filter (λ e. eqb e.place (8 * w)) es

-- ---- one entry

pub two_bits : (n : ℕ) → n < 2 → (n ≡ 0) ⊎ (n ≡ 1)
two_bits zero l = inl refl
two_bits (suc zero) l = inr refl
two_bits (suc (suc n)) l = absurd (omega arith)

or_bit : (x word b : ℕ) → bit (bit_or word x) b ≡ over (op_bit Or x b) (bit word b)
or_bit x word b = go (bit_at x b) (bit_at word b) (two_bits (bit_at x b) (bit_at-lt x b)) (two_bits (bit_at word b) (bit_at-lt word b)) (bit_at_or word x b)
  where
    go : (s t : ℕ) → (s ≡ 0) ⊎ (s ≡ 1) → (t ≡ 0) ⊎ (t ≡ 1) → bit_at (bit_or word x) b ≡ max t s → bit (bit_or word x) b ≡ over (cond (eqb s 1) (Some true) None) (eqb t 1)
    go s t (inl e) (inl f) q = ap (λ z. eqb z 1) (q ∙ (ap (λ z. max t z) e ∙ ap (λ z. max z 0) f)) ∙ sym (ap (λ z. over (cond (eqb z 1) (Some true) None) (eqb t 1)) e ∙ ap (λ z. eqb z 1) f)
    go s t (inl e) (inr f) q = ap (λ z. eqb z 1) (q ∙ (ap (λ z. max t z) e ∙ ap (λ z. max z 0) f)) ∙ sym (ap (λ z. over (cond (eqb z 1) (Some true) None) (eqb t 1)) e ∙ ap (λ z. eqb z 1) f)
    go s t (inr e) (inl f) q = ap (λ z. eqb z 1) (q ∙ (ap (λ z. max t z) e ∙ ap (λ z. max z 1) f)) ∙ sym (ap (λ z. over (cond (eqb z 1) (Some true) None) (eqb t 1)) e)
    go s t (inr e) (inr f) q = ap (λ z. eqb z 1) (q ∙ (ap (λ z. max t z) e ∙ ap (λ z. max z 1) f)) ∙ sym (ap (λ z. over (cond (eqb z 1) (Some true) None) (eqb t 1)) e)

and_bit : (x word b : ℕ) → bit (bit_and word x) b ≡ over (op_bit And x b) (bit word b)
and_bit x word b = go (bit_at x b) (bit_at word b) (two_bits (bit_at x b) (bit_at-lt x b)) (two_bits (bit_at word b) (bit_at-lt word b)) (bit_at_and word x b)
  where
    go : (s t : ℕ) → (s ≡ 0) ⊎ (s ≡ 1) → (t ≡ 0) ⊎ (t ≡ 1) → bit_at (bit_and word x) b ≡ min t s → bit (bit_and word x) b ≡ over (cond (eqb s 1) None (Some false)) (eqb t 1)
    go s t (inl e) (inl f) q = ap (λ z. eqb z 1) (q ∙ (ap (λ z. min t z) e ∙ ap (λ z. min z 0) f)) ∙ sym (ap (λ z. over (cond (eqb z 1) None (Some false)) (eqb t 1)) e)
    go s t (inl e) (inr f) q = ap (λ z. eqb z 1) (q ∙ (ap (λ z. min t z) e ∙ ap (λ z. min z 0) f)) ∙ sym (ap (λ z. over (cond (eqb z 1) None (Some false)) (eqb t 1)) e)
    go s t (inr e) (inl f) q = ap (λ z. eqb z 1) (q ∙ (ap (λ z. min t z) e ∙ ap (λ z. min z 1) f)) ∙ sym (ap (λ z. over (cond (eqb z 1) None (Some false)) (eqb t 1)) e ∙ ap (λ z. eqb z 1) f)
    go s t (inr e) (inr f) q = ap (λ z. eqb z 1) (q ∙ (ap (λ z. min t z) e ∙ ap (λ z. min z 1) f)) ∙ sym (ap (λ z. over (cond (eqb z 1) None (Some false)) (eqb t 1)) e ∙ ap (λ z. eqb z 1) f)

op_made : (op : Op) (x word b : ℕ) → bit (outcome op x word) b ≡ over (op_bit op x b) (bit word b)
op_made Set x word b = refl
op_made Or x word b = or_bit x word b
op_made And x word b = and_bit x word b

pub given_small : (op : Op) (x b : ℕ) → b < 64 → given_bit op x b ≡ op_bit op x b
given_small op x b l = ap (λ t. cond t (op_bit op x b) None) (Rattle.std.proofs.lemmas.Bool.lt-ltb b 64 l)

over_over : (d e : Option Bool) (x : Bool) → over d (over e x) ≡ over (first_of_two d e) x
over_over None e x = refl
over_over (Some y) e x = refl

first_none : (d : Option Bool) → first_of_two d None ≡ d
first_none None = refl
first_none (Some y) = refl

first_assoc : (c d e : Option Bool) → first_of_two c (first_of_two d e) ≡ first_of_two (first_of_two c d) e
first_assoc None d e = refl
first_assoc (Some y) d e = refl

-- ---- several

pub applied_bit : (es : List Redo) (w x b : ℕ) → b < 64 → bit (all_applied (of_word w es) x) b ≡ over (entry_bit es w b) (bit x b)
applied_bit [] w x b l = refl
applied_bit (e ∷ t) w x b l = go (λ y. applied_bit t w y b l) (eqb e.place (8 * w))
  where
    go : ((y : ℕ) → bit (all_applied (of_word w t) y) b ≡ over (entry_bit t w b) (bit y b)) → (s : Bool) → bit (all_applied (cond s (e ∷ of_word w t) (of_word w t)) x) b ≡ over (first_of_two (entry_bit t w b) (cond s (given_bit e.op e.value b) None)) (bit x b)
    go r true = r (applied e x) ∙ (ap (over (entry_bit t w b)) (op_made e.op e.value x b ∙ ap (λ z. over z (bit x b)) (sym (given_small e.op e.value b l))) ∙ over_over (entry_bit t w b) (given_bit e.op e.value b) (bit x b))
    go r false = r x ∙ ap (λ z. over z (bit x b)) (sym (first_none (entry_bit t w b)))

pub entry_bit-append : (xs ys : List Redo) (w b : ℕ) → entry_bit (xs ++ ys) w b ≡ first_of_two (entry_bit ys w b) (entry_bit xs w b)
entry_bit-append [] ys w b = sym (first_none (entry_bit ys w b))
entry_bit-append (e ∷ t) ys w b = let d = cond (eqb e.place (8 * w)) (given_bit e.op e.value b) None in ap (λ z. first_of_two z d) (entry_bit-append t ys w b) ∙ sym (first_assoc (entry_bit ys w b) (entry_bit t w b) d)

pub entry_bit-none : (es : List Redo) (w b : ℕ) → of_word w es ≡ [] → entry_bit es w b ≡ None
entry_bit-none [] w b e = refl
entry_bit-none (d ∷ t) w b e = go (entry_bit-none t w b) (eqb d.place (8 * w)) e
  where
    go : (of_word w t ≡ [] → entry_bit t w b ≡ None) → (s : Bool) → cond s (d ∷ of_word w t) (of_word w t) ≡ [] → first_of_two (entry_bit t w b) (cond s (given_bit d.op d.value b) None) ≡ None
    go r true q = absurd cc
    go r false q = first_none (entry_bit t w b) ∙ r q

-- of parts of which one alone gives the bit
pub parts_none : (f : ℕ → List Redo) (w b from n : ℕ) → ((j : ℕ) → from ≤ j → j < from + n → given (entry_bit (f j) w b) ≡ false) → entry_bit (flat_map f (range_with_len from n)) w b ≡ None
parts_none f w b from zero h = refl
parts_none f w b from (suc n) h = entry_bit-append (f from) (flat_map f (range_with_len (from + 1) n)) w b
    ∙ (ap (λ z. first_of_two z (entry_bit (f from) w b)) (parts_none f w b (from + 1) n (λ j l m. h j (omega arith) (omega arith))) ∙ none_of (entry_bit (f from) w b) (h from (omega arith) (omega arith)))

pub parts_one : (f : ℕ → List Redo) (w b from n k : ℕ) → from ≤ k → k < from + n → ((j : ℕ) → j < from + n → j ≢ k → given (entry_bit (f j) w b) ≡ false) → entry_bit (flat_map f (range_with_len from n)) w b ≡ entry_bit (f k) w b
parts_one f w b from zero k l m h = absurd (omega arith)
parts_one f w b from (suc n) k l m h = entry_bit-append (f from) (flat_map f (range_with_len (from + 1) n)) w b ∙ ⊎_elim
    (λ (q : k ≡ from). ap (λ z. first_of_two z (entry_bit (f from) w b)) (parts_none f w b (from + 1) n (λ j s u. h j (omega arith) (λ v. omega arith))) ∙ ap (λ j. entry_bit (f j) w b) (sym q))
    (λ (ne : k ≢ from). ap (λ z. first_of_two z (entry_bit (f from) w b)) (parts_one f w b (from + 1) n k (omega arith) (omega arith) (λ j m. h j (omega arith)))
    ∙ (ap (first_of_two (entry_bit (f k) w b)) (none_of (entry_bit (f from) w b) (h from (omega arith) (λ v. ne (sym v)))) ∙ first_none (entry_bit (f k) w b))) (cases_eq k from)

-- the first record of parts of which one alone has one that covers the word
finds_none : (p : Undo → Bool) (f : ℕ → List Undo) (from n : ℕ) → ((j : ℕ) → from ≤ j → j < from + n → find p (f j) ≡ None) → find p (flat_map f (range_with_len from n)) ≡ None
finds_none p f from zero h = refl
finds_none p f from (suc n) h = find-append p (f from) (flat_map f (range_with_len (from + 1) n)) ∙ (ap (λ o. option_or o (find p (flat_map f (range_with_len (from + 1) n)))) (h from (omega arith) (omega arith)) ∙ finds_none p f (from + 1) n (λ j l m. h j (omega arith) (omega arith)))

finds_one : (p : Undo → Bool) (f : ℕ → List Undo) (from n k : ℕ) → from ≤ k → k < from + n → ((j : ℕ) → j < from + n → j ≢ k → find p (f j) ≡ None) → find p (flat_map f (range_with_len from n)) ≡ find p (f k)
finds_one p f from zero k l m h = absurd (omega arith)
finds_one p f from (suc n) k l m h = find-append p (f from) (flat_map f (range_with_len (from + 1) n)) ∙ ⊎_elim
    (λ (q : k ≡ from). ap (option_or (find p (f from))) (finds_none p f (from + 1) n (λ j s u. h j (omega arith) (λ v. omega arith))) ∙ (or_nothing (find p (f from)) ∙ ap (λ j. find p (f j)) (sym q)))
    (λ (ne : k ≢ from). ap (λ o. option_or o (find p (flat_map f (range_with_len (from + 1) n)))) (h from (omega arith) (λ v. ne (sym v))) ∙ finds_one p f (from + 1) n k (omega arith) (omega arith) (λ j m. h j (omega arith))) (cases_eq k from)
  where
    or_nothing : {X : Type 0} → (o : Option X) → option_or o None ≡ o
    or_nothing None = refl
    or_nothing (Some x) = refl

pub mapped_none : {X : Type 0} → (f : X → Bool) (o : Option X) → given (option_map f o) ≡ false → o ≡ None
mapped_none f None e = refl
mapped_none f (Some x) e = absurd (both_ways true e refl)

-- entries of a descriptor set it, to none of a run
abbrev pub SetsWord : ℕ → List Redo → Type 0
SetsWord w [] = Unit {0}
SetsWord w (e ∷ t) = (e.place ≡ 8 * w → (e.op ≡ Set) × (is_run e.value ≡ false)) × SetsWord w t

pub sets_append : (w : ℕ) (xs ys : List Redo) → SetsWord w xs → SetsWord w ys → SetsWord w (xs ++ ys)
sets_append w [] ys a b = b
sets_append w (e ∷ t) ys a b = (a.0, sets_append w t ys a.1 b)

pub sets_parts : (w : ℕ) (f : ℕ → List Redo) (from n : ℕ) → ((j : ℕ) → j < from + n → SetsWord w (f j)) → SetsWord w (flat_map f (range_with_len from n))
sets_parts w f from zero h = tt
sets_parts w f from (suc n) h = sets_append w (f from) (flat_map f (range_with_len (from + 1) n)) (h from (omega arith)) (sets_parts w f (from + 1) n (λ j l. h j (omega arith)))

-- so they leave the value of the last of them, or there is none
pub record IsSet (w : ℕ) (es : List Redo) (x : ℕ) : Type 0 where
  pub value : ℕ
  pub is : all_applied (of_word w es) x ≡ value
  pub no_run : is_run value ≡ false
  pub bits : (b : ℕ) → b < 64 → entry_bit es w b ≡ Some (bit value b)

pub set_cases : (w : ℕ) (es : List Redo) (x : ℕ) → SetsWord w es → (of_word w es ≡ []) ⊎ IsSet w es x
set_cases w [] x s = inl refl
set_cases w (e ∷ t) x s = ⊎_elim (λ (here : eqb e.place (8 * w) ≡ true). inr (first here (set_cases w t (applied e x) s.1))) (λ (other : eqb e.place (8 * w) ≡ false). later other (set_cases w t x s.1)) (cases_Bool (eqb e.place (8 * w)))
  where
    later : eqb e.place (8 * w) ≡ false → (of_word w t ≡ []) ⊎ IsSet w t x → (of_word w (e ∷ t) ≡ []) ⊎ IsSet w (e ∷ t) x
    later o y = let same : of_word w (e ∷ t) ≡ of_word w t = ap (λ z. cond z (e ∷ of_word w t) (of_word w t)) o in ⊎_elim (λ (q : of_word w t ≡ []). inl (same ∙ q)) (λ (q : IsSet w t x). inr (record { value = q.value; is = ap (λ l. all_applied l x) same ∙ q.is; no_run = q.no_run; bits = λ b l. ap (λ z. first_of_two (entry_bit t w b) (cond z (given_bit e.op e.value b) None)) o ∙ (first_none (entry_bit t w b) ∙ q.bits b l) })) y

    first : eqb e.place (8 * w) ≡ true → (of_word w t ≡ []) ⊎ IsSet w t (applied e x) → IsSet w (e ∷ t) x
    first h y = let z = s.0 (eqb-true e.place (8 * w) h) in let same : of_word w (e ∷ t) ≡ e ∷ of_word w t = ap (λ z. cond z (e ∷ of_word w t) (of_word w t)) h in
        let mine : (b : ℕ) → b < 64 → entry_bit (e ∷ t) w b ≡ first_of_two (entry_bit t w b) (Some (bit e.value b)) = λ b l. ap (λ y. first_of_two (entry_bit t w b) (cond y (given_bit e.op e.value b) None)) h ∙ ap (first_of_two (entry_bit t w b)) (given_small e.op e.value b l ∙ ap (λ o. op_bit o e.value b) z.0) in
        ⊎_elim (λ (q : of_word w t ≡ []). record { value = e.value; is = ap (λ l. all_applied l x) same ∙ (ap (λ l. all_applied l (applied e x)) q ∙ ap (λ o. outcome o e.value x) z.0); no_run = z.1; bits = λ b l. mine b l ∙ ap (λ y. first_of_two y (Some (bit e.value b))) (entry_bit-none t w b q) })
        (λ (q : IsSet w t (applied e x)). record { value = q.value; is = ap (λ l. all_applied l x) same ∙ q.is; no_run = q.no_run; bits = λ b l. mine b l ∙ ap (λ y. first_of_two y (Some (bit e.value b))) (q.bits b l) }) y

module _ (image : List ℕ) (lanes w : ℕ) where
  abbrev pub all_entries : List Redo
  all_entries = flat_map (entries image) (range_with_len 0 lanes)

  -- what lane k's log makes of the bit
  abbrev pub log_bit : ℕ → ℕ → Option Bool
  log_bit k b = first_of_two (entry_bit (entries image k) w b) (record_bit (records image k) w b)

  entry_silent : (k b : ℕ) → given (log_bit k b) ≡ false → given (entry_bit (entries image k) w b) ≡ false
  entry_silent k b e = go (entry_bit (entries image k) w b) (record_bit (records image k) w b) e
    where
      go : (c d : Option Bool) → given (first_of_two c d) ≡ false → given c ≡ false
      go None d e = refl
      go (Some y) d e = e

  record_silent : (k b : ℕ) → given (log_bit k b) ≡ false → find (λ u. covers u (8 * w)) (records image k) ≡ None
  record_silent k b e = mapped_none (λ u. bit (old_word u (8 * w)) b) (find (λ u. covers u (8 * w)) (records image k)) (go (entry_bit (entries image k) w b) (record_bit (records image k) w b) e)
    where
      go : (c d : Option Bool) → given (first_of_two c d) ≡ false → given d ≡ false
      go None d e = e
      go (Some y) d e = absurd (both_ways true e refl)

  by_entries : of_word w all_entries ≢ [] → recovered image lanes w ≡ all_applied (of_word w all_entries) (slice_index image w)
  unfolding recovered entries_for
  by_entries some = go (of_word w all_entries) some
    where
      go : (es : List Redo) → es ≢ [] → recovered_by es (record_for image lanes (8 * w)) (8 * w) (slice_index image w) ≡ all_applied es (slice_index image w)
      go [] some = absurd (some refl)
      go (e ∷ t) some = refl

  by_record : of_word w all_entries ≡ [] → recovered image lanes w ≡ restored (find (λ u. covers u (8 * w)) (flat_map (records image) (range_with_len 0 lanes))) (8 * w) (slice_index image w)
  unfolding recovered entries_for record_for
  by_record none = ap (λ es. recovered_by es (find (λ u. covers u (8 * w)) (flat_map (records image) (range_with_len 0 lanes))) (8 * w) (slice_index image w)) none

  -- where no log has the word, it is the image's
  pub recovered_plain : of_word w all_entries ≡ [] → ((j : ℕ) → j < lanes → find (λ u. covers u (8 * w)) (records image j) ≡ None) → recovered image lanes w ≡ slice_index image w
  recovered_plain none bare = by_record none ∙ ap (λ o. restored o (8 * w) (slice_index image w)) (finds_none (λ u. covers u (8 * w)) (records image) 0 lanes (λ j l m. bare j (omega arith)))

  -- where entries set it, it is what the last one sets
  pub recovered_set : (s : IsSet w all_entries (slice_index image w)) → 0 < 64 → recovered image lanes w ≡ s.value
  recovered_set s some = by_entries (λ none. both_ways true (ap given (sym (s.bits 0 some) ∙ entry_bit-none all_entries w 0 none)) refl) ∙ s.is

  pub empty_or : (es : List Redo) → (es ≡ []) ⊎ (es ≢ [])
  empty_or [] = inl refl
  empty_or (e ∷ t) = inr (λ q. absurd cc)

  module _ (k b : ℕ) (ink : k < lanes) (small : b < 64) (others : (j : ℕ) → j < lanes → j ≢ k → given (log_bit j b) ≡ false) (alone : given (record_bit (records image k) w b) ≡ true → of_word w all_entries ≡ []) where
    all_bit : entry_bit all_entries w b ≡ entry_bit (entries image k) w b
    all_bit = parts_one (entries image) w b 0 lanes k (omega arith) (omega arith) (λ j l ne. entry_silent j b (others j (omega arith) ne))

    one_record : find (λ u. covers u (8 * w)) (flat_map (records image) (range_with_len 0 lanes)) ≡ find (λ u. covers u (8 * w)) (records image k)
    one_record = finds_one (λ u. covers u (8 * w)) (records image) 0 lanes k (omega arith) (omega arith) (λ j l ne. record_silent j b (others j (omega arith) ne))

    restored_bit : (o : Option Undo) → bit (restored o (8 * w) (slice_index image w)) b ≡ over (option_map (λ u. bit (old_word u (8 * w)) b) o) (bit (slice_index image w) b)
    restored_bit None = refl
    restored_bit (Some u) = refl

    unentered : of_word w all_entries ≡ [] → bit (recovered image lanes w) b ≡ over (log_bit k b) (bit (slice_index image w) b)
    unentered none = ap (λ z. bit z b) (by_record none ∙ ap (λ o. restored o (8 * w) (slice_index image w)) one_record) ∙ (restored_bit (find (λ u. covers u (8 * w)) (records image k))
        ∙ ap (λ z. over (first_of_two z (record_bit (records image k) w b)) (bit (slice_index image w) b)) (sym (sym all_bit ∙ entry_bit-none all_entries w b none)))

    -- THE RECOVERED BIT where lane k's log alone gives it
    pub recovered_bit : bit (recovered image lanes w) b ≡ over (log_bit k b) (bit (slice_index image w) b)
    recovered_bit = ⊎_elim unentered
        (λ (some : of_word w all_entries ≢ []). ap (λ z. bit z b) (by_entries some) ∙ (applied_bit all_entries w (slice_index image w) b small ∙ ap (λ z. over z (bit (slice_index image w) b)) (all_bit ∙ sym (quiet some)))) (empty_or (of_word w all_entries))
      where
        quiet : of_word w all_entries ≢ [] → log_bit k b ≡ entry_bit (entries image k) w b
        quiet some = ap (first_of_two (entry_bit (entries image k) w b)) (none_of (record_bit (records image k) w b) (false_from_ne_true (given (record_bit (records image k) w b)) (λ t. some (alone t)))) ∙ first_none (entry_bit (entries image k) w b)

    -- and of a descriptor, which no record covers
    pub recovered_descriptor : given (record_bit (records image k) w b) ≡ false → ((j : ℕ) → j < lanes → SetsWord w (entries image j)) → huge_told (recovered image lanes w) b ≡ over (log_bit k b) (huge_told (slice_index image w) b)
    recovered_descriptor bare sets = let q = ap (first_of_two (entry_bit (entries image k) w b)) (none_of (record_bit (records image k) w b) bare) ∙ first_none (entry_bit (entries image k) w b) in ⊎_elim
        (λ (none : of_word w all_entries ≡ []). ap (λ z. huge_told z b) (by_record none ∙ (ap (λ o. restored o (8 * w) (slice_index image w)) (one_record ∙ mapped_none (λ u. bit (old_word u (8 * w)) b) (find (λ u. covers u (8 * w)) (records image k)) bare)))
        ∙ sym (ap (λ z. over z (huge_told (slice_index image w) b)) (q ∙ (sym all_bit ∙ entry_bit-none all_entries w b none))))
        (λ (s : IsSet w all_entries (slice_index image w)). ap (λ z. huge_told z b) (by_entries (λ none. both_ways true (ap given (sym (s.bits b small) ∙ entry_bit-none all_entries w b none)) refl) ∙ s.is) ∙ (ap (λ z. not z && bit s.value b) s.no_run
        ∙ sym (ap (λ z. over z (huge_told (slice_index image w) b)) (q ∙ (sym all_bit ∙ s.bits b small)))))
        (set_cases w all_entries (slice_index image w) (sets_parts w (entries image) 0 lanes (λ j l. sets j (omega arith))))
