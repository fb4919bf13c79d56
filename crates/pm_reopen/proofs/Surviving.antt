-- What survives while changes are made from a memory without undrained ones: of each word the first
-- so many of its changes.
use Rattle.std.proofs.Common.{◌≡◌, ◌≢◌, ⊎_elim, ℕ, ◌+◌, ◌/◌, ◌^◌, ◌<◌, ◌≤◌, Bool, true, false, cond, eqb, eq-eqb, ne_eqb, min, bit_and, bit_or, List, [], ◌∷◌, ◌++◌, length, take, drop, set, slice_index, length-append, length-set, refl, sym, ◌∙◌, ap, subst, arith}
use Rattle.std.specs.Int.{bit_at, bit_not, w64}
use Rattle.std.specs.Int.Bits.{and_lt, and_zero_r, or_zero_l}
use Rattle.std.specs.List.{filter}
use Rattle.std.proofs.lemmas.Bool.{cases_eq, cases_lt}
use Rattle.std.proofs.lemmas.List.{append-nil, drop-append-le, drop-map, drop_all, get_or-set_other, get_or-set_same, length-map, take-append-le, take_all}
use Rattle.std.proofs.lemmas.List.Elements.{filter-append}
use Rattle.std.proofs.lemmas.Nat.{or_lt}
use Rattle.std.proofs.lemmas.Nat.Bits.{bit_at-lt, bit_at_and, bit_at_not, bit_at_or, same_from_bits_below}
use Rattle.pm_record.specs.Redo.{applied, outcome}
use Rattle.pm_record.specs.declared.redo.Op.{Op}
use Rattle.pm_record.specs.declared.redo.Op.TheVariants as op
use Rattle.pm_record.specs.declared.redo.Redo.{Redo}
use Rattle.pm_image.specs.Logs.{all_applied}
use Rattle.pm_view.specs.Bits.{all_bits, with_bits}
use Rattle.pm_view.specs.Changes.{taken_back}
use Rattle.pm_view.specs.declared.change.Change.{Change as ChangeOf}
use Rattle.pm_memory.specs.Changes.{change_flushed, changes_flushed, changes_of}
use Rattle.pm_memory.specs.Solo.{Solo}
use Rattle.pm_memory.specs.Survivors.{Survives, all_taken_back}
use Rattle.pm_reopen.specs.Running.{after_change, after_call}
use Rattle.pm_reopen.specs.Plan.MemoryCall.{Change, Flush}

-- the entries for a word, in their order
abbrev pub for_word : ℕ → List Redo → List Redo
for_word w es = filter (λ (e : Redo). eqb (e.place / 8) w) es

-- of each word the first so many of these changes are in it
pub record IsPartlyWritten (es : List Redo) (words left : List ℕ) : Type 0 where
  pub as_long : length left ≡ length words
  pub each : (w : ℕ) → w < length words → (k : ℕ) × (slice_index left w ≡ all_applied (take k (for_word w es)) (slice_index words w))

-- from these words without undrained changes, these changes were made, and all are undrained
pub record IsWriting (es : List Redo) (words : List ℕ) (m : Solo) : Type 0 where
  pub as_long : length m.words ≡ length words
  pub small : (w : ℕ) → w < length words → slice_index m.words w < 2 ^ 64
  pub as_many : (w : ℕ) → length (changes_of w m.changes) ≡ length (for_word w es)
  pub each : (w k : ℕ) → w < length words → all_taken_back (drop k (changes_of w m.changes)) (slice_index m.words w) ≡ all_applied (take k (for_word w es)) (slice_index words w)

pub nothing_written : (m : Solo) → m.changes ≡ [] → ((w : ℕ) → w < length m.words → slice_index m.words w < 2 ^ 64) → IsWriting [] m.words m
nothing_written m none small = record {
  as_long = refl;
  small = small;
  as_many = λ w. ap (λ (cs : List ChangeOf). length (changes_of w cs)) none;
  each = λ w k inside.
      ap (λ (cs : List ChangeOf). all_taken_back (drop k (changes_of w cs)) (slice_index m.words w)) none
      ∙ ap (λ (cs : List ChangeOf). all_taken_back cs (slice_index m.words w)) (drop_all k [] (omega arith))
      ∙ ap (λ (es : List Redo). all_applied es (slice_index m.words w)) (sym (take_all k [] (omega arith)));
}

-- ---- one change taken back

bits_back : (bits found word old : ℕ) → bits < 2 ^ 64 → found < 2 ^ 64 → word < 2 ^ 64 → old < 2 ^ 64
    → ((i : ℕ) → i < 64 → bit_at old i ≡ min (bit_at found i) (bit_at bits i)) → ((i : ℕ) → i < 64 → bit_at bits i ≡ 0 → bit_at word i ≡ bit_at found i)
    → with_bits bits old word ≡ found
bits_back bits found word old fits found_fits word_fits old_fits has stays =
    same_from_bits_below 64 (with_bits bits old word) found (or_lt 64 (bit_and word (bit_not w64 bits)) old (and_lt 64 word (bit_not w64 bits) word_fits (omega arith)) old_fits) found_fits
    (λ i low.
    let whole = bit_at_or (bit_and word (bit_not w64 bits)) old i in
    let rest = bit_at_and word (bit_not w64 bits) i in
    let free = bit_at_not w64 bits i fits low in
    let own = has i low in
    let one = bit_at-lt bits i in
    let two = bit_at-lt found i in
    let three = bit_at-lt word i in
    ⊎_elim
    (λ (clear : bit_at bits i < 1). let same = stays i low (omega (arith, clear)) in omega (arith, whole, rest, free, own, one, two, three, clear, same))
    (λ (is : 1 ≤ bit_at bits i). omega (arith, whole, rest, free, own, one, two, three, is))
    (cases_lt (bit_at bits i) 1))

module _ (m : Solo) (w x : ℕ) (fits : x < 2 ^ 64) (found_fits : slice_index m.words w < 2 ^ 64) where
  abbrev pub found : ℕ
  found = slice_index m.words w

  -- the last change
  abbrev pub last_change : Op → ChangeOf
  last_change op.Set = record { word = w; mask = all_bits; old = found; new = x; flushed = false }
  last_change op.Or = record { word = w; mask = x; old = bit_and found x; new = x; flushed = false }
  last_change op.And = record { word = w; mask = bit_not w64 x; old = bit_and found (bit_not w64 x); new = 0; flushed = false }

  pub is_last : (o : Op) → (after_change o m w x).changes ≡ m.changes ++ last_change o ∷ []
  is_last op.Set = refl
  is_last op.Or = refl
  is_last op.And = refl

  pub is_word : (o : Op) → (after_change o m w x).words ≡ set m.words w (outcome o x found)
  is_word op.Set = refl
  is_word op.Or = refl
  is_word op.And = refl

  pub last_word : (o : Op) → (last_change o).word ≡ w
  last_word op.Set = refl
  last_word op.Or = refl
  last_word op.And = refl

  pub back : (o : Op) → taken_back (last_change o) (outcome o x found) ≡ found
  back op.Set = ap (λ (n : ℕ). bit_or n found) (and_zero_r x) ∙ or_zero_l found
  back op.Or =
      bits_back x found (bit_or found x) (bit_and found x) fits found_fits (or_lt 64 found x found_fits fits) (and_lt 64 found x found_fits fits) (λ i low. bit_at_and found x i)
      (λ i low clear. let both = bit_at_or found x i in let two = bit_at-lt found i in omega (arith, both, clear, two))
  back op.And =
      bits_back (bit_not w64 x) found (bit_and found x) (bit_and found (bit_not w64 x)) (omega arith) found_fits (and_lt 64 found x found_fits fits) (and_lt 64 found (bit_not w64 x) found_fits (omega arith))
      (λ i low. bit_at_and found (bit_not w64 x) i)
      (λ i low clear. let both = bit_at_and found x i in let free = bit_at_not w64 x i fits low in let two = bit_at-lt found i in let one = bit_at-lt x i in omega (arith, both, free, clear, two, one))

outcome_fits : (o : Op) (value word : ℕ) → value < 2 ^ 64 → word < 2 ^ 64 → outcome o value word < 2 ^ 64
outcome_fits op.Set value word fits whole = fits
outcome_fits op.Or value word fits whole = or_lt 64 word value whole fits
outcome_fits op.And value word fits whole = and_lt 64 word value whole fits

all_taken_back-append : (xs ys : List ChangeOf) (x : ℕ) → all_taken_back (xs ++ ys) x ≡ all_taken_back xs (all_taken_back ys x)
all_taken_back-append [] ys x = refl
all_taken_back-append (c ∷ xs) ys x = ap (taken_back c) (all_taken_back-append xs ys x)

pub all_applied-append : (xs ys : List Redo) (word : ℕ) → all_applied (xs ++ ys) word ≡ all_applied ys (all_applied xs word)
all_applied-append [] ys word = refl
all_applied-append (x ∷ xs) ys word = all_applied-append xs ys (applied x word)

-- one change more, of this word or of another
module _ (es : List Redo) (words : List ℕ) (m : Solo) (e : Redo) (before : IsWriting es words m) (inside : e.place / 8 < length words) (fits : e.value < 2 ^ 64) where
  abbrev pub w : ℕ
  w = e.place / 8

  found_fits : slice_index m.words w < 2 ^ 64
  found_fits = before.small w inside

  abbrev pub new : Solo
  new = after_call m (Change e)

  abbrev c : ChangeOf
  c = last_change m w e.value fits found_fits e.op

  abbrev value : ℕ
  value = outcome e.op e.value (slice_index m.words w)

  changed : new.changes ≡ m.changes ++ c ∷ []
  changed = is_last m w e.value fits found_fits e.op

  written : new.words ≡ set m.words w value
  written = is_word m w e.value fits found_fits e.op

  here : slice_index new.words w ≡ value
  here = ap (λ (ws : List ℕ). slice_index ws w) written ∙ get_or-set_same m.words w value 0 (let long = before.as_long in omega (arith, long, inside))

  there : (v : ℕ) → w ≢ v → slice_index new.words v ≡ slice_index m.words v
  there v apart = ap (λ (ws : List ℕ). slice_index ws v) written ∙ get_or-set_other m.words w v value 0 (λ same. apart (sym same))

  of_last : (v : ℕ) (b : Bool) → eqb c.word v ≡ b → changes_of v new.changes ≡ changes_of v m.changes ++ cond b (c ∷ []) []
  of_last v b is = ap (changes_of v) changed ∙ filter-append (λ (d : ChangeOf). eqb d.word v) m.changes (c ∷ []) ∙ ap (λ (d : Bool). changes_of v m.changes ++ cond d (c ∷ []) []) is

  for_last : (v : ℕ) (b : Bool) → eqb w v ≡ b → for_word v (es ++ e ∷ []) ≡ for_word v es ++ cond b (e ∷ []) []
  for_last v b is = filter-append (λ (f : Redo). eqb (f.place / 8) v) es (e ∷ []) ∙ ap (λ (d : Bool). for_word v es ++ cond d (e ∷ []) []) is

  word_test : (v : ℕ) (b : Bool) → eqb w v ≡ b → eqb c.word v ≡ b
  word_test v b is = ap (λ (n : ℕ). eqb n v) (last_word m w e.value fits found_fits e.op) ∙ is

  count : (v : ℕ) (b : Bool) → eqb w v ≡ b → length (changes_of v new.changes) ≡ length (for_word v (es ++ e ∷ []))
  count v true is =
      let one = ap (λ (cs : List ChangeOf). length cs) (of_last v true (word_test v true is)) ∙ length-append (changes_of v m.changes) (c ∷ []) in
      let other = ap (λ (fs : List Redo). length fs) (for_last v true is) ∙ length-append (for_word v es) (e ∷ []) in
      let same = before.as_many v in
      omega (arith, one, other, same)
  count v false is =
      let one = ap (λ (cs : List ChangeOf). length cs) (of_last v false (word_test v false is) ∙ append-nil (changes_of v m.changes)) in
      let other = ap (λ (fs : List Redo). length fs) (for_last v false is ∙ append-nil (for_word v es)) in
      let same = before.as_many v in
      omega (arith, one, other, same)

  -- of this word
  own : (k : ℕ) → all_taken_back (drop k (changes_of w new.changes)) (slice_index new.words w) ≡ all_applied (take k (for_word w (es ++ e ∷ []))) (slice_index words w)
  own k =
      let cs : List ChangeOf = changes_of w m.changes in
      let fs : List Redo = for_word w es in
      let list : changes_of w new.changes ≡ cs ++ c ∷ [] = of_last w true (word_test w true (eq-eqb w w refl)) in
      let entries : for_word w (es ++ e ∷ []) ≡ fs ++ e ∷ [] = for_last w true (eq-eqb w w refl) in
      let same : length cs ≡ length fs = before.as_many w in
      ap (λ (xs : List ChangeOf). all_taken_back (drop k xs) (slice_index new.words w)) list ∙ ap (all_taken_back (drop k (cs ++ c ∷ []))) here
      ∙ ⊎_elim
      (λ (kept : k < length cs + 1).
      ap (λ (xs : List ChangeOf). all_taken_back xs value) (drop-append-le k cs (c ∷ []) (omega (arith, kept)))
      ∙ all_taken_back-append (drop k cs) (c ∷ []) value
      ∙ ap (all_taken_back (drop k cs)) (back m w e.value fits found_fits e.op)
      ∙ before.each w k inside
      ∙ ap (λ (xs : List Redo). all_applied xs (slice_index words w)) (sym (take-append-le k fs (e ∷ []) (omega (arith, kept, same)))))
      (λ (all : length cs + 1 ≤ k).
      let whole : drop (length cs) cs ≡ [] = drop_all (length cs) cs (omega arith) in
      let last : slice_index m.words w ≡ all_applied fs (slice_index words w) =
      ap (λ (xs : List ChangeOf). all_taken_back xs (slice_index m.words w)) (sym whole) ∙ before.each w (length cs) inside
      ∙ ap (λ (xs : List Redo). all_applied xs (slice_index words w)) (take_all (length cs) fs (omega (arith, same))) in
      ap (λ (xs : List ChangeOf). all_taken_back xs value) (drop_all k (cs ++ c ∷ []) (let long = length-append cs (c ∷ []) in omega (arith, long, all)))
      ∙ ap (outcome e.op e.value) last
      ∙ sym (all_applied-append fs (e ∷ []) (slice_index words w))
      ∙ ap (λ (xs : List Redo). all_applied xs (slice_index words w)) (sym (take_all k (fs ++ e ∷ []) (let long = length-append fs (e ∷ []) in omega (arith, long, all, same)))))
      (cases_lt k (length cs + 1))
      ∙ ap (λ (xs : List Redo). all_applied (take k xs) (slice_index words w)) (sym entries)

  other : (v k : ℕ) → w ≢ v → v < length words → all_taken_back (drop k (changes_of v new.changes)) (slice_index new.words v) ≡ all_applied (take k (for_word v (es ++ e ∷ []))) (slice_index words v)
  other v k apart near =
      let none : eqb w v ≡ false = ne_eqb w v apart in
      ap (λ (xs : List ChangeOf). all_taken_back (drop k xs) (slice_index new.words v)) (of_last v false (word_test v false none) ∙ append-nil (changes_of v m.changes))
      ∙ ap (all_taken_back (drop k (changes_of v m.changes))) (there v apart)
      ∙ before.each v k near
      ∙ ap (λ (xs : List Redo). all_applied (take k xs) (slice_index words v)) (sym (for_last v false none ∙ append-nil (for_word v es)))

  pub one_written : IsWriting (es ++ e ∷ []) words new
  one_written = record {
    as_long = ap (λ (ws : List ℕ). length ws) written ∙ length-set m.words w value ∙ before.as_long;
    small = λ v near. ⊎_elim
        (λ (same : w ≡ v). subst (λ (n : ℕ). slice_index new.words n < 2 ^ 64) same (subst (λ (n : ℕ). n < 2 ^ 64) (sym here) (outcome_fits e.op e.value (slice_index m.words w) fits found_fits)))
        (λ (apart : w ≢ v). subst (λ (n : ℕ). n < 2 ^ 64) (sym (there v apart)) (before.small v near))
        (cases_eq w v);
    as_many = λ v. count v (eqb w v) refl;
    each = λ v k near. ⊎_elim
        (λ (same : w ≡ v). subst (λ (n : ℕ). all_taken_back (drop k (changes_of n new.changes)) (slice_index new.words n) ≡ all_applied (take k (for_word n (es ++ e ∷ []))) (slice_index words n)) same (own k))
        (λ (apart : w ≢ v). other v k apart near)
        (cases_eq w v);
  }

-- ---- a flush takes nothing from that

mark_same : (line : ℕ) (c : ChangeOf) (x : ℕ) → taken_back (change_flushed line c) x ≡ taken_back c x
mark_same line c x = go (eqb (c.word / 8) line) where
  go : (b : Bool) → taken_back (cond b (record c { flushed = true }) c) x ≡ taken_back c x
  go true = refl
  go false = refl

mark_word : (line : ℕ) (c : ChangeOf) → (change_flushed line c).word ≡ c.word
mark_word line c = go (eqb (c.word / 8) line) where
  go : (b : Bool) → (cond b (record c { flushed = true }) c).word ≡ c.word
  go true = refl
  go false = refl

flushed_of : (line w : ℕ) (changes : List ChangeOf) → changes_of w (changes_flushed line changes) ≡ changes_flushed line (changes_of w changes)
flushed_of line w [] = refl
flushed_of line w (c ∷ changes) =
    ap (λ (n : ℕ). cond (eqb n w) (change_flushed line c ∷ changes_of w (changes_flushed line changes)) (changes_of w (changes_flushed line changes))) (mark_word line c)
    ∙ go (eqb c.word w) (flushed_of line w changes) where
      go : (b : Bool) → changes_of w (changes_flushed line changes) ≡ changes_flushed line (changes_of w changes) → cond b (change_flushed line c ∷ changes_of w (changes_flushed line changes)) (changes_of w (changes_flushed line changes)) ≡ changes_flushed line (cond b (c ∷ changes_of w changes) (changes_of w changes))
      go true rest = ap (λ (cs : List ChangeOf). change_flushed line c ∷ cs) rest
      go false rest = rest

back_same : (line : ℕ) (changes : List ChangeOf) (x : ℕ) → all_taken_back (changes_flushed line changes) x ≡ all_taken_back changes x
back_same line [] x = refl
back_same line (c ∷ changes) x = mark_same line c (all_taken_back (changes_flushed line changes) x) ∙ ap (taken_back c) (back_same line changes x)

pub flush_written : (es : List Redo) (words : List ℕ) (m : Solo) (line : ℕ) → IsWriting es words m → IsWriting es words (after_call m (Flush line))
flush_written es words m line before = record {
  as_long = before.as_long;
  small = before.small;
  as_many = λ w. ap (λ (cs : List ChangeOf). length cs) (flushed_of line w m.changes) ∙ length-map (changes_of w m.changes) (change_flushed line) ∙ before.as_many w;
  each = λ w k inside.
      ap (λ (cs : List ChangeOf). all_taken_back (drop k cs) (slice_index m.words w)) (flushed_of line w m.changes)
      ∙ ap (λ (cs : List ChangeOf). all_taken_back cs (slice_index m.words w)) (drop-map (change_flushed line) k (changes_of w m.changes))
      ∙ back_same line (drop k (changes_of w m.changes)) (slice_index m.words w)
      ∙ before.each w k inside;
}

-- ---- what survives

pub survivor_written : (es : List Redo) (words left : List ℕ) (m : Solo) → IsWriting es words m → Survives m.words (m.changes ∷ []) left → IsPartlyWritten es words left
survivor_written es words left m writing survives = record {
  as_long = survives.is.size ∙ writing.as_long;
  each = λ w inside.
      let long = writing.as_long in
      (survives.choice 0 w, survives.is.each w (omega (arith, inside, long)) ∙ writing.each w (survives.choice 0 w) inside);
}

-- and the words themselves
pub words_written : (es : List Redo) (words : List ℕ) (m : Solo) (w : ℕ) → IsWriting es words m → w < length words → slice_index m.words w ≡ all_applied (for_word w es) (slice_index words w)
words_written es words m w writing inside =
    let n : ℕ = length (changes_of w m.changes) in
    let same = writing.as_many w in
    ap (λ (xs : List ChangeOf). all_taken_back xs (slice_index m.words w)) (sym (drop_all n (changes_of w m.changes) (omega arith)))
    ∙ writing.each w n inside
    ∙ ap (λ (xs : List Redo). all_applied xs (slice_index words w)) (take_all n (for_word w es) (omega (arith, same)))
