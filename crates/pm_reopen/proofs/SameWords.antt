-- A word that a lane's log speaks of has the same recovered word while the log is performed, and after.
use Rattle.std.proofs.Common.{◌≡◌, ◌≢◌, ◌⊎◌, ⊎_elim, inl, inr, ℕ, suc, ◌+◌, ◌-◌, ◌*◌, ◌^◌, ◌<◌, ◌≤◌, Bool, true, false, cond, eqb, All, List, [], ◌∷◌, ◌++◌, length, length-append, map, take, slice_index, Option, Some, None, refl, sym, ◌∙◌, ap, arith}
use Rattle.std.specs.List.{filter, find, flat_map, range_with_len}
use Rattle.std.proofs.lemmas.List.{append-nil, take_all}
use Rattle.std.proofs.lemmas.List.Elements.{All-filter, filter-append}
use Rattle.pm_record.specs.declared.redo.Redo.{Redo}
use Rattle.pm_record.specs.declared.undo.Undo.{Undo}
use Rattle.pm_image.specs.Logs.{all_applied, covers, entries, entries_for, old_word, record_for, records, recovered, recovered_by, restored}
use Rattle.pm_image.specs.LogFaults.{records_for}
use Rattle.pm_image.proofs.Local.{flat_map_same}
use Rattle.pm_image.proofs.Unsealed.{nothing_in}
use Rattle.pm_reopen.specs.Plan.{store_of, writes}
use Rattle.pm_reopen.proofs.Again.{IsWord, applied_again}
use Rattle.pm_reopen.proofs.ForWords.{IsWhole, writes_for}
use Rattle.pm_image.proofs.Finding.{range_split}
use Rattle.pm_reopen.proofs.Surviving.{all_applied-append, for_word}

-- ---- lists

headed : List Undo → Option Undo
headed [] = None
headed (u ∷ us) = Some u

find_head : (p : Undo → Bool) (us : List Undo) → find p us ≡ headed (filter p us)
unfolding headed
find_head p [] = refl
find_head p (u ∷ us) = go (p u) refl (find_head p us) where
  go : (b : Bool) → p u ≡ b → find p us ≡ headed (filter p us) → find p (u ∷ us) ≡ headed (filter p (u ∷ us))
  go true is rest = ap (λ (b : Bool). cond b (Some u) (find p us)) is ∙ sym (ap (λ (b : Bool). headed (cond b (u ∷ filter p us) (filter p us))) is)
  go false is rest = ap (λ (b : Bool). cond b (Some u) (find p us)) is ∙ rest ∙ sym (ap (λ (b : Bool). headed (cond b (u ∷ filter p us) (filter p us))) is)

headed_none : (us : List Undo) → headed us ≡ None → us ≡ []
unfolding headed
headed_none [] is = refl
headed_none (u ∷ us) is = absurd cc

left_nil : {A : Type 0} (xs ys : List A) → xs ++ ys ≡ [] → (xs ≡ []) × (ys ≡ [])
left_nil [] ys is = (refl, is)
left_nil (x ∷ xs) ys is = absurd cc

-- of one record at most, some part's was dropped
record Dropped (F G G' H : List Undo) : Type 0 where
  one : Undo
  part : G ≡ one ∷ []
  was : headed (F ++ (G ++ H)) ≡ Some one
  none : headed (F ++ (G' ++ H)) ≡ None

record_cases : (F G G' H : List Undo) → length (F ++ (G ++ H)) ≤ 1 → (G' ≡ G) ⊎ (G' ≡ []) → (headed (F ++ (G' ++ H)) ≡ headed (F ++ (G ++ H))) ⊎ Dropped F G G' H
unfolding headed
record_cases F G G' H few (inl same) = inl (ap (λ (us : List Undo). headed (F ++ (us ++ H))) same)
record_cases F [] G' H few (inr none) = inl (ap (λ (us : List Undo). headed (F ++ (us ++ H))) none)
record_cases [] (u ∷ []) G' [] few (inr none) = inr (record { one = u; part = refl; was = refl; none = ap (λ (us : List Undo). headed (us ++ [])) none })
record_cases [] (u ∷ []) G' (v ∷ H) few (inr none) = absurd (omega (arith, few))
record_cases [] (u ∷ v ∷ G) G' H few (inr none) = absurd (omega (arith, few))
record_cases (v ∷ F) (u ∷ G) G' H few (inr none) = let long = length-append F ((u ∷ G) ++ H) in absurd (omega (arith, few, long))

applied_none : (es : List Redo) (place word : ℕ) → recovered_by es None place word ≡ all_applied es word
applied_none [] place word = refl
applied_none (e ∷ es) place word = refl

-- ---- the lists of a word, lane by lane

split_at : {A : Type 0} (f : ℕ → List A) (k lanes : ℕ) → k < lanes → flat_map f (range_with_len 0 lanes) ≡ flat_map f (range_with_len 0 k) ++ (f k ++ flat_map f (range_with_len (k + 1) (lanes - (k + 1))))
split_at {A = A} f k lanes inside =
    let n : ℕ = lanes - (k + 1) in
    let whole : lanes ≡ k + suc n = omega (arith, inside) in
    let first : 0 + k ≡ k = omega arith in
    ap (λ (m : ℕ). flat_map f (range_with_len 0 m)) whole
    ∙ ap (flat_map f) (range_split 0 k (suc n))
    ∙ ap (λ (j : ℕ). flat_map f (range_with_len 0 k ++ range_with_len j (suc n))) first
    ∙ parts (range_with_len 0 k) (range_with_len k (suc n)) where
      parts : (xs ys : List ℕ) → flat_map f (xs ++ ys) ≡ flat_map f xs ++ flat_map f ys
      parts [] ys = refl
      parts (x ∷ xs) ys = ap (λ (zs : List A). f x ++ zs) (parts xs ys) ∙ sym (Rattle.std.proofs.lemmas.List.append_assoc (f x) (flat_map f xs) (flat_map f ys))

-- the images before and while lane k's log is performed; word i of them
pub record IsBefore (X : List ℕ) (lanes k i : ℕ) : Type 0 where
  pub near : k < lanes
  pub inside : i < length X
  pub small : slice_index X i < 2 ^ 64
  pub whole : All IsWhole (records X k)
  pub values : All IsWord (entries X k)
  pub unsealed : (lane : ℕ) → lane < k → entries X lane ≡ []
  pub few : length (records_for X lanes (8 * i)) ≤ 1
  pub apart : (entries_for X lanes (8 * i) ≡ []) ⊎ (record_for X lanes (8 * i) ≡ None)

pub record SameLogsBeside (X J : List ℕ) (lanes k : ℕ) : Type 0 where
  pub entries_are : (lane : ℕ) → lane < lanes → lane ≢ k → entries J lane ≡ entries X lane
  pub records_are : (lane : ℕ) → lane < lanes → lane ≢ k → records J lane ≡ records X lane

module _ (X J : List ℕ) (lanes k i : ℕ) (b : IsBefore X lanes k i) (beside : SameLogsBeside X J lanes k) where
  abbrev x : ℕ
  x = slice_index X i

  abbrev test : Redo → Bool
  test = λ (e : Redo). eqb e.place (8 * i)

  abbrev over : Undo → Bool
  over = λ (u : Undo). covers u (8 * i)

  abbrev rest : ℕ
  rest = lanes - (k + 1)

  abbrev B : List Redo
  B = filter test (entries X k)

  abbrev C : List Redo
  C = filter test (flat_map (entries X) (range_with_len (k + 1) rest))

  abbrev F : List Undo
  F = filter over (flat_map (records X) (range_with_len 0 k))

  abbrev G : List Undo
  G = filter over (records X k)

  abbrev H : List Undo
  H = filter over (flat_map (records X) (range_with_len (k + 1) rest))

  abbrev stores : List Redo
  stores = map (λ (v : Undo). store_of i (old_word v (8 * i))) G

  entries_split : (image : List ℕ) → ((lane : ℕ) → lane < k → entries image lane ≡ []) → entries_for image lanes (8 * i) ≡ filter test (entries image k) ++ filter test (flat_map (entries image) (range_with_len (k + 1) rest))
  unfolding entries_for
  entries_split image none =
      ap (filter test) (split_at (entries image) k lanes b.near ∙ ap (λ (es : List Redo). es ++ (entries image k ++ flat_map (entries image) (range_with_len (k + 1) rest))) (nothing_in (entries image) k none))
      ∙ filter-append test (entries image k) (flat_map (entries image) (range_with_len (k + 1) rest))

  records_split : (image : List ℕ) → filter over (flat_map (records image) (range_with_len 0 lanes)) ≡ filter over (flat_map (records image) (range_with_len 0 k)) ++ (filter over (records image k) ++ filter over (flat_map (records image) (range_with_len (k + 1) rest)))
  records_split image =
      ap (filter over) (split_at (records image) k lanes b.near)
      ∙ filter-append over (flat_map (records image) (range_with_len 0 k)) (records image k ++ flat_map (records image) (range_with_len (k + 1) rest))
      ∙ ap (λ (us : List Undo). filter over (flat_map (records image) (range_with_len 0 k)) ++ us) (filter-append over (records image k) (flat_map (records image) (range_with_len (k + 1) rest)))

  entries_X : entries_for X lanes (8 * i) ≡ B ++ C
  entries_X = entries_split X b.unsealed

  entries_J : entries_for J lanes (8 * i) ≡ filter test (entries J k) ++ C
  entries_J =
      let near = b.near in
      entries_split J (λ lane low. beside.entries_are lane (omega (arith, low, near)) (λ same. omega (arith, same, low)) ∙ b.unsealed lane low)
      ∙ ap (λ (es : List Redo). filter test (entries J k) ++ filter test es)
      (flat_map_same (entries J) (entries X) (k + 1) rest (λ lane from to. beside.entries_are lane (omega (arith, to, near)) (λ same. omega (arith, same, from))))

  records_X : record_for X lanes (8 * i) ≡ headed (F ++ (G ++ H))
  unfolding record_for
  records_X = find_head over (flat_map (records X) (range_with_len 0 lanes)) ∙ ap headed (records_split X)

  records_J : record_for J lanes (8 * i) ≡ headed (F ++ (filter over (records J k) ++ H))
  unfolding record_for
  records_J =
      let near = b.near in
      find_head over (flat_map (records J) (range_with_len 0 lanes)) ∙ ap headed (records_split J)
      ∙ (λ j. headed (filter over (flat_map_same (records J) (records X) 0 k (λ lane from to. beside.records_are lane (omega (arith, to, near)) (λ same. omega (arith, same, to))) j)
      ++ (filter over (records J k) ++ filter over (flat_map_same (records J) (records X) (k + 1) rest (λ lane from to. beside.records_are lane (omega (arith, to, near)) (λ same. omega (arith, same, from))) j))))

  few_X : length (F ++ (G ++ H)) ≤ 1
  unfolding records_for
  few_X = let few = b.few in let same = ap (λ (us : List Undo). length us) (records_split X) in omega (arith, few, same)

  writes_X : for_word i (writes X k) ≡ stores ++ B
  writes_X = writes_for X k i b.whole

  B_values : All IsWord B
  B_values = All-filter test IsWord (entries X k) b.values

  recovered_X : recovered X lanes i ≡ recovered_by (B ++ C) (headed (F ++ (G ++ H))) (8 * i) x
  unfolding recovered
  recovered_X = (λ j. recovered_by (entries_X j) (records_X j) (8 * i) x)

  recovered_J : recovered J lanes i ≡ recovered_by (filter test (entries J k) ++ C) (headed (F ++ (filter over (records J k) ++ H))) (8 * i) (slice_index J i)
  unfolding recovered
  recovered_J = (λ j. recovered_by (entries_J j) (records_J j) (8 * i) (slice_index J i))

  -- no record is over the word
  module _ (none : headed (F ++ (G ++ H)) ≡ None) where
    no_stores : stores ≡ []
    no_stores =
        let all = left_nil F (G ++ H) (headed_none (F ++ (G ++ H)) none) in
        let own = left_nil G H all.1 in
        ap (map (λ (v : Undo). store_of i (old_word v (8 * i)))) own.0

    only_entries : for_word i (writes X k) ≡ B
    only_entries = writes_X ∙ ap (λ (es : List Redo). es ++ B) no_stores

    none_J : (filter over (records J k) ≡ G) ⊎ (filter over (records J k) ≡ []) → headed (F ++ (filter over (records J k) ++ H)) ≡ None
    unfolding headed
    none_J less =
        let all = left_nil F (G ++ H) (headed_none (F ++ (G ++ H)) none) in
        let own = left_nil G H all.1 in
        let nothing : filter over (records J k) ≡ [] = ⊎_elim (λ (same : filter over (records J k) ≡ G). same ∙ own.0) (λ (gone : filter over (records J k) ≡ []). gone) less in
        (λ j. headed (all.0 j ++ (nothing j ++ own.1 j)))

    by_entries : (n : ℕ) → (filter over (records J k) ≡ G) ⊎ (filter over (records J k) ≡ []) → slice_index J i ≡ all_applied (take n (for_word i (writes X k))) x
        → (filter test (entries J k) ≡ B) ⊎ ((filter test (entries J k) ≡ []) × (length B ≤ n)) → recovered J lanes i ≡ recovered X lanes i
    by_entries n less is kept =
        let value : slice_index J i ≡ all_applied (take n B) x = is ∙ ap (λ (es : List Redo). all_applied (take n es) x) only_entries in
        let goal_X : recovered X lanes i ≡ all_applied C (all_applied B x) =
        recovered_X ∙ ap (λ (o : Option Undo). recovered_by (B ++ C) o (8 * i) x) none ∙ applied_none (B ++ C) (8 * i) x ∙ all_applied-append B C x in
        let goal_J : recovered J lanes i ≡ all_applied (filter test (entries J k) ++ C) (all_applied (take n B) x) =
        recovered_J ∙ ap (λ (o : Option Undo). recovered_by (filter test (entries J k) ++ C) o (8 * i) (slice_index J i)) (none_J less) ∙ applied_none (filter test (entries J k) ++ C) (8 * i) (slice_index J i)
        ∙ ap (all_applied (filter test (entries J k) ++ C)) value in
        goal_J
        ∙ ⊎_elim
        (λ (same : filter test (entries J k) ≡ B).
        ap (λ (es : List Redo). all_applied (es ++ C) (all_applied (take n B) x)) same ∙ all_applied-append B C (all_applied (take n B) x) ∙ ap (all_applied C) (applied_again B n x B_values b.small))
        (λ (gone : (filter test (entries J k) ≡ []) × (length B ≤ n)).
        ap (λ (es : List Redo). all_applied (es ++ C) (all_applied (take n B) x)) gone.0 ∙ ap (λ (es : List Redo). all_applied C (all_applied es x)) (take_all n B gone.1))
        kept
        ∙ sym goal_X

  -- a record is, and no entry is for it
  module _ (alone : B ++ C ≡ []) where
    no_entries : (filter test (entries J k) ≡ B) ⊎ (filter test (entries J k) ≡ []) → filter test (entries J k) ++ C ≡ []
    no_entries less =
        let both = left_nil B C alone in
        let nothing : filter test (entries J k) ≡ [] = ⊎_elim (λ (same : filter test (entries J k) ≡ B). same ∙ both.0) (λ (gone : filter test (entries J k) ≡ []). gone) less in
        (λ j. nothing j ++ both.1 j)

    X_restored : recovered X lanes i ≡ restored (headed (F ++ (G ++ H))) (8 * i) x
    X_restored = recovered_X ∙ ap (λ (es : List Redo). recovered_by es (headed (F ++ (G ++ H))) (8 * i) x) alone

    J_restored : (filter test (entries J k) ≡ B) ⊎ (filter test (entries J k) ≡ []) → recovered J lanes i ≡ restored (headed (F ++ (filter over (records J k) ++ H))) (8 * i) (slice_index J i)
    J_restored less = recovered_J ∙ ap (λ (es : List Redo). recovered_by es (headed (F ++ (filter over (records J k) ++ H))) (8 * i) (slice_index J i)) (no_entries less)

    by_record : (u : Undo) → headed (F ++ (G ++ H)) ≡ Some u → (filter test (entries J k) ≡ B) ⊎ (filter test (entries J k) ≡ []) → headed (F ++ (filter over (records J k) ++ H)) ≡ Some u → recovered J lanes i ≡ recovered X lanes i
    by_record u is less still =
        J_restored less ∙ ap (λ (o : Option Undo). restored o (8 * i) (slice_index J i)) still ∙ sym (X_restored ∙ ap (λ (o : Option Undo). restored o (8 * i) x) is)

    by_store : Dropped F G (filter over (records J k)) H → (filter test (entries J k) ≡ B) ⊎ (filter test (entries J k) ≡ []) → slice_index J i ≡ all_applied (for_word i (writes X k)) x → recovered J lanes i ≡ recovered X lanes i
    by_store d less is =
        let both = left_nil B C alone in
        let stored : for_word i (writes X k) ≡ store_of i (old_word d.one (8 * i)) ∷ [] = writes_X ∙ (λ j. map (λ (v : Undo). store_of i (old_word v (8 * i))) (d.part j) ++ both.0 j) in
        J_restored less ∙ ap (λ (o : Option Undo). restored o (8 * i) (slice_index J i)) d.none ∙ is ∙ ap (λ (es : List Redo). all_applied es x) stored
        ∙ sym (X_restored ∙ ap (λ (o : Option Undo). restored o (8 * i) x) d.was)

  by_option : (o : Option Undo) → headed (F ++ (G ++ H)) ≡ o → (o ≡ None) ⊎ ((u : Undo) × (o ≡ Some u))
  by_option None is = inl refl
  by_option (Some u) is = inr (u, refl)

  -- while the log's changes are made
  pub same_while : (n : ℕ) → entries J k ≡ entries X k → records J k ≡ records X k → slice_index J i ≡ all_applied (take n (for_word i (writes X k))) x → recovered J lanes i ≡ recovered X lanes i
  same_while n same_entries same_records is =
      let logs : filter over (records J k) ≡ G = ap (filter over) same_records in
      let own : filter test (entries J k) ≡ B = ap (filter test) same_entries in
      ⊎_elim
      (λ (none : headed (F ++ (G ++ H)) ≡ None). by_entries none n (inl logs) is (inl own))
      (λ (some : (u : Undo) × (headed (F ++ (G ++ H)) ≡ Some u)).
      by_record (alone_if some.0 some.1) some.0 some.1 (inl own) (ap (λ (us : List Undo). headed (F ++ (us ++ H))) logs ∙ some.1))
      (by_option (headed (F ++ (G ++ H))) refl)
    where
      alone_if : (u : Undo) → headed (F ++ (G ++ H)) ≡ Some u → B ++ C ≡ []
      alone_if u is_some = ⊎_elim
          (λ (none : entries_for X lanes (8 * i) ≡ []). sym entries_X ∙ none)
          (λ (none : record_for X lanes (8 * i) ≡ None). let clash : None ≡ Some u = sym none ∙ (records_X ∙ is_some) in absurd cc)
          b.apart

  -- once they are made
  pub same_after : (entries J k ≡ entries X k) ⊎ (entries J k ≡ []) → (filter over (records J k) ≡ filter over (records X k)) ⊎ (filter over (records J k) ≡ []) → slice_index J i ≡ all_applied (for_word i (writes X k)) x → recovered J lanes i ≡ recovered X lanes i
  same_after less_entries less_records is =
      let own : (filter test (entries J k) ≡ B) ⊎ (filter test (entries J k) ≡ []) = ⊎_elim (λ (same : entries J k ≡ entries X k). inl (ap (filter test) same)) (λ (gone : entries J k ≡ []). inr (ap (filter test) gone)) less_entries in
      let n : ℕ = length (for_word i (writes X k)) in
      let all : slice_index J i ≡ all_applied (take n (for_word i (writes X k))) x = is ∙ ap (λ (es : List Redo). all_applied es x) (sym (take_all n (for_word i (writes X k)) (omega arith))) in
      ⊎_elim
      (λ (none : headed (F ++ (G ++ H)) ≡ None).
      let long = ap (λ (es : List Redo). length es) (only_entries none) in
      by_entries none n less_records all (⊎_elim (λ (same : filter test (entries J k) ≡ B). inl same) (λ (gone : filter test (entries J k) ≡ []). inr (gone, omega (arith, long))) own))
      (λ (some : (u : Undo) × (headed (F ++ (G ++ H)) ≡ Some u)).
      let alone : B ++ C ≡ [] = alone_when some.0 some.1 in
      ⊎_elim
      (λ (still : headed (F ++ (filter over (records J k) ++ H)) ≡ headed (F ++ (G ++ H))). by_record alone some.0 some.1 own (still ∙ some.1))
      (λ (dropped : Dropped F G (filter over (records J k)) H). by_store alone dropped own is)
      (record_cases F G (filter over (records J k)) H few_X less_records))
      (by_option (headed (F ++ (G ++ H))) refl)
    where
      alone_when : (u : Undo) → headed (F ++ (G ++ H)) ≡ Some u → B ++ C ≡ []
      alone_when u is_some = ⊎_elim
          (λ (none : entries_for X lanes (8 * i) ≡ []). sym entries_X ∙ none)
          (λ (none : record_for X lanes (8 * i) ≡ None). let clash : None ≡ Some u = sym none ∙ (records_X ∙ is_some) in absurd cc)
          b.apart
