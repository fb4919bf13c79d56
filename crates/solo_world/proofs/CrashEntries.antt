-- What an image has of a lane's redo log: which entries are sealed in it, the lane's generation, and the recovered word where a sealed entry is of it.
use Rattle.std.proofs.Common.{◌≡◌, ◌≢◌, ℕ, zero, suc, ◌+◌, ◌*◌, ◌/◌, ◌%◌, ◌<◌, ◌≤◌, ◌⊎◌, inl, inr, ⊎_elim, eqb, leb, Bool, true, false, cond, Contains, List, [], ◌∷◌, ◌++◌, length, length-append, slice_get, slice_index, Option, Some, refl, sym, ap, ◌∙◌, subst, arith, ◌^◌, ◌&&◌}
use Rattle.std.specs.List.{cons_option, filter, filter_map, flat_map, range_with_len}
use Rattle.std.specs.Option.{option_map}
use Rattle.std.proofs.lemmas.Bool.{cases_Bool, cases_eq, cond-true, cond-false, or_cases, or_parts, and_from, le-leb, eq-eqb, ne_eqb, eqb-true, false≢true, or_left, or_right}
use Rattle.std.proofs.lemmas.List.Elements.{All-head, All-tail, filter-append}
use Rattle.std.proofs.lemmas.Option.{none-some}
use Rattle.pm_record.specs.Redo.{applied, op_of, outcome, redo_of, redo_words}
use Rattle.pm_record.specs.declared.redo.Op.{Op}
use Rattle.pm_record.specs.declared.redo.Op.TheVariants.{Set, Or, And}
use Rattle.pm_record.specs.declared.redo.Redo.{Redo}
use Rattle.solo_view.specs.declared.change.Change.{Change}
use Rattle.solo_view.specs.Area.{area_word, part_of}
use Rattle.solo_view.specs.Bits.{all_bits, with_bits}
use Rattle.solo_view.specs.Area.Part.{EntryWord}
use Rattle.solo_view.specs.Log.{Phase, Final}
use Rattle.solo_view.specs.Log.Phase.{Idle, Open, Drawn, Sealing, Applying, Clearing, Retiring}
use Rattle.solo_view.specs.View.{View}
use Rattle.pm_image.specs.Logs.{all_applied, entries, entries_for, entry_pair, generation, is_sealed, record_for, recovered, recovered_by, seal_word}
use Rattle.pm_image.proofs.Redoing.{entries_sealed}
use Rattle.solo_world.specs.Crash.{Survives}
use Rattle.solo_world.specs.Entries.{AreWhole, EntryStands, IsEntryAt, ends_with, entry_word, final_by, redo_on, LeaveWord, is_or_entered}
use Rattle.solo_world.specs.Fits.{PhaseFits, ReservedChange}
use Rattle.solo_world.specs.History.{Entry, Flies, is_final, made_final}
use Rattle.solo_world.specs.Memory.{Memory}
use Rattle.solo_world.specs.Opening.{Opening}
use Rattle.solo_world.specs.Records.{generation_of, is_logged, records_generation}
use Rattle.solo_world.specs.World.{Views, World}
use Rattle.solo_world.proofs.CrashLogs.{ChangeFits, GenerationIs, SealIs, entered_front, entry_part, slot_part, whole_word}
use Rattle.solo_world.proofs.CrashRecords.{generation_unsealed}
use Rattle.solo_world.proofs.CrashWords.{OwnTakenBack, area_left, fits_of, lane_is, logged_behind, reserved_word, seal_is, written_behind}
use Rattle.solo_world.proofs.Differences.{with_all_bits}
use Rattle.solo_world.proofs.MadeBits.{and_makes, or_makes, with_bits-lt}

-- the redo entry that an image has for one of a lane's
pub record IsRedoFor (f : Final) (e : Redo) : Type 0 where
  pub place : e.place ≡ 8 * f.word
  pub is : f ≡ final_by e.op f.word e.value
  pub word : e.op ≢ Set → e.value < 2 ^ 64

-- and for each of them, in order
abbrev pub AreRedosFor : List Final → List Redo → Type 0
AreRedosFor [] [] = Unit {0}
AreRedosFor [] (e ∷ es) = ⊥
AreRedosFor (f ∷ fs) [] = ⊥
AreRedosFor (f ∷ fs) (e ∷ es) = IsRedoFor f e × AreRedosFor fs es

-- the entries of a word
abbrev pub of_word : ℕ → List Redo → List Redo
of_word w es = filter (λ (e : Redo). eqb e.place (8 * w)) es

pub redo_again : (op : Op) (w x : ℕ) → redo_of (redo_words (redo_on op w x)) ≡ Some (redo_on op w x)
redo_again Set w x =
    let code : (8 * w + 0) % 8 ≡ 0 = omega arith in
    let place : (8 * w + 0) / 8 * 8 ≡ 8 * w = omega arith in
    ap (λ c. option_map (λ op. record { place = (8 * w + 0) / 8 * 8; op = op; value = x }) (op_of c)) code ∙ ap (λ (p : ℕ). let e : Redo = record { place = p; op = Set; value = x } in Some e) place
redo_again Or w x =
    let code : (8 * w + 1) % 8 ≡ 1 = omega arith in
    let place : (8 * w + 1) / 8 * 8 ≡ 8 * w = omega arith in
    ap (λ c. option_map (λ op. record { place = (8 * w + 1) / 8 * 8; op = op; value = x }) (op_of c)) code ∙ ap (λ (p : ℕ). let e : Redo = record { place = p; op = Or; value = x } in Some e) place
redo_again And w x =
    let code : (8 * w + 2) % 8 ≡ 2 = omega arith in
    let place : (8 * w + 2) / 8 * 8 ≡ 8 * w = omega arith in
    ap (λ c. option_map (λ op. record { place = (8 * w + 2) / 8 * 8; op = op; value = x }) (op_of c)) code ∙ ap (λ (p : ℕ). let e : Redo = record { place = p; op = And; value = x } in Some e) place

-- entries that are read one after another
pub read_all : (read : ℕ → Option Redo) (fs : List Final) (from : ℕ) → ((i : ℕ) (f : Final) → slice_get fs i ≡ Some f → (e : Redo) × IsRedoFor f e × (read (from + i) ≡ Some e))
    → (es : List Redo) × AreRedosFor fs es × (filter_map read (range_with_len from (length fs)) ≡ es)
read_all read [] from each = ([], tt, refl)
read_all read (f ∷ fs) from each =
    let here : from + 0 ≡ from = omega arith in
    let first = each 0 f refl in
    let rest = read_all read fs (from + 1) (λ i g at. let next : from + 1 + i ≡ from + suc i = omega arith in let t = each (suc i) g at in (t.0, t.1, ap read next ∙ t.2)) in
    (first.0 ∷ rest.0, (first.1, rest.1), ap (λ o. cons_option o (filter_map read (range_with_len (from + 1) (length fs)))) (ap read (sym here) ∙ first.2) ∙ ap (λ (es : List Redo). first.0 ∷ es) rest.2)

place_same : (u w : ℕ) → eqb (8 * u) (8 * w) ≡ eqb u w
place_same u w =
    ⊎_elim (λ (same : u ≡ w). eq-eqb (8 * u) (8 * w) (ap (λ n. 8 * n) same) ∙ sym (eq-eqb u w same))
    (λ (differ : u ≢ w). ne_eqb (8 * u) (8 * w) (λ e. differ (omega arith)) ∙ sym (ne_eqb u w differ))
    (cases_eq u w)

redo_place : (f : Final) (e : Redo) (w : ℕ) → IsRedoFor f e → eqb e.place (8 * w) ≡ eqb f.word w
redo_place f e w redo = ap (λ n. eqb n (8 * w)) redo.place ∙ place_same f.word w

-- an operation does what its entry says: an OR to a word of 64 bits
outcome_makes : (op : Op) (w value x : ℕ) → (op ≢ Set → value < 2 ^ 64) → ((final_by op w value).ors ≡ true → x < 2 ^ 64) → outcome op value x ≡ with_bits (final_by op w value).mask (final_by op w value).bits x
outcome_makes Set w value x low small = sym (with_all_bits x value)
outcome_makes Or w value x low small = or_makes value x (low (λ sets. absurd cc)) (small refl)
outcome_makes And w value x low small = and_makes value x (low (λ sets. absurd cc))

redo_makes : (f : Final) (e : Redo) (x : ℕ) → IsRedoFor f e → (f.ors ≡ true → x < 2 ^ 64) → applied e x ≡ with_bits f.mask f.bits x
redo_makes f e x redo small =
    outcome_makes e.op f.word e.value x redo.word (λ or. small (ap (λ (g : Final). g.ors) redo.is ∙ or))
    ∙ ap (λ (g : Final). with_bits g.mask g.bits x) (sym redo.is)

-- what they make of a word, which is of 64 bits where one ORs it, and is left so by all
applied_all : (fs : List Final) (es : List Redo) (w x : ℕ) → AreRedosFor fs es → (is_or_entered fs w ≡ true → (x < 2 ^ 64) × LeaveWord fs w) → all_applied (of_word w es) x ≡ made_final fs w x
unfolding made_final
applied_all [] [] w x redos small = refl
applied_all [] (e ∷ es) w x redos small = absurd redos
applied_all (f ∷ fs) [] w x redos small = absurd redos
applied_all (f ∷ fs) (e ∷ es) w x redos small =
    ⊎_elim
    (λ (here : eqb f.word w ≡ true).
    let made : applied e x ≡ with_bits f.mask f.bits x =
    redo_makes f e x redos.0 (λ or. (small (or_left (eqb f.word w && f.ors) (is_or_entered fs w) (and_from (eqb f.word w) f.ors here or))).0) in
    let left : is_or_entered fs w ≡ true → (with_bits f.mask f.bits x < 2 ^ 64) × LeaveWord fs w = λ or.
    let t = small (later or) in (with_bits-lt f.mask f.bits x (All-head Leaves f fs t.1 (eqb-true f.word w here)), All-tail Leaves f fs t.1) in
    ap (λ b. all_applied (cond b (e ∷ of_word w es) (of_word w es)) x) (redo_place f e w redos.0 ∙ here)
    ∙ (ap (all_applied (of_word w es)) made
    ∙ (applied_all fs es w (with_bits f.mask f.bits x) redos.1 left ∙ ap (made_final fs w) (sym (cond-true _ _ _ here)))))
    (λ (other : eqb f.word w ≡ false).
    ap (λ b. all_applied (cond b (e ∷ of_word w es) (of_word w es)) x) (redo_place f e w redos.0 ∙ other)
    ∙ (applied_all fs es w x redos.1 (λ or. let t = small (later or) in (t.0, All-tail Leaves f fs t.1)) ∙ ap (made_final fs w) (sym (cond-false _ _ _ other))))
    (cases_Bool (eqb f.word w)) where
      Leaves : Final → Type 0
      Leaves g = g.word ≡ w → g.bits < 2 ^ 64

      later : is_or_entered fs w ≡ true → is_or_entered (f ∷ fs) w ≡ true
      later or = or_right (eqb f.word w && f.ors) (is_or_entered fs w) or

-- none is of the word
pub none_of : (fs : List Final) (es : List Redo) (w : ℕ) → AreRedosFor fs es → is_final fs w ≡ false → of_word w es ≡ []
none_of [] [] w redos none = refl
none_of [] (e ∷ es) w redos none = absurd redos
none_of (f ∷ fs) [] w redos none = absurd redos
none_of (f ∷ fs) (e ∷ es) w redos none =
    let t = or_parts (eqb f.word w) (is_final fs w) none in
    ap (λ b. cond b (e ∷ of_word w es) (of_word w es)) (redo_place f e w redos.0 ∙ t.0) ∙ none_of fs es w redos.1 t.1

-- some is
pub some_of : (fs : List Final) (es : List Redo) (w : ℕ) → AreRedosFor fs es → is_final fs w ≡ true → (first : Redo) × (rest : List Redo) × (of_word w es ≡ first ∷ rest)
some_of [] es w redos some = absurd (false≢true some)
some_of (f ∷ fs) [] w redos some = absurd redos
some_of (f ∷ fs) (e ∷ es) w redos some =
    ⊎_elim
    (λ (here : eqb f.word w ≡ true). (e, of_word w es, ap (λ b. cond b (e ∷ of_word w es) (of_word w es)) (redo_place f e w redos.0 ∙ here)))
    (λ (other : eqb f.word w ≡ false).
    let later : is_final fs w ≡ true = ⊎_elim (λ (h : eqb f.word w ≡ true). absurd (false≢true (sym other ∙ h))) (λ (l : is_final fs w ≡ true). l) (or_cases (eqb f.word w) (is_final fs w) some) in
    let t = some_of fs es w redos.1 later in
    (t.0, t.1, ap (λ b. cond b (e ∷ of_word w es) (of_word w es)) (redo_place f e w redos.0 ∙ other) ∙ t.2))
    (cases_Bool (eqb f.word w))

-- no part has what passes the test
no_part : (p : Redo → Bool) (f : ℕ → List Redo) (from n : ℕ) → ((j : ℕ) → from ≤ j → j < from + n → filter p (f j) ≡ []) → filter p (flat_map f (range_with_len from n)) ≡ []
no_part p f from zero none = refl
no_part p f from (suc n) none =
    filter-append p (f from) (flat_map f (range_with_len (from + 1) n))
    ∙ (ap (λ (es : List Redo). es ++ filter p (flat_map f (range_with_len (from + 1) n))) (none from (omega arith) (omega arith)) ∙ no_part p f (from + 1) n (λ j low high. none j (omega arith) (omega arith)))

append_none : (xs : List Redo) → xs ++ [] ≡ xs
append_none [] = refl
append_none (x ∷ xs) = ap (λ (ys : List Redo). x ∷ ys) (append_none xs)

-- one part alone has it
one_part : (p : Redo → Bool) (f : ℕ → List Redo) (from n k : ℕ) → from ≤ k → k < from + n → ((j : ℕ) → from ≤ j → j < from + n → j ≢ k → filter p (f j) ≡ []) → filter p (flat_map f (range_with_len from n)) ≡ filter p (f k)
one_part p f from zero k low high none = absurd (omega arith)
one_part p f from (suc n) k low high none =
    filter-append p (f from) (flat_map f (range_with_len (from + 1) n))
    ∙ ⊎_elim
    (λ (here : from ≡ k). ap (λ (es : List Redo). filter p (f from) ++ es) (no_part p f (from + 1) n (λ j l h. none j (omega arith) (omega arith) (λ same. omega arith)))
    ∙ (append_none (filter p (f from)) ∙ ap (λ j. filter p (f j)) here))
    (λ (later : from ≢ k). ap (λ (es : List Redo). es ++ filter p (flat_map f (range_with_len (from + 1) n))) (none from (omega arith) (omega arith) later)
    ∙ one_part p f (from + 1) n k (omega arith) (omega arith) (λ j l h other. none j (omega arith) (omega arith) other))
    (cases_eq from k)

-- no sealed entry is of the word
pub unentered_word : (image : List ℕ) (lanes w : ℕ) → ((j : ℕ) → j < lanes → of_word w (entries image j) ≡ []) → entries_for image lanes (8 * w) ≡ []
unfolding entries_for
unentered_word image lanes w none = no_part (λ (e : Redo). eqb e.place (8 * w)) (entries image) 0 lanes (λ j low high. none j (omega arith))

-- one lane alone has sealed entries of the word: they make the recovered word
pub redone_word : (image : List ℕ) (lanes w k : ℕ) (fs : List Final) (es : List Redo) → k < lanes → entries image k ≡ es → AreRedosFor fs es → (is_or_entered fs w ≡ true → (slice_index image w < 2 ^ 64) × LeaveWord fs w) → is_final fs w ≡ true
    → ((j : ℕ) → j < lanes → j ≢ k → of_word w (entries image j) ≡ []) → recovered image lanes w ≡ made_final fs w (slice_index image w)
unfolding recovered entries_for
redone_word image lanes w k fs es inside are redos small of others =
    let t = some_of fs es w redos of in
    let mine : entries_for image lanes (8 * w) ≡ of_word w es = one_part (λ (e : Redo). eqb e.place (8 * w)) (entries image) 0 lanes k (omega arith) (omega arith) (λ j low high other. others j (omega arith) other) ∙ ap (of_word w) are in
    ap (λ es. recovered_by es (record_for image lanes (8 * w)) (8 * w) (slice_index image w)) (mine ∙ t.2)
    ∙ (ap (λ es. all_applied es (slice_index image w)) (sym t.2) ∙ applied_all fs es w (slice_index image w) redos small)

-- an entry of all bits of a word spells them
pub whole_value : (op : Op) (w x : ℕ) → (final_by op w x).mask ≡ all_bits → x ≡ (final_by op w x).bits
whole_value Set w x whole = refl
whole_value Or w x whole = refl
whole_value And w x whole = omega arith

pub last_at : (front : List Final) (f : Final) → slice_get (front ++ f ∷ []) (length front) ≡ Some f
last_at [] f = refl
last_at (g ∷ front) f = last_at front f

length_last : (front : List Final) (f : Final) → length (front ++ f ∷ []) ≡ length front + 1
length_last front f = length-append front (f ∷ [])

-- the lane's seal is or may be in the image
abbrev pub HasSealed : Phase → Type 0
HasSealed Sealing = Unit {0}
HasSealed (Applying applied) = Unit {0}
HasSealed Clearing = Unit {0}
HasSealed phase = ⊥

-- the generation that the last entry sets
abbrev pub sealed_generation : Phase → View → ℕ
sealed_generation Sealing v = generation_of v + 1
sealed_generation phase v = records_generation phase v

module _ (o : Opening) (mem : Memory) (views : Views) (log : List Entry) (decided : ℕ → Bool) (x : World o mem views log decided) where
  pub whole_of : (k : ℕ) (phase : Phase) → HasSealed phase → PhaseFits (Flies log decided k) (views k) phase → AreWhole (views k) (sealed_generation phase (views k))
  whole_of k Idle sealed fits = absurd sealed
  whole_of k (Open slot pair) sealed fits = absurd sealed
  whole_of k Drawn sealed fits = absurd sealed
  whole_of k Sealing sealed fits = fits.whole
  whole_of k (Applying applied) sealed fits = fits.whole
  whole_of k Clearing sealed fits = fits.whole
  whole_of k Retiring sealed fits = absurd sealed

  module _ (image : List ℕ) (survives : Survives o mem views image) where
    no_pair_change : (k : ℕ) (phase : Phase) (i : ℕ) → k < o.lanes → HasSealed phase → area_word k + 8 ≤ i → i < area_word k + 136 → (t : OwnTakenBack (views k) image i) → ChangeFits (views k) t.change phase → ⊥
    no_pair_change k Idle i inside sealed low high t fits = sealed
    no_pair_change k (Open slot pair) i inside sealed low high t fits = sealed
    no_pair_change k Drawn i inside sealed low high t fits = sealed
    no_pair_change k Sealing i inside sealed low high t fits = let at = lane_is o mem views log decided x k inside in let is = t.of_word in let of = fits.of in omega arith
    no_pair_change k (Applying applied) i inside sealed low high t fits =
        let at = lane_is o mem views log decided x k inside in let is = t.of_word in
        ⊎_elim (λ written. let behind = written_behind o mem views log decided x k t.change.word inside written in omega arith)
        (λ (own : t.change.word ≡ area_word (views k).lane). omega arith)
        (whole_word (views k) (records_generation (Applying applied) (views k)) t.change.word fits.1 (entered_front applied (views k).log.entries t.change.word fits.0.of))
    no_pair_change k Clearing i inside sealed low high t fits = let at = lane_is o mem views log decided x k inside in let is = t.of_word in let of = fits.of in omega arith
    no_pair_change k Retiring i inside sealed low high t fits = sealed

    -- the words of the entries' pairs are as the lane left them
    pair_stays : (k : ℕ) (i : ℕ) → k < o.lanes → HasSealed (views k).log.phase → area_word k + 8 ≤ i → i < area_word k + 136 → slice_index image i ≡ slice_index (views k).words i
    pair_stays k i inside sealed low high =
        ⊎_elim (λ (same : slice_index image i ≡ slice_index (views k).words i). same)
        (λ (t : OwnTakenBack (views k) image i). absurd (no_pair_change k (views k).log.phase i inside sealed low high t (fits_of o mem views log decided x k t.change inside t.there)))
        (area_left o mem views log decided x image survives k i inside (omega arith) (omega arith))

    -- each entry stands in its pair
    abbrev pub stands : (k i : ℕ) (f : Final) → k < o.lanes → IsEntryAt (views k) i f → EntryStands (views k) i f
    stands k i f inside at = (x.each_lane k inside).entries.each i f at

    -- and is read as it was written
    pub entry_read : (k i : ℕ) (f : Final) (inside : k < o.lanes) → HasSealed (views k).log.phase → i < 64 → (at : IsEntryAt (views k) i f) → entry_pair image k i ≡ redo_words (redo_on (stands k i f inside at).op f.word (stands k i f inside at).value)
    entry_read k i f inside sealed low at =
        let lane = lane_is o mem views log decided x k inside in
        let next : area_word k + 9 + 2 * i ≡ area_word k + 8 + 2 * i + 1 = omega arith in
        let one : slice_index image (area_word k + 8 + 2 * i) ≡ slice_index (views k).words (area_word k + 8 + 2 * i) = pair_stays k (area_word k + 8 + 2 * i) inside sealed (omega arith) (omega arith) in
        let other : slice_index image (area_word k + 9 + 2 * i) ≡ slice_index (views k).words (area_word k + 8 + 2 * i + 1) = ap (slice_index image) next ∙ pair_stays k (area_word k + 8 + 2 * i + 1) inside sealed (omega arith) (omega arith) in
        (λ t. one t ∷ other t ∷ [])
        ∙ (ap (λ (j : ℕ). let pair : List ℕ = slice_index (views k).words (entry_word j i) ∷ slice_index (views k).words (entry_word j i + 1) ∷ [] in pair) (sym lane) ∙ (stands k i f inside at).spells)

    module _ (k : ℕ) (inside : k < o.lanes) (sealed : HasSealed (views k).log.phase) (full : seal_word image k ≡ length (views k).log.entries) where
      whole : AreWhole (views k) (sealed_generation (views k).log.phase (views k))
      whole = whole_of k (views k).log.phase sealed (x.each_lane k inside).phase

      long : length (views k).log.entries ≡ length whole.front + 1
      long = ap length whole.are ∙ length_last whole.front (ends_with (views k) (sealed_generation (views k).log.phase (views k)))

      is_sealed_there : is_sealed image k ≡ true
      is_sealed_there =
          let most = (x.each_lane k inside).entries.most in let n = long in
          and_from (leb 1 (seal_word image k)) (leb (seal_word image k) 64) (le-leb 1 (seal_word image k) (omega arith)) (le-leb (seal_word image k) 64 (omega arith))

      -- the sealed entries of the image are for the lane's
      pub entries_read : (es : List Redo) × AreRedosFor (views k).log.entries es × (entries image k ≡ es)
      entries_read =
          let t = read_all (λ i. redo_of (entry_pair image k i)) (views k).log.entries 0 (λ i f at.
          let low = within (views k).log.entries i f at in let most = (x.each_lane k inside).entries.most in
          let first : 0 + i ≡ i = omega arith in
          let s = stands k i f inside at in (
            redo_on s.op f.word s.value,
            record { place = refl; is = s.is; word = s.may.word },
            ap (λ j. redo_of (entry_pair image k j)) first ∙ (ap redo_of (entry_read k i f inside sealed (omega arith) at) ∙ redo_again s.op f.word s.value),
          )) in
          (t.0, t.1, sym (entries_sealed image k is_sealed_there) ∙ (ap (λ n. filter_map (λ i. redo_of (entry_pair image k i)) (range_with_len 0 n)) full ∙ t.2)) where
            within : (fs : List Final) (i : ℕ) (f : Final) → slice_get fs i ≡ Some f → i < length fs
            within [] i f at = absurd (none-some f at)
            within (g ∷ fs) zero f at = omega arith
            within (g ∷ fs) (suc i) f at = let l = within fs i f at in omega arith

      -- and its generation is that which the last one sets
      pub generation_sealed : generation image k ≡ sealed_generation (views k).log.phase (views k)
      generation_sealed =
          let g : ℕ = sealed_generation (views k).log.phase (views k) in
          let most = (x.each_lane k inside).entries.most in let n = long in
          let at : IsEntryAt (views k) (length whole.front) (ends_with (views k) g) = ap (λ fs. slice_get fs (length whole.front)) whole.are ∙ last_at whole.front (ends_with (views k) g) in
          let place : area_word k + 7 + 2 * seal_word image k ≡ area_word k + 9 + 2 * length whole.front = omega arith in
          let s = stands k (length whole.front) (ends_with (views k) g) inside at in
          let bits : s.value ≡ g = whole_value s.op (area_word (views k).lane) s.value (ap (λ (f : Final). f.mask) (sym s.is)) ∙ ap (λ (f : Final). f.bits) (sym s.is) in
          cond-true _ _ _ is_sealed_there
          ∙ (ap (slice_index image) place ∙ (ap (λ (pair : List ℕ). slice_index pair 1) (entry_read k (length whole.front) (ends_with (views k) g) inside sealed (omega arith) at) ∙ bits))

    module _ (k : ℕ) (inside : k < o.lanes) where
      at : (views k).lane ≡ k
      at = lane_is o mem views log decided x k inside

      -- the generation's word is the lane's, or a change of it was taken back
      here : (slice_index image (area_word k) ≡ generation_of (views k)) ⊎ OwnTakenBack (views k) image (area_word k)
      here =
          ⊎_elim (λ (same : slice_index image (area_word k) ≡ slice_index (views k).words (area_word k)). inl (same ∙ ap (λ j. slice_index (views k).words (area_word j)) (sym at)))
          (λ (t : OwnTakenBack (views k) image (area_word k)). inr t)
          (area_left o mem views log decided x image survives k (area_word k) inside (omega arith) (omega arith))

      -- with nothing sealed, and no change of the word
      kept : seal_word image k ≡ 0 → ((t : OwnTakenBack (views k) image (area_word k)) → ⊥) → generation image k ≡ generation_of (views k)
      kept none never =
          generation_unsealed image k none
          ∙ ⊎_elim (λ (same : slice_index image (area_word k) ≡ generation_of (views k)). same) (λ (t : OwnTakenBack (views k) image (area_word k)). absurd (never t)) here

      sealed_by : (phase : Phase) → (views k).log.phase ≡ phase → HasSealed phase → seal_word image k ≡ length (views k).log.entries → generation image k ≡ sealed_generation phase (views k)
      sealed_by phase is sealed full = generation_sealed k inside (subst HasSealed (sym is) sealed) full ∙ ap (λ p. sealed_generation p (views k)) is

      pub some_sealed : (phase : Phase) → (views k).log.phase ≡ phase → HasSealed phase → seal_word image k ≡ length (views k).log.entries → seal_word image k ≢ 0
      some_sealed phase is sealed full none =
          let w = whole_of k phase sealed (subst (PhaseFits (Flies log decided k) (views k)) is (x.each_lane k inside).phase) in
          let n = ap length w.are ∙ length_last w.front (ends_with (views k) (sealed_generation phase (views k))) in
          absurd (omega arith)

      by_phase : (phase : Phase) → (views k).log.phase ≡ phase → SealIs (views k) (seal_word image k) phase → ((c : Change) → Contains (views k).changes c → ChangeFits (views k) c phase)
          → GenerationIs (views k) (seal_word image k) (generation image k) phase
      by_phase Idle is seal fits = kept seal (λ t.
          let of_word = t.of_word in let lane = at in
          let behind = (reserved_word o mem views log decided x k t.change.word inside (fits t.change t.there).may.reserved).behind in omega arith)
      by_phase (Open slot pair) is seal fits = kept seal (λ t.
          let of_word = t.of_word in let lane = at in
          ⊎_elim (λ part. let s = slot_part (views k).lane t.change.word part in let low = s.low in omega arith)
          (λ (other : (part_of (views k).lane t.change.word ≡ EntryWord) ⊎ ((is_logged (views k) t.change.word ≡ true) ⊎ ReservedChange (views k) t.change)).
          ⊎_elim (λ (part : part_of (views k).lane t.change.word ≡ EntryWord). let s = entry_part (views k).lane t.change.word part in let low = s.low in omega arith)
          (λ (last : (is_logged (views k) t.change.word ≡ true) ⊎ ReservedChange (views k) t.change).
          ⊎_elim (λ (logged : is_logged (views k) t.change.word ≡ true). let behind = logged_behind o mem views log decided x k t.change.word inside logged in omega arith)
          (λ (own : ReservedChange (views k) t.change). let behind = (reserved_word o mem views log decided x k t.change.word inside own.reserved).behind in omega arith) last) other) (fits t.change t.there).of)
      by_phase Drawn is seal fits = kept seal (λ t. fits t.change t.there)
      by_phase Sealing is (inl full) fits = inr (some_sealed Sealing is tt full, sealed_by Sealing is tt full)
      by_phase Sealing is (inr none) fits = inl (none, kept none (λ t. let of_word = t.of_word in let lane = at in let of = (fits t.change t.there).of in omega arith))
      by_phase (Applying applied) is seal fits = sealed_by (Applying applied) is tt seal
      by_phase Clearing is (inl full) fits = sealed_by Clearing is tt full
      by_phase Clearing is (inr none) fits = kept none (λ t. let of_word = t.of_word in let lane = at in let of = (fits t.change t.there).of in omega arith)
      by_phase Retiring is seal fits =
          ⊎_elim (λ (same : slice_index image (area_word k) ≡ generation_of (views k)). inl (generation_unsealed image k seal ∙ same))
          (λ (t : OwnTakenBack (views k) image (area_word k)). inr (ap (λ n. n + 1) (generation_unsealed image k seal ∙ t.is_old) ∙ (fits t.change t.there).before)) here

      -- which generation the image has, by how far the lane's call has come
      pub generation_is : GenerationIs (views k) (seal_word image k) (generation image k) (views k).log.phase
      generation_is = by_phase (views k).log.phase refl (seal_is o mem views log decided x image survives k inside) (λ c there. fits_of o mem views log decided x k c inside there)
