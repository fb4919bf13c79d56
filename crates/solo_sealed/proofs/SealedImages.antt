-- What recovery gives for an image that has the lane's seal, and for one in which the seal is cleared.
use Rattle.std.proofs.Common.{◌≡◌, ◌≢◌, ℕ, ◌+◌, ◌*◌, ◌^◌, ◌<◌, ◌≤◌, ◌⊎◌, ⊎_elim, true, false, leb, List, [], ◌∷◌, length, slice_get, slice_index, Some, refl, sym, ap, ◌∙◌, arith, length-append}
use Rattle.std.specs.List.{filter_map, range_with_len}
use Rattle.std.proofs.lemmas.Bool.{and_from, cases_Bool, cases_eq, cond-true, le-leb}
use Rattle.std.proofs.lemmas.Option.{slice_get_within}
use Rattle.pm_record.specs.Redo.{redo_of, redo_words}
use Rattle.pm_record.specs.Undo.{undo_of}
use Rattle.pm_record.specs.declared.redo.Redo.{Redo}
use Rattle.pm_record.specs.declared.undo.Undo.{Undo}
use Rattle.solo_view.specs.Area.{area_word}
use Rattle.solo_view.specs.Log.{Final}
use Rattle.solo_view.specs.View.{View}
use Rattle.pm_image.specs.Logs.{entries as sealed_entries, entry_pair, generation, generation_word, is_sealed, recovered, seal_word, slot_line, undo_slot}
use Rattle.pm_image.specs.Steps.{valid_record}
use Rattle.pm_image.proofs.Redoing.{entries_sealed, entries_unsealed}
use Rattle.solo_world.specs.Entries.{AgreeBeside, ends_with, is_entered, is_or_entered, redo_on}
use Rattle.solo_world.specs.History.{made_final}
use Rattle.solo_world.specs.Records.{generation_of}
use Rattle.solo_world.proofs.CrashEntries.{AreRedosFor, last_at, none_of, of_word, read_all, redo_again, redone_word, unentered_word, whole_value}
use Rattle.solo_world.proofs.CrashRecords.{generation_unsealed, recovered_is, recovered_unentered, unsealed}
use Rattle.solo_world.proofs.CrashSpellings.{valid_parts}
use Rattle.solo_world.proofs.CrashWords.{slot_same}
use Rattle.solo_world.proofs.MadeBits.{made_final-agree}
use Rattle.solo_world.proofs.Replays.{made_final-other}
use Rattle.solo_sealed.specs.Sealed.{IsOutside, IsSpelled, MaySeal}
use Rattle.solo_sealed.proofs.Stages.{entries, seal_at}
use Rattle.solo_sealed.proofs.Unentered.{made_generation, masked, unentered, unmade}

-- word i of the image is as before where no entry is of it, and else agrees with what it was beside the entries' bits
pub record Looks (b : View) (image : List ℕ) (i : ℕ) : Type 0 where
  pub same : is_entered (entries b) i ≡ false → slice_index image i ≡ slice_index b.words i
  pub beside : is_entered (entries b) i ≡ true → AgreeBeside (entries b) i (slice_index image i) (slice_index b.words i)
  pub small : is_or_entered (entries b) i ≡ true → slice_index image i < 2 ^ 64

-- the image has the seal
pub record IsSealedImage (b : View) (image : List ℕ) : Type 0 where
  pub size : length image ≡ length b.words
  pub seal : slice_index image (seal_at b) ≡ length (entries b)
  pub generation : (slice_index image (area_word b.lane) ≡ generation_of b) ⊎ (slice_index image (area_word b.lane) ≡ generation_of b + 1)
  pub looks : (i : ℕ) → i < length b.words → i ≢ seal_at b → Looks b image i

-- the seal is cleared in it
pub record IsClearedImage (b : View) (image : List ℕ) : Type 0 where
  pub size : length image ≡ length b.words
  pub seal : slice_index image (seal_at b) ≡ 0
  pub made : (i : ℕ) → i < length b.words → i ≢ seal_at b → slice_index image i ≡ made_final (entries b) i (slice_index b.words i)

-- a word outside of the areas is not the seal's
pub outside_apart : (b : View) → MaySeal b → (i : ℕ) → IsOutside b.lanes i → i ≢ seal_at b
outside_apart b may_seal i outside same =
    let low = may_seal.in_lanes in
    absurd (⊎_elim (λ (front : i < 512). omega (arith, front, same)) (λ (behind : 512 + 1024 * b.lanes ≤ i). omega (arith, behind, same, low)) outside)

pub next_generation : (b : View) (may_seal : MaySeal b) (image : List ℕ) → IsClearedImage b image → slice_index image (area_word b.lane) ≡ generation_of b + 1
next_generation b may_seal image is =
    let size = may_seal.size in let low = may_seal.in_lanes in
    is.made (area_word b.lane) (omega (arith, size, low)) (λ same. absurd (omega (arith, same))) ∙ made_generation b may_seal (slice_index b.words (area_word b.lane))

module _ (b : View) (may_seal : MaySeal b) (image : List ℕ) (as_long : length image ≡ length b.words)
    (area : (lane u : ℕ) → lane < b.lanes → area_word lane ≤ u → u < area_word lane + 1024 → u ≢ area_word b.lane → u ≢ seal_at b → slice_index image u ≡ slice_index b.words u) where
  abbrev g : ℕ
  g = generation_of b

  abbrev last : Final
  last = ends_with b (g + 1)

  -- the slots are as they were
  pub slot_stays : (lane slot : ℕ) → lane < b.lanes → slot < 64 → undo_slot image lane slot ≡ undo_slot b.words lane slot
  slot_stays lane slot inside low =
      let size = may_seal.size in
      slot_same image b.words (8 * slot_line lane slot) (omega (arith, as_long, size, inside, low)) (omega (arith, size, inside, low))
      (λ i from to. area lane i inside (omega (arith, from, low)) (omega (arith, to, low)) (λ same. absurd (omega (arith, same, from, to, low))) (λ same. absurd (omega (arith, same, from, to, low))))

  -- no record is valid, with the lane's next generation
  pub none_valid : generation image b.lane ≡ g + 1 → ((j : ℕ) → j < b.lanes → j ≢ b.lane → generation image j ≡ generation_word b.words j)
      → (lane slot : ℕ) (u : Undo) → lane < b.lanes → slot < 64 → valid_record image lane slot ≡ Some u → ⊥
  none_valid own others lane slot u inside low valid =
      let t = valid_parts image lane slot u valid in
      let stands : undo_of (undo_slot b.words lane slot) ≡ Some u = ap undo_of (sym (slot_stays lane slot inside low)) ∙ t.stands in
      let present = t.present in
      ⊎_elim
      (λ (same : lane ≡ b.lane).
      let stale = may_seal.stale slot u low (ap (λ k. undo_of (undo_slot b.words k slot)) (sym same) ∙ stands) in
      let is : generation image lane ≡ g + 1 = ap (generation image) same ∙ own in absurd (omega (arith, stale, is, present)))
      (λ (other : lane ≢ b.lane).
      let stale = (may_seal.clean lane inside other).stale slot u low stands in
      let is = others lane inside other in absurd (omega (arith, stale, is, present)))
      (cases_eq lane b.lane)

  -- another lane is not sealed in the image
  pub other_seal : (j : ℕ) → j < b.lanes → j ≢ b.lane → seal_word image j ≡ 0
  other_seal j inside other =
      area j (area_word j + 1) inside (omega arith) (omega arith) (λ same. absurd (omega (arith, same))) (λ same. other (omega (arith, same))) ∙ (may_seal.clean j inside other).unsealed

  pub other_generation : (j : ℕ) → j < b.lanes → j ≢ b.lane → generation image j ≡ generation_word b.words j
  other_generation j inside other =
      generation_unsealed image j (other_seal j inside other)
      ∙ area j (area_word j) inside (omega arith) (omega arith) (λ same. other (omega (arith, same))) (λ same. absurd (omega (arith, same)))

  -- ---- with the seal

  module _ (seal : slice_index image (seal_at b) ≡ length (entries b)) where
    long : length (entries b) ≡ length may_seal.front + 1
    long = ap (λ (fs : List Final). length fs) may_seal.ends ∙ length-append may_seal.front (last ∷ [])

    pub sealed : is_sealed image b.lane ≡ true
    sealed =
        let few = may_seal.few in let n = long in
        and_from (leb 1 (seal_word image b.lane)) (leb (seal_word image b.lane) 64) (le-leb 1 (seal_word image b.lane) (omega (arith, n, seal))) (le-leb (seal_word image b.lane) 64 (omega (arith, few, seal)))

    -- a pair is as the lane stored it
    pub pair_stays : (i : ℕ) (f : Final) → slice_get (entries b) i ≡ Some f → (t : IsSpelled b i f) → entry_pair image b.lane i ≡ redo_words (redo_on t.op f.word t.value)
    pair_stays i f at t =
        let low = slice_get_within (entries b) i f at in
        let few = may_seal.few in
        let inside = may_seal.in_lanes in
        let next : area_word b.lane + 9 + 2 * i ≡ area_word b.lane + 8 + 2 * i + 1 = omega arith in
        let one : slice_index image (area_word b.lane + 8 + 2 * i) ≡ slice_index b.words (area_word b.lane + 8 + 2 * i) =
        area b.lane (area_word b.lane + 8 + 2 * i) inside (omega arith) (omega (arith, low, few)) (λ same. absurd (omega (arith, same))) (λ same. absurd (omega (arith, same))) in
        let other : slice_index image (area_word b.lane + 9 + 2 * i) ≡ slice_index b.words (area_word b.lane + 8 + 2 * i + 1) =
        ap (slice_index image) next ∙ area b.lane (area_word b.lane + 8 + 2 * i + 1) inside (omega arith) (omega (arith, low, few)) (λ same. absurd (omega (arith, same))) (λ same. absurd (omega (arith, same))) in
        (λ j. one j ∷ other j ∷ []) ∙ t.spells

    -- the entries are read as they were written
    pub entries_read : (es : List Redo) × AreRedosFor (entries b) es × (sealed_entries image b.lane ≡ es)
    entries_read =
        let t = read_all (λ i. redo_of (entry_pair image b.lane i)) (entries b) 0 (λ i f at.
        let first : 0 + i ≡ i = omega arith in
        let s = may_seal.spelled i f at in (
          redo_on s.op f.word s.value,
          record { place = refl; is = s.is; word = s.word },
          ap (λ j. redo_of (entry_pair image b.lane j)) first ∙ (ap redo_of (pair_stays i f at s) ∙ redo_again s.op f.word s.value),
        )) in
        (t.0, t.1, sym (entries_sealed image b.lane sealed) ∙ (ap (λ n. filter_map (λ i. redo_of (entry_pair image b.lane i)) (range_with_len 0 n)) seal ∙ t.2))

    -- and the last of them sets the generation
    pub generation_sealed : generation image b.lane ≡ g + 1
    generation_sealed =
        let n = long in
        let at : slice_get (entries b) (length may_seal.front) ≡ Some last = ap (λ fs. slice_get fs (length may_seal.front)) may_seal.ends ∙ last_at may_seal.front last in
        let s = may_seal.spelled (length may_seal.front) last at in
        let place : area_word b.lane + 7 + 2 * seal_word image b.lane ≡ area_word b.lane + 9 + 2 * length may_seal.front = omega (arith, n, seal) in
        let bits : s.value ≡ g + 1 = whole_value s.op (area_word b.lane) s.value (ap (λ (f : Final). f.mask) (sym s.is)) ∙ ap (λ (f : Final). f.bits) (sym s.is) in
        cond-true _ _ _ sealed ∙ (ap (slice_index image) place ∙ (ap (λ (pair : List ℕ). slice_index pair 1) (pair_stays (length may_seal.front) last at s) ∙ bits))

    pub none_of_others : (w j : ℕ) → j < b.lanes → j ≢ b.lane → of_word w (sealed_entries image j) ≡ []
    none_of_others w j inside other = ap (of_word w) (entries_unsealed image j (unsealed image j (other_seal j inside other)))

    pub sealed_recovered : (i : ℕ) → Looks b image i → recovered image b.lanes i ≡ made_final (entries b) i (slice_index b.words i)
    sealed_recovered i looks = ⊎_elim
        (λ (entered : is_entered (entries b) i ≡ true).
        let read = entries_read in
        redone_word image b.lanes i b.lane (entries b) read.0 may_seal.in_lanes read.2 read.1 (λ or. (looks.small or, (may_seal.small i or).1)) entered (λ j inside other. none_of_others i j inside other)
        ∙ made_final-agree (entries b) i (slice_index image i) (slice_index b.words i) (masked b may_seal) entered (looks.beside entered))
        (λ (never : is_entered (entries b) i ≡ false).
        let read = entries_read in
        recovered_unentered image b.lanes i (made_final (entries b) i (slice_index b.words i))
        (unentered_word image b.lanes i (λ j inside. ⊎_elim
        (λ (same : j ≡ b.lane). ap (λ k. of_word i (sealed_entries image k)) same ∙ (ap (of_word i) read.2 ∙ none_of (entries b) read.0 i read.1 never))
        (λ (other : j ≢ b.lane). none_of_others i j inside other) (cases_eq j b.lane)))
        (λ lane slot u inside low valid there. absurd (none_valid generation_sealed other_generation lane slot u inside low valid))
        (λ none. looks.same never ∙ sym (made_final-other (entries b) i (slice_index b.words i) never)))
        (cases_Bool (is_entered (entries b) i))

  -- ---- with the seal cleared

  module _ (seal : slice_index image (seal_at b) ≡ 0) (next : slice_index image (area_word b.lane) ≡ g + 1) where
    pub no_seal : (j : ℕ) → j < b.lanes → seal_word image j ≡ 0
    no_seal j inside = ⊎_elim (λ (same : j ≡ b.lane). ap (seal_word image) same ∙ seal) (λ (other : j ≢ b.lane). other_seal j inside other) (cases_eq j b.lane)

    pub cleared_recovered : (i : ℕ) → slice_index image i ≡ made_final (entries b) i (slice_index b.words i) → recovered image b.lanes i ≡ made_final (entries b) i (slice_index b.words i)
    cleared_recovered i made =
        recovered_is image b.lanes i (made_final (entries b) i (slice_index b.words i)) no_seal
        (λ lane slot u inside low valid there. absurd (none_valid (generation_unsealed image b.lane seal ∙ next) other_generation lane slot u inside low valid))
        (λ none. made)

-- ---- of which the words of the areas are such

pub sealed_makes : (b : View) (may_seal : MaySeal b) (image : List ℕ) → IsSealedImage b image → (i : ℕ) → i < length b.words → IsOutside b.lanes i → recovered image b.lanes i ≡ made_final (entries b) i (slice_index b.words i)
sealed_makes b may_seal image is i inside outside =
    sealed_recovered b may_seal image is.size
    (λ lane u in_lanes low high other apart. (is.looks u (let size = may_seal.size in omega (arith, size, high, in_lanes)) apart).same (unentered b may_seal lane u in_lanes low high other))
    is.seal i (is.looks i inside (outside_apart b may_seal i outside))

pub cleared_makes : (b : View) (may_seal : MaySeal b) (image : List ℕ) → IsClearedImage b image → (i : ℕ) → i < length b.words → IsOutside b.lanes i → recovered image b.lanes i ≡ made_final (entries b) i (slice_index b.words i)
cleared_makes b may_seal image is i inside outside =
    cleared_recovered b may_seal image is.size
    (λ lane u in_lanes low high other apart. is.made u (let size = may_seal.size in omega (arith, size, high, in_lanes)) apart ∙ unmade b may_seal lane u (slice_index b.words u) in_lanes low high other)
    is.seal (next_generation b may_seal image is) i (is.made i inside (outside_apart b may_seal i outside))
