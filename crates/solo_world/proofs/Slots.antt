-- Which words a lane's records are of, and what its slots hold.
use Rattle.std.proofs.Common.{◌≡◌, ℕ, zero, suc, ◌+◌, ◌-◌, ◌<◌, ◌≤◌, ⊎_elim, true, false, leb, ltb, ◌&&◌, List, [], ◌∷◌, length, slice_index, slice_get, Some, refl, sym, ap, ◌∙◌, subst, arith}
use Rattle.std.proofs.lemmas.Option.{cond_some, slice_get-get_or}
use Rattle.std.proofs.lemmas.Bool.{cases_lt, and_parts, or_cases, or_left, or_right, leb-true, ltb-true, false≢true, false_from_ne_true}
use Rattle.std.proofs.lemmas.List.Folds.{Any-from_list_any}
use Rattle.pm_record.specs.Undo.{undo_of, undo_in, is_record}
use Rattle.pm_record.specs.declared.undo.Undo.{Undo}
use Rattle.solo_view.specs.Log.{Recorded}
use Rattle.solo_view.specs.View.{View}
use Rattle.pm_image.specs.Logs.{undo_slot}
use Rattle.solo_world.specs.Fits.{RecordedWordFits, LogFits}
use Rattle.solo_world.specs.Records.{IsRecordAt, covers, is_recorded, is_drained_slot, is_logged_from, is_logged, spelled, used_slots}

-- a record in its slot is of the word, as this one of its words
pub record IsWordOf (settled : ℕ → ℕ) (v : View) (w : ℕ) : Type 0 where
  pub slot : ℕ
  pub recorded : Recorded
  pub there : IsRecordAt v slot recorded
  pub covering : covers recorded w ≡ true
  pub place : ℕ
  pub low : place < length recorded.old
  pub word : recorded.word + place ≡ w
  pub fits : RecordedWordFits settled v w (slice_index recorded.old place)

pub word_recorded : (settled : ℕ → ℕ) (v : View) (generation w : ℕ) → LogFits settled v generation → is_recorded v.log.records w ≡ true → IsWordOf settled v w
word_recorded settled v generation w fits e =
    let t = Any-from_list_any (λ r. covers r w) v.log.records e in
    let r : Recorded = t.1 in
    let c = and_parts (leb r.word w) (ltb w (r.word + length r.old)) t.4 in
    let from = leb-true r.word w c.0 in
    let to = ltb-true w (r.word + length r.old) c.1 in
    let there : slice_get v.log.records t.0 ≡ Some r = slice_get-get_or v.log.records t.0 r t.2 ∙ ap Some t.3 in
    let same : r.word + (w - r.word) ≡ w = omega arith in
    let inside : w - r.word < length r.old = omega arith in
    record {
      slot = t.0;
      recorded = r;
      there = there;
      covering = t.4;
      place = w - r.word;
      low = inside;
      word = same;
      fits = subst (λ u. RecordedWordFits settled v u (slice_index r.old (w - r.word))) same ((fits.each t.0 r there).each (w - r.word) inside);
    }

pub logged_recorded : (v : View) (slot : ℕ) (records : List Recorded) (w : ℕ) → is_logged_from v slot records w ≡ true → is_recorded records w ≡ true
logged_recorded v slot [] w e = e
logged_recorded v slot (r ∷ records) w e =
    ⊎_elim (λ (here : (covers r w && is_drained_slot v slot) ≡ true). or_left (covers r w) (is_recorded records w) (and_parts (covers r w) (is_drained_slot v slot) here).0)
    (λ (later : is_logged_from v (slot + 1) records w ≡ true). or_right (covers r w) (is_recorded records w) (logged_recorded v (slot + 1) records w later))
    (or_cases (covers r w && is_drained_slot v slot) (is_logged_from v (slot + 1) records w) e)

pub unrecorded : (v : View) (w : ℕ) → is_recorded v.log.records w ≡ false → is_logged v w ≡ false
unrecorded v w e = false_from_ne_true (is_logged v w) (λ logged. false≢true (sym e ∙ logged_recorded v 0 v.log.records w logged))

-- a slot's record is of the generation that is spelled there
pub spelled_generation : (generation : ℕ) (r : Recorded) (slot : List ℕ) (u : Undo) → slot ≡ spelled generation r → undo_of slot ≡ Some u → u.generation ≡ generation
spelled_generation generation r slot u same e =
    let t = cond_some (is_record slot) (undo_in slot) u e in
    sym (ap (λ (x : Undo). x.generation) t.1) ∙ ap (λ words. slice_index words 0) same

-- no slot is of a later generation than the records
pub all_stale : (settled : ℕ → ℕ) (v : View) (generation : ℕ) → LogFits settled v generation → used_slots v.log.phase v ≡ length v.log.records
    → (slot : ℕ) (u : Undo) → slot < 64 → undo_of (undo_slot v.words v.lane slot) ≡ Some u → u.generation ≤ generation
all_stale settled v generation fits used slot u high there =
    ⊎_elim (λ (stands : slot < length v.log.records).
    let r : (x : Recorded) × (slice_get v.log.records slot ≡ Some x) = stored_at v.log.records slot stands in
    let same = spelled_generation generation r.0 (undo_slot v.words v.lane slot) u (fits.stored slot r.0 r.1) there in omega arith)
    (λ (free : length v.log.records ≤ slot). let before = fits.stale slot u (omega arith) high there in omega arith)
    (cases_lt slot (length v.log.records))
  where
    stored_at : (records : List Recorded) (n : ℕ) → n < length records → (x : Recorded) × (slice_get records n ≡ Some x)
    stored_at [] n low = absurd (omega arith)
    stored_at (r ∷ records) zero low = (r, refl)
    stored_at (r ∷ records) (suc n) low = stored_at records n (omega arith)
