-- A test for the records of the words that a script's lines make. Where none of them has a torn match, no record that passes it has one; and it passes
-- each that a lane with those words may write.
use Rattle.std.proofs.Common.{IsTrue, ◌≡◌, ℕ, zero, suc, ◌+◌, ◌*◌, ◌<◌, ◌≤◌, Bool, true, eqb, leb, ◌&&◌, List, length, slice_index, refl, sym, ◌∙◌, ap, subst, arith, eq-eqb}
use Rattle.std.specs.List.{list_all, range_with_len}
use Rattle.std.proofs.lemmas.Bool.{and_from, and_parts, eqb-true, le-leb, leb-true}
use Rattle.pm_objects.specs.declared.pool.PoolView.{PoolView}
use Rattle.pm_image.specs.Logs.{undo_slot}
use Rattle.solo_view.specs.Area.{area_word}
use Rattle.solo_view.specs.Log.{Recorded}
use Rattle.solo_view.specs.Rights.{is_written}
use Rattle.solo_view.specs.View.{View}
use Rattle.solo_world.specs.Opening.{Opening}
use Rattle.solo_world.specs.Records.{spelled}
use Rattle.solo_crash.specs.Alone.{HasNoTornMatch, IsTornMatch, MayRecord, standing}
use Rattle.solo_script.specs.declared.script.ScriptLine.{ScriptLine}
use Rattle.solo_exec.specs.Calls.{names_of}
use Rattle.solo_exec.specs.Torn.{HasNoMatchAt, IsRecordOf, words_after}

-- the record is behind the areas of so many lanes, among so many words, and as these words are
pub is_record_of : (w : ℕ → ℕ) (lanes size : ℕ) (r : Recorded) → Bool
is_record_of w lanes size r = leb (512 + 1024 * lanes) r.word && (leb (r.word + length r.old) size && list_all (λ i. eqb (slice_index r.old i) (w (r.word + i))) (range_with_len 0 (length r.old)))

-- a test that each of so many numbers passes, all pass
every : (p : ℕ → Bool) (from n : ℕ) → ((i : ℕ) → from ≤ i → i < from + n → p i ≡ true) → list_all p (range_with_len from n) ≡ true
every p from zero all = refl
every p from (suc n) all = and_from (p from) (list_all p (range_with_len (from + 1) n)) (all from (omega arith) (omega arith)) (every p (from + 1) n (λ i low high. all i (omega arith) (omega arith)))

-- and one that all pass, each passes
each : (p : ℕ → Bool) (from n i : ℕ) → list_all p (range_with_len from n) ≡ true → i < n → p (from + i) ≡ true
each p from zero i all low = absurd (omega arith)
each p from (suc n) zero all low = let t = and_parts (p from) (list_all p (range_with_len (from + 1) n)) all in subst (λ k. p k ≡ true) (let e : from ≡ from + 0 = omega arith in e) t.0
each p from (suc n) (suc i) all low =
    let t = and_parts (p from) (list_all p (range_with_len (from + 1) n)) all in
    subst (λ k. p k ≡ true) (let e : from + 1 + i ≡ from + suc i = omega arith in e) (each p (from + 1) n i t.1 (omega arith))

module _ (w : ℕ → ℕ) (lanes size : ℕ) (r : Recorded) where
  -- such a record passes
  passes : (512 + 1024 * lanes ≤ r.word) → (r.word + length r.old ≤ size) → ((i : ℕ) → i < length r.old → slice_index r.old i ≡ w (r.word + i)) → is_record_of w lanes size r ≡ true
  unfolding is_record_of
  passes behind inside old =
      and_from (leb (512 + 1024 * lanes) r.word) _ (le-leb (512 + 1024 * lanes) r.word behind)
      (and_from (leb (r.word + length r.old) size) _ (le-leb (r.word + length r.old) size inside)
      (every (λ i. eqb (slice_index r.old i) (w (r.word + i))) 0 (length r.old) (λ i low high. eq-eqb (slice_index r.old i) (w (r.word + i)) (old i (omega (arith, high))))))

  -- and one of one to four words that passes is such
  passed : 1 ≤ length r.old → length r.old ≤ 4 → is_record_of w lanes size r ≡ true → IsRecordOf w lanes size r
  unfolding is_record_of
  passed some most is =
      let t = and_parts (leb (512 + 1024 * lanes) r.word) _ is in
      let u = and_parts (leb (r.word + length r.old) size) _ t.1 in
      record {
        some = some;
        most = most;
        behind = leb-true (512 + 1024 * lanes) r.word t.0;
        inside = leb-true (r.word + length r.old) size u.0;
        old = λ i low. eqb-true (slice_index r.old i) (w (r.word + i)) (subst (λ k. eqb (slice_index r.old k) (w (r.word + k)) ≡ true) (let e : 0 + i ≡ i = omega arith in e) (each (λ i. eqb (slice_index r.old i) (w (r.word + i))) 0 (length r.old) i u.1 low));
      }

-- a record that the lane may be writing passes, where behind the areas the words that it may write are these
pub may_pass : (words : ℕ → ℕ) (lanes size : ℕ) (w : View) (r : Recorded) → w.lanes ≡ lanes → length w.words ≡ size → ((i : ℕ) → 512 + 1024 * lanes ≤ i → IsTrue (is_written w i) → slice_index w.words i ≡ words i)
    → MayRecord w r → is_record_of words lanes size r ≡ true
may_pass words lanes size w r of_lanes of_size same may =
    let behind : 512 + 1024 * lanes ≤ r.word = subst (λ n. 512 + 1024 * n ≤ r.word) of_lanes may.behind in
    passes words lanes size r behind (let inside = may.inside in omega (arith, inside, of_size))
    (λ i low. sym (may.present i low) ∙ same (r.word + i) (omega (arith, behind)) (may.own i low))

-- and what passes has no torn match over the view of lane 0, where no record of the words that the lines make has one
pub no_match_at : (pool : PoolView) (front : List ScriptLine) (o : Opening) (b : View) → b.lane ≡ 0 → HasNoMatchAt pool front b
    → HasNoTornMatch (standing o b) (is_record_of (words_after (names_of pool) front (slice_index b.words)) pool.lanes (length b.words))
no_match_at pool front o b lane none slot r torn low one four tested match =
    none r slot torn (passed (words_after (names_of pool) front (slice_index b.words)) pool.lanes (length b.words) r one four tested) low
    (subst (λ (g : ℕ). IsTornMatch (undo_slot b.words 0 slot) (spelled g r) torn) (ap (λ n. slice_index b.words (area_word n)) (sym lane)) match)
