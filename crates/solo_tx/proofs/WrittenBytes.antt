-- A lane at work may write bytes into words that it recorded, and what that leaves.
use Rattle.std.proofs.Common.{◌≡◌, ◌≢◌, ℕ, ◌+◌, ◌-◌, ◌*◌, ◌/◌, ◌<◌, ◌≤◌, ⊎_elim, Bool, true, false, cond, eqb, Contains, List, length, slice_index, refl, sym, ap, ◌∙◌, subst, arith}
use Rattle.std.proofs.lemmas.Bool.Decides.{nat_tests}
use Rattle.std.proofs.Math.Nat.{eq-or-lt_of_le}
use Rattle.solo_crash.proofs.Covered.{byte_is_covered, covered_has_byte, only_words}
use Rattle.solo_crash.specs.Writes.{words_written, written_word}
use Rattle.solo_model.specs.Bytes.{covered_words}
use Rattle.solo_view.specs.Blocks.{descriptor_word}
use Rattle.solo_view.specs.View.{View}
use Rattle.solo_view.specs.Views.{after_all}
use Rattle.solo_view.specs.Log.{Log}
use Rattle.solo_undo.proofs.Kept.{is_of}
use Rattle.solo_undo.proofs.Learned.{opening_kept}
use Rattle.solo_undo.proofs.Lockings.{locked_may_be_recorded, written_is_plain}
use Rattle.solo_undo.proofs.Retired.{may_look}
use Rattle.solo_undo.proofs.Staying.{looked, same_call, same_call-then, same_looked}
use Rattle.solo_undo.proofs.Storing.{Is, goes_from}
use Rattle.solo_undo.proofs.Written.{work_goes_on, write_lawful}
use Rattle.solo_undo.specs.Working.{FindsOpening, IsPlain, IsSameCall, IsUserWord, IsWorking, IsWrittenWord}
use Rattle.solo_world.proofs.Going.{goes_counted, goes_then}
use Rattle.solo_world.specs.Opening.{Opening, IsSound}
use Rattle.solo_world.specs.Records.{is_recorded}
use Rattle.solo_world.specs.Sequences.{Ready, by_view, looks, stores, with_word}
use Rattle.solo_tx.proofs.Learned.{counted_inside}
use Rattle.solo_tx.specs.Sequences.{word_count, writes, writes_word}

-- the words that have some of the bytes are those that the range covers
pub counted_covered : (place len i : ℕ) → i < word_count place len → Contains (covered_words place len) (place / 8 + i)
counted_covered place len i below = let t = counted_inside place len i below in byte_is_covered place len (place / 8 + i) t.2 t.0 t.1

pub covered_counted : (place len u : ℕ) → Contains (covered_words place len) u → (place / 8 ≤ u) × (u - place / 8 < word_count place len)
covered_counted place len u there =
    let has = covered_has_byte place len u there in
    let some = has.0 in let below = has.1 in let above = has.2 in
    at some below above (eqb len 0) refl where
      at : 0 < len → 8 * u < place + len → place < 8 * u + 8 → (b : Bool) → eqb len 0 ≡ b → (place / 8 ≤ u) × (u - place / 8 < cond b 0 ((place + len - 1) / 8 + 1 - place / 8))
      at some below above true e = absurd (let none : len ≡ 0 = grind (arith, nat_tests) in omega (arith, none, some))
      at some below above false e = (omega (arith, above), omega (arith, some, below, above))

module _ (o : Opening) (sound : IsSound o) (place : ℕ) (bytes : List ℕ) (v : View) (added : (i : ℕ) → Contains (covered_words place (length bytes)) i → is_recorded v.log.records i ≡ true) where
  -- the first so many of the words are written
  pub record HasWritten (k : ℕ) (w : View) : Type 0 where
    pub call : IsSameCall v w
    pub working : IsWorking w
    pub log : w.log ≡ v.log
    pub opening : FindsOpening o w
    pub written : (i : ℕ) → i < k → slice_index w.words (place / 8 + i) ≡ written_word place bytes (place / 8 + i) (slice_index v.words (place / 8 + i))
    pub others : (u : ℕ) → ((i : ℕ) → i < k → u ≢ place / 8 + i) → slice_index w.words u ≡ slice_index v.words u

  module _ (k : ℕ) (below : k < word_count place (length bytes)) (u : View) (has : HasWritten k u) where
    word : ℕ
    word = place / 8 + k

    is_added : is_recorded u.log.records (place / 8 + k) ≡ true
    is_added = ap (λ (l : Log). is_recorded l.records (place / 8 + k)) has.log ∙ added (place / 8 + k) (counted_covered place (length bytes) k below)

    user : IsUserWord u (place / 8 + k)
    user = let t = is_of u.log.records (place / 8 + k) is_added in has.working.records.each t.slot t.recorded (place / 8 + k) t.there t.covering

    plain : IsPlain u (place / 8 + k)
    plain = written_is_plain o sound u has.opening (place / 8 + k) user.own

    x : ℕ
    x = written_word place bytes (place / 8 + k) (slice_index u.words (place / 8 + k))

    seen_works : IsWorking (looked u (place / 8 + k))
    seen_works = work_goes_on u (looked u (place / 8 + k)) has.working (same_looked u (place / 8 + k)) refl (λ z inside. refl) has.working.drained

    wrote : (w : View) → IsWrittenWord (looked u (place / 8 + k)) (place / 8 + k) (written_word place bytes (place / 8 + k) (slice_index u.words (place / 8 + k))) w → HasWritten (k + 1) w
    wrote w is =
        let call = same_call-then u (looked u (place / 8 + k)) w (same_looked u (place / 8 + k)) is.call in
        let old : slice_index u.words (place / 8 + k) ≡ slice_index v.words (place / 8 + k) = has.others (place / 8 + k) (λ i low same. absurd (omega (arith, low, same))) in
        record {
          call = same_call-then v u w has.call call;
          working = is.working;
          log = is.log ∙ has.log;
          opening = opening_kept o u w has.opening call.lane call.locks (λ page chunk. is.others (descriptor_word u.lanes page) (λ same. plain.plain page chunk (sym same)));
          written = λ i low. ⊎_elim
              (λ (last : i ≡ k). subst (λ j. slice_index w.words (place / 8 + j) ≡ written_word place bytes (place / 8 + j) (slice_index v.words (place / 8 + j))) (sym last) (is.there ∙ ap (written_word place bytes (place / 8 + k)) old))
              (λ (front : i < k). is.others (place / 8 + i) (λ same. absurd (omega (arith, front, same))) ∙ has.written i front)
              (eq-or-lt_of_le (let e : i ≤ k = omega (arith, low) in e));
          others = λ z none. is.others z (none k (omega arith)) ∙ has.others z (λ i low. none i (omega (arith, low)));
        }

    step : Ready u (writes_word place bytes (place / 8 + k) u) × HasWritten (k + 1) (after_all u (writes_word place bytes (place / 8 + k) u))
    unfolding writes_word with_word by_view
    step =
        let y : ℕ = written_word place bytes (place / 8 + k) (slice_index u.words (place / 8 + k)) in
        let looked_at : View = looked u (place / 8 + k) in
        let store = write_lawful looked_at seen_works (place / 8 + k) y is_added in
        goes_then (Is u) (Is looked_at) (HasWritten (k + 1)) (looks (place / 8 + k)) (stores (place / 8 + k) y)
        (goes_from u (Is looked_at) (looks (place / 8 + k)) (may_look u (place / 8 + k) (Is looked_at) user.inside user.known (locked_may_be_recorded o sound u has.opening (place / 8 + k) user.own user.known).quiet refl))
        (goes_from looked_at (HasWritten (k + 1)) (stores (place / 8 + k) y) (store.0, wrote (after_all looked_at (stores (place / 8 + k) y looked_at)) store.1)) u refl

  pub writes_lawful : IsWorking v → FindsOpening o v → Ready v (writes place bytes v) × HasWritten (word_count place (length bytes)) (after_all v (writes place bytes v))
  unfolding writes
  writes_lawful working finds =
      goes_counted HasWritten (λ i. writes_word place bytes (place / 8 + i)) (word_count place (length bytes)) step v
      (record { call = same_call v; working = working; log = refl; opening = finds; written = λ i low. absurd (omega (arith, low)); others = λ u none. refl })

  -- all of them are the bytes written
  pub all_written : (w : View) → HasWritten (word_count place (length bytes)) w → (i : ℕ) → slice_index w.words i ≡ words_written place bytes (slice_index v.words) i
  all_written w has =
      only_words (slice_index v.words) (slice_index w.words) place bytes
      (record {
        covered = λ i there.
            let t = covered_counted place (length bytes) i there in
            let from = t.0 in
            let e : place / 8 + (i - place / 8) ≡ i = omega (arith, from) in
            subst (λ j. slice_index w.words j ≡ written_word place bytes j (slice_index v.words j)) e (has.written (i - place / 8) t.1);
        others = λ i never. has.others i (λ j low same. never (subst (Contains (covered_words place (length bytes))) (sym same) (counted_covered place (length bytes) j low)));
      })
