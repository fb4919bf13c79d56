-- A lane at work may write bytes into words of an object that stands in what it reserved, made by its call or reserved by it, and what that leaves.
use Rattle.std.proofs.Common.{◌≡◌, ◌≢◌, ℕ, ◌+◌, ◌-◌, ◌/◌, ◌<◌, ◌≤◌, ⊎_elim, true, false, All, Contains, List, length, slice_index, refl, sym, ap, ◌∙◌, subst, arith}
use Rattle.std.proofs.Math.Nat.{eq-or-lt_of_le}
use Rattle.std.proofs.lemmas.List.Elements.{All-weaker}
use Rattle.pm_image.specs.Blocks.{descriptor_word, chunk_word}
use Rattle.solo_crash.proofs.Covered.{only_words}
use Rattle.solo_crash.proofs.FoundBlocks.{IsPageOf, page_of_chunk}
use Rattle.solo_crash.proofs.NewRuns.{page_at}
use Rattle.solo_crash.specs.Writes.{words_written, written_word}
use Rattle.solo_model.specs.Bytes.{covered_words}
use Rattle.pm_objects.specs.declared.ids.Oid.{Oid}
use Rattle.solo_view.specs.Area.{is_in_area}
use Rattle.solo_view.specs.Blocks.{tells_nothing, is_run}
use Rattle.solo_view.specs.Held.{is_known}
use Rattle.solo_view.specs.View.{Taken, View}
use Rattle.solo_view.specs.Views.{after_all}
use Rattle.solo_undo.proofs.Retired.{may_look}
use Rattle.solo_undo.proofs.Staying.{looked, same_call, same_call-then, same_looked}
use Rattle.solo_undo.proofs.Storing.{Is, goes_from}
use Rattle.solo_undo.proofs.Written.{work_goes_on}
use Rattle.solo_undo.specs.Working.{IsSameCall, IsWorking}
use Rattle.solo_world.proofs.Going.{goes_counted, goes_then}
use Rattle.solo_world.specs.Heap.{IsOcc}
use Rattle.solo_world.specs.Lawful.{FilledChange, MayFill, OnlyFilled}
use Rattle.solo_world.specs.Sequences.{Ready, by_view, looks, stores, with_word}
use Rattle.solo_crash.proofs.StillReserved.{HasSameHeads}
use Rattle.solo_tx.proofs.WrittenBytes.{counted_covered, covered_counted}
use Rattle.solo_tx.specs.Sequences.{word_count, writes, writes_word}
use Rattle.solo_transaction.proofs.FilledWord.{IsFilledWord, ReservesOfPool, fill_lawful}
use Rattle.solo_transaction.proofs.GoingWith.{lies_still}
use Rattle.solo_transaction.proofs.NewRangeWords.{no_bitmap, no_descriptor, not_the_roots, quiet_word}
use Rattle.solo_transaction.proofs.OwnRangeWords.{HasOwnRange, WorksInPool, covered_fill, covered_in, covered_in_pool, covered_is_known, covered_outside}
use Rattle.solo_transaction.proofs.NewWords.{may_fill}
use Rattle.solo_transaction.specs.AtWork.{LiesInReserved}

module _ (v : View) (base : WorksInPool v) (id : Oid) (off : ℕ) (bytes : List ℕ) (range : HasOwnRange v id off (length bytes)) where
  abbrev place : ℕ
  place = id.off + off

  -- the first so many of the words are written
  pub record HasFilled (k : ℕ) (w : View) : Type 0 where
    pub call : IsSameCall v w
    pub working : IsWorking w
    pub log : w.log ≡ v.log
    pub written : (i : ℕ) → i < k → slice_index w.words ((id.off + off) / 8 + i) ≡ written_word (id.off + off) bytes ((id.off + off) / 8 + i) (slice_index v.words ((id.off + off) / 8 + i))
    pub others : (u : ℕ) → ((i : ℕ) → i < k → u ≢ (id.off + off) / 8 + i) → slice_index w.words u ≡ slice_index v.words u
    -- where nothing was undrained but words that may be filled, nothing else is
    pub undrained : ReservesOfPool v → OnlyFilled v → OnlyFilled w

  module _ (k : ℕ) (most : k ≤ word_count (id.off + off) (length bytes)) (u : View) (has : HasFilled k u) where
    covered : (i : ℕ) → i < k → Contains (covered_words (id.off + off) (length bytes)) ((id.off + off) / 8 + i)
    covered i low = counted_covered (id.off + off) (length bytes) i (omega (arith, low, most))

    tells : (i : ℕ) → i < k → tells_nothing v.lanes v.words ((id.off + off) / 8 + i) ≡ true
    tells i low = (covered_fill v base id off (length bytes) range ((id.off + off) / 8 + i) (covered i low)).plain

    -- none of them describes a chunk, is a run's bitmap or the root's
    pub filled_heads : HasSameHeads v u
    filled_heads = record {
      lanes = has.call.lane.lanes;
      zones = has.call.lane.zones;
      reserved = has.call.reserved;
      described = λ c in_pool.
          let page : ℕ = page_at v.lanes c in
          let of : IsPageOf v.lanes page c = page_of_chunk v.lanes page c refl in
          has.others (descriptor_word v.lanes c) (λ i low same. no_descriptor v ((id.off + off) / 8 + i) (tells i low) page of.in_chunk (sym same ∙ sym of.descriptor));
      bitmaps = λ c in_pool run.
          let page : ℕ = page_at v.lanes c in
          let of : IsPageOf v.lanes page c = page_of_chunk v.lanes page c refl in
          has.others (chunk_word v.lanes c)
          (λ i low same. no_bitmap v ((id.off + off) / 8 + i) (tells i low) page (ap (λ k. is_run (slice_index v.words k)) of.descriptor ∙ run) (of.bitmap ∙ same));
      root = has.others 64 (λ i low same. not_the_roots v ((id.off + off) / 8 + i) (tells i low) (sym same));
    }

  module _ (k : ℕ) (below : k < word_count (id.off + off) (length bytes)) (u : View) (has : HasFilled k u) where
    abbrev word : ℕ
    word = (id.off + off) / 8 + k

    there : Contains (covered_words (id.off + off) (length bytes)) ((id.off + off) / 8 + k)
    there = counted_covered (id.off + off) (length bytes) k below

    lies_now : LiesInReserved u range.new
    lies_now = lies_still v u (filled_heads k (omega (arith, below)) u has) range.new range.lies

    fill : MayFill u ((id.off + off) / 8 + k)
    fill = may_fill u range.new lies_now ((id.off + off) / 8 + k) (covered_in v base id off (length bytes) range ((id.off + off) / 8 + k) there)

    inside : (id.off + off) / 8 + k < length u.words
    inside = let low = covered_in_pool v base id off (length bytes) range ((id.off + off) / 8 + k) there in let size = has.call.lane.size in omega (arith, low, size)

    outside : is_in_area u.lane ((id.off + off) / 8 + k) ≡ false
    outside = ap (λ n. is_in_area n ((id.off + off) / 8 + k)) has.call.lane.lane ∙ covered_outside v base id off (length bytes) range ((id.off + off) / 8 + k) there

    known : is_known u ((id.off + off) / 8 + k) ≡ true
    known = has.call.known ((id.off + off) / 8 + k) (covered_is_known v base id off (length bytes) range ((id.off + off) / 8 + k) there)

    seen_works : IsWorking (looked u ((id.off + off) / 8 + k))
    seen_works = work_goes_on u (looked u ((id.off + off) / 8 + k)) has.working (same_looked u ((id.off + off) / 8 + k)) refl (λ z inside. refl) has.working.drained

    of_pool_then : ReservesOfPool v → ReservesOfPool (looked u ((id.off + off) / 8 + k))
    of_pool_then of_pool =
        let lane = has.call.lane in
        subst (λ (lanes : ℕ). All (λ (t : Taken). IsOcc lanes u.zones t.at) u.reserved) (sym lane.lanes)
        (subst (λ (zones : ℕ). All (λ (t : Taken). IsOcc v.lanes zones t.at) u.reserved) (sym lane.zones)
        (subst (λ (blocks : List Taken). All (λ (t : Taken). IsOcc v.lanes v.zones t.at) blocks) (sym has.call.reserved) of_pool))

    looked_filled : OnlyFilled u → OnlyFilled (looked u ((id.off + off) / 8 + k))
    looked_filled only = All-weaker (FilledChange u) (FilledChange (looked u word)) (λ c of. record { whole = of.whole; may = record { reserved = of.may.reserved; plain = of.may.plain } }) u.changes only

    wrote : (w : View) → IsFilledWord (looked u ((id.off + off) / 8 + k)) ((id.off + off) / 8 + k) (written_word (id.off + off) bytes ((id.off + off) / 8 + k) (slice_index u.words ((id.off + off) / 8 + k))) w → HasFilled (k + 1) w
    wrote w filled =
        let is = filled.written in
        let call = same_call-then u (looked u word) w (same_looked u word) is.call in
        let old : slice_index u.words word ≡ slice_index v.words word = has.others word (λ i low same. absurd (omega (arith, low, same))) in
        record {
          call = same_call-then v u w has.call call;
          working = is.working;
          log = is.log ∙ has.log;
          written = λ i low. ⊎_elim
              (λ (last : i ≡ k). subst (λ j. slice_index w.words ((id.off + off) / 8 + j) ≡ written_word (id.off + off) bytes ((id.off + off) / 8 + j) (slice_index v.words ((id.off + off) / 8 + j))) (sym last) (is.there ∙ ap (written_word (id.off + off) bytes word) old))
              (λ (front : i < k). is.others ((id.off + off) / 8 + i) (λ same. absurd (omega (arith, front, same))) ∙ has.written i front)
              (eq-or-lt_of_le (let e : i ≤ k = omega (arith, low) in e));
          others = λ z none. is.others z (none k (omega arith)) ∙ has.others z (λ i low. none i (omega (arith, low)));
          undrained = λ of_pool only. filled.undrained (of_pool_then of_pool) (looked_filled (has.undrained of_pool only));
        }

    step : Ready u (writes_word (id.off + off) bytes ((id.off + off) / 8 + k) u) × HasFilled (k + 1) (after_all u (writes_word (id.off + off) bytes ((id.off + off) / 8 + k) u))
    unfolding writes_word with_word by_view
    step =
        let y : ℕ = written_word (id.off + off) bytes word (slice_index u.words word) in
        let looked_at : View = looked u word in
        let store = fill_lawful looked_at seen_works word y (record { reserved = fill.reserved; plain = fill.plain }) inside outside in
        goes_then (Is u) (Is looked_at) (HasFilled (k + 1)) (looks word) (stores word y)
        (goes_from u (Is looked_at) (looks word) (may_look u word (Is looked_at) inside known (quiet_word u word fill.plain) refl))
        (goes_from looked_at (HasFilled (k + 1)) (stores word y) (store.0, wrote (after_all looked_at (stores word y looked_at)) store.1)) u refl

  pub fills_lawful : Ready v (writes (id.off + off) bytes v) × HasFilled (word_count (id.off + off) (length bytes)) (after_all v (writes (id.off + off) bytes v))
  unfolding writes
  fills_lawful =
      goes_counted HasFilled (λ i. writes_word (id.off + off) bytes ((id.off + off) / 8 + i)) (word_count (id.off + off) (length bytes)) step v
      (record { call = same_call v; working = base.working; log = refl; written = λ i low. absurd (omega (arith, low)); others = λ u none. refl; undrained = λ of_pool only. only })

  -- all of them are the bytes written
  pub all_filled : (w : View) → HasFilled (word_count (id.off + off) (length bytes)) w → (i : ℕ) → slice_index w.words i ≡ words_written (id.off + off) bytes (slice_index v.words) i
  all_filled w has =
      only_words (slice_index v.words) (slice_index w.words) (id.off + off) bytes
      (record {
        covered = λ i there.
            let t = covered_counted (id.off + off) (length bytes) i there in
            let from = t.0 in
            let e : (id.off + off) / 8 + (i - (id.off + off) / 8) ≡ i = omega (arith, from) in
            subst (λ j. slice_index w.words j ≡ written_word (id.off + off) bytes j (slice_index v.words j)) e (has.written (i - (id.off + off) / 8) t.1);
        others = λ i never. has.others i (λ j low same. never (subst (Contains (covered_words (id.off + off) (length bytes))) (sym same) (counted_covered (id.off + off) (length bytes) j low)));
      })
