-- Bytes that are written into a new object change its block alone, which is no other's: what else a call made and found stays, and so does what was before the call.
use Rattle.std.proofs.Common.{◌≡◌, ⊎_elim, inl, inr, ℕ, ◌+◌, ◌-◌, ◌*◌, ◌%◌, ◌<◌, ◌≤◌, true, false, List, length, slice_get, slice_index, Some, refl, sym, ◌∙◌, ap, subst, arith}
use Rattle.std.specs.List.{All, Contains}
use Rattle.std.proofs.lemmas.Bool.{cases_Bool, cond-false, cond-true}
use Rattle.std.proofs.lemmas.Grind.{div_ceil_times}
use Rattle.pm_header.specs.declared.header.Header.{Header}
use Rattle.pm_layout.specs.Sizes.{class_of}
use Rattle.pm_objects.specs.Pool.{block_lines}
use Rattle.pm_objects.specs.declared.pool.PoolView.{PoolView}
use Rattle.pm_image.specs.Blocks.{blocks}
use Rattle.pm_image.specs.Contents.{bytes_in, data_words, offset_in, size_in}
use Rattle.pm_image.specs.Reads.{AgreeOn, ReadsBlock}
use Rattle.pm_image.specs.declared.block.Block.{Block}
use Rattle.pm_image.proofs.LocalContents.{contents_local, header_same}
use Rattle.pm_image.proofs.Pools.{GoodSize, length-bytes_in}
use Rattle.solo_model.specs.Answers.{IsBeside}
use Rattle.solo_model.specs.Bytes.{covered_words, put_bytes}
use Rattle.solo_view.specs.Area.{is_in_area}
use Rattle.solo_view.specs.Log.{Recorded}
use Rattle.solo_view.specs.View.{Lock, View}
use Rattle.solo_world.specs.Records.{is_recorded}
use Rattle.solo_crash.specs.CallBlocks.{IsMadeIn, NewObject, block_of}
use Rattle.solo_crash.specs.Held.{HoldsPool, object_of}
use Rattle.solo_crash.specs.HeapChanges.{AreDisjoint}
use Rattle.solo_crash.specs.NewObjects.{HasNewObject, fresh_word}
use Rattle.solo_crash.specs.OpenCall.{IsUnderBlock, block_at_line, call_words}
use Rattle.solo_crash.specs.Writes.{IsWritten, words_written}
use Rattle.solo_crash.proofs.NewPlaces.{found_has}
use Rattle.solo_crash.proofs.Apart.{size_of_block}
use Rattle.solo_crash.proofs.CallBlocks.{fills_block, SameNew}
use Rattle.solo_crash.proofs.Written.{new_object_written}
use Rattle.solo_crash.proofs.Continued.{GoesBack}
use Rattle.solo_crash.proofs.Bytewise.{length-put}
use Rattle.solo_crash.proofs.Covered.{covered_has_byte, written_words}
use Rattle.solo_crash.proofs.KeptWords.{found_back, same_found, under_further, under_kept}
use Rattle.solo_crash.proofs.ObjectsOfBlocks.{object_is_there}
use Rattle.pm_words.specs.Words.{AreBytes}
use Rattle.solo_crash.specs.OpenCall.{RecordsUnder}
use Rattle.solo_crash.specs.Operations.{KeepsLane, KeepsLog}
use Rattle.solo_crash.proofs.KeptWords.{same_records}

-- ---- a pool that has room for an object has no block where it stands

pub room_apart : (w : ℕ → ℕ) (lanes zones : ℕ) (header : Header) (pool : PoolView) (n : NewObject) (b : Block) → HoldsPool w lanes zones header pool → All (IsBeside n.size n.off) pool.objects
    → Contains (blocks w lanes zones) b → AreDisjoint (block_of n) b
room_apart w lanes zones header pool n b holds beside there =
    let at = object_is_there w lanes zones header pool b holds there in
    let good : GoodSize w b = size_of_block w lanes zones b holds.no_fault there in
    let lines : block_lines (class_of (length (bytes_in w b))) ≡ b.lines = ap (λ (k : ℕ). block_lines (class_of k)) at.size ∙ good.lines in
    let beside_it : IsBeside n.size n.off (offset_in b, object_of w lanes zones b) = found_has (IsBeside n.size n.off) pool.objects (offset_in b) (object_of w lanes zones b) beside at.found in
    ⊎_elim
    (λ (before : n.off - 64 + 64 * block_lines (class_of n.size) ≤ offset_in b - 64). inl (omega (arith, before)))
    (λ (behind : offset_in b - 64 + 64 * block_lines (class_of (length (bytes_in w b))) ≤ n.off - 64). inr (omega (arith, behind, lines)))
    beside_it

-- ---- what stands by other words in the block of what the call made

module _ (v next : View) (n : NewObject) (lane : next.lane ≡ v.lane) (knows : (i : ℕ) → Contains v.known i → Contains next.known i) (is : IsMadeIn v n) (u : ℕ → ℕ) (bytes : List ℕ) (there : HasNewObject u (block_of n) n.kind bytes)
    (long : length bytes ≡ n.size) (same : (i : ℕ) → ReadsBlock (slice_index v.words) (block_of n) i → slice_index next.words i ≡ u i) where
  sized : size_in u (block_of n) ≡ n.size
  sized = there.header 1 (omega arith) ∙ long

  sized_before : size_in (slice_index v.words) (block_of n) ≡ n.size
  sized_before = sym (length-bytes_in (slice_index v.words) (block_of n)) ∙ is.long

  read_before : (i : ℕ) → ReadsBlock u (block_of n) i → ReadsBlock (slice_index v.words) (block_of n) i
  read_before i reads = record { from = reads.from; to = (let to = reads.to in let a = sized in let b = sized_before in omega (arith, to, a, b)) }

  agree : AgreeOn (ReadsBlock u (block_of n)) u (slice_index next.words)
  agree = record { same = λ i reads. sym (same i (read_before i reads)) }

  pub bytes_now : bytes_in (slice_index next.words) (block_of n) ≡ bytes
  bytes_now = (contents_local u (slice_index next.words) (block_of n) agree).same_bytes ∙ there.holds

  read_now : (i : ℕ) → ReadsBlock (slice_index next.words) (block_of n) i → ReadsBlock (slice_index v.words) (block_of n) i
  read_now i reads = record { from = reads.from; to = (let to = reads.to in let a = header_same u (slice_index next.words) (block_of n) 1 (omega arith) agree in let b = sized in let c = sized_before in omega (arith, to, a, b, c)) }

  pub made_by_words : IsMadeIn next n
  made_by_words = record {
    behind = is.behind;
    aligned = is.aligned;
    object = record {
      some = subst (λ (bs : List ℕ). 1 ≤ length bs) (sym bytes_now) there.some;
      most = subst (λ (bs : List ℕ). length bs ≤ 262080) (sym bytes_now) there.most;
      of_size = ap (λ (bs : List ℕ). block_lines (class_of (length bs))) bytes_now ∙ there.of_size;
      header = λ place low. header_same u (slice_index next.words) (block_of n) place low agree ∙ there.header place low ∙ ap (λ (bs : List ℕ). fresh_word n.kind (length bs) place) (sym bytes_now);
      holds = refl;
    };
    long = ap (λ (bs : List ℕ). length bs) bytes_now ∙ long;
    known = λ i reads. knows i (is.known i (read_now i reads));
    outside = λ i reads. ap (λ k. is_in_area k i) lane ∙ is.outside i (read_now i reads);
  }

-- ---- the write

-- bytes are written into an object that stands in its block, from one of its bytes on, and into no other word but of the lane's area
pub record WritesWithin (v next : View) (n : NewObject) (off : ℕ) (bytes : List ℕ) : Type 0 where
  pub stands : IsMadeIn v n
  pub inside : off + length bytes ≤ n.size
  pub are_bytes : AreBytes bytes
  pub written : (i : ℕ) → is_in_area v.lane i ≡ false → slice_index next.words i ≡ words_written (n.off + off) bytes (slice_index v.words) i

module _ (v next : View) (n : NewObject) (off : ℕ) (bytes : List ℕ) (writes : WritesWithin v next n off bytes) where
  is : IsMadeIn v n
  is = writes.stands

  begins : (block_of n).place % 8 ≡ 0
  begins = let behind = is.behind in let aligned = is.aligned in omega (arith, behind, aligned)

  offset : offset_in (block_of n) ≡ n.off
  offset = let behind = is.behind in omega (arith, behind)

  abbrev u : ℕ → ℕ
  u = words_written (n.off + off) bytes (slice_index v.words)

  u_written : IsWritten (slice_index v.words) u (n.off + off) bytes
  u_written = written_words (slice_index v.words) (n.off + off) bytes

  abbrev new_bytes : List ℕ
  new_bytes = put_bytes off bytes (bytes_in (slice_index v.words) (block_of n))

  there_now : HasNewObject u (block_of n) n.kind new_bytes
  there_now = new_object_written (slice_index v.words) u (block_of n) n.kind off (bytes_in (slice_index v.words) (block_of n)) bytes begins is.object
      (let inside = writes.inside in let long = is.long in omega (arith, inside, long)) writes.are_bytes (subst (λ (o : ℕ). IsWritten (slice_index v.words) u (o + off) bytes) (sym offset) u_written)

  as_long : length new_bytes ≡ n.size
  as_long = length-put off bytes (bytes_in (slice_index v.words) (block_of n)) (let inside = writes.inside in let long = is.long in omega (arith, inside, long)) ∙ is.long

  -- a word that is written lies in the object's block
  covered_in : (i : ℕ) → Contains (covered_words (n.off + off) (length bytes)) i → (n.off - 64 ≤ 8 * i) × (8 * i < n.off - 64 + 64 * block_lines (class_of n.size))
  covered_in i there =
      let has = covered_has_byte (n.off + off) (length bytes) i there in
      let low = has.1 in let high = has.2 in let inside = writes.inside in let behind = is.behind in
      let fills = fills_block v n is in let aligned = is.aligned in
      let size : size_in (slice_index v.words) (block_of n) ≡ n.size = sym (length-bytes_in (slice_index v.words) (block_of n)) ∙ is.long in
      let words = div_ceil_times n.size 8 (omega arith) in
      let many : 8 + data_words n.size ≤ 8 * block_lines (class_of n.size) = subst (λ (k : ℕ). 8 + data_words k ≤ 8 * block_lines (class_of n.size)) size fills in
      (omega (arith, high, behind, aligned), omega (arith, low, inside, behind, words, many, aligned))

  -- so no word of a block apart from it is
  pub unwritten_apart : (b : Block) (i : ℕ) → AreDisjoint (block_of n) b → b.place ≤ 8 * i → 8 * i < b.place + 64 * b.lines → is_in_area v.lane i ≡ false → slice_index next.words i ≡ slice_index v.words i
  unwritten_apart b i apart from to outside = writes.written i outside ∙ u_written.others i (λ covered.
      let t = covered_in i covered in let low = t.0 in let high = t.1 in
      ⊎_elim (λ (before : n.off - 64 + 64 * block_lines (class_of n.size) ≤ b.place). omega (arith, before, from, high)) (λ (behind : b.place + 64 * b.lines ≤ n.off - 64). omega (arith, behind, to, low)) apart)

  -- another that stands apart from it is as it was
  pub other_same : (m : NewObject) → IsMadeIn v m → AreDisjoint (block_of n) (block_of m) → SameNew v next m
  other_same m it apart i reads =
      let from = reads.from in let to = reads.to in let fills = fills_block v m it in let behind = it.behind in let aligned = it.aligned in
      unwritten_apart (block_of m) i apart (omega (arith, from, behind, aligned)) (omega (arith, to, fills, behind, aligned)) (it.outside i reads)

  here_now : (i : ℕ) → ReadsBlock (slice_index v.words) (block_of n) i → slice_index next.words i ≡ u i
  here_now i reads = writes.written i (is.outside i reads)

  module _ (lane : KeepsLane v next) where
    -- it has the bytes
    pub bytes_written : bytes_in (slice_index next.words) (block_of n) ≡ put_bytes off bytes (bytes_in (slice_index v.words) (block_of n))
    bytes_written = bytes_now v next n lane.lane lane.known is u new_bytes there_now as_long here_now

    pub stands_written : IsMadeIn next n
    stands_written = made_by_words v next n lane.lane lane.known is u new_bytes there_now as_long here_now

    -- ---- what was before the call, where the object lies apart from what the call found

    module _ (logs : KeepsLog v next) (locks : next.locks ≡ v.locks) (outside : (i : ℕ) → is_recorded v.log.records i ≡ true → is_in_area v.lane i ≡ false) (under : RecordsUnder v)
        (apart_found : (l : Lock) (lines : ℕ) → Contains v.locks l → l.block ≡ Some lines → AreDisjoint (block_of n) (block_at_line l.line lines)) where
      -- no word of what it found is written
      found_stays : (i : ℕ) → IsUnderBlock v i → is_in_area v.lane i ≡ false → slice_index next.words i ≡ slice_index v.words i
      found_stays i it =
          let from = it.from in let to = it.to in
          unwritten_apart (block_at_line it.lock.line it.lines) i (apart_found it.lock it.lines it.held it.found) (omega (arith, from)) (omega (arith, to))

      -- so none that is recorded, since records are of that
      recorded_stays : (i : ℕ) → is_recorded v.log.records i ≡ true → slice_index next.words i ≡ slice_index v.words i
      recorded_stays i recorded = found_stays i (under i recorded) (outside i recorded)

      same_word : (w : ℕ → ℕ) (i : ℕ) → call_words next w i ≡ call_words v w i
      same_word w i =
          same_records v next w i logs.records
          ∙ ⊎_elim
          (λ (recorded : is_recorded v.log.records i ≡ true). cond-true (is_recorded v.log.records i) (slice_index next.words i) (w i) recorded ∙ recorded_stays i recorded ∙ sym (cond-true (is_recorded v.log.records i) (slice_index v.words i) (w i) recorded))
          (λ (none : is_recorded v.log.records i ≡ false). cond-false (is_recorded v.log.records i) (slice_index next.words i) (w i) none ∙ sym (cond-false (is_recorded v.log.records i) (slice_index v.words i) (w i) none))
          (cases_Bool (is_recorded v.log.records i))

      pub same_words_written : (w : ℕ → ℕ) → call_words next w ≡ call_words v w
      same_words_written w = (λ j i. same_word w i j)

      pub written_back : GoesBack v next
      written_back = record {
        outside = λ i is_recorded_now. outside i (sym (ap (λ (records : List Recorded). is_recorded records i) logs.records) ∙ is_recorded_now);
        under = under_kept v next (same_found v next locks) logs.records under;
        before = λ w header pool holds may before. record {
          recorded = λ slot r i at inside. before.recorded slot r i (ap (λ (records : List Recorded). slice_get records slot) logs.records ∙ at) inside;
          known = λ i known out none of_found.
              before.known i (lane.known i known) (ap (λ (k : ℕ). is_in_area k i) lane.lane ∙ out) (ap (λ (records : List Recorded). is_recorded records i) logs.records ∙ none)
              (under_further v next (same_found v next locks) i of_found)
              ∙ found_stays i of_found out;
          found = found_back v next lane (same_found v next locks) w before;
        };
        entries = logs.entries;
      }
