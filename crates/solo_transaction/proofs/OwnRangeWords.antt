-- The words that a range of an object covers that stands in what the lane reserved, made by its call or reserved by it: it knows them, may store them, and none of them
-- is the size of an object found.
use Rattle.std.proofs.Common.{◌≡◌, ◌≢◌, ⊎_elim, ℕ, ◌+◌, ◌*◌, ◌/◌, ◌%◌, ◌^◌, ◌<◌, ◌≤◌, true, false, length, slice_index, Contains, Some, sym, ◌∙◌, subst, arith}
use Rattle.std.proofs.lemmas.Grind.{div_ceil_times}
use Rattle.pm_image.proofs.Pools.{length-bytes_in}
use Rattle.pm_image.specs.Contents.{data_words, size_in}
use Rattle.pm_image.specs.Reads.{ReadsBlock}
use Rattle.solo_model.specs.Bytes.{covered_words}
use Rattle.pm_objects.specs.declared.ids.Oid.{Oid}
use Rattle.solo_view.specs.Area.{is_in_area}
use Rattle.solo_view.specs.Held.{is_known}
use Rattle.solo_view.specs.View.{Lock, View}
use Rattle.solo_world.specs.Lawful.{MayFill}
use Rattle.solo_world.specs.Opening.{Opening}
use Rattle.solo_world.specs.declared.lane.Lane.{Lane}
use Rattle.solo_lock.specs.Finding.{FindsObject, FindsObjects}
use Rattle.solo_crash.proofs.CallBlocks.{fills_block}
use Rattle.solo_crash.proofs.Covered.{covered_has_byte}
use Rattle.solo_crash.specs.CallBlocks.{IsMadeIn, NewObject, block_of}
use Rattle.solo_crash.specs.HeapChanges.{AreDisjoint}
use Rattle.solo_crash.specs.OpenCall.{block_at_line}
use Rattle.solo_made.specs.Made.{BlockLists}
use Rattle.solo_tx.proofs.AddsAtWork.{listed_is_known}
use Rattle.solo_undo.specs.Working.{IsWorking}
use Rattle.solo_transaction.proofs.NewWords.{IsInBlock, in_pool, may_fill}
use Rattle.solo_transaction.specs.AtWork.{IsAtWorkWith, LiesInReserved}

-- the range is one of an object that stands by the lane's words, in a block that lies whole in what it reserved, and apart from those of what it found
pub record HasOwnRange (v : View) (id : Oid) (off len : ℕ) : Type 0 where
  pub new : NewObject
  pub stands : IsMadeIn v new
  pub lies : LiesInReserved v new
  pub apart : (l : Lock) (lines : ℕ) → Contains v.locks l → l.block ≡ Some lines → AreDisjoint (block_of new) (block_at_line l.line lines)
  pub place : id.off ≡ new.off
  pub inside : off + len ≤ new.size

-- the lane's call is in work, over all words of its pool, and it found an object under each lock that it holds
pub record WorksInPool (v : View) : Type 0 where
  pub working : IsWorking v
  pub size : length v.words ≡ 512 + 1024 * v.lanes + 33280 * v.zones
  pub few : length v.words ≤ 2 ^ 40
  pub objects : FindsObjects v

pub works_in_pool : {M : Type 0} (o : Opening) (at : M → View → Type 0) (lane : Lane M) (blocks : BlockLists) (v : View) → IsAtWorkWith o at lane blocks v → WorksInPool v
works_in_pool o at lane blocks v all =
    let lanes = all.work.seen.shape.lanes in let zones = all.work.seen.shape.zones in let size = all.work.seen.shape.size in
    let most = all.work.sound.most_lanes in let same = all.work.opening.size in let whole = all.work.sound.size in let few = all.work.zones in
    record { working = all.work.working; size = omega (arith, lanes, zones, size); few = omega (arith, most, same, whole, few); objects = all.work.objects }

module _ (v : View) (base : WorksInPool v) (id : Oid) (off len : ℕ) (range : HasOwnRange v id off len) where
  abbrev n : NewObject
  n = range.new

  made : IsMadeIn v n
  made = range.stands

  size_is : size_in (slice_index v.words) (block_of n) ≡ n.size
  size_is = sym (length-bytes_in (slice_index v.words) (block_of n)) ∙ made.long

  -- the object's block has its header's line and its bytes
  block_holds : 8 + data_words n.size ≤ 8 * (block_of n).lines
  block_holds = subst (λ (k : ℕ). 8 + data_words k ≤ 8 * (block_of n).lines) size_is (fills_block v n made)

  pub even : id.off % 8 ≡ 0
  even = let aligned = made.aligned in let at_off = range.place in omega (arith, aligned, at_off)

  module _ (i : ℕ) (there : Contains (covered_words (id.off + off) len) i) where
    pub covered_read : ReadsBlock (slice_index v.words) (block_of n) i
    covered_read =
        let has = covered_has_byte (id.off + off) len i there in
        let low = has.1 in let high = has.2 in let inside = range.inside in let at_off = range.place in let behind = made.behind in let aligned = made.aligned in
        let size = size_is in let words = div_ceil_times n.size 8 (omega arith) in
        let ends : i < (block_of n).place / 8 + 8 + data_words n.size = omega (arith, low, inside, at_off, behind, words, aligned) in
        record { from = omega (arith, high, at_off, behind, aligned); to = subst (λ (k : ℕ). i < (block_of n).place / 8 + 8 + data_words k) (sym size) ends }

    -- and so it lies in the block, behind the header's line
    pub covered_behind : (block_of range.new).place / 8 + 8 ≤ i
    covered_behind =
        let has = covered_has_byte (id.off + off) len i there in
        let high = has.2 in let at_off = range.place in let behind = made.behind in let aligned = made.aligned in
        omega (arith, high, at_off, behind, aligned)

    pub covered_in : IsInBlock range.new i
    covered_in =
        let reads = covered_read in let to = reads.to in let fills = fills_block v n made in
        record { from = reads.from; to = omega (arith, to, fills) }

    pub covered_known : Contains v.known i
    covered_known = made.known i covered_read

    pub covered_is_known : is_known v i ≡ true
    covered_is_known = listed_is_known v i covered_known

    pub covered_outside : is_in_area v.lane i ≡ false
    covered_outside = made.outside i covered_read

    pub covered_fill : MayFill v i
    covered_fill = may_fill v n range.lies i covered_in

    pub covered_in_pool : i < length v.words
    covered_in_pool = in_pool v n range.lies base.size i covered_in

    -- it is no object's size that was found
    pub covers_no_size : (l : Lock) → Contains v.locks l → i ≢ 8 * l.line + 1
    covers_no_size l held is =
        let object : FindsObject v l = base.objects l held in
        let apart : AreDisjoint (block_of n) (block_at_line l.line object.lines) = range.apart l object.lines held object.block in
        let in_it = covered_in in let from = in_it.from in let to = in_it.to in let most = object.fits in let behind = made.behind in let aligned = made.aligned in
        ⊎_elim
        (λ (before : (block_of n).place + 64 * (block_of n).lines ≤ 64 * l.line). omega (arith, before, is, to, behind, aligned))
        (λ (after : 64 * l.line + 64 * object.lines ≤ (block_of n).place). omega (arith, after, is, from, most, behind, aligned))
        apart

  -- the range ends far from the end of numbers
  pub range_is_low : id.off + off + len < 2 ^ 60
  range_is_low =
      let inside = range.inside in let most = made.object.most in let long = made.long in let at_off = range.place in let behind = made.behind in
      let holds = block_holds in
      let head = in_pool v n range.lies base.size ((block_of n).place / 8) (record { from = omega arith; to = omega (arith, holds) }) in
      let few = base.few in
      omega (arith, inside, most, long, at_off, behind, head, few)
