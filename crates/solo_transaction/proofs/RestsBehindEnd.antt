-- A lane alone rests behind its transaction with what it has reserved and pending: that stood as its call was over, and the lane kept its blocks as it gave the others back.
use Rattle.std.proofs.Common.{◌≡◌, inl, inr, ℕ, ◌+◌, ◌*◌, ◌<◌, true, All, Contains, List, [], length, map, slice_index, refl, sym, ap, ◌∙◌, subst, arith}
use Rattle.std.proofs.lemmas.List.Elements.{All-contains, All-map, All-weaker}
use Rattle.pm_header.specs.declared.header.Header.{Header}
use Rattle.pm_image.proofs.Members.{no_member}
use Rattle.pm_image.specs.Reads.{ReadsBlock}
use Rattle.pm_image.specs.declared.block.Block.{Block}
use Rattle.pm_image.specs.Blocks.{descriptor_word}
use Rattle.pm_layout.specs.Sizes.{blocks_of}
use Rattle.pm_layout.specs.declared.shape.Shape.{Shape}
use Rattle.solo_model.specs.Actions.{Pending, Reservation}
use Rattle.pm_objects.specs.declared.pool.PoolView.{PoolView}
use Rattle.solo_view.specs.declared.occ.Occ.{Occ}
use Rattle.solo_view.specs.declared.occ.Occ.TheVariants.{Run, Zone}
use Rattle.solo_view.specs.Area.{is_in_area}
use Rattle.solo_view.specs.Founds.{IsAlone}
use Rattle.solo_view.specs.Log.{no_log}
use Rattle.solo_view.specs.Log.Phase.{Idle}
use Rattle.solo_view.specs.View.{Lock, View}
use Rattle.solo_view.specs.Views.{reserves}
use Rattle.solo_world.specs.Fits.{LaneFits}
use Rattle.solo_world.specs.Heap.{IsOcc, heap_words}
use Rattle.solo_world.specs.History.{Flies, settled}
use Rattle.solo_world.specs.Lanes.{IsOfShape}
use Rattle.solo_world.specs.Opening.{Opening}
use Rattle.solo_world.specs.declared.lane.HeldLock.{HeldLock}
use Rattle.solo_world.specs.declared.lane.Lane.{Lane}
use Rattle.solo_crash.specs.Alone.{BeginsAgain, WorksAlone, standing}
use Rattle.solo_crash.specs.CallBlocks.{NewObject, block_of, reserved_object}
use Rattle.solo_crash.specs.HeapChanges.{run_at}
use Rattle.solo_crash.specs.Leading.{Leads}
use Rattle.solo_crash.specs.Pending.{pending_before, pending_in}
use Rattle.solo_crash.specs.Reserved.{IsReservedFor, IsReservedInChunks, IsReservedInRun}
use Rattle.solo_crash.specs.Reserving.{HasReserved, block_reserved}
use Rattle.solo_crash.proofs.AloneCourse.{StandsAlone}
use Rattle.solo_crash.proofs.AloneMemory.{memory_of}
use Rattle.solo_crash.proofs.Includes.{made_member}
use Rattle.solo_crash.proofs.PendingOn.{same_before}
use Rattle.solo_crash.proofs.ReservedStays.{nothing_made, stands_again}
use Rattle.solo_reclaim.proofs.BlockBits.{chunks_bits, run_bits}
use Rattle.solo_reclaim.specs.KeptBlocks.{IsBitOf, Keeps}
use Rattle.solo_reclaim.specs.KnownTaken.{KnowsTaken}
use Rattle.solo_epoch.specs.Epochs.{ReservesNoRun}
use Rattle.solo_epoch.specs.Reserving.{RestsWithReserved, with_next_call}
use Rattle.solo_epoch.proofs.GainedObjects.{stood}
use Rattle.solo_epoch.proofs.NothingReserved.{rests_standing}
use Rattle.solo_epoch.proofs.RestingReservations.{reserved_is_kept}
use Rattle.solo_epoch.proofs.StandingPools.{own_fits}
use Rattle.solo_transaction.proofs.KeptBehindEnd.{given_know, reclaimed_know}
use Rattle.solo_transaction.proofs.NewWords.{IsInBlock, may_fill}
use Rattle.solo_transaction.proofs.NotMaking.{not_making_knowing, reserves_no_run}
use Rattle.solo_transaction.proofs.RestingViews.{NextOf, all_reserved, knew_before, lies_by, lies_for, next_known, next_of, next_pending, next_word, read_in_block}
use Rattle.solo_transaction.specs.AtWork.{LiesInReserved}
use Rattle.solo_transaction.specs.Ending.{HasEndedWith, unlocked_view}
use Rattle.solo_transaction.specs.Resting.{StandsAtRest}

-- the blocks of what is reserved and pending the lane has, and so it may keep them
pub reserved_kept : (v : View) → StandsAtRest v → All (Keeps v) (map block_of (map reserved_object (pending_before v).reserved))
reserved_kept v rests =
    All-map (Keeps v) block_of (map reserved_object (pending_before v).reserved)
    (All-weaker (LiesInReserved v) (λ (n : NewObject). Keeps v (block_of n)) (λ n lies. reserved_is_kept v n (lies_for v n lies)) (map reserved_object (pending_before v).reserved) rests.within)

-- what was pending is
pub ended_pending : {M : Type 0} (at : M → View → Type 0) (lane : Lane M) (v : View) (locks : List HeldLock) (kept : List Block) → (ended : HasEndedWith at lane v locks kept) → pending_before ended.view ≡ pending_before v
ended_pending at lane v locks kept ended = same_before v ended.view (ap (λ (z : View). z.entries) ended.reclaims.same ∙ ap (λ (z : View). z.entries) ended.given)

module _ {M : Type 0} (at : M → View → Type 0) (lane : Lane M) (v : View) (locks : List HeldLock) (kept : List Block) (rests : StandsAtRest v) (taken : KnowsTaken v) (alone : IsAlone v) (idle : v.log ≡ no_log Idle)
    (ended : HasEndedWith at lane v locks kept) (keeps : kept ≡ map block_of (map reserved_object (pending_before v).reserved)) where
  abbrev u : View
  u = unlocked_view v locks

  abbrev w : View
  w = ended.view

  abbrev pending : List Reservation
  pending = (pending_before v).reserved

  -- ---- what did not change

  lanes : w.lanes ≡ v.lanes
  lanes = ap (λ (z : View). z.lanes) ended.reclaims.same ∙ ap (λ (z : View). z.lanes) ended.given

  zones : w.zones ≡ v.zones
  zones = ap (λ (z : View). z.zones) ended.reclaims.same ∙ ap (λ (z : View). z.zones) ended.given

  own_lane : w.lane ≡ v.lane
  own_lane = ap (λ (z : View). z.lane) ended.reclaims.same ∙ ap (λ (z : View). z.lane) ended.given

  words : w.words ≡ v.words
  words = ap (λ (z : View). z.words) ended.reclaims.same ∙ ap (λ (z : View). z.words) ended.given

  still_idle : w.log ≡ no_log Idle
  still_idle = ap (λ (z : View). z.log) ended.reclaims.same ∙ (ap (λ (z : View). z.log) ended.given ∙ idle)

  same_pending : pending_before w ≡ pending_before v
  same_pending = ended_pending at lane v locks kept ended

  inside_w : w.lane < w.lanes
  inside_w = ended.rests.place.lane

  inside_v : v.lane < v.lanes
  inside_v = let low = inside_w in let l = own_lane in let ls = lanes in omega (arith, low, l, ls)

  next_v : NextOf v (with_next_call v)
  next_v = next_of v inside_v (inl idle)

  next_w : NextOf w (with_next_call w)
  next_w = next_of w inside_w (inl still_idle)

  -- ---- one reservation

  module _ (r : Reservation) (there : Contains pending r) where
    abbrev object : NewObject
    object = reserved_object r

    lay : LiesInReserved v object
    lay = All-contains (LiesInReserved v) (map reserved_object pending) object rests.within (made_member reserved_object pending r there)

    kept_there : Contains kept (block_of object)
    kept_there = subst (λ (bs : List Block). Contains bs (block_of object)) (sym keeps) (made_member block_of (map reserved_object pending) object (made_member reserved_object pending r there))

    -- each bit of its block is one of what is kept
    bit_left : (at : Occ) (bit : ℕ) → IsOcc w.lanes w.zones at → bit < 64 → IsBitOf v.lanes (block_of object) at bit → reserves w at bit ≡ true
    bit_left at bit of low its = (ended.left.reserved at bit of low).1 (kept_there.0, block_of object, kept_there.1, kept_there.2, subst (λ (m : ℕ). IsBitOf m (block_of object) at bit) (sym lanes) its)

    run_left : (run : IsReservedInRun v object) → run.index < blocks_of run.lines → reserves w (run_at v.lanes run.chunk) run.index ≡ true
    run_left run inside =
        let in_pool = run.in_pool in
        bit_left (run_at v.lanes run.chunk) run.index (subst (λ (m : ℕ). IsOcc m w.zones (run_at v.lanes run.chunk)) (sym lanes) (subst (λ (z : ℕ). IsOcc v.lanes z (run_at v.lanes run.chunk)) (sym zones) (omega arith, (omega arith, omega arith), omega (arith, in_pool)))) run.low
        (subst (λ (b : Block). IsBitOf v.lanes b (run_at v.lanes run.chunk) run.index) (sym run.is_block) ((run_bits v.lanes run.chunk run.lines run.index inside (run_at v.lanes run.chunk) run.index).1 (ap Run (omega arith), refl)))

    chunk_left : (its : IsReservedInChunks v object) (j : ℕ) → j < its.count → reserves w (Zone its.zone) (its.first + j) ≡ true
    chunk_left its j near =
        let in_pool = its.in_pool in let low = its.low in let fits = its.fits in
        bit_left (Zone its.zone) (its.first + j) (omega (arith, in_pool, zones)) (omega (arith, fits, near))
        (subst (λ (b : Block). IsBitOf v.lanes b (Zone its.zone) (its.first + j)) (sym its.is_block)
        ((chunks_bits v.lanes (64 * its.zone + its.first) its.count (Zone its.zone) (its.first + j)).1 (ap Zone (omega (arith, low)), ((omega (arith, low)), (omega (arith, low, near))))))

    lies : LiesInReserved w object
    lies = lies_by v w object lanes zones (λ run inside. (ap (λ (ws : List ℕ). slice_index ws (descriptor_word v.lanes run.chunk)) words, run_left run inside))
        (λ its j near. (ap (λ (ws : List ℕ). slice_index ws (descriptor_word v.lanes (64 * its.zone + (its.first + j)))) words, chunk_left its j near)) lay

    -- a word of its block that the lane knew it knows
    known_still : (i : ℕ) → IsInBlock object i → Contains v.known i → Contains w.known i
    known_still i word knew =
        reclaimed_know u w (ap (λ (z : View). z.table) ended.given ∙ alone) (ap (λ (z : View). z.locks) ended.given)
        (subst KnowsTaken (sym ended.given) (record { pages = taken.pages; zone_count = taken.zone_count; bits = taken.bits; apart = taken.apart; once = taken.once })) ended.reclaims object i lies word
        (given_know locks i v (may_fill v object lay i word).reserved knew)

  -- ---- all of them

  abbrev x : View
  x = with_next_call v

  same_then : (pending_in (with_next_call w)).reserved ≡ (pending_in x).reserved
  same_then = ap (λ (p : Pending). p.reserved) (next_pending w (with_next_call w) next_w ∙ (same_pending ∙ sym (next_pending v x next_v)))

  pending_then : (pending_in x).reserved ≡ pending
  pending_then = ap (λ (p : Pending). p.reserved) (next_pending v x next_v)

  before : (r : Reservation) → Contains (pending_in x).reserved r → Contains pending r
  before r there = subst (λ (rs : List Reservation). Contains rs r) pending_then there

  knows : (r : Reservation) (i : ℕ) → Contains (pending_in x).reserved r → ReadsBlock (slice_index x.words) (block_reserved r) i → Contains (with_next_call w).known i
  knows r i there reads =
      let made = (rests.stands.each r there).made in
      next_known w (with_next_call w) next_w i
      (known_still r (before r there) i (read_in_block x (reserved_object r) made i reads)
      (knew_before v x next_v i (ap (λ (k : ℕ). is_in_area k i) (sym next_v.lane) ∙ made.outside i reads) (made.known i reads)))

  same_word : (i : ℕ) → slice_index (with_next_call w).words i ≡ slice_index x.words i
  same_word i = next_word w (with_next_call w) next_w i ∙ (ap (λ (ws : List ℕ). slice_index ws i) words ∙ sym (next_word v x next_v i))

  stands_then : HasReserved (with_next_call w)
  stands_then =
      stands_again x (with_next_call w) rests.stands same_then (nothing_made (with_next_call w) next_w.call) (next_w.lanes ∙ (lanes ∙ sym next_v.lanes)) (next_w.zones ∙ (zones ∙ sym next_v.zones)) (next_w.lane ∙ (own_lane ∙ sym next_v.lane)) knows (λ r there i reads. same_word i)
      (λ r l lines there held is. absurd (no_member l (subst (λ (ls : List Lock). Contains ls l) (next_w.locks ∙ ended.rests.free) held)))

  pub ended_stands : StandsAtRest w
  ended_stands = record {
    stands = stands_then;
    within = subst (λ (p : Pending). All (LiesInReserved w) (map reserved_object p.reserved)) (sym same_pending) (all_reserved (LiesInReserved w) pending lies);
  }

  -- ---- so it rests

  module _ (o : Opening) (header : Header) (pool : PoolView) (shape : Shape) (of_shape : IsOfShape v shape) (begins : BeginsAgain (standing o w) header pool w) where
    abbrev here : Opening
    here = standing o w

    works : WorksAlone here header pool w [] w
    unfolding Leads
    works = record { begins = inr begins; leads = refl; numbered = begins.numbered; within = begins.rested.within }

    s : StandsAlone here header pool w
    s = stood here header pool w w [] works

    fits : LaneFits here (memory_of w) (settled here s.log s.decided) (Flies s.log s.decided 0) 0 w
    fits = own_fits here header pool w s

    no_run : ReservesNoRun w.lanes w
    no_run = reserves_no_run here (heap_words here (memory_of w)) w fits.blocks fits.lane.lanes fits.lane.zones (not_making_knowing w begins.unlocked ended.reclaims.taken)

    pub ended_rests : RestsWithReserved here header pool w [] w shape
    ended_rests =
        rests_standing here header pool w [] w shape works begins.rested.idle begins.rested.no_locks begins.unlocked begins.alone
        (record { lanes = lanes ∙ of_shape.lanes; zones = zones ∙ of_shape.zones; size = ap (λ (ws : List ℕ). length ws) words ∙ of_shape.size }) no_run ended_stands.stands
        (All-weaker (LiesInReserved w) (IsReservedFor w) (lies_for w) (map reserved_object (pending_before w).reserved) ended_stands.within)
