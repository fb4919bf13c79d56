-- A lane that works alone and rests, and has nothing reserved that is pending, gives back the blocks of objects that lie in what it reserved, and rests with nothing pending then.
use Rattle.std.proofs.Common.{◌≡◌, ◌≢◌, ◌↔◌, ⊎_elim, inl, inr, ℕ, ◌<◌, ◌≤◌, ◌||◌, true, false, All, AllPairs, List, [], ◌∷◌, ◌++◌, get_or, length, map, slice_index, refl, sym, ap, ◌∙◌, subst, arith}
use Rattle.std.specs.Int.{bit_at}
use Rattle.std.specs.List.{list_any}
use Rattle.std.specs.Option.{ForSome}
use Rattle.std.proofs.lemmas.Bool.{false≢true, or_cases}
use Rattle.std.proofs.lemmas.List.{append-nil, get_or-map, length-map, map-append}
use Rattle.std.proofs.lemmas.List.Elements.{All-map, All-weaker, Contains-get_or}
use Rattle.std.proofs.lemmas.Bool.Decides.{Decides-eqb}
use Rattle.std.proofs.lemmas.Map.Made.{AllPairs-from_IsDistinct}
use Rattle.std.proofs.lemmas.Nat.Bits.{bit_at-lt}
use Rattle.std.proofs.lemmas.Simd.{map-map}
use Rattle.pm_header.specs.declared.header.Header.{Header}
use Rattle.pm_image.specs.declared.block.Block.{Block}
use Rattle.pm_layout.specs.declared.shape.Shape.{Shape}
use Rattle.solo_memory.specs.Solo.{AreNumbered}
use Rattle.solo_model.specs.Actions.{Pending, Reservation}
use Rattle.solo_model.proofs.Blocks.{has_lines}
use Rattle.pm_objects.specs.declared.pool.PoolView.{PoolView}
use Rattle.solo_view.specs.declared.occ.Occ.{Occ}
use Rattle.solo_view.specs.Occupancy.{is_taken}
use Rattle.solo_view.specs.Counts.{is_counted}
use Rattle.solo_view.specs.Log.{no_log}
use Rattle.solo_view.specs.Log.Phase.{Idle}
use Rattle.solo_view.specs.Steps.{Step}
use Rattle.solo_view.specs.View.{View}
use Rattle.solo_view.specs.Views.{after, after_all, has_bit, occ_in, reserves}
use Rattle.solo_view.proofs.Sequences.{after_all-append}
use Rattle.solo_world.specs.Heap.{IsOcc, has_run_chunk}
use Rattle.solo_world.specs.Opening.{Opening}
use Rattle.solo_world.specs.Sequences.{Ready}
use Rattle.solo_world.proofs.Filled.{none_filled}
use Rattle.solo_blocks.specs.Giving.{vacates_block}
use Rattle.solo_crash.specs.Alone.{WorksAlone, standing}
use Rattle.solo_crash.specs.CallBlocks.{NewObject, block_of, reserved_in, reserved_object}
use Rattle.solo_crash.specs.HeapChanges.{AreDisjoint}
use Rattle.solo_crash.specs.Leading.{Leads}
use Rattle.solo_crash.specs.Pending.{pending_in}
use Rattle.solo_crash.specs.Reserved.{IsReservedFor}
use Rattle.solo_crash.specs.Reserving.{HasReserved}
use Rattle.solo_crash.proofs.AloneCourse.{begins_alone}
use Rattle.solo_crash.proofs.Leading.{leads_then}
use Rattle.solo_crash.proofs.OnTheWay.{alone_on_the_way}
use Rattle.solo_crash.proofs.PendingOn.{same_before}
use Rattle.solo_reclaim.specs.KeptBlocks.{IsKeptBit, Keeps}
use Rattle.solo_reclaim.proofs.BlockBits.{kept_reserved}
use Rattle.solo_reclaim.proofs.GivingBack.{chunk_taken}
use Rattle.solo_epoch.specs.Epochs.{ReservesNoRun}
use Rattle.solo_epoch.specs.GivingBack.{LieApart, MayGiveAllBack, MayGiveObjectBack, gives_back, with_given_back}
use Rattle.solo_epoch.specs.Reserving.{RestsWithReserved}
use Rattle.solo_epoch.proofs.GivenBlocks.{GivesAll, HasGiven, beside, has_given}
use Rattle.solo_epoch.proofs.GivingSteps.{clears, early_where_empty, may_give, unlogged_where_empty}
use Rattle.solo_epoch.proofs.GainedObjects.{stood}
use Rattle.solo_epoch.proofs.KnowingLanes.{knows_at_work, none_freed}
use Rattle.solo_epoch.proofs.NothingReserved.{rests_with_none}
use Rattle.solo_epoch.proofs.RestingLanes.{begins_at_rest}
use Rattle.solo_epoch.proofs.RestingReservations.{reserved_is_kept}
use Rattle.solo_epoch.proofs.StandingPools.{own_fits}

-- ---- blocks in place of the objects

pub apart_blocks : (ns : List NewObject) → LieApart ns → AllPairs AreDisjoint (map block_of ns)
apart_blocks ns apart i j d before low =
    let none : NewObject = record { off = 0; kind = 0; size = 0 } in
    let fewer : j < length ns = (let same = length-map ns block_of in omega (arith, low, same)) in
    let first : get_or (map block_of ns) i d ≡ block_of (get_or ns i none) = get_or-map block_of ns i none d (omega (arith, before, fewer)) in
    let second : get_or (map block_of ns) j d ≡ block_of (get_or ns j none) = get_or-map block_of ns j none d fewer in
    subst (λ (b : Block). AreDisjoint b (get_or (map block_of ns) j d)) (sym first) (subst (λ (b : Block). AreDisjoint (block_of (get_or ns i none)) b) (sym second) (apart i j none before fewer))

pub same_steps : (lanes : ℕ) (ns : List NewObject) → map (vacates_block lanes) (map block_of ns) ≡ gives_back lanes ns
same_steps lanes ns = map-map (vacates_block lanes) block_of ns

-- what is reserved lies so
pub reserved_apart : (v : View) → HasReserved v → LieApart (reserved_in v)
reserved_apart v has i j d before low =
    let rs : List Reservation = (pending_in v).reserved in
    let none : Reservation = record { off = 0; kind = 0; bytes = [] } in
    let fewer : j < length rs = (let same = length-map rs reserved_object in omega (arith, low, same)) in
    let less : i < length rs = omega (arith, before, fewer) in
    let off : Reservation → ℕ = λ r. r.off in
    let many = length-map rs off in
    let two : get_or (map off rs) i 0 ≢ get_or (map off rs) j 0 = AllPairs-from_IsDistinct Decides-eqb (map off rs) has.once i j 0 before (omega (arith, fewer, many)) in
    let other : (get_or rs i none).off ≢ (get_or rs j none).off = (λ same. two (get_or-map off rs i none 0 less ∙ (same ∙ sym (get_or-map off rs j none 0 fewer)))) in
    let apart : AreDisjoint (block_of (reserved_object (get_or rs i none))) (block_of (reserved_object (get_or rs j none))) =
    has.apart (get_or rs i none) (get_or rs j none) (Contains-get_or rs i none less) (Contains-get_or rs j none fewer) other in
    subst (λ (n : NewObject). AreDisjoint (block_of n) (block_of (get_or (reserved_in v) j d))) (sym (get_or-map reserved_object rs i none d less))
    (subst (λ (n : NewObject). AreDisjoint (block_of (reserved_object (get_or rs i none))) (block_of n)) (sym (get_or-map reserved_object rs j none d fewer)) apart)

pub one_more : (y : View) (given : List NewObject) (n : NewObject) → with_given_back y (given ++ n ∷ []) ≡ after (with_given_back y given) (vacates_block y.lanes (block_of n))
unfolding after_all
one_more y given n =
    let step : NewObject → Step = λ m. vacates_block y.lanes (block_of m) in
    ap (after_all y) (map-append step given (n ∷ [])) ∙ after_all-append y (map step given) (step n ∷ [])

pub none_counted : (lanes : ℕ) (ns : List NewObject) → All (λ s. is_counted s ≡ false) (gives_back lanes ns)
none_counted lanes ns = All-map (λ (s : Step). is_counted s ≡ false) (λ (n : NewObject). vacates_block lanes (block_of n)) ns (λ k d low. ap is_counted (clears lanes (block_of (get_or ns k d))).is)

-- a lane that may give back the blocks of objects, which lie in what it reserved, has given back those of the first of them
pub given_part : (y : View) (shape : Shape) (given rest : List NewObject) → GivesAll y shape (map block_of (given ++ rest)) → HasGiven y.lanes y (with_given_back y given) shape (map block_of given) (map block_of rest)
given_part y shape given rest all =
    subst (λ (ss : List Step). HasGiven y.lanes y (after_all y ss) shape (map block_of given) (map block_of rest)) (same_steps y.lanes given)
    (has_given y.lanes y shape (map block_of given) (map block_of rest) refl (subst (GivesAll y shape) (map-append block_of given rest) all))

-- and that of the next it may give back
pub may_give_next : (y : View) (shape : Shape) (given rest : List NewObject) (n : NewObject) → GivesAll y shape (map block_of (given ++ n ∷ rest)) → MayGiveObjectBack (with_given_back y given) shape n
may_give_next y shape given rest n all =
    let still = (given_part y shape given (n ∷ rest) all).still in
    (still.may.of_shape, may_give (with_given_back y given) shape still.may (block_of n) (has_lines n.size) (still.keeps 0 (block_of n) (omega arith)))

-- it has given back all
pub given_all : (y : View) (shape : Shape) (ns : List NewObject) → GivesAll y shape (map block_of ns) → HasGiven y.lanes y (with_given_back y ns) shape (map block_of ns) []
given_all y shape ns all = given_part y shape ns [] (subst (λ (ms : List NewObject). GivesAll y shape (map block_of ms)) (sym (append-nil ns)) all)

pub all_ready : (y : View) (shape : Shape) (ns : List NewObject) → GivesAll y shape (map block_of ns) → Ready y (gives_back y.lanes ns)
all_ready y shape ns all = subst (Ready y) (same_steps y.lanes ns) (given_all y shape ns all).ready

-- the bits of what it gave back are clear in its picture of the occupancy words
pub given_bits_clear : (v x : View) (shape : Shape) (given : List Block) → GivesAll v shape given → HasGiven v.lanes v x shape given [] → x.freed ≡ [] → (at : Occ) (bit : ℕ) → IsKeptBit v.lanes given at bit
    → bit_at (occ_in x at) bit ≡ 0
given_bits_clear v x shape given all has nothing at bit is =
    let of = kept_reserved v all.may.knows given all.keeps at bit is in
    let knows = has.still.may.knows in
    let here : IsOcc x.lanes x.zones at = subst (λ (z : View). IsOcc z.lanes z.zones at) (sym has.same) of.of_pool in
    let taken_not : is_taken (slice_index x.words) x.lanes at bit ≡ false = subst (λ (z : View). is_taken (slice_index z.words) z.lanes at bit ≡ false) (sym has.same) (all.may.knows.apart at bit of.of_pool of.low (inl of.reserved)) in
    let not_one : bit_at (occ_in x at) bit ≢ 1 = (λ one. ⊎_elim
    (λ (taken : is_taken (slice_index x.words) x.lanes at bit ≡ true). false≢true (sym taken_not ∙ taken))
    (λ (kept : (reserves x at bit || has_run_chunk x at || list_any (has_bit at bit) x.freed) ≡ true). ⊎_elim
    (λ (own : (reserves x at bit || has_run_chunk x at) ≡ true). ⊎_elim
    (λ (reserved : reserves x at bit ≡ true). ((has.left at bit of.low).0 reserved).1 is)
    (λ (chunk : has_run_chunk x at ≡ true). false≢true (sym taken_not ∙ chunk_taken x knows at bit here chunk))
    (or_cases (reserves x at bit) (has_run_chunk x at) own))
    (λ (freed : list_any (has_bit at bit) x.freed ≡ true). false≢true (sym (ap (list_any (has_bit at bit)) nothing) ∙ freed))
    (or_cases (reserves x at bit || has_run_chunk x at) (list_any (has_bit at bit) x.freed) kept))
    ((knows.bits at bit here of.low).0 one)) in
    let less = bit_at-lt (occ_in x at) bit in omega (arith, less, not_one)

module _ (o : Opening) (header : Header) (pool : PoolView) (start y : View) (steps : List Step) (shape : Shape) where
  -- what the lane may give back
  gives_all : (ns : List NewObject) → MayGiveAllBack o header pool start steps y shape ns → GivesAll y shape (map block_of ns)
  gives_all ns m = record {
    may = record {
      early = early_where_empty y (inl m.idle);
      unlogged = unlogged_where_empty y (inl m.idle);
      drained = m.drained;
      of_shape = m.of_shape;
      no_run = m.no_run;
      knows = knows_at_work o header pool start y steps m.rests.works (subst (λ lanes. ReservesNoRun lanes y) (own_fits o header pool y (stood o header pool start y steps m.rests.works)).lane.lanes m.no_run);
    };
    some = All-map (λ (b : Block). 1 ≤ b.lines) block_of ns (λ k d low. has_lines (get_or ns k d).size);
    keeps = All-map (Keeps y) block_of ns (All-weaker (IsReservedFor y) (λ n. Keeps y (block_of n)) (reserved_is_kept y) ns m.reserved);
    apart = apart_blocks ns m.apart;
  }

  pub may_each : (given rest : List NewObject) (n : NewObject) → MayGiveAllBack o header pool start steps y shape (given ++ n ∷ rest) → MayGiveObjectBack (with_given_back y given) shape n
  may_each given rest n m = may_give_next y shape given rest n (gives_all (given ++ n ∷ rest) m)

  module _ (ns : List NewObject) (m : MayGiveAllBack o header pool start steps y shape ns) where
    abbrev x : View
    x = with_given_back y ns

    all_given : HasGiven y.lanes y x shape (map block_of ns) []
    all_given = given_all y shape ns (gives_all ns m)

    idle : x.log ≡ no_log Idle
    idle = ap (λ (v : View). v.log) all_given.same ∙ m.idle

    pub gives_ready : Ready y (gives_back y.lanes ns)
    gives_ready = all_ready y shape ns (gives_all ns m)

    pub same_beside : x ≡ beside y x
    same_beside = all_given.same

    pub bits_left : (at : Occ) (bit : ℕ) → bit < 64 → (reserves x at bit ≡ true) ↔ ((reserves y at bit ≡ true) × (IsKeptBit y.lanes (map block_of ns) at bit → ⊥))
    bits_left = all_given.left

    pub none_making : ReservesNoRun x.lanes x
    none_making = all_given.still.may.no_run

    works : WorksAlone o header pool start (steps ++ gives_back y.lanes ns) x
    works = record {
      begins = m.rests.works.begins;
      leads = leads_then start y x steps (gives_back y.lanes ns) m.rests.works.leads (subst (λ (ss : List Step). Leads y ss x) (same_steps y.lanes ns) all_given.leads);
      numbered = subst (AreNumbered 1) (ap (λ (v : View). v.entries) (sym all_given.same)) m.rests.works.numbered;
      within = subst (λ (v : View). ForSome v.stop (λ stop. v.calls ≤ stop)) (sym all_given.same) m.rests.works.within;
    }

    free : x.locks ≡ []
    free = ap (λ (v : View). v.locks) all_given.same ∙ m.rests.free

    unlocked : x.zone_locks ≡ []
    unlocked = ap (λ (v : View). v.zone_locks) all_given.same ∙ m.unlocked

    works_again : WorksAlone (standing o x) header pool x [] x
    unfolding Leads
    works_again = record {
      begins = inr (begins_at_rest o header pool start x (steps ++ gives_back y.lanes ns) works (record { idle = idle; changes = none_filled x all_given.still.may.drained; free = free; unlocked = unlocked; no_run = none_making }));
      leads = refl;
      numbered = works.numbered;
      within = works.within;
    }

    pub rests_again : RestsWithReserved (standing o x) header pool x [] x shape
    rests_again = rests_with_none (standing o x) header pool x [] x shape works_again idle free unlocked
        (alone_on_the_way start x (steps ++ gives_back y.lanes ns) (begins_alone o header pool start works.begins) works.leads) all_given.still.may.of_shape none_making
        (ap (λ (p : Pending). p.reserved) (same_before y x (ap (λ (v : View). v.entries) all_given.same)) ∙ m.none)

    -- ---- the picture

    pub bits_clear : (at : Occ) (bit : ℕ) → IsKeptBit y.lanes (map block_of ns) at bit → bit_at (occ_in x at) bit ≡ 0
    bits_clear = given_bits_clear y x shape (map block_of ns) (gives_all ns m) all_given (none_freed o header pool start x (steps ++ gives_back y.lanes ns) works)
