-- A lane that works alone with a call under way gives back blocks that it reserved and that the call uses no more: it has of the rest what it had, and the call goes on.
use Rattle.std.proofs.Common.{◌≡◌, ◌↔◌, ⊎_elim, ℕ, zero, suc, ◌<◌, ◌≤◌, ◌&&◌, ◌||◌, true, eqb, eq-eqb, eqb-true, is_some, IsTrue, All, Contains, List, [], ◌∷◌, ◌++◌, get_or, map, None, refl, sym, ap, ◌∙◌, subst, arith}
use Rattle.std.specs.Int.{bit_at}
use Rattle.std.specs.List.{list_any}
use Rattle.std.specs.Option.{ForSome}
use Rattle.std.proofs.lemmas.Bool.{and_parts, or_cases, or_left, or_right}
use Rattle.std.proofs.lemmas.List.Elements.{All-append, All-contains, All-contains_itself, All-get_or, All-head, All-map, All-weaker, Contains-append_cases}
use Rattle.std.proofs.lemmas.List.Folds.{Any-from_list_any, list_any-from_Any}
use Rattle.pm_header.specs.declared.header.Header.{Header}
use Rattle.pm_image.specs.declared.block.Block.{Block}
use Rattle.pm_image.proofs.Members.{member_made, no_member}
use Rattle.pm_layout.specs.declared.shape.Shape.{Shape}
use Rattle.solo_memory.specs.Solo.{AreNumbered}
use Rattle.solo_model.specs.Actions.{Pending, Reservation}
use Rattle.solo_model.specs.Bytes.{is_among}
use Rattle.solo_model.proofs.Blocks.{has_lines}
use Rattle.pm_objects.specs.declared.calls.Operation.TheVariants.{Cancel}
use Rattle.pm_objects.specs.declared.pool.PoolView.{PoolView}
use Rattle.solo_view.specs.declared.occ.Occ.{Occ}
use Rattle.solo_view.specs.Area.{is_in_area}
use Rattle.solo_view.specs.Founds.{IsAlone}
use Rattle.solo_view.specs.Held.{is_held, is_known, is_reserved, is_under}
use Rattle.solo_view.specs.Log.{Final}
use Rattle.solo_view.specs.Rights.{is_written}
use Rattle.solo_view.specs.Steps.{Step}
use Rattle.solo_view.specs.View.{Lock, View}
use Rattle.solo_view.specs.Views.{is_of_heap, occ_in, reserves}
use Rattle.solo_world.specs.Entries.{is_entered}
use Rattle.solo_world.specs.Fits.{LaneFits}
use Rattle.solo_world.specs.History.{Flies, settled}
use Rattle.solo_world.specs.Opening.{Opening}
use Rattle.solo_world.specs.Sequences.{Ready}
use Rattle.solo_undo.specs.Working.{HasRecords, IsUserWord, IsWorking}
use Rattle.solo_alloc.specs.NewObjects.{CanMakeObject}
use Rattle.solo_crash.specs.Alone.{WorksAlone}
use Rattle.solo_crash.specs.CallBlocks.{CallBlocks, NewObject, block_of, blocks_in, reserved_in, reserved_object}
use Rattle.solo_crash.specs.GivingUnused.{GivesUnused, in_use}
use Rattle.solo_crash.specs.HeapChanges.{AreDisjoint}
use Rattle.solo_crash.specs.Leading.{Leads}
use Rattle.solo_crash.specs.NewObjects.{IsWordOf}
use Rattle.solo_crash.specs.OpenCall.{IsUnderBlock}
use Rattle.solo_crash.specs.Operations.{Tells}
use Rattle.solo_crash.specs.Pending.{pending_in}
use Rattle.solo_crash.specs.Reserved.{IsReservedFor}
use Rattle.solo_crash.specs.Reserving.{HasReserved}
use Rattle.solo_crash.proofs.AloneCourse.{StandsAlone}
use Rattle.solo_crash.proofs.AloneMemory.{memory_of}
use Rattle.solo_crash.proofs.CallBlocks.{blocks_once_more, same_blocks}
use Rattle.solo_crash.proofs.GivenUnused.{borne_unused, under_way_unused}
use Rattle.solo_crash.proofs.Leading.{leads_then}
use Rattle.solo_crash.proofs.PendingOn.{pending_once_more}
use Rattle.solo_reclaim.specs.KeptBlocks.{IsBitOf, IsKeptBit, Keeps}
use Rattle.solo_reclaim.proofs.BlockBits.{bit_reserved}
use Rattle.solo_reclaim.proofs.Keeping.{beside as beside_seen, keeps_by}
use Rattle.solo_epoch.specs.Allocating.{HasLockedFreed, IsCallAlone}
use Rattle.solo_epoch.specs.Epochs.{ReservesNoRun}
use Rattle.solo_epoch.specs.GivingBack.{LieApart, MayGiveInCall, MayGiveObjectBack, gives_back, with_given_back}
use Rattle.solo_epoch.proofs.FreeChunks.{no_run_reserved}
use Rattle.solo_epoch.proofs.GainedObjects.{stood}
use Rattle.solo_epoch.proofs.GivenAll.{apart_blocks, all_ready, given_all, given_bits_clear, may_give_next, same_steps}
use Rattle.solo_epoch.proofs.GivenBlocks.{GivesAll, HasGiven, beside, kept_cases, no_bit_of_both, none_kept}
use Rattle.solo_epoch.proofs.KnowingLanes.{knows_at_work, none_freed}
use Rattle.solo_epoch.proofs.MakingAlone.{makes_alone}
use Rattle.solo_epoch.proofs.ReservedWords.{block_word_reserved, reserved_unfound, reserved_unrecorded}
use Rattle.solo_epoch.proofs.RestingReservations.{kept_is_reserved, reserved_is_kept}
use Rattle.solo_epoch.proofs.StandingPools.{own_fits}

-- what is given up is used no more: it lies apart from what the call made
pub canceled_apart : (v next : View) → HasReserved v → Tells v next Cancel None → (n k : NewObject) → Contains (reserved_in v) n → Contains (in_use next) k → AreDisjoint (block_of n) (block_of k)
canceled_apart v next has tells n k there used =
    let t = member_made reserved_object (pending_in v).reserved n there in
    let none : (pending_in next).reserved ≡ [] = ap (λ (p : Pending). p.reserved) (pending_once_more v next Cancel None tells.keeps.entries tells.call) in
    let made : Contains ((blocks_in v).made ++ (blocks_in v).dropped) k = ⊎_elim
    (λ (now : Contains ((blocks_in next).made ++ (blocks_in next).dropped) k). subst (λ (b : CallBlocks). Contains (b.made ++ b.dropped) k) (blocks_once_more v next Cancel None tells.keeps.entries tells.call) now)
    (λ (pending : Contains (reserved_in next) k). absurd (no_member k (subst (λ (rs : List Reservation). Contains (map reserved_object rs) k) none pending)))
    (Contains-append_cases ((blocks_in next).made ++ (blocks_in next).dropped) (reserved_in next) k used) in
    subst (λ (m : NewObject). AreDisjoint (block_of m) (block_of k)) t.1.1 (has.apart_made t.0 k t.1.0 made)

module _ (o : Opening) (header : Header) (pool : PoolView) (start v : View) (steps : List Step) (shape : Shape) where
  -- what the lane may give back
  gives_all : (ns : List NewObject) → MayGiveInCall o header pool start steps v shape ns → GivesAll v shape (map block_of ns)
  gives_all ns m = record {
    may = record {
      early = m.early;
      unlogged = λ i own. (reserved_unrecorded o header pool start v steps m.works i own, ap (λ (entries : List Final). is_entered entries i) m.unentered);
      drained = m.drained;
      of_shape = m.of_shape;
      no_run = m.no_run;
      knows = knows_at_work o header pool start v steps m.works (subst (λ lanes. ReservesNoRun lanes v) (own_fits o header pool v (stood o header pool start v steps m.works)).lane.lanes m.no_run);
    };
    some = All-map (λ (b : Block). 1 ≤ b.lines) block_of ns (λ k d low. has_lines (get_or ns k d).size);
    keeps = All-map (Keeps v) block_of ns (All-weaker (IsReservedFor v) (λ n. Keeps v (block_of n)) (reserved_is_kept v) ns m.reserved);
    apart = apart_blocks ns m.apart;
  }

  -- so it may where its call is under way, with nothing undrained
  pub call_may_give : (level : ℕ) (ns : List NewObject) → IsCallAlone o header pool start steps v shape level → v.changes ≡ [] → All (IsReservedFor v) ns → LieApart ns
      → ((n k : NewObject) → Contains ns n → Contains (in_use v) k → AreDisjoint (block_of n) (block_of k)) → MayGiveInCall o header pool start steps v shape ns
  call_may_give level ns c drained reserved apart apart_used = record {
    works = c.works;
    of_shape = c.can.run.search.shape;
    early = c.can.run.search.early;
    drained = drained;
    unentered = c.under_way.unentered;
    no_run = no_run_reserved v c.can.pool.no_bitmap;
    used = All-append (IsReservedFor v) ((blocks_in v).made ++ (blocks_in v).dropped) (reserved_in v) c.borne_out.made c.borne_out.pending;
    reserved = reserved;
    apart = apart;
    apart_used = apart_used;
  }

  pub may_each_in_call : (given rest : List NewObject) (n : NewObject) → MayGiveInCall o header pool start steps v shape (given ++ n ∷ rest) → MayGiveObjectBack (with_given_back v given) shape n
  may_each_in_call given rest n m = may_give_next v shape given rest n (gives_all (given ++ n ∷ rest) m)

  module _ (ns : List NewObject) (m : MayGiveInCall o header pool start steps v shape ns) where
    abbrev x : View
    x = with_given_back v ns

    s : StandsAlone o header pool v
    s = stood o header pool start v steps m.works

    fits : LaneFits o (memory_of v) (settled o s.log s.decided) (Flies s.log s.decided 0) 0 v
    fits = own_fits o header pool v s

    all : GivesAll v shape (map block_of ns)
    all = gives_all ns m

    given : HasGiven v.lanes v x shape (map block_of ns) []
    given = given_all v shape ns all

    pub ready_in_call : Ready v (gives_back v.lanes ns)
    ready_in_call = all_ready v shape ns all

    pub same_in_call : x ≡ beside v x
    same_in_call = given.same

    pub left_in_call : (at : Occ) (bit : ℕ) → bit < 64 → (reserves x at bit ≡ true) ↔ ((reserves v at bit ≡ true) × (IsKeptBit v.lanes (map block_of ns) at bit → ⊥))
    left_in_call = given.left

    pub works_in_call : WorksAlone o header pool start (steps ++ gives_back v.lanes ns) x
    works_in_call = record {
      begins = m.works.begins;
      leads = leads_then start v x steps (gives_back v.lanes ns) m.works.leads (subst (λ (ss : List Step). Leads v ss x) (same_steps v.lanes ns) given.leads);
      numbered = subst (AreNumbered 1) (ap (λ (z : View). z.entries) (sym given.same)) m.works.numbered;
      within = subst (λ (z : View). ForSome z.stop (λ stop. z.calls ≤ stop)) (sym given.same) m.works.within;
    }

    pub none_making_in_call : ReservesNoRun x.lanes x
    none_making_in_call = given.still.may.no_run

    -- ---- what it reserved apart from these it has still

    module _ (k : NewObject) (reserved : IsReservedFor v k) (apart : (n : NewObject) → Contains ns n → AreDisjoint (block_of n) (block_of k)) where
      keeps_it : Keeps v (block_of k)
      keeps_it = reserved_is_kept v k reserved

      -- no bit of it is one of theirs
      not_given : (at : Occ) (bit : ℕ) → IsBitOf v.lanes (block_of k) at bit → IsKeptBit v.lanes (map block_of ns) at bit → ⊥
      not_given at bit of gone =
          let each : All (λ (b : Block). IsBitOf v.lanes b at bit → ⊥) (map block_of ns) = All-map (λ (b : Block). IsBitOf v.lanes b at bit → ⊥) block_of ns
          (All-weaker (Contains ns) (λ n. IsBitOf v.lanes (block_of n) at bit → ⊥)
          (λ n there one. no_bit_of_both v all.may.knows (block_of n) (block_of k) (apart n there) at bit one of (reserved_is_kept v n (All-contains (IsReservedFor v) ns n m.reserved there)) keeps_it) ns (All-contains_itself ns)) in
          subst (λ (b : Block). IsBitOf v.lanes b at bit → ⊥) gone.3 (All-get_or (λ (b : Block). IsBitOf v.lanes b at bit → ⊥) (map block_of ns) gone.0 gone.1 gone.2 each) gone.4

      stays : (at : Occ) (bit : ℕ) → IsKeptBit v.lanes (block_of k ∷ []) at bit → reserves x at bit ≡ true
      stays at bit is =
          let of : IsBitOf v.lanes (block_of k) at bit =
          ⊎_elim (λ (one : IsBitOf v.lanes (block_of k) at bit). one) (λ (none : IsKeptBit v.lanes [] at bit). absurd (none_kept v.lanes at bit none)) (kept_cases v.lanes (block_of k) [] at bit is) in
          let own = bit_reserved v all.may.knows (block_of k) keeps_it at bit of in
          (given.left at bit own.low).1 (own.reserved, not_given at bit of)

      same_seen : x ≡ beside_seen v x
      same_seen =
          given.same
          ∙ (λ j. record v { run_words = x.run_words; zone_words = x.zone_words; known = x.known; reserved = x.reserved; freed = x.freed; seen = ap (λ (z : View). z.seen) (sym given.same) j })

      pub others_in_call : IsReservedFor x k
      others_in_call =
          let one : All (Keeps v) (block_of k ∷ []) = (λ j d low. subst (Keeps v) (only (block_of k) j d low) keeps_it) in
          kept_is_reserved x k (All-head (Keeps x) (block_of k) [] (keeps_by v x all.may.knows same_seen (block_of k ∷ []) one stays)) where
            only : (b : Block) (j : ℕ) (d : Block) → j < 1 → b ≡ get_or (b ∷ []) j d
            only b zero d low = refl
            only b (suc j) d low = absurd (omega (arith, low))

    used_still : (k : NewObject) → Contains (in_use v) k → IsReservedFor v k → IsReservedFor x k
    used_still k there reserved = others_in_call k reserved (λ n given_too. m.apart_used n k given_too there)

    -- ---- and what it knew of that

    mine_still : (i : ℕ) → (is_in_area v.lane i || list_any (is_under i) v.locks) ≡ true → is_held x i ≡ true
    mine_still i mine =
        or_left (is_in_area x.lane i || list_any (is_under i) x.locks) (is_reserved x i) (ap (λ (z : View). is_in_area z.lane i || list_any (is_under i) z.locks) given.same ∙ mine)

    found_held : (i : ℕ) → Contains v.known i → IsUnderBlock v i → is_held x i ≡ true
    found_held i there under = ⊎_elim
        (mine_still i)
        (λ (own : is_reserved v i ≡ true). absurd (reserved_unfound o header pool start v steps m.works i under own))
        (or_cases (is_in_area v.lane i || list_any (is_under i) v.locks) (is_reserved v i) (fits.picture.held i there))

    used_held : (k : NewObject) (i : ℕ) → Contains (in_use v) k → IsWordOf (block_of k) i → is_held x i ≡ true
    used_held k i there word =
        or_right (is_in_area x.lane i || list_any (is_under i) x.locks) (is_reserved x i)
        (block_word_reserved o header pool start x (steps ++ gives_back v.lanes ns) works_in_call k (used_still k there (All-contains (IsReservedFor v) (in_use v) k m.used there)) i word)

    pub gives_in_call : GivesUnused v x
    gives_in_call = record {
      lanes = ap (λ (z : View). z.lanes) given.same;
      zones = ap (λ (z : View). z.zones) given.same;
      pool = ap (λ (z : View). z.pool) given.same;
      lane = ap (λ (z : View). z.lane) given.same;
      entries = ap (λ (z : View). z.entries) given.same;
      call = ap (λ (z : View). z.call) given.same;
      locks = ap (λ (z : View). z.locks) given.same;
      words = ap (λ (z : View). z.words) given.same;
      records = ap (λ (z : View). z.log.records) given.same;
      entered = ap (λ (z : View). z.log.entries) given.same;
      known_found = λ i there under. given.known i there (found_held i there under);
      known_used = λ k i used there word. given.known i there (used_held k i used word);
      reserved = used_still;
    }

    -- ---- the lane is at work

    -- a word that it may write under a lock it knows still
    written_known : (i : ℕ) → IsTrue (is_written v i) → is_known v i ≡ true → is_known (beside v x) i ≡ true
    written_known i own known = ⊎_elim
        (λ (area : is_in_area v.lane i ≡ true). or_left (is_in_area v.lane i) (list_any (λ other. eqb other i) x.known) area)
        (λ (there : list_any (λ other. eqb other i) v.known ≡ true).
        let t = Any-from_list_any (λ other. eqb other i) v.known there in
        let k = Any-from_list_any (λ (l : Lock). l.write && is_some l.block && is_under i l) v.locks own in
        let under : list_any (is_under i) v.locks ≡ true = list_any-from_Any (is_under i) v.locks (k.0, k.1, k.2, k.3, (and_parts (k.1.write && is_some k.1.block) (is_under i k.1) k.4).1) in
        let same : t.1 ≡ i = eqb-true t.1 i t.4 in
        let was : Contains v.known i = subst (Contains v.known) same (t.0, t.2, t.3) in
        let now : Contains x.known i = given.known i was (mine_still i (or_right (is_in_area v.lane i) (list_any (is_under i) v.locks) under)) in
        or_right (is_in_area v.lane i) (list_any (λ other. eqb other i) x.known) (list_any-from_Any (λ other. eqb other i) x.known (now.0, i, now.1, now.2, eq-eqb i i refl)))
        (or_cases (is_in_area v.lane i) (list_any (λ other. eqb other i) v.known) known)

    records_beside : HasRecords v → HasRecords (beside v x)
    records_beside r = record {
      most = r.most;
      stored = r.stored;
      some = r.some;
      few = r.few;
      each = λ slot q i at covered. let user : IsUserWord v i = r.each slot q i at covered in record { own = user.own; known = written_known i user.own user.known; outside = user.outside; inside = user.inside };
      once = r.once;
    }

    pub working_in_call : IsWorking v → IsWorking x
    working_in_call works = subst IsWorking (sym given.same) (record {
      is_open = works.is_open;
      undrawn = works.undrawn;
      area = record { lane = works.area.lane; few = works.area.few; inside = works.area.inside; below = works.area.below };
      records = records_beside works.records;
      drained = works.drained;
    })

    can_in_call : CanMakeObject v shape → CanMakeObject x shape
    can_in_call can =
        let may = given.still.may in
        makes_alone o header pool start x (steps ++ gives_back v.lanes ns) shape works_in_call (record {
          alone = subst IsAlone (sym given.same) can.run.alone;
          working = working_in_call can.run.working;
          of_shape = may.of_shape;
          unlocked = ap (λ (z : View). z.zone_locks) given.same ∙ can.run.search.unlocked;
          plain = ap (list_any (is_of_heap x)) (ap (λ (z : View). z.log.entries) given.same ∙ m.unentered);
          zones = (let zones = may.of_shape.zones in let few = shape.zones_to in let count = may.knows.zone_count in omega (arith, zones, few, count));
          runs = (let pages = may.knows.pages in omega (arith, pages));
          no_run = none_making_in_call;
        })

    freed_still : HasLockedFreed v → HasLockedFreed x
    freed_still freed off gone =
        let blocks : blocks_in x ≡ blocks_in v = same_blocks v x gives_in_call.entries gives_in_call.call in
        let t = freed off (ap (λ (b : CallBlocks). is_among b.freed off) (sym blocks) ∙ gone) in
        record { lock = t.lock; lines = t.lines; held = subst (λ (locks : List Lock). Contains locks t.lock) (sym gives_in_call.locks) t.held; found = t.found; place = t.place }

    pub goes_on_in_call : (level : ℕ) → IsCallAlone o header pool start steps v shape level → IsCallAlone o header pool start (steps ++ gives_back v.lanes ns) x shape level
    goes_on_in_call level c = record {
      works = works_in_call;
      can = can_in_call c.can;
      under_way = under_way_unused v x gives_in_call level _ _ c.under_way;
      borne_out = borne_unused v x gives_in_call c.borne_out;
      locked = subst (All (λ (l : Lock). IsTrue (is_some l.block))) (sym gives_in_call.locks) c.locked;
      freed = freed_still c.freed;
    }

    -- ---- the picture

    pub clear_in_call : (at : Occ) (bit : ℕ) → IsKeptBit v.lanes (map block_of ns) at bit → bit_at (occ_in x at) bit ≡ 0
    clear_in_call = given_bits_clear v x shape (map block_of ns) all given (none_freed o header pool start x (steps ++ gives_back v.lanes ns) works_in_call)
