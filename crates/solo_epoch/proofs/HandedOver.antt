-- As its call draws, a lane hands over what it publishes: what it allocates it no longer has reserved, and what it frees it has from then on.
use Rattle.std.proofs.Common.{◌≡◌, ◌≢◌, ◌⊎◌, ◌↔◌, inl, inr, ⊎_elim, ℕ, ◌+◌, ◌^◌, ◌<◌, ◌||◌, true, false, not, leb, ltb, None, All, List, [], ◌∷◌, ◌++◌, flat_map, map, slice_index, refl, sym, ap, ◌∙◌, subst, arith}
use Rattle.std.specs.List.{list_any}
use Rattle.std.proofs.lemmas.Bool.{and_from, cases_Bool, cond-false, cond-true, false≢true, le-leb, lt-ltb, or_cases, or_left, or_parts, or_right}
use Rattle.std.proofs.lemmas.List.Elements.{All-append, All-head, All-nil, All-tail, All-weaker}
use Rattle.std.proofs.lemmas.List.Folds.{list_any-append}
use Rattle.pm_header.specs.declared.header.Header.{Header}
use Rattle.pm_objects.specs.declared.pool.PoolView.{PoolView}
use Rattle.pm_image.specs.HeapFaults.{heap_fault}
use Rattle.solo_view.specs.declared.occ.Occ.{Occ}
use Rattle.solo_view.specs.Area.{area_word}
use Rattle.solo_view.specs.Log.{Final}
use Rattle.solo_view.specs.Occupancy.{is_taken}
use Rattle.solo_view.specs.Rights.{is_written}
use Rattle.solo_view.specs.Steps.{Step}
use Rattle.solo_view.specs.Steps.Step.{Draw}
use Rattle.solo_view.specs.View.{Taken, View}
use Rattle.solo_view.specs.Views.{after, allocated_by, changes_heap, freed_by, has_bit, is_of_heap, reserves, unallocated, without_all}
use Rattle.solo_world.specs.Entries.{ends_with}
use Rattle.solo_world.specs.Fits.{LaneFits}
use Rattle.solo_world.specs.Heap.{IsOcc}
use Rattle.solo_world.specs.History.{Flies, settled}
use Rattle.solo_world.specs.Opening.{Opening}
use Rattle.solo_world.specs.Records.{generation_of}
use Rattle.solo_crash.specs.Alone.{WorksAlone}
use Rattle.solo_crash.specs.HeapChanges.{HeapChange, changed, MayChange}
use Rattle.solo_crash.specs.HeapChanges.HeapChange.{AllocatesChunks, AllocatesInRun, FreesChunks, FreesInRun}
use Rattle.solo_crash.specs.Publishing.{CanPublish, Published, entry_published}
use Rattle.solo_crash.specs.Publishing.Published.{Changes, Performs}
use Rattle.solo_crash.specs.Taken.{FreesBit}
use Rattle.solo_crash.proofs.AloneCourse.{StandsAlone, stands_at}
use Rattle.solo_crash.proofs.AloneMemory.{memory_of}
use Rattle.solo_crash.proofs.OneChange.{freed_chunks, freed_in_run}
use Rattle.solo_crash.proofs.TakenChanges.{chunks_give, freed_takes}
use Rattle.solo_reclaim.specs.Reclaims.{AreOfPool}
use Rattle.solo_epoch.specs.Epochs.{AllocatesOwn, HandsOver, HasEntriesFor, SomeAllocates, SomeFrees}
use Rattle.solo_epoch.proofs.EntryBits.{HaveBits, none_aside}
use Rattle.solo_epoch.proofs.HandedEntries.{IsHanded, MakesFree, MakesTaken, handed}
use Rattle.solo_epoch.proofs.LeftBlocks.{IsWordOfBits, left_after, left_before, left_gone}
use Rattle.solo_epoch.proofs.StandingPools.{own_fits}

-- ---- the draw, whether or not an entry is of the heap

module _ (v : View) where
  none_changed : (entries : List Final) → list_any (is_of_heap v) entries ≡ false → (flat_map (allocated_by v) entries ≡ []) × (flat_map (freed_by v) entries ≡ [])
  none_changed [] none = (refl, refl)
  none_changed (f ∷ entries) none =
      let apart = or_parts (is_of_heap v f) (list_any (is_of_heap v) entries) none in
      let here = none_aside v f apart.0 in
      let rest = none_changed entries apart.1 in
      ((λ i. here.0 i ++ rest.0 i), (λ i. here.1 i ++ rest.1 i))

  pub reserved_drawn : (n : ℕ) → (after v (Draw n)).reserved ≡ unallocated v
  unfolding without_all
  reserved_drawn n = ⊎_elim
      (λ (changes : changes_heap v ≡ true). cond-true (changes_heap v) (unallocated v) v.reserved changes)
      (λ (plain : changes_heap v ≡ false). cond-false (changes_heap v) (unallocated v) v.reserved plain ∙ sym (ap (λ these. without_all these v.reserved) (none_changed v.log.entries plain).0))
      (cases_Bool (changes_heap v))

  freed_drawn : (n : ℕ) → v.freed ≡ [] → (after v (Draw n)).freed ≡ flat_map (freed_by v) v.log.entries
  freed_drawn n none = ⊎_elim
      (λ (changes : changes_heap v ≡ true). cond-true (changes_heap v) (v.freed ++ flat_map (freed_by v) v.log.entries) v.freed changes ∙ ap (λ (xs : List Taken). xs ++ flat_map (freed_by v) v.log.entries) none)
      (λ (plain : changes_heap v ≡ false). cond-false (changes_heap v) (v.freed ++ flat_map (freed_by v) v.log.entries) v.freed plain ∙ (none ∙ sym (none_changed v.log.entries plain).1))
      (cases_Bool (changes_heap v))

-- ---- all entries

joined : (blocks others : List Taken) (these those : Occ → ℕ → Type 0) → HaveBits blocks these → HaveBits others those → HaveBits (blocks ++ others) (λ at bit. these at bit ⊎ those at bit)
joined blocks others these those first rest = record {
  bits = λ at bit. let both = list_any-append (has_bit at bit) blocks others in (
    (λ has. ⊎_elim (λ (here : list_any (has_bit at bit) blocks ≡ true). inl ((first.bits at bit).0 here)) (λ (later : list_any (has_bit at bit) others ≡ true). inr ((rest.bits at bit).0 later))
        (or_cases (list_any (has_bit at bit) blocks) (list_any (has_bit at bit) others) (sym both ∙ has))),
    (λ is. both ∙ ⊎_elim (λ (here : these at bit). or_left (list_any (has_bit at bit) blocks) (list_any (has_bit at bit) others) ((first.bits at bit).1 here))
        (λ (later : those at bit). or_right (list_any (has_bit at bit) blocks) (list_any (has_bit at bit) others) ((rest.bits at bit).1 later)) is),
  );
  small = All-append IsWordOfBits blocks others first.small rest.small;
}

-- the same bits told otherwise
told_so : (blocks : List Taken) (these those : Occ → ℕ → Type 0) → ((at : Occ) (bit : ℕ) → these at bit ↔ those at bit) → HaveBits blocks these → HaveBits blocks those
told_so blocks these those same have = record { bits = λ at bit. ((λ has. (same at bit).0 ((have.bits at bit).0 has)), (λ is. (have.bits at bit).1 ((same at bit).1 is))); small = have.small }

module _ (v : View) (last : Final) (aside : is_of_heap v last ≡ false) where
  all_allocate : (all : List Published) → All (IsHanded v) all → HaveBits (flat_map (allocated_by v) (map (entry_published v.lanes) all ++ last ∷ [])) (SomeAllocates v.lanes all)
  all_allocate [] each = told_so (allocated_by v last ++ []) (λ at bit. ⊥) (SomeAllocates v.lanes []) (λ at bit. ((λ never. never), (λ never. never)))
      (subst (λ (xs : List Taken). HaveBits (xs ++ []) (λ at bit. ⊥)) (sym (none_aside v last aside).0) (record { bits = λ at bit. ((λ has. false≢true has), (λ never. absurd never)); small = All-nil IsWordOfBits }))
  all_allocate (s ∷ all) each =
      let rest : List Taken = flat_map (allocated_by v) (map (entry_published v.lanes) all ++ last ∷ []) in
      told_so (allocated_by v (entry_published v.lanes s) ++ rest) (λ at bit. MakesTaken v.lanes s at bit ⊎ SomeAllocates v.lanes all at bit) (SomeAllocates v.lanes (s ∷ all)) (by_kind s)
      (joined (allocated_by v (entry_published v.lanes s)) rest (MakesTaken v.lanes s) (SomeAllocates v.lanes all) (All-head (IsHanded v) s all each).allocates (all_allocate all (All-tail (IsHanded v) s all each)))
    where
      by_kind : (s : Published) (at : Occ) (bit : ℕ) → (MakesTaken v.lanes s at bit ⊎ SomeAllocates v.lanes all at bit) ↔ SomeAllocates v.lanes (s ∷ all) at bit
      by_kind (Performs action) at bit = ((λ is. ⊎_elim (λ (never : ⊥). absurd never) (λ (later : SomeAllocates v.lanes all at bit). later) is), (λ later. inr later))
      by_kind (Changes change) at bit = ((λ is. is), (λ is. is))

  all_free : (all : List Published) → All (IsHanded v) all → HaveBits (flat_map (freed_by v) (map (entry_published v.lanes) all ++ last ∷ [])) (SomeFrees v.lanes all)
  all_free [] each = told_so (freed_by v last ++ []) (λ at bit. ⊥) (SomeFrees v.lanes []) (λ at bit. ((λ never. never), (λ never. never)))
      (subst (λ (xs : List Taken). HaveBits (xs ++ []) (λ at bit. ⊥)) (sym (none_aside v last aside).1) (record { bits = λ at bit. ((λ has. false≢true has), (λ never. absurd never)); small = All-nil IsWordOfBits }))
  all_free (s ∷ all) each =
      let rest : List Taken = flat_map (freed_by v) (map (entry_published v.lanes) all ++ last ∷ []) in
      told_so (freed_by v (entry_published v.lanes s) ++ rest) (λ at bit. MakesFree v.lanes s at bit ⊎ SomeFrees v.lanes all at bit) (SomeFrees v.lanes (s ∷ all)) (by_kind s)
      (joined (freed_by v (entry_published v.lanes s)) rest (MakesFree v.lanes s) (SomeFrees v.lanes all) (All-head (IsHanded v) s all each).frees (all_free all (All-tail (IsHanded v) s all each)))
    where
      by_kind : (s : Published) (at : Occ) (bit : ℕ) → (MakesFree v.lanes s at bit ⊎ SomeFrees v.lanes all at bit) ↔ SomeFrees v.lanes (s ∷ all) at bit
      by_kind (Performs action) at bit = ((λ is. ⊎_elim (λ (never : ⊥). absurd never) (λ (later : SomeFrees v.lanes all at bit). later) is), (λ later. inr later))
      by_kind (Changes change) at bit = ((λ is. is), (λ is. is))

  all_of_pool : (all : List Published) → All (IsHanded v) all → AreOfPool v.lanes v.zones (flat_map (freed_by v) (map (entry_published v.lanes) all ++ last ∷ []))
  all_of_pool [] each = subst (λ (xs : List Taken). AreOfPool v.lanes v.zones (xs ++ [])) (sym (none_aside v last aside).1)
      (record { of_pool = All-nil (λ (t : Taken). IsOcc v.lanes v.zones t.at); small = All-nil IsWordOfBits; some = All-nil (λ (t : Taken). t.bits ≢ 0) })
  all_of_pool (s ∷ all) each =
      let these : List Taken = freed_by v (entry_published v.lanes s) in
      let rest : List Taken = flat_map (freed_by v) (map (entry_published v.lanes) all ++ last ∷ []) in
      let first = (All-head (IsHanded v) s all each).places in
      let others = all_of_pool all (All-tail (IsHanded v) s all each) in
      record {
        of_pool = All-append (λ (t : Taken). IsOcc v.lanes v.zones t.at) these rest first.of_pool others.of_pool;
        small = All-append (λ (t : Taken). t.bits < 2 ^ 64) these rest first.small others.small;
        some = All-append (λ (t : Taken). t.bits ≢ 0) these rest first.some others.some;
      }

-- ---- what is freed was taken

module _ (w : ℕ → ℕ) (lanes zones : ℕ) (no_fault : heap_fault w lanes zones ≡ None) where
  frees_taken : (change : HeapChange) (at : Occ) (bit : ℕ) → MayChange w lanes zones change → IsOcc lanes zones at → bit < 64 → FreesBit lanes change at bit → is_taken w lanes at bit ≡ true
  frees_taken (AllocatesInRun c lines index kind bytes) at bit can of low frees = absurd frees
  frees_taken (AllocatesChunks c chunks kind bytes) at bit can of low frees = absurd frees
  frees_taken (FreesInRun c lines index) at bit can of low frees =
      (freed_takes w (changed lanes (FreesInRun c lines index) w) lanes zones c lines index no_fault (freed_in_run w lanes zones no_fault c lines index can)).were at bit of low frees
  frees_taken (FreesChunks c chunks) at bit can of low frees =
      (chunks_give w (changed lanes (FreesChunks c chunks) w) lanes zones c chunks no_fault (freed_chunks w lanes zones no_fault c chunks can)).were at bit of low frees

  some_taken : (all : List Published) (at : Occ) (bit : ℕ) → All (CanPublish w lanes zones) all → IsOcc lanes zones at → bit < 64 → SomeFrees lanes all at bit → is_taken w lanes at bit ≡ true
  some_taken [] at bit can of low frees = absurd frees
  some_taken (Performs action ∷ all) at bit can of low frees = some_taken all at bit (All-tail (CanPublish w lanes zones) (Performs action) all can) of low frees
  some_taken (Changes change ∷ all) at bit can of low frees = ⊎_elim
      (λ (here : FreesBit lanes change at bit). frees_taken change at bit (All-head (CanPublish w lanes zones) (Changes change) all can) of low here)
      (λ (later : SomeFrees lanes all at bit). some_taken all at bit (All-tail (CanPublish w lanes zones) (Changes change) all can) of low later)
      frees

-- ---- the draw hands over

module _ (o : Opening) (header : Header) (pool before now : PoolView) (start v : View) (steps : List Step) (all : List Published) (works : WorksAlone o header pool start steps v) (has : HasEntriesFor v header before now all) where
  stands : StandsAlone o header pool v
  stands = stands_at o header pool start steps v works.begins works.leads works.numbered works.within

  fits : LaneFits o (memory_of v) (settled o stands.log stands.decided) (Flies stands.log stands.decided 0) 0 v
  fits = own_fits o header pool v stands

  -- the entry that ends the generation is of the lane's area
  abbrev last : Final
  last = ends_with v (generation_of v + 1)

  aside : is_of_heap v last ≡ false
  aside = ap (λ b. not (b || is_written v (area_word v.lane)))
      (and_from (leb (area_word v.lane) (area_word v.lane)) (ltb (area_word v.lane) (area_word v.lane + 1024)) (le-leb (area_word v.lane) (area_word v.lane) (omega arith)) (lt-ltb (area_word v.lane) (area_word v.lane + 1024) (omega arith)))

  each : All (IsHanded v) all
  each = All-weaker (CanPublish (slice_index v.words) v.lanes v.zones) (IsHanded v)
      (handed o (memory_of v) (settled o stands.log stands.decided) (Flies stands.log stands.decided 0) 0 v stands.goes.world.sound stands.goes.in_lanes fits has.holds.no_fault) all has.can

  -- what its entries allocate, and what they free
  pub allocated : HaveBits (flat_map (allocated_by v) v.log.entries) (SomeAllocates v.lanes all)
  allocated = subst (λ (entries : List Final). HaveBits (flat_map (allocated_by v) entries) (SomeAllocates v.lanes all)) (sym has.entries) (all_allocate v last aside all each)

  freed : HaveBits (flat_map (freed_by v) v.log.entries) (SomeFrees v.lanes all)
  freed = subst (λ (entries : List Final). HaveBits (flat_map (freed_by v) entries) (SomeFrees v.lanes all)) (sym has.entries) (all_free v last aside all each)

  -- all of which is of the pool
  pub freed_of_pool : (n : ℕ) → AreOfPool v.lanes v.zones (after v (Draw n)).freed
  freed_of_pool n = subst (AreOfPool v.lanes v.zones) (sym (freed_drawn v n fits.blocks.freed))
      (subst (λ (entries : List Final). AreOfPool v.lanes v.zones (flat_map (freed_by v) entries)) (sym has.entries) (all_of_pool v last aside all each))

  -- and the view as it has drawn
  module _ (n : ℕ) where
    abbrev w : View
    w = after v (Draw n)

    abbrev these : List Taken
    these = flat_map (allocated_by v) v.log.entries

    still : (at : Occ) (bit : ℕ) → reserves w at bit ≡ list_any (has_bit at bit) (without_all these v.reserved)
    still at bit = ap (list_any (has_bit at bit)) (reserved_drawn v n)

    pub hands_over : AllocatesOwn v all → HandsOver v w all
    hands_over own = record {
      left = λ at bit of low reserved. ⊎_elim
          (λ (made : list_any (has_bit at bit) these ≡ true). inr ((allocated.bits at bit).0 made))
          (λ (none : list_any (has_bit at bit) these ≡ false). inl (still at bit ∙ left_after these v.reserved at bit allocated.small low none reserved))
          (cases_Bool (list_any (has_bit at bit) these));
      reserved = λ at bit of low reserved. let there = sym (still at bit) ∙ reserved in
          (left_before these v.reserved at bit allocated.small there, λ makes. left_gone these v.reserved at bit allocated.small low ((allocated.bits at bit).1 makes) there);
      freed = λ at bit of low. let is = ap (list_any (has_bit at bit)) (freed_drawn v n fits.blocks.freed) in
          ((λ has. (freed.bits at bit).0 (sym is ∙ has)), (λ frees. is ∙ (freed.bits at bit).1 frees));
      own = λ at bit of low makes. own at bit makes;
      taken = λ at bit of low frees. some_taken (slice_index v.words) v.lanes v.zones has.holds.no_fault all at bit has.can of low frees;
    }
