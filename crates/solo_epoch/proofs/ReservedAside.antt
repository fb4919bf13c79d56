-- A block that a lane alone reserved, apart from those of what its call made: as the lane publishes that call no entry is of a word of the block, nor of what describes it, and its bits stay reserved.
use Rattle.std.proofs.Common.{◌≡◌, ◌≢◌, ◌⊎◌, ⊎_elim, inl, inr, ℕ, ◌+◌, ◌-◌, ◌*◌, ◌/◌, ◌%◌, ◌<◌, ◌≤◌, true, false, eqb, All, Contains, List, [], ◌∷◌, ◌++◌, map, None, slice_index, sym, ap, ◌∙◌, subst, arith}
use Rattle.std.specs.List.{AllZip}
use Rattle.std.proofs.lemmas.Bool.{eqb-true, false_from_ne_true}
use Rattle.std.proofs.lemmas.List.{map-append}
use Rattle.std.proofs.lemmas.List.Elements.{All-append, All-cons, All-contains, All-contains_itself, All-head, All-nil, All-tail, All-weaker, Contains-append_left}
use Rattle.std.proofs.lemmas.List.Folds.{Any-from_list_any}
use Rattle.pm_header.specs.declared.header.Header.{Header}
use Rattle.pm_image.specs.declared.block.Block.{Block}
use Rattle.pm_image.specs.Blocks.{blocks, chunk_word, descriptor_word}
use Rattle.pm_image.specs.HeapFaults.{heap_fault}
use Rattle.pm_image.proofs.Rooms.{run_fits}
use Rattle.pm_layout.specs.Sizes.{blocks_of}
use Rattle.solo_model.proofs.Blocks.{All-parts}
use Rattle.solo_model.specs.Actions.{Action}
use Rattle.pm_objects.specs.declared.pool.PoolView.{PoolView}
use Rattle.solo_view.specs.declared.occ.Occ.{Occ}
use Rattle.solo_view.specs.declared.occ.Occ.TheVariants.{Run, Zone}
use Rattle.solo_view.specs.Log.{Final}
use Rattle.solo_view.specs.Steps.Step.{Draw}
use Rattle.solo_view.specs.View.{View}
use Rattle.solo_view.specs.Views.{after, reserves}
use Rattle.solo_world.specs.Entries.{ends_with, is_entered}
use Rattle.solo_world.specs.Heap.{IsOcc}
use Rattle.solo_world.specs.Opening.{Opening}
use Rattle.solo_world.specs.Records.{generation_of}
use Rattle.solo_crash.specs.CallBlocks.{NewObject, block_of, blocks_in}
use Rattle.solo_crash.specs.HeapChanges.{AreDisjoint, HeapChange, MayChange, run_at}
use Rattle.solo_crash.specs.HeapChanges.HeapChange.{AllocatesChunks, AllocatesInRun, FreesChunks, FreesInRun}
use Rattle.solo_crash.specs.NewObjects.{IsWordOf, block_of_run}
use Rattle.solo_crash.specs.OpenCall.{IsPerformable, call_words}
use Rattle.solo_crash.specs.Pending.{published_in}
use Rattle.solo_crash.specs.Performing.{CanPerform, entry_for}
use Rattle.solo_crash.specs.Publishing.{CanPublish, Published, entry_published}
use Rattle.solo_crash.specs.Publishing.Published.{Changes, Performs}
use Rattle.solo_crash.specs.Reserved.{IsReservedFor, IsReservedInChunks, IsReservedInRun}
use Rattle.solo_crash.specs.CallChanges.{bytes_published}
use Rattle.solo_crash.specs.Taken.{AllocatesBit}
use Rattle.solo_crash.proofs.BorneOut.{overlaps_none}
use Rattle.solo_crash.proofs.Continued.{two_same}
use Rattle.solo_crash.proofs.OneChange.{chunks_block_words}
use Rattle.solo_crash.proofs.WordsOfNew.{new_word, performed_word, words_apart}
use Rattle.solo_epoch.specs.Epochs.{AllocatesIts, FreesIts, HasEnteredCall, IsPublishing, SomeAllocates}
use Rattle.solo_epoch.proofs.EnteredCalls.{can_alike}
use Rattle.solo_epoch.proofs.EntryWords.{in_zone}
use Rattle.solo_epoch.proofs.HandedOver.{hands_over}
use Rattle.solo_epoch.proofs.HeldApart.{block_has_lines, some_count}
use Rattle.solo_epoch.proofs.OwnAllocations.{actions_apart, freed_apart, parts}
use Rattle.solo_epoch.proofs.PublishingCalls.{base, before, fits, has, held, own, stands}
use Rattle.solo_epoch.proofs.PutDescriptors.{lies_whole}

-- ---- where the words of a reserved block lie

-- the word lies in a chunk, behind the line of its bitmap, or the chunk is described by 0
record InItsChunk (w : ℕ → ℕ) (lanes i : ℕ) : Type 0 where
  chunk : ℕ
  from : chunk_word lanes chunk ≤ i
  to : i < chunk_word lanes chunk + 512
  kind : (chunk_word lanes chunk + 8 ≤ i) ⊎ (w (descriptor_word lanes chunk) ≡ 0)

-- so it describes no chunk
no_descriptor : (w : ℕ → ℕ) (lanes i c : ℕ) → InItsChunk w lanes i → i ≡ descriptor_word lanes c → ⊥
no_descriptor w lanes i c in_it same = let from = in_it.from in let to = in_it.to in omega (arith, from, to, same)

-- and is no bitmap of a run
no_bitmap : (w : ℕ → ℕ) (lanes i c lines : ℕ) → InItsChunk w lanes i → w (descriptor_word lanes c) ≡ 1 + 256 * lines → i ≡ chunk_word lanes c → ⊥
no_bitmap w lanes i c lines in_it run same =
    let from = in_it.from in let to = in_it.to in
    ⊎_elim
    (λ (behind : chunk_word lanes in_it.chunk + 8 ≤ i). omega (arith, behind, to, same))
    (λ (zero : w (descriptor_word lanes in_it.chunk) ≡ 0).
    let one : in_it.chunk ≡ c = omega (arith, from, to, same) in
    let here : w (descriptor_word lanes c) ≡ 0 = ap (λ k. w (descriptor_word lanes k)) (sym one) ∙ zero in
    omega (arith, here, run))
    in_it.kind

-- two blocks that are one, of a line at least, do not lie apart
same_overlap : (a b : Block) → a ≡ b → 1 ≤ a.lines → AreDisjoint a b → ⊥
same_overlap a b same some apart = by (subst (AreDisjoint a) (sym same) apart) where
  by : AreDisjoint a a → ⊥
  by (inl before) = omega (arith, before, some)
  by (inr behind) = omega (arith, behind, some)

-- the place of an occupancy word of a run, and the number of a zone's
abbrev run_place : Occ → ℕ
run_place (Run place) = place
run_place (Zone zone) = 0

abbrev zone_number : Occ → ℕ
zone_number (Run place) = 0
zone_number (Zone zone) = zone

abbrev Kind : Occ → Type 0
Kind (Run place) = Unit {0}
Kind (Zone zone) = ⊥

run_no_zone : (place zone : ℕ) → Run place ≡ Zone zone → ⊥
run_no_zone place zone same = subst Kind same tt

module _ (o : Opening) (header : Header) (pool : PoolView) (u : View) (n : ℕ) (all : List Published) (w : View) (call : IsPublishing o header pool u n all w) (r : NewObject) (reserved : IsReservedFor u r)
    (made_apart : (m : NewObject) → Contains ((blocks_in u).made ++ (blocks_in u).dropped) m → AreDisjoint (block_of r) (block_of m)) where
  abbrev words : ℕ → ℕ
  words = slice_index u.words

  abbrev drawn : View
  drawn = after u (Draw n)

  abbrev entered : HasEnteredCall u all
  entered = call.entered

  no_fault : heap_fault words u.lanes u.zones ≡ None
  no_fault = (has o header pool u n all w call).holds.no_fault

  inside_run : (run : IsReservedInRun u r) → run.index < blocks_of run.lines
  inside_run = lies_whole o header pool call.start u call.steps call.works r

  -- ---- its words

  lies : (i : ℕ) → IsWordOf (block_of r) i → InItsChunk words u.lanes i
  lies i word = by reserved where
    by : IsReservedFor u r → InItsChunk words u.lanes i
    by (inl run) =
        let room : 1 + run.lines * run.index + run.lines ≤ 64 = run_fits run.lines run.index (inside_run run) in
        let begins : (8 * chunk_word u.lanes run.chunk + 64 * (1 + run.lines * run.index)) / 8 ≤ i = subst (λ (b : Block). b.place / 8 ≤ i) run.is_block word.from in
        let ends : i < (8 * chunk_word u.lanes run.chunk + 64 * (1 + run.lines * run.index)) / 8 + 8 * run.lines = subst (λ (b : Block). i < b.place / 8 + 8 * b.lines) run.is_block word.to in
        record { chunk = run.chunk; from = omega (arith, begins); to = omega (arith, ends, room); kind = inl (omega (arith, begins)) }
    by (inr its) =
        let t = chunks_block_words u.lanes (64 * its.zone + its.first) its.count i (subst (λ (b : Block). b.place / 8 ≤ i) its.is_block word.from) (subst (λ (b : Block). i < b.place / 8 + 8 * b.lines) its.is_block word.to) in
        let from = t.0 in let to = t.1 in let low = its.low in let room = its.fits in
        let k : ℕ = (i - chunk_word u.lanes (64 * its.zone + its.first)) / 512 in
        let near : k < its.count = omega (arith, from, to) in
        record { chunk = 64 * its.zone + (its.first + k); from = omega (arith, from, to, low, room, near); to = omega (arith, from, to, low, room, near); kind = inr (its.unused k near).undescribed }

  -- ---- an entry is of none of these words

  abbrev Aside : ℕ → Final → Type 0
  Aside i f = f.word ≢ i

  action_aside : (i : ℕ) → IsWordOf (block_of r) i → (a : Action) → IsPerformable u (call_words u (held o header pool u n all w call).words) a → (entry_for a).word ≢ i
  action_aside i word a (inl can) same =
      let h = held o header pool u n all w call in
      let now : CanPerform words u.lanes u.zones a = can_alike (call_words u h.words) words u.lanes u.zones header (base o header pool u n all w call) a h.to.holds (has o header pool u n all w call).holds can in
      let there : Contains (blocks words o.lanes o.zones) now.block =
      two_same (λ (x y : ℕ). Contains (blocks words x y) now.block) u.lanes o.lanes u.zones o.zones (fits o header pool u n all w call).lane.lanes (fits o header pool u n all w call).lane.zones now.is_there in
      words_apart (block_of r) now.block i (overlaps_none o header pool u (stands o header pool u n all w call) h.holds.no_fault r now.block reserved there) word
      (subst (IsWordOf now.block) same (performed_word words u.lanes u.zones no_fault a now))
  action_aside i word a (inr its) same = words_apart (block_of r) (block_of its.new) i (made_apart its.new its.is_new) word (subst (IsWordOf (block_of its.new)) same (new_word u a its))

  change_aside : (i : ℕ) → IsWordOf (block_of r) i → (change : HeapChange) → MayChange words u.lanes u.zones change → (entry_published u.lanes (Changes change)).word ≢ i
  change_aside i word (AllocatesInRun c lines index kind bytes) may same = no_bitmap words u.lanes i c lines (lies i word) may.is_run (sym same)
  change_aside i word (AllocatesChunks c chunks kind bytes) may same = no_descriptor words u.lanes i c (lies i word) (sym same)
  change_aside i word (FreesInRun c lines index) may same = no_bitmap words u.lanes i c lines (lies i word) may.is_run (sym same)
  change_aside i word (FreesChunks c chunks) may same = no_descriptor words u.lanes i c (lies i word) (sym same)

  abbrev Can : Published → Type 0
  Can s = CanPublish words u.lanes u.zones s

  performs_all : (P : Final → Type 0) (actions : List Action) → All (λ (a : Action). P (entry_for a)) actions → All P (map (entry_published u.lanes) (map Performs actions))
  performs_all P [] each = All-nil P
  performs_all P (a ∷ actions) each =
      All-cons P (entry_for a) (map (entry_published u.lanes) (map Performs actions)) (All-head (λ (b : Action). P (entry_for b)) a actions each) (performs_all P actions (All-tail (λ (b : Action). P (entry_for b)) a actions each))

  changes_all : (P : Final → Type 0) → ((change : HeapChange) → MayChange words u.lanes u.zones change → P (entry_published u.lanes (Changes change))) → (changes : List HeapChange) → All Can (map Changes changes)
      → All P (map (entry_published u.lanes) (map Changes changes))
  changes_all P each [] can = All-nil P
  changes_all P each (change ∷ changes) can =
      All-cons P (entry_published u.lanes (Changes change)) (map (entry_published u.lanes) (map Changes changes)) (each change (All-head Can (Changes change) (map Changes changes) can))
      (changes_all P each changes (All-tail Can (Changes change) (map Changes changes) can))

  -- what it publishes can be, in its parts
  can_parts : All Can (map Performs (published_in u)) × All Can (map Changes (entered.freed ++ entered.made))
  can_parts = All-parts Can (map Performs (published_in u)) (map Changes (entered.freed ++ entered.made)) (subst (All Can) entered.are (has o header pool u n all w call).can)

  -- what holds of the entries of both parts, and of the one that ends the generation, holds of each
  each_entry : (P : Final → Type 0) → All P (map (entry_published u.lanes) (map Performs (published_in u))) → All P (map (entry_published u.lanes) (map Changes (entered.freed ++ entered.made))) → P (ends_with u (generation_of u + 1))
      → All P u.log.entries
  each_entry P acts changes last =
      subst (All P) (sym entered.entries)
      (All-append P (map (entry_published u.lanes) all) (ends_with u (generation_of u + 1) ∷ [])
      (subst (λ (steps : List Published). All P (map (entry_published u.lanes) steps)) (sym entered.are)
      (subst (All P) (sym (map-append (entry_published u.lanes) (map Performs (published_in u)) (map Changes (entered.freed ++ entered.made))))
      (All-append P (map (entry_published u.lanes) (map Performs (published_in u))) (map (entry_published u.lanes) (map Changes (entered.freed ++ entered.made))) acts changes)))
      (All-cons P (ends_with u (generation_of u + 1)) [] last (All-nil P)))

  unentered : (i : ℕ) → All (Aside i) u.log.entries → is_entered u.log.entries i ≡ false
  unentered i each = false_from_ne_true (is_entered u.log.entries i) (λ is.
      let t = Any-from_list_any (λ (f : Final). eqb f.word i) u.log.entries is in
      All-contains (Aside i) u.log.entries t.1 each (t.0, t.2, t.3) (eqb-true t.1.word i t.4))

  -- the generation is a word of the lane's area, before the zones
  last_low : (ends_with u (generation_of u + 1)).word < 1024
  last_low = let lane = (fits o header pool u n all w call).lane.lane in omega (arith, lane)

  pub word_unentered : (i : ℕ) → IsWordOf (block_of r) i → is_entered u.log.entries i ≡ false
  word_unentered i word = unentered i
      (each_entry (Aside i)
      (performs_all (Aside i) (published_in u) (All-weaker (IsPerformable u (call_words u (held o header pool u n all w call).words)) (λ (a : Action). (entry_for a).word ≢ i) (action_aside i word) (published_in u) (held o header pool u n all w call).to.performable))
      (changes_all (Aside i) (change_aside i word) (entered.freed ++ entered.made) can_parts.1)
      (λ same. let low = last_low in let from = (lies i word).from in omega (arith, low, from, same)))

  -- ---- nor of what describes its chunk

  -- each object that the call made has a block apart from it
  abbrev AreMade : List NewObject → Type 0
  AreMade news = All (Contains (blocks_in u).made) news

  its_made_apart : (m : NewObject) → Contains (blocks_in u).made m → AreDisjoint (block_of r) (block_of m)
  its_made_apart m there = made_apart m (Contains-append_left (blocks_in u).made (blocks_in u).dropped m there)

  made_there : AreMade (blocks_in u).made
  made_there = All-contains_itself (blocks_in u).made

  -- the chunk is no block's first, nor that of an object that was made
  record IsOwnChunk (c : ℕ) : Type 0 where
    no_first : (chunks : ℕ) → words (descriptor_word u.lanes c) ≢ 2 + 256 * chunks
    not_made : (m : NewObject) (t : IsReservedInChunks u m) → AreDisjoint (block_of r) (block_of m) → 64 * t.zone + t.first ≢ c

  module _ (c : ℕ) (own_chunk : IsOwnChunk c) where
    abbrev d : ℕ
    d = descriptor_word u.lanes c

    freed_aside : (freed : List HeapChange) (offs : List ℕ) → AllZip (FreesIts u) freed offs → All (Aside d) (map (entry_published u.lanes) (map Changes freed))
    freed_aside [] offs each = All-nil (Aside d)
    freed_aside (change ∷ freed) [] each = absurd each
    freed_aside (change ∷ freed) (off ∷ offs) each =
        All-cons (Aside d) (entry_published u.lanes (Changes change)) (map (entry_published u.lanes) (map Changes freed)) (one each.0) (freed_aside freed offs each.1) where
          one : FreesIts u change off → (entry_published u.lanes (Changes change)).word ≢ d
          one (inl t) = subst (λ (x : HeapChange). (entry_published u.lanes (Changes x)).word ≢ d) (sym t.is) (λ same. omega (arith, same))
          one (inr t) = subst (λ (x : HeapChange). (entry_published u.lanes (Changes x)).word ≢ d) (sym t.is)
              (λ same. let chunk : t.chunk ≡ c = omega (arith, same) in own_chunk.no_first t.count (ap (λ k. words (descriptor_word u.lanes k)) (sym chunk) ∙ t.described))

    made_aside : (made : List HeapChange) (news : List NewObject) → AllZip (AllocatesIts u) made news → AreMade news → All (Aside d) (map (entry_published u.lanes) (map Changes made))
    made_aside [] news each there = All-nil (Aside d)
    made_aside (change ∷ made) [] each there = absurd each
    made_aside (change ∷ made) (m ∷ news) each there =
        All-cons (Aside d) (entry_published u.lanes (Changes change)) (map (entry_published u.lanes) (map Changes made)) (one each.0) (made_aside made news each.1 (All-tail (Contains (blocks_in u).made) m news there)) where
          one : AllocatesIts u change m → (entry_published u.lanes (Changes change)).word ≢ d
          one (inl t) = subst (λ (x : HeapChange). (entry_published u.lanes (Changes x)).word ≢ d) (sym t.is) (λ same. omega (arith, same))
          one (inr t) = subst (λ (x : HeapChange). (entry_published u.lanes (Changes x)).word ≢ d) (sym t.is)
              (λ same. own_chunk.not_made m t.reserved (its_made_apart m (All-head (Contains (blocks_in u).made) m news there)) (omega (arith, same)))

    sets_aside : (actions : List Action) → All Can (map Performs actions) → All (λ (a : Action). (entry_for a).word ≢ d) actions
    sets_aside [] can = All-nil (λ (a : Action). (entry_for a).word ≢ d)
    sets_aside (a ∷ actions) can =
        All-cons (λ (b : Action). (entry_for b).word ≢ d) a actions
        (λ same. let t = in_zone words u.lanes u.zones no_fault a (All-head Can (Performs a) (map Performs actions) can) in let from = t.1 in let to = t.2 in omega (arith, from, to, same))
        (sets_aside actions (All-tail Can (Performs a) (map Performs actions) can))

    descriptor_unentered : is_entered u.log.entries d ≡ false
    descriptor_unentered = unentered d
        (each_entry (Aside d) (performs_all (Aside d) (published_in u) (sets_aside (published_in u) can_parts.0))
        (subst (λ (steps : List Published). All (Aside d) (map (entry_published u.lanes) steps)) (sym (map-append Changes entered.freed entered.made))
        (subst (All (Aside d)) (sym (map-append (entry_published u.lanes) (map Changes entered.freed) (map Changes entered.made)))
        (All-append (Aside d) (map (entry_published u.lanes) (map Changes entered.freed)) (map (entry_published u.lanes) (map Changes entered.made)) (freed_aside entered.freed (blocks_in u).freed entered.frees)
        (made_aside entered.made (blocks_in u).made entered.allocates made_there))))
        (λ same. let low = last_low in let some = (stands o header pool u n all w call).goes.in_lanes in let lanes = (fits o header pool u n all w call).lane.lanes in omega (arith, low, some, lanes, same)))

  run_own : (run : IsReservedInRun u r) → IsOwnChunk run.chunk
  run_own run = record {
    no_first = λ chunks whole. let is = run.described in omega (arith, is, whole);
    not_made = λ m t apart same.
        let some : 1 ≤ t.count = some_count o header pool u (stands o header pool u n all w call) m t in
        let zero = (t.unused 0 (omega (arith, some))).undescribed in
        let here : words (descriptor_word u.lanes run.chunk) ≡ 0 = ap (λ k. words (descriptor_word u.lanes k)) (let e : run.chunk ≡ 64 * t.zone + (t.first + 0) = omega (arith, same) in e) ∙ zero in
        let is = run.described in omega (arith, is, here);
  }

  -- two rows of chunks that overlap
  chunks_meet : (its : IsReservedInChunks u r) (m : NewObject) (t : IsReservedInChunks u m) → AreDisjoint (block_of r) (block_of m) → (j : ℕ) → j < its.count → its.zone ≡ t.zone → t.first ≤ its.first + j → its.first + j < t.first + t.count → ⊥
  chunks_meet its m t apart j near zone from to =
      let place = ap (λ (b : Block). b.place) its.is_block in let lines = ap (λ (b : Block). b.lines) its.is_block in
      let place_too = ap (λ (b : Block). b.place) t.is_block in let lines_too = ap (λ (b : Block). b.lines) t.is_block in
      let low = its.low in let low_too = t.low in
      ⊎_elim
      (λ (before : (block_of r).place + 64 * (block_of r).lines ≤ (block_of m).place). omega (arith, before, place, lines, place_too, lines_too, low, low_too, near, zone, from, to))
      (λ (behind : (block_of m).place + 64 * (block_of m).lines ≤ (block_of r).place). omega (arith, behind, place, lines, place_too, lines_too, low, low_too, near, zone, from, to))
      apart

  chunk_own : (its : IsReservedInChunks u r) (j : ℕ) → j < its.count → IsOwnChunk (64 * its.zone + (its.first + j))
  chunk_own its j near = record {
    no_first = λ chunks whole. let zero = (its.unused j near).undescribed in omega (arith, zero, whole);
    not_made = λ m t apart same.
        let some : 1 ≤ t.count = some_count o header pool u (stands o header pool u n all w call) m t in
        let low = t.low in let room = its.fits in
        chunks_meet its m t apart j near (omega (arith, same, low, room, near)) (omega (arith, same, low, room, near)) (omega (arith, same, low, room, near, some));
  }

  pub run_descriptor_unentered : (run : IsReservedInRun u r) → is_entered u.log.entries (descriptor_word u.lanes run.chunk) ≡ false
  run_descriptor_unentered run = descriptor_unentered run.chunk (run_own run)

  pub chunk_descriptor_unentered : (its : IsReservedInChunks u r) (j : ℕ) → j < its.count → is_entered u.log.entries (descriptor_word u.lanes (64 * its.zone + (its.first + j))) ≡ false
  chunk_descriptor_unentered its j near = descriptor_unentered (64 * its.zone + (its.first + j)) (chunk_own its j near)

  -- ---- and its bits stay

  -- the call allocates none of them
  module _ (at : Occ) (bit : ℕ) (aside : (change : HeapChange) (m : NewObject) → AreDisjoint (block_of r) (block_of m) → AllocatesIts u change m → AllocatesBit u.lanes change at bit → ⊥) where
    made_allocate_none : (made : List HeapChange) (news : List NewObject) → AllZip (AllocatesIts u) made news → AreMade news → SomeAllocates u.lanes (map Changes made) at bit → ⊥
    made_allocate_none [] news each there some = some
    made_allocate_none (change ∷ made) [] each there some = absurd each
    made_allocate_none (change ∷ made) (m ∷ news) each there (inl here) = aside change m (its_made_apart m (All-head (Contains (blocks_in u).made) m news there)) each.0 here
    made_allocate_none (change ∷ made) (m ∷ news) each there (inr later) = made_allocate_none made news each.1 (All-tail (Contains (blocks_in u).made) m news there) later

    none_allocated : SomeAllocates u.lanes all at bit → ⊥
    none_allocated some =
        made_allocate_none entered.made (blocks_in u).made entered.allocates made_there
        (freed_apart u entered.freed (blocks_in u).freed (map Changes entered.made) entered.frees at bit
        (actions_apart u (published_in u) (map Changes entered.freed ++ map Changes entered.made) at bit (subst (λ (steps : List Published). SomeAllocates u.lanes steps at bit) (parts u all entered) some)))

    still : IsOcc u.lanes u.zones at → bit < 64 → reserves u at bit ≡ true → reserves drawn at bit ≡ true
    still of low had = ⊎_elim (λ (kept : reserves drawn at bit ≡ true). kept) (λ (some : SomeAllocates u.lanes all at bit). absurd (none_allocated some))
        ((hands_over o header pool (before o header pool u n all w call) (base o header pool u n all w call) call.start u call.steps all call.works (has o header pool u n all w call) n (own o header pool u n all w call)).left at bit of low had)

  run_aside : (run : IsReservedInRun u r) (change : HeapChange) (m : NewObject) → AreDisjoint (block_of r) (block_of m) → AllocatesIts u change m → AllocatesBit u.lanes change (run_at u.lanes run.chunk) run.index → ⊥
  run_aside run change m apart (inl t) is =
      let other = t.reserved in
      let of : AllocatesBit u.lanes (AllocatesInRun other.chunk other.lines other.index m.kind (bytes_published u m)) (run_at u.lanes run.chunk) run.index = subst (λ (x : HeapChange). AllocatesBit u.lanes x (run_at u.lanes run.chunk) run.index) t.is is in
      let place = ap run_place of.0 in
      let chunk : run.chunk ≡ other.chunk = omega (arith, place) in
      let first = run.described in let second = ap (λ k. words (descriptor_word u.lanes k)) chunk ∙ other.described in
      let lines : run.lines ≡ other.lines = omega (arith, first, second) in
      same_overlap (block_of r) (block_of m) (run.is_block ∙ ((λ j. block_of_run u.lanes (chunk j) (lines j) (of.1 j)) ∙ sym other.is_block)) (block_has_lines r) apart
  run_aside run change m apart (inr t) is =
      let other = t.reserved in
      let of : AllocatesBit u.lanes (AllocatesChunks (64 * other.zone + other.first) other.count m.kind (bytes_published u m)) (run_at u.lanes run.chunk) run.index = subst (λ (x : HeapChange). AllocatesBit u.lanes x (run_at u.lanes run.chunk) run.index) t.is is in
      run_no_zone (4096 * (2 + 2 * u.lanes + 65 * (run.chunk / 64) + run.chunk % 64)) ((64 * other.zone + other.first) / 64) of.0

  chunks_aside : (its : IsReservedInChunks u r) (j : ℕ) → j < its.count → (change : HeapChange) (m : NewObject) → AreDisjoint (block_of r) (block_of m) → AllocatesIts u change m → AllocatesBit u.lanes change (Zone its.zone) (its.first + j) → ⊥
  chunks_aside its j near change m apart (inl t) is =
      let other = t.reserved in
      let of : AllocatesBit u.lanes (AllocatesInRun other.chunk other.lines other.index m.kind (bytes_published u m)) (Zone its.zone) (its.first + j) = subst (λ (x : HeapChange). AllocatesBit u.lanes x (Zone its.zone) (its.first + j)) t.is is in
      run_no_zone (8 * chunk_word u.lanes other.chunk) its.zone (sym of.0)
  chunks_aside its j near change m apart (inr t) is =
      let other = t.reserved in
      let of : AllocatesBit u.lanes (AllocatesChunks (64 * other.zone + other.first) other.count m.kind (bytes_published u m)) (Zone its.zone) (its.first + j) = subst (λ (x : HeapChange). AllocatesBit u.lanes x (Zone its.zone) (its.first + j)) t.is is in
      let zone = ap zone_number of.0 in let from = of.1.0 in let to = of.1.1 in let low = other.low in
      chunks_meet its m other apart j near (omega (arith, zone, low)) (omega (arith, from, low)) (omega (arith, to, low))

  pub run_bit_stays : (run : IsReservedInRun u r) → reserves drawn (run_at u.lanes run.chunk) run.index ≡ true
  run_bit_stays run = still (run_at u.lanes run.chunk) run.index (run_aside run) (let low = run.in_pool in (omega arith, (omega arith, omega arith), omega (arith, low))) run.low run.reserved

  pub chunk_bit_stays : (its : IsReservedInChunks u r) (j : ℕ) → j < its.count → reserves drawn (Zone its.zone) (its.first + j) ≡ true
  chunk_bit_stays its j near = still (Zone its.zone) (its.first + j) (chunks_aside its j near) its.in_pool (let room = its.fits in omega (arith, room, near)) (its.unused j near).reserved
