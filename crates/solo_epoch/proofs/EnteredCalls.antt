-- A committed call whose log has what it publishes may publish that: each thing may be published on the pool that its words hold, behind those before it.
use Rattle.std.proofs.Common.{◌≡◌, ◌≢◌, ⊎_elim, inl, inr, ℕ, ◌+◌, ◌*◌, ◌/◌, ◌≤◌, false, All, List, [], ◌∷◌, ◌++◌, length, map, slice_index, None, Some, refl, sym, ap, ◌∙◌, subst, arith, eq-eqb, ◌⊎◌, IsSome}
use Rattle.std.specs.Prelude.{nat_eq}
use Rattle.std.specs.List.{AllByRecursion, AllZip, Contains, IsDistinct}
use Rattle.std.specs.Int.{bit_at}
use Rattle.std.proofs.lemmas.Bool.{cases_eq, false≢true}
use Rattle.std.proofs.lemmas.List.Elements.{All-append, All-cons, All-contains_itself, All-head, All-map, All-nil, All-tail, All-weaker, All-contains}
use Rattle.pm_header.specs.declared.header.Header.{Header}
use Rattle.pm_layout.specs.Sizes.{descriptor_of}
use Rattle.pm_layout.specs.declared.class.Class.TheVariants.{Chunks, Lines}
use Rattle.pm_objects.specs.declared.pool.Object.{Object}
use Rattle.pm_objects.specs.declared.pool.PoolView.{PoolView}
use Rattle.pm_image.specs.declared.block.Block.{Block}
use Rattle.pm_image.specs.Blocks.{blocks, chunk_word, class_in, descriptor_word}
use Rattle.pm_image.specs.Contents.{bytes_in, offset_in, size_in}
use Rattle.pm_image.specs.HeapFaults.{heap_fault}
use Rattle.solo_model.specs.Actions.{Action, end_of}
use Rattle.solo_view.specs.View.{Lock, View}
use Rattle.solo_view.specs.Views.{reserves}
use Rattle.solo_world.specs.Fits.{LaneFits}
use Rattle.solo_world.specs.History.{Flies, settled}
use Rattle.solo_world.specs.Opening.{Opening}
use Rattle.solo_crash.specs.CallBlocks.{IsMadeIn, NewObject, block_of, blocks_in}
use Rattle.solo_crash.specs.CallChanges.{AllocatesNew, ChangesOf, FreesAt, bytes_published}
use Rattle.solo_crash.specs.Held.{HoldsImage, HoldsPool, IsBlockOf, IsObjectAt, object_of}
use Rattle.solo_crash.specs.HeapChanges.{AreDisjoint, CanChange, Frees, HeapChange, MayBeFreed, block_changed, run_at, HasItsObject, MayChange}
use Rattle.solo_crash.specs.HeapChanges.HeapChange.{AllocatesChunks, AllocatesInRun, FreesChunks, FreesInRun}
use Rattle.solo_crash.specs.Lying.{InRun}
use Rattle.solo_crash.specs.NewObjects.{AreFreeChunks, HasNewObject, IsFreeInRun, block_of_chunks, block_of_run, IsWordOf}
use Rattle.solo_crash.specs.OpenCall.{HasMade, call_words, IsPerformable, LiesInNew}
use Rattle.solo_crash.specs.Pending.{published_in}
use Rattle.solo_crash.specs.Performing.{CanPerform, performed, entry_for, IsUnseen}
use Rattle.solo_crash.specs.Publishing.{AreInOrder, CanPublish, MayFollow, Published, actions_in, HasItsOwn, HaveTheirObjects}
use Rattle.solo_crash.specs.Publishing.Published.{Changes, Performs}
use Rattle.solo_crash.proofs.AloneCourse.{StandsAlone}
use Rattle.solo_crash.proofs.AloneMemory.{memory_of}
use Rattle.solo_crash.proofs.Apart.{apart, good_chunk, lines_of_block, rising}
use Rattle.solo_crash.proofs.Classes.{whole_by_byte, lines_of_class}
use Rattle.solo_crash.proofs.Continued.{two_same}
use Rattle.solo_crash.proofs.EmptyRuns.{class_of_run}
use Rattle.solo_crash.proofs.ObjectsOfBlocks.{block_is_there, object_is_there}
use Rattle.solo_crash.proofs.Standing.{standing_is_block}
use Rattle.solo_epoch.specs.Epochs.{AllocatesInItsRun, AllocatesIts, AllocatesItsChunks, FreesIts, HasEnteredCall, HasEntriesFor, HoldsCommitted}
use Rattle.solo_crash.specs.Reserved.{IsReservedFor, IsUnusedChunk, IsBorneOut}
use Rattle.solo_epoch.proofs.OwnAllocations.{parts}
use Rattle.solo_crash.proofs.BlocksApart.{run_chunks, runs_apart, whole_in}
use Rattle.solo_crash.proofs.ReservedBlocks.{found_freed}
use Rattle.solo_crash.proofs.BorneOut.{free_chunks, free_run, overlaps_none}
use Rattle.solo_epoch.proofs.StandingPools.{own_fits}
use Rattle.solo_crash.proofs.ChangesApart.{some_of_object}
use Rattle.solo_crash.proofs.KeptHeads.{allows_change}
use Rattle.solo_crash.proofs.NewStay.{new_there}
use Rattle.solo_crash.proofs.PerformedNew.{stands_behind}
use Rattle.solo_crash.proofs.UnreadBlocks.{free_in_chunk, free_unread, AreChunks, IsOneOfRun}
use Rattle.solo_crash.proofs.WordsOfNew.{new_word}
use Rattle.std.proofs.lemmas.List.{map-append}
use Rattle.pm_objects.specs.Pool.{object_at}

-- ---- an action that may be performed on a pool may be by other words that hold it

pub can_alike : (w v : ℕ → ℕ) (lanes zones : ℕ) (header : Header) (pool : PoolView) (a : Action) → HoldsPool w lanes zones header pool → HoldsPool v lanes zones header pool → CanPerform w lanes zones a → CanPerform v lanes zones a
can_alike w v lanes zones header pool a holds holds_too can =
    let was : IsObjectAt w lanes zones pool.objects can.block = object_is_there w lanes zones header pool can.block holds can.is_there in
    let now : IsBlockOf v lanes zones (offset_in can.block) (object_of w lanes zones can.block) = block_is_there v lanes zones (offset_in can.block) header pool (object_of w lanes zones can.block) holds_too was.found in
    let there : IsObjectAt v lanes zones pool.objects now.block = object_is_there v lanes zones header pool now.block holds_too now.is_there in
    let bytes : bytes_in w can.block ≡ bytes_in v now.block = ap (λ (object : Object). object.bytes) now.is_object in
    let size : size_in w can.block ≡ size_in v now.block = sym was.size ∙ (ap (λ (xs : List ℕ). length xs) bytes ∙ there.size) in
    record { block = now.block; is_there = now.is_there; begins = sym now.is_offset ∙ can.begins; inside = subst (λ n. end_of a ≤ n) size can.inside; whole = can.whole }

-- ---- of actions with changes behind them, the actions

no_actions : (changes : List HeapChange) → actions_in (map Changes changes) ≡ []
no_actions [] = refl
no_actions (change ∷ changes) = no_actions changes

actions_of : (actions : List Action) (changes : List HeapChange) → actions_in (map Performs actions ++ map Changes changes) ≡ actions
actions_of [] changes = no_actions changes
actions_of (a ∷ actions) changes = ap (λ (more : List Action). a ∷ more) (actions_of actions changes)

-- ---- a block that may be freed is there

module _ (w : ℕ → ℕ) (lanes zones : ℕ) (none : heap_fault w lanes zones ≡ None) where
  -- the change frees a block of these words, which begins so
  record IsFreed (change : HeapChange) (off : ℕ) : Type 0 where
    is_there : Contains (blocks w lanes zones) (block_changed lanes change)
    begins : offset_in (block_changed lanes change) ≡ off

  freed_there : (change : HeapChange) (off : ℕ) → CanChange w lanes zones change → FreesAt lanes change off → IsFreed change off
  freed_there (FreesInRun c lines index) off can at =
      let within = can.inside in let described = can.is_run in
      let run : class_in (w (descriptor_word lanes c)) ≡ Some (Lines lines) = class_of_run (w (descriptor_word lanes c)) lines (omega (arith, described)) (omega (arith, within)) in
      record {
        is_there = standing_is_block w lanes zones (block_of_run lanes c lines index) (record {
          chunk = c;
          in_zones = can.in_zones;
          is = inl (record { lines = lines; index = index; is_run = run; inside = can.inside; is_set = can.is_set; is_block = refl });
        });
        begins = at;
      }
  freed_there (FreesChunks c chunks) off can at =
      let d : ℕ = w (descriptor_word lanes c) in
      let first : d ≡ descriptor_of (Chunks chunks) = can.is_first in
      let number : d / 256 ≡ chunks = omega (arith, first) in
      let whole : class_in d ≡ Some (Chunks chunks) = whole_by_byte w lanes c (good_chunk w lanes zones c none can.in_zones) (omega (arith, first)) ∙ ap (λ n. Some (Chunks n)) number in
      record {
        is_there = standing_is_block w lanes zones (block_of_chunks lanes c chunks) (record { chunk = c; in_zones = can.in_zones; is = inr (record { chunks = chunks; is_first = whole; is_block = refl }) });
        begins = at;
      }
  freed_there (AllocatesInRun c lines index kind bytes) off can at = absurd at
  freed_there (AllocatesChunks c chunks kind bytes) off can at = absurd at

  -- two of them lie apart
  two_freed : (a b : HeapChange) (off at : ℕ) → nat_eq off at ≡ false → IsFreed a off → IsFreed b at → AreDisjoint (block_changed lanes a) (block_changed lanes b)
  two_freed a b off at differ one other = ⊎_elim
      (λ (same : block_changed lanes a ≡ block_changed lanes b).
      let here : off ≡ at = sym one.begins ∙ (ap (λ (x : Block). offset_in x) same ∙ other.begins) in absurd (false≢true (sym differ ∙ eq-eqb off at here)))
      (λ (either : AreDisjoint (block_changed lanes a) (block_changed lanes b)). either)
      (apart 0 (blocks w lanes zones) (block_changed lanes a) (block_changed lanes b) (rising w lanes zones none) one.is_there other.is_there)

  -- two blocks at one place overlap
  overlap : (a b : Block) → a.place ≡ b.place → 1 ≤ a.lines → 1 ≤ b.lines → AreDisjoint a b → ⊥
  overlap a b same some some_too (inl before) = omega (arith, same, some, before)
  overlap a b same some some_too (inr behind) = omega (arith, same, some_too, behind)

  -- where a change may free this block of a run, its bit is set
  set_in_run : (change : HeapChange) (c lines index : ℕ) → CanChange w lanes zones change → Frees lanes change (block_of_run lanes c lines index) → InRun w lanes c lines index → bit_at (w (chunk_word lanes c)) index ≡ 1
  set_in_run (FreesInRun d many i) c lines index can frees mine =
      let other : InRun w lanes d many i = record { inside = can.inside; described = can.is_run } in
      let some : 1 ≤ many = lines_of_block w lanes zones (block_of_run lanes d many i) none (freed_there (FreesInRun d many i) (offset_in (block_of_run lanes d many i)) can refl).is_there in
      let place : (block_of_run lanes c lines index).place ≡ (block_of_run lanes d many i).place = sym (ap (λ (b : Block). b.place) frees) in
      let long : many ≡ lines = ap (λ (b : Block). b.lines) frees in
      let never : AreDisjoint (block_of_run lanes c lines index) (block_of_run lanes d many i) → ⊥ = overlap (block_of_run lanes c lines index) (block_of_run lanes d many i) place (omega (arith, some, long)) some in
      ⊎_elim
      (λ (same : c ≡ d). ⊎_elim
      (λ (equal : index ≡ i). (λ j. bit_at (w (chunk_word lanes (same j))) (equal j)) ∙ can.is_set)
      (λ (differ : index ≢ i). absurd (never (runs_apart w lanes zones c lines index d many i mine other (λ same. differ))))
      (cases_eq index i))
      (λ (differ : c ≢ d). absurd (never (runs_apart w lanes zones c lines index d many i mine other (λ same. absurd (differ same)))))
      (cases_eq c d)
  set_in_run (FreesChunks d chunks) c lines index can frees mine =
      let some : 1 ≤ 64 * chunks = lines_of_block w lanes zones (block_of_chunks lanes d chunks) none (freed_there (FreesChunks d chunks) (offset_in (block_of_chunks lanes d chunks)) can refl).is_there in
      let place : (block_of_run lanes c lines index).place ≡ (block_of_chunks lanes d chunks).place = sym (ap (λ (b : Block). b.place) frees) in
      let long : 64 * chunks ≡ lines = ap (λ (b : Block). b.lines) frees in
      absurd (overlap (block_of_run lanes c lines index) (block_of_chunks lanes d chunks) place (omega (arith, some, long)) some
      (run_chunks w lanes zones c lines index d chunks mine (whole_in w lanes zones none d chunks can.in_zones can.is_first)))
  set_in_run (AllocatesInRun d many i kind bytes) c lines index can frees mine = absurd frees
  set_in_run (AllocatesChunks d chunks kind bytes) c lines index can frees mine = absurd frees

module _ (o : Opening) (header : Header) (pool : PoolView) (u : View) (s : StandsAlone o header pool u) (held : HoldsCommitted o u header pool) (has : HasMade u) (borne_out : IsBorneOut u) (all : List Published) (entered : HasEnteredCall u all) where
  abbrev w : ℕ → ℕ
  w = slice_index u.words

  abbrev base : PoolView
  base = held.to.base

  abbrev news : List NewObject
  news = (blocks_in u).made

  fits : LaneFits o (memory_of u) (settled o s.log s.decided) (Flies s.log s.decided 0) 0 u
  fits = own_fits o header pool u s

  holds : HoldsPool w u.lanes u.zones header base
  holds = two_same (λ (a c : ℕ). HoldsPool w a c header base) o.lanes u.lanes o.zones u.zones (sym fits.lane.lanes) (sym fits.lane.zones) held.holds

  abbrev Can : HeapChange → Type 0
  Can change = CanChange w u.lanes u.zones change

  abbrev May : HeapChange → Type 0
  May change = MayChange w u.lanes u.zones change

  -- ---- what the call made may be allocated

  may_in_run : (change : HeapChange) (n : NewObject) → (t : AllocatesInItsRun u change n) → May change
  may_in_run change n t =
      let r = t.reserved in let lanes = fits.lane.lanes in let zones = fits.lane.zones in let in_pool = r.in_pool in
      let free : IsFreeInRun w u.lanes u.zones r.chunk r.lines r.index = two_same (λ (a c : ℕ). IsFreeInRun w a c r.chunk r.lines r.index) o.lanes u.lanes o.zones u.zones (sym lanes) (sym zones)
      (free_run o header pool u s r.chunk r.lines r.index (omega (arith, in_pool, zones)) r.low
      (ap (λ m. w (descriptor_word m r.chunk)) (sym lanes) ∙ r.described) (ap (λ m. reserves u (run_at m r.chunk) r.index) (sym lanes) ∙ r.reserved)) in
      subst May (sym t.is) free

  may_chunks : (change : HeapChange) (n : NewObject) → IsMadeIn u n → (t : AllocatesItsChunks u change n) → May change
  may_chunks change n made t =
      let r = t.reserved in let lanes = fits.lane.lanes in let zones = fits.lane.zones in let in_pool = r.in_pool in
      let free : AreFreeChunks w u.lanes u.zones (64 * r.zone + r.first) r.count = two_same (λ (a c : ℕ). AreFreeChunks w a c (64 * r.zone + r.first) r.count) o.lanes u.lanes o.zones u.zones (sym lanes) (sym zones)
      (free_chunks o header pool u s r.zone r.first r.count (omega (arith, in_pool, zones)) r.low r.fits (λ j near. subst (λ m. IsUnusedChunk m u r.zone (r.first + j)) lanes (r.unused j near))) in
      subst May (sym t.is)
      (some_of_object w u.lanes (64 * r.zone + r.first) r.count n.kind (bytes_in w (block_of n)) (subst (λ (b : Block). HasNewObject w b n.kind (bytes_in w (block_of n))) r.is_block made.object), free)

  may_make : (change : HeapChange) (n : NewObject) → IsMadeIn u n → AllocatesIts u change n → May change
  may_make change n made (inl t) = may_in_run change n t
  may_make change n made (inr t) = may_chunks change n made t

  -- and stands in its block once the actions are performed
  abbrev w₁ : ℕ → ℕ
  w₁ = performed (published_in u) w

  object_of_change : (change : HeapChange) (n : NewObject) → Contains news n → AllocatesIts u change n → HasItsObject w₁ u.lanes change
  object_of_change change n there (inl t) =
      subst (HasItsObject w₁ u.lanes) (sym t.is) (subst (λ (b : Block). HasNewObject w₁ b n.kind (bytes_published u n)) t.reserved.is_block (stands_behind u held.words header held.held.before held.to has n there).object)
  object_of_change change n there (inr t) =
      subst (HasItsObject w₁ u.lanes) (sym t.is) (subst (λ (b : Block). HasNewObject w₁ b n.kind (bytes_published u n)) t.reserved.is_block (stands_behind u held.words header held.held.before held.to has n there).object)

  -- each is of its object
  is_of : (change : HeapChange) (n : NewObject) → IsMadeIn u n → AllocatesIts u change n → AllocatesNew u u.lanes change n
  is_of change n made (inl t) =
      let behind = made.behind in let place : (block_of n).place ≡ (block_of_run u.lanes t.reserved.chunk t.reserved.lines t.reserved.index).place = ap (λ (b : Block). b.place) t.reserved.is_block in
      subst (λ (c : HeapChange). AllocatesNew u u.lanes c n) (sym t.is) (record { begins = omega (arith, behind, place); of_kind = refl; holds = refl })
  is_of change n made (inr t) =
      let behind = made.behind in let place : (block_of n).place ≡ (block_of_chunks u.lanes (64 * t.reserved.zone + t.reserved.first) t.reserved.count).place = ap (λ (b : Block). b.place) t.reserved.is_block in
      subst (λ (c : HeapChange). AllocatesNew u u.lanes c n) (sym t.is) (record { begins = omega (arith, behind, place); of_kind = refl; holds = refl })

  -- and of the object's block, which the lane reserved
  block_is : (change : HeapChange) (n : NewObject) → AllocatesIts u change n → block_changed u.lanes change ≡ block_of n
  block_is change n (inl t) = ap (block_changed u.lanes) t.is ∙ sym t.reserved.is_block
  block_is change n (inr t) = ap (block_changed u.lanes) t.is ∙ sym t.reserved.is_block

  is_reserved : (change : HeapChange) (n : NewObject) → AllocatesIts u change n → IsReservedFor u n
  is_reserved change n (inl t) = inl t.reserved
  is_reserved change n (inr t) = inr t.reserved

  -- ---- what it freed may be freed

  found : (l : Lock) (lines : ℕ) → Contains u.locks l → l.block ≡ Some lines → w 64 ≢ 64 * l.line + 64 → MayBeFreed w u.lanes u.zones (record { place = 64 * l.line; lines = lines })
  found l lines there is not_root =
      two_same (λ (a c : ℕ). MayBeFreed w a c (record { place = 64 * l.line; lines = lines })) o.lanes u.lanes o.zones u.zones (sym fits.lane.lanes) (sym fits.lane.zones)
      (subst (λ (x : View). heap_fault (slice_index x.words) o.lanes o.zones ≡ None → Contains x.locks l → slice_index x.words 64 ≢ 64 * l.line + 64 → MayBeFreed (slice_index x.words) o.lanes o.zones (record { place = 64 * l.line; lines = lines })) s.here
      (λ none inside other. found_freed o (memory_of u) s.views s.log s.decided 0 s.goes.world s.goes.in_lanes (λ i. ap (λ (x : View). slice_index x.words i) (sym s.here)) none l lines inside is other)
      held.holds.no_fault there not_root)

  can_free : (change : HeapChange) (off : ℕ) → FreesIts u change off → Can change
  can_free change off (inl t) =
      let begins = t.begins in let of_line = t.of_line in let not_root = t.not_root in
      let m = found t.lock t.lines t.held t.found (λ same. not_root (omega (arith, same, begins, of_line))) in
      let frees : Frees u.lanes m.change (block_of_run u.lanes t.chunk t.lines t.index) = subst (Frees u.lanes m.change) (λ j. let b : Block = record { place = sym of_line j; lines = t.lines } in b) m.frees in
      subst Can (sym t.is) (record {
        in_zones = t.in_pool;
        inside = t.inside;
        is_run = t.described;
        is_set = set_in_run w u.lanes u.zones holds.no_fault m.change t.chunk t.lines t.index m.can frees (record { inside = t.inside; described = t.described });
        not_root = λ same. not_root (same ∙ begins);
      })
  can_free change off (inr t) = let not_root = t.not_root in let begins = t.begins in subst Can (sym t.is) (record { in_zones = t.in_pool; is_first = t.described; not_root = λ same. not_root (same ∙ begins) })

  frees_at : (change : HeapChange) (off : ℕ) → FreesIts u change off → FreesAt u.lanes change off
  frees_at change off (inl t) = subst (λ (c : HeapChange). FreesAt u.lanes c off) (sym t.is) t.begins
  frees_at change off (inr t) = subst (λ (c : HeapChange). FreesAt u.lanes c off) (sym t.is) t.begins

  all_can_free : (freed : List HeapChange) (offs : List ℕ) → AllZip (FreesIts u) freed offs → All Can freed
  all_can_free [] offs each = All-nil Can
  all_can_free (change ∷ freed) [] each = absurd each
  all_can_free (change ∷ freed) (off ∷ offs) each = All-cons Can change freed (can_free change off each.0) (all_can_free freed offs each.1)

  all_frees : (freed : List HeapChange) (offs : List ℕ) → AllZip (FreesIts u) freed offs → AllZip (FreesAt u.lanes) freed offs
  all_frees [] [] each = each
  all_frees [] (off ∷ offs) each = absurd each
  all_frees (change ∷ freed) [] each = absurd each
  all_frees (change ∷ freed) (off ∷ offs) each = (frees_at change off each.0, all_frees freed offs each.1)

  may_free : All Can entered.freed
  may_free = all_can_free entered.freed (blocks_in u).freed entered.frees

  frees : AllZip (FreesAt u.lanes) entered.freed (blocks_in u).freed
  frees = all_frees entered.freed (blocks_in u).freed entered.frees

  -- ---- and what the call does with what it made

  abbrev AreMade : List NewObject → Type 0
  AreMade ns = All (Contains news) ns

  all_may_make : (made : List HeapChange) (ns : List NewObject) → AllZip (AllocatesIts u) made ns → AreMade ns → All May made
  all_may_make [] ns each there = All-nil May
  all_may_make (change ∷ made) [] each there = absurd each
  all_may_make (change ∷ made) (n ∷ ns) each there =
      All-cons May change made (may_make change n (has.each n (All-head (Contains news) n ns there)) each.0) (all_may_make made ns each.1 (All-tail (Contains news) n ns there))

  all_objects : (made : List HeapChange) (ns : List NewObject) → AllZip (AllocatesIts u) made ns → AreMade ns → All (HasItsObject w₁ u.lanes) made
  all_objects [] ns each there = All-nil (HasItsObject w₁ u.lanes)
  all_objects (change ∷ made) [] each there = absurd each
  all_objects (change ∷ made) (n ∷ ns) each there =
      All-cons (HasItsObject w₁ u.lanes) change made (object_of_change change n (All-head (Contains news) n ns there) each.0) (all_objects made ns each.1 (All-tail (Contains news) n ns there))

  all_of : (made : List HeapChange) (ns : List NewObject) → AllZip (AllocatesIts u) made ns → AreMade ns → AllZip (AllocatesNew u u.lanes) made ns
  all_of [] [] each there = each
  all_of [] (n ∷ ns) each there = absurd each
  all_of (change ∷ made) [] each there = absurd each
  all_of (change ∷ made) (n ∷ ns) each there = (is_of change n (has.each n (All-head (Contains news) n ns there)) each.0, all_of made ns each.1 (All-tail (Contains news) n ns there))

  made_there : AreMade news
  made_there = All-contains_itself news

  pub of_call : ChangesOf u u.lanes (entered.freed ++ entered.made)
  of_call = record { freed = entered.freed; made = entered.made; are = refl; frees = frees; allocates = all_of entered.made news entered.allocates made_there; once = entered.once_made }

  -- ---- all lie apart

  abbrev Follows : HeapChange → Published → Type 0
  Follows change step = MayFollow u.lanes (Changes change) step

  behind_made : (a : HeapChange) (n : NewObject) → Contains news n → AllocatesIts u a n → (made : List HeapChange) (ns : List NewObject) → AllZip (AllocatesIts u) made ns → AreMade ns
      → AllByRecursion (λ off. nat_eq n.off off ≡ false) (map (λ (m : NewObject). m.off) ns) → All (Follows a) (map Changes made)
  behind_made a n here mine [] ns each there differ = All-nil (Follows a)
  behind_made a n here mine (b ∷ made) [] each there differ = absurd each
  behind_made a n here mine (b ∷ made) (m ∷ ns) each there differ =
      All-cons (Follows a) (Changes b) (map Changes made)
      (subst (λ (x : Block). AreDisjoint x (block_changed u.lanes b)) (sym (block_is a n mine)) (subst (AreDisjoint (block_of n)) (sym (block_is b m each.0))
      (has.apart_new n m here (All-head (Contains news) m ns there) (λ same. false≢true (sym differ.0 ∙ eq-eqb n.off m.off same)))))
      (behind_made a n here mine made ns each.1 (All-tail (Contains news) m ns there) differ.1)

  made_ordered : (made : List HeapChange) (ns : List NewObject) → AllZip (AllocatesIts u) made ns → AreMade ns → IsDistinct nat_eq (map (λ (m : NewObject). m.off) ns) → AreInOrder u.lanes (map Changes made)
  unfolding IsDistinct
  made_ordered [] ns each there once = tt
  made_ordered (a ∷ made) [] each there once = absurd each
  made_ordered (a ∷ made) (n ∷ ns) each there once = (
    behind_made a n (All-head (Contains news) n ns there) each.0 made ns each.1 (All-tail (Contains news) n ns there) once.0,
    made_ordered made ns each.1 (All-tail (Contains news) n ns there) once.1,
  )

  turned : (a b : Block) → AreDisjoint a b → AreDisjoint b a
  turned a b (inl before) = inr before
  turned a b (inr behind) = inl behind

  abbrev FreesBlock : HeapChange → ℕ → Type 0
  FreesBlock change off = IsFreed w u.lanes u.zones holds.no_fault change off

  freed_made : (a : HeapChange) (off : ℕ) → FreesBlock a off → (made : List HeapChange) (ns : List NewObject) → AllZip (AllocatesIts u) made ns → All (Follows a) (map Changes made)
  freed_made a off freed [] ns each = All-nil (Follows a)
  freed_made a off freed (b ∷ made) [] each = absurd each
  freed_made a off freed (b ∷ made) (m ∷ ns) each =
      All-cons (Follows a) (Changes b) (map Changes made)
      (subst (AreDisjoint (block_changed u.lanes a)) (sym (block_is b m each.0)) (turned (block_of m) (block_changed u.lanes a)
      (overlaps_none o header pool u s held.holds.no_fault m (block_changed u.lanes a) (is_reserved b m each.0)
      (two_same (λ (x y : ℕ). Contains (blocks w x y) (block_changed u.lanes a)) u.lanes o.lanes u.zones o.zones fits.lane.lanes fits.lane.zones freed.is_there))))
      (freed_made a off freed made ns each.1)

  freed_freed : (a : HeapChange) (off : ℕ) → FreesBlock a off → (freed : List HeapChange) (offs : List ℕ) → AllZip (FreesAt u.lanes) freed offs → All Can freed → AllByRecursion (λ at. nat_eq off at ≡ false) offs
      → All (Follows a) (map Changes freed)
  freed_freed a off mine [] offs each can differ = All-nil (Follows a)
  freed_freed a off mine (b ∷ freed) [] each can differ = absurd each
  freed_freed a off mine (b ∷ freed) (at ∷ offs) each can differ =
      All-cons (Follows a) (Changes b) (map Changes freed)
      (two_freed w u.lanes u.zones holds.no_fault a b off at differ.0 mine (freed_there w u.lanes u.zones holds.no_fault b at (All-head Can b freed can) each.0))
      (freed_freed a off mine freed offs each.1 (All-tail Can b freed can) differ.1)

  freed_ordered : (freed : List HeapChange) (offs : List ℕ) → AllZip (FreesAt u.lanes) freed offs → All Can freed → IsDistinct nat_eq offs → AreInOrder u.lanes (map Changes freed ++ map Changes entered.made)
  unfolding IsDistinct
  freed_ordered [] offs each can once = made_ordered entered.made news entered.allocates made_there entered.once_made
  freed_ordered (a ∷ freed) [] each can once = absurd each
  freed_ordered (a ∷ freed) (off ∷ offs) each can once =
      let mine : FreesBlock a off = freed_there w u.lanes u.zones holds.no_fault a off (All-head Can a freed can) each.0 in (
        All-append (Follows a) (map Changes freed) (map Changes entered.made) (freed_freed a off mine freed offs each.1 (All-tail Can a freed can) once.0) (freed_made a off mine entered.made news entered.allocates),
        freed_ordered freed offs each.1 (All-tail Can a freed can) once.1,
      )

  actions_ordered : (actions : List Action) (steps : List Published) → AreInOrder u.lanes steps → AreInOrder u.lanes (map Performs actions ++ steps)
  actions_ordered [] steps ordered = ordered
  actions_ordered (a ∷ actions) steps ordered = ((λ k e near. tt), actions_ordered actions steps ordered)

  -- ---- so it has an entry for each thing that it may publish

  abbrev CanDo : Published → Type 0
  CanDo step = CanPublish w u.lanes u.zones step

  -- an action in what the call made is on no object of the words: that is reserved
  place_of : (n : NewObject) → IsReservedFor u n → IsOneOfRun u.lanes u.zones (block_of n) ⊎ AreChunks w u.lanes u.zones (block_of n)
  place_of n (inl run) =
      let lanes = fits.lane.lanes in let zones = fits.lane.zones in let in_pool = run.in_pool in
      let free = free_run o header pool u s run.chunk run.lines run.index (omega (arith, in_pool, zones)) run.low
      (ap (λ m. w (descriptor_word m run.chunk)) (sym lanes) ∙ run.described) (ap (λ m. reserves u (run_at m run.chunk) run.index) (sym lanes) ∙ run.reserved) in
      inl (record { chunk = run.chunk; lines = run.lines; index = run.index; in_zones = run.in_pool; inside = free.inside; is = run.is_block })
  place_of n (inr row) = inr (record {
    zone = row.zone;
    first = row.first;
    count = row.count;
    in_zones = row.in_pool;
    low = row.low;
    fits = row.fits;
    is = row.is_block;
    plain = λ j lines near run.
        let zero = (row.unused j near).undescribed in
        let one = (lines_of_class (w (descriptor_word u.lanes (64 * row.zone + (row.first + j)))) lines run).0 in
        omega (arith, zero, one);
  })

  unseen_new : (a : Action) → LiesInNew u a → IsUnseen w u.lanes u.zones a
  unseen_new a lies =
      let n : NewObject = lies.new in
      let reserved : IsReservedFor u n = All-contains (IsReservedFor u) ((blocks_in u).made ++ (blocks_in u).dropped) n borne_out.made lies.is_new in
      let apart : (b : Block) → Contains (blocks w u.lanes u.zones) b → AreDisjoint (block_of n) b =
      λ b there. overlaps_none o header pool u s held.holds.no_fault n b reserved (two_same (λ (x y : ℕ). Contains (blocks w x y) b) u.lanes o.lanes u.zones o.zones fits.lane.lanes fits.lane.zones there) in
      let word : IsWordOf (block_of n) (entry_for a).word = new_word u a lies in
      record {
        in_chunk = free_in_chunk w u.lanes u.zones (block_of n) (place_of n reserved) holds.no_fault apart (entry_for a).word word;
        unread = free_unread w u.lanes u.zones (block_of n) (place_of n reserved) holds.no_fault apart (entry_for a).word word;
        none_there = λ b there at.
            let stands : IsObjectAt w u.lanes u.zones base.objects b = object_is_there w u.lanes u.zones header base b holds there in
            let found : IsSome (object_at base.objects n.off) = subst (λ (x : ℕ). IsSome (object_at base.objects x)) (at ∙ sym lies.begins) (subst IsSome (sym stands.found) refl) in
            false≢true (subst IsSome (held.to.unfound n.off (new_there u n lies.is_new)) found);
        whole = lies.whole;
      }

  may_perform : (a : Action) → IsPerformable u (call_words u held.words) a → CanDo (Performs a)
  may_perform a (inl can) = inl (can_alike (call_words u held.words) w u.lanes u.zones header base a held.to.holds holds can)
  may_perform a (inr lies) = inr (unseen_new a lies)

  can_perform : All CanDo (map Performs (published_in u))
  can_perform = All-map CanDo Performs (published_in u) (All-weaker (IsPerformable u (call_words u held.words)) (λ (a : Action). CanDo (Performs a)) may_perform (published_in u) held.to.performable)

  can_change : All CanDo (map Changes entered.freed ++ map Changes entered.made)
  can_change = All-append CanDo (map Changes entered.freed) (map Changes entered.made)
      (All-map CanDo Changes entered.freed (All-weaker Can May (λ change can. allows_change w u.lanes u.zones change can) entered.freed may_free))
      (All-map CanDo Changes entered.made (all_may_make entered.made news entered.allocates made_there))

  -- ---- what is new stands in its block

  abbrev Own : Published → Type 0
  Own step = HasItsOwn w₁ u.lanes step

  performs_own : (actions : List Action) → All Own (map Performs actions)
  performs_own [] = All-nil Own
  performs_own (a ∷ actions) = All-cons Own (Performs a) (map Performs actions) tt (performs_own actions)

  frees_none : (change : HeapChange) (off : ℕ) → FreesIts u change off → HasItsObject w₁ u.lanes change
  frees_none change off (inl t) = subst (HasItsObject w₁ u.lanes) (sym t.is) tt
  frees_none change off (inr t) = subst (HasItsObject w₁ u.lanes) (sym t.is) tt

  all_free_none : (freed : List HeapChange) (offs : List ℕ) → AllZip (FreesIts u) freed offs → All (HasItsObject w₁ u.lanes) freed
  all_free_none [] offs each = All-nil (HasItsObject w₁ u.lanes)
  all_free_none (change ∷ freed) [] each = absurd each
  all_free_none (change ∷ freed) (off ∷ offs) each = All-cons (HasItsObject w₁ u.lanes) change freed (frees_none change off each.0) (all_free_none freed offs each.1)

  own : All Own (map Performs (published_in u) ++ (map Changes entered.freed ++ map Changes entered.made))
  own = All-append Own (map Performs (published_in u)) (map Changes entered.freed ++ map Changes entered.made) (performs_own (published_in u))
      (All-append Own (map Changes entered.freed) (map Changes entered.made)
      (All-map Own Changes entered.freed (all_free_none entered.freed (blocks_in u).freed entered.frees))
      (All-map Own Changes entered.made (all_objects entered.made news entered.allocates made_there)))

  acts : actions_in (map Performs (published_in u) ++ (map Changes entered.freed ++ map Changes entered.made)) ≡ published_in u
  acts = ap actions_in (ap (λ (steps : List Published). map Performs (published_in u) ++ steps) (sym (map-append Changes entered.freed entered.made))) ∙ actions_of (published_in u) (entered.freed ++ entered.made)

  objects : HaveTheirObjects w u.lanes all
  objects = subst (HaveTheirObjects w u.lanes) (sym (parts u all entered))
      (subst (λ (actions : List Action). All (HasItsOwn (performed actions w) u.lanes) (map Performs (published_in u) ++ (map Changes entered.freed ++ map Changes entered.made))) (sym acts) own)

  pub has_entries : HasEntriesFor u header held.held.before base all
  has_entries = record {
    entries = entered.entries;
    below = entered.not_last;
    was = two_same (λ (a c : ℕ). HoldsImage u.words a c header held.held.before) o.lanes u.lanes o.zones u.zones (sym fits.lane.lanes) (sym fits.lane.zones) held.held.holds;
    holds = holds;
    can = subst (All CanDo) (sym (parts u all entered)) (All-append CanDo (map Performs (published_in u)) (map Changes entered.freed ++ map Changes entered.made) can_perform can_change);
    objects = objects;
    ordered = subst (AreInOrder u.lanes) (sym (parts u all entered)) (actions_ordered (published_in u) (map Changes entered.freed ++ map Changes entered.made) (freed_ordered entered.freed (blocks_in u).freed frees may_free entered.once_freed));
  }
