-- What a lane reserved for objects it has for them still, and what it has bears out what its call told, where it reserved the same and no word changed that tells of
-- blocks.
use Rattle.std.proofs.Common.{◌≡◌, ⊎_elim, eq-eqb, inl, inr, ℕ, ◌+◌, ◌*◌, ◌<◌, ◌%◌, true, cond, eqb, [], ◌∷◌, ◌++◌, map, List, slice_index, Option, Some, None, refl, sym, ◌∙◌, ap, subst, arith}
use Rattle.std.specs.Int.{bit_at}
use Rattle.std.specs.List.{All, Contains, list_any}
use Rattle.std.proofs.lemmas.Bool.{false≢true}
use Rattle.std.proofs.lemmas.List.Elements.{All-append, All-cons, All-contains, All-contains_itself, All-head, All-nil, All-tail, All-weaker}
use Rattle.pm_image.specs.declared.block.Block.{Block}
use Rattle.pm_image.specs.Blocks.{chunk_word, descriptor_word}
use Rattle.pm_objects.specs.declared.calls.Operation.{Operation}
use Rattle.pm_objects.specs.declared.calls.Operation.TheVariants.{Alloc, Cancel, DeferFree, Publish, Reserve, SetValue, WriteReserved}
use Rattle.pm_objects.specs.declared.history.Value.{Value}
use Rattle.pm_objects.specs.declared.history.Value.TheVariants.{Offset, Refused}
use Rattle.pm_objects.specs.declared.refusal.Refusal.{Refusal}
use Rattle.pm_image.proofs.Members.{no_member}
use Rattle.solo_model.specs.Actions.{Pending, Reservation}
use Rattle.solo_view.specs.declared.occ.Occ.{Occ}
use Rattle.solo_view.specs.declared.occ.Occ.TheVariants.{Zone}
use Rattle.solo_view.specs.Blocks.{is_run}
use Rattle.solo_view.specs.View.{View}
use Rattle.solo_view.specs.Views.{has_bit, reserves}
use Rattle.solo_crash.proofs.CallBlocks.{agree_same, agrees_once_more, allocated_once_more, blocks_once_more, same_allocated, same_blocks}
use Rattle.solo_crash.proofs.Continued.{two_same}
use Rattle.solo_crash.proofs.NewStay.{before_one, news_in}
use Rattle.solo_crash.specs.CallBlocks.{AgreesOnRoot, CallBlocks, LeavesReserved, NewObject, TellsOfRoot, allocated_by, allocated_in, blocks_in, reserved_in, reserved_object}
use Rattle.solo_crash.specs.HeapChanges.{run_at}
use Rattle.solo_crash.specs.Lying.{InARun, Lies, OfChunks}
use Rattle.solo_crash.specs.NewObjects.{block_of_chunks, block_of_run}
use Rattle.solo_crash.specs.Pending.{pending_behind, pending_in}
use Rattle.solo_crash.proofs.PendingOn.{pending_once_more, pending_same}
use Rattle.solo_crash.specs.Reserved.{IsBorneOut, IsReservedFor, IsReservedInChunks, IsReservedInRun, LiesFree, root_in}

-- the lane has reserved the same, and no word changed that describes a chunk, no bitmap of a run, nor the root's word
pub record HasSameHeads (v next : View) : Type 0 where
  pub lanes : next.lanes ≡ v.lanes
  pub zones : next.zones ≡ v.zones
  pub reserved : next.reserved ≡ v.reserved
  pub described : (c : ℕ) → c < 64 * v.zones → slice_index next.words (descriptor_word v.lanes c) ≡ slice_index v.words (descriptor_word v.lanes c)
  pub bitmaps : (c : ℕ) → c < 64 * v.zones → is_run (slice_index v.words (descriptor_word v.lanes c)) ≡ true → slice_index next.words (chunk_word v.lanes c) ≡ slice_index v.words (chunk_word v.lanes c)
  pub root : slice_index next.words 64 ≡ slice_index v.words 64

-- of each object that is reserved, and so of each reservation
pub each_reserved : (P : NewObject → Type 0) (rs : List Reservation) → All P (map reserved_object rs) → All (λ (r : Reservation). P (reserved_object r)) rs
each_reserved P [] each = All-nil (λ (r : Reservation). P (reserved_object r))
each_reserved P (r ∷ rs) each =
    All-cons (λ (s : Reservation). P (reserved_object s)) r rs (All-head P (reserved_object r) (map reserved_object rs) each) (each_reserved P rs (All-tail P (reserved_object r) (map reserved_object rs) each))

-- what is reserved behind an operation that leaves it was before
pub reserved_behind : (op : Operation) (reply : Option Value) (p : Pending) → LeavesReserved op reply p → (n : NewObject) → Contains (map reserved_object (pending_behind op reply p).reserved) n
    → Contains (map reserved_object p.reserved) n
reserved_behind op (Some (Refused r)) p leaves n there = there
reserved_behind (Reserve size kind) (Some (Offset off)) p leaves n there = let none = leaves.0 in absurd cc
reserved_behind (WriteReserved id off bytes) reply p leaves n there = absurd (false≢true (sym leaves.1))
reserved_behind (DeferFree id) reply p leaves n there = there
reserved_behind (SetValue id off value) reply p leaves n there = there
reserved_behind Publish reply p leaves n there = absurd (no_member n there)
reserved_behind Cancel reply p leaves n there = absurd (no_member n there)
reserved_behind op reply p leaves n there = there

-- one that is refused allocates nothing
refusal_allocates_none : (op : Operation) (r : Refusal) (p : Pending) → allocated_by op (Some (Refused r)) p ≡ []
refusal_allocates_none (Alloc size kind) r p = refl
refusal_allocates_none (Reserve size kind) r p = refl
refusal_allocates_none Publish r p = refl
refusal_allocates_none op r p = refl

module _ (v next : View) (same : HasSameHeads v next) where
  reserves_still : (at : Occ) (bit : ℕ) → reserves next at bit ≡ reserves v at bit
  reserves_still at bit = ap (list_any (has_bit at bit)) same.reserved

  in_run_still : (n : NewObject) → IsReservedInRun v n → IsReservedInRun next n
  in_run_still n run =
      let in_pool = run.in_pool in let zones = same.zones in
      record {
        chunk = run.chunk;
        lines = run.lines;
        index = run.index;
        in_pool = omega (arith, in_pool, zones);
        low = run.low;
        described = ap (λ (m : ℕ). slice_index next.words (descriptor_word m run.chunk)) same.lanes ∙ (same.described run.chunk run.in_pool ∙ run.described);
        reserved = reserves_still (run_at next.lanes run.chunk) run.index ∙ (ap (λ (m : ℕ). reserves v (run_at m run.chunk) run.index) same.lanes ∙ run.reserved);
        is_block = run.is_block ∙ ap (λ (m : ℕ). block_of_run m run.chunk run.lines run.index) (sym same.lanes);
      }

  in_chunks_still : (n : NewObject) → IsReservedInChunks v n → IsReservedInChunks next n
  in_chunks_still n has =
      let in_pool = has.in_pool in let zones = same.zones in let fits = has.fits in
      record {
        zone = has.zone;
        first = has.first;
        count = has.count;
        in_pool = omega (arith, in_pool, zones);
        low = has.low;
        fits = has.fits;
        unused = λ j near.
            let t = has.unused j near in
            let inside : 64 * has.zone + (has.first + j) < 64 * v.zones = omega (arith, in_pool, fits, near) in
            record {
              reserved = reserves_still (Zone has.zone) (has.first + j) ∙ t.reserved;
              undescribed = ap (λ (m : ℕ). slice_index next.words (descriptor_word m (64 * has.zone + (has.first + j)))) same.lanes ∙ (same.described (64 * has.zone + (has.first + j)) inside ∙ t.undescribed);
            };
        is_block = has.is_block ∙ ap (λ (m : ℕ). block_of_chunks m (64 * has.zone + has.first) has.count) (sym same.lanes);
      }

  pub reserved_still : (n : NewObject) → IsReservedFor v n → IsReservedFor next n
  reserved_still n (inl run) = inl (in_run_still n run)
  reserved_still n (inr has) = inr (in_chunks_still n has)

  -- what lies by the words lay by those before
  lay : (b : Block) → Lies (slice_index next.words) next.lanes next.zones b → Lies (slice_index v.words) v.lanes v.zones b
  lay b lies = back (two_same (λ (m n : ℕ). Lies (slice_index next.words) m n b) next.lanes v.lanes next.zones v.zones same.lanes same.zones lies) where
    back : Lies (slice_index next.words) v.lanes v.zones b → Lies (slice_index v.words) v.lanes v.zones b
    back (InARun c lines index in_pool run set is) =
        let was : slice_index v.words (descriptor_word v.lanes c) ≡ 1 + 256 * lines = sym (same.described c in_pool) ∙ run.described in
        let is_run_there : is_run (slice_index v.words (descriptor_word v.lanes c)) ≡ true = eq-eqb (slice_index v.words (descriptor_word v.lanes c) % 256) 1 (omega (arith, was)) in
        InARun c lines index in_pool (record { inside = run.inside; described = was }) (ap (λ (x : ℕ). bit_at x index) (sym (same.bitmaps c in_pool is_run_there)) ∙ set) is
    back (OfChunks c chunks in_pool whole first is) =
        OfChunks c chunks in_pool (record {
          some = whole.some;
          fits = whole.fits;
          no_run = λ k near run. whole.no_run k near (ap (λ (x : ℕ). x % 256) (same.described (c + k) (let fits = whole.fits in omega (arith, in_pool, near, fits))) ∙ run);
        }) (sym (same.described c in_pool) ∙ first) is

  -- so what was free is
  pub free_still : (n : NewObject) → LiesFree v n → LiesFree next n
  free_still n free b lies = free b (lay b lies)

  pub same_root : root_in (slice_index next.words) ≡ root_in (slice_index v.words)
  same_root = ap (λ (x : ℕ). cond (eqb x 0) None (Some x)) same.root

  -- Behind an operation that agrees with the root it does, where what the operation allocated lies in what the lane reserved, in room that the words have free, and so does what is
  -- reserved then: what the call made then it made before, or that made it
  pub borne_further : (op : Operation) (reply : Option Value) → next.entries ≡ v.entries → next.call ≡ v.call ++ record { operation = op; reply = reply } ∷ [] → All (IsReservedFor v) (allocated_by op reply (pending_in v))
      → All (LiesFree v) (allocated_by op reply (pending_in v)) → All (IsReservedFor next) (reserved_in next) → TellsOfRoot (root_in (slice_index v.words)) op reply (pending_in v) → IsBorneOut v → IsBorneOut next
  borne_further op reply entries call reserved free pending agrees borne = record {
    made =
        All-weaker (Contains (news_in (blocks_in next))) (IsReservedFor next)
        (λ n there. reserved_still n
        (⊎_elim
        (λ (before : Contains (news_in (blocks_in v)) n). All-contains (IsReservedFor v) (news_in (blocks_in v)) n borne.made before)
        (λ (now : Contains (allocated_by op reply (pending_in v)) n). All-contains (IsReservedFor v) (allocated_by op reply (pending_in v)) n reserved now)
        (before_one op reply (pending_in v) (blocks_in v) n (subst (λ (b : CallBlocks). Contains (news_in b) n) (blocks_once_more v next op reply entries call) there))))
        (news_in (blocks_in next)) (All-contains_itself (news_in (blocks_in next)));
    pending = pending;
    free =
        subst (All (LiesFree next)) (sym (allocated_once_more v next op reply entries call))
        (All-weaker (LiesFree v) (LiesFree next) free_still (allocated_in v ++ allocated_by op reply (pending_in v)) (All-append (LiesFree v) (allocated_in v) (allocated_by op reply (pending_in v)) borne.free free));
    root = subst (AgreesOnRoot next) (sym same_root) (agrees_once_more v next op reply entries call (root_in (slice_index v.words)) borne.root agrees);
  }

  -- so where it allocates nothing
  pub borne_told : (op : Operation) (reply : Option Value) → next.entries ≡ v.entries → next.call ≡ v.call ++ record { operation = op; reply = reply } ∷ [] → LeavesReserved op reply (pending_in v)
      → TellsOfRoot (root_in (slice_index v.words)) op reply (pending_in v) → IsBorneOut v → IsBorneOut next
  borne_told op reply entries call none agrees borne =
      borne_further op reply entries call (subst (All (IsReservedFor v)) (sym none.0) (All-nil (IsReservedFor v))) (subst (All (LiesFree v)) (sym none.0) (All-nil (LiesFree v)))
      (All-weaker (Contains (reserved_in next)) (IsReservedFor next)
      (λ n there. reserved_still n
      (All-contains (IsReservedFor v) (reserved_in v) n borne.pending
      (reserved_behind op reply (pending_in v) none n (subst (λ (p : Pending). Contains (map reserved_object p.reserved) n) (pending_once_more v next op reply entries call) there))))
      (reserved_in next) (All-contains_itself (reserved_in next))) agrees borne

  -- where it is refused, be it one that would write into what is reserved
  pub borne_refused : (op : Operation) (r : Refusal) → next.entries ≡ v.entries → next.call ≡ v.call ++ record { operation = op; reply = Some (Refused r) } ∷ []
      → TellsOfRoot (root_in (slice_index v.words)) op (Some (Refused r)) (pending_in v) → IsBorneOut v → IsBorneOut next
  borne_refused op r entries call agrees borne =
      let none = refusal_allocates_none op r (pending_in v) in
      borne_further op (Some (Refused r)) entries call (subst (All (IsReservedFor v)) (sym none) (All-nil (IsReservedFor v))) (subst (All (LiesFree v)) (sym none) (All-nil (LiesFree v)))
      (subst (λ (p : Pending). All (IsReservedFor next) (map reserved_object p.reserved)) (sym (pending_once_more v next op (Some (Refused r)) entries call))
      (All-weaker (IsReservedFor v) (IsReservedFor next) reserved_still (reserved_in v) borne.pending)) agrees borne

  -- and behind a publish, which makes what is reserved, where that lies in room that the words have free
  pub borne_published : next.entries ≡ v.entries → next.call ≡ v.call ++ record { operation = Publish; reply = None } ∷ [] → All (LiesFree v) (reserved_in v)
      → TellsOfRoot (root_in (slice_index v.words)) Publish None (pending_in v) → IsBorneOut v → IsBorneOut next
  borne_published entries call free agrees borne =
      borne_further Publish None entries call borne.pending free
      (subst (λ (p : Pending). All (IsReservedFor next) (map reserved_object p.reserved)) (sym (pending_once_more v next Publish None entries call)) (All-nil (IsReservedFor next))) agrees borne

  -- or tells nothing of it
  pub borne_on : (op : Operation) (reply : Option Value) → next.entries ≡ v.entries → next.call ≡ v.call ++ record { operation = op; reply = reply } ∷ [] → LeavesReserved op reply (pending_in v)
      → ((root : Option ℕ) → TellsOfRoot root op reply (pending_in v)) → IsBorneOut v → IsBorneOut next
  borne_on op reply entries call none no_root = borne_told op reply entries call none (no_root (root_in (slice_index v.words)))

  -- and where nothing is told
  pub borne_still : next.entries ≡ v.entries → next.call ≡ v.call → IsBorneOut v → IsBorneOut next
  borne_still entries call borne = record {
    made =
        subst (λ (b : CallBlocks). All (IsReservedFor next) (news_in b)) (sym (same_blocks v next entries call))
        (All-weaker (IsReservedFor v) (IsReservedFor next) reserved_still (news_in (blocks_in v)) borne.made);
    free = subst (All (LiesFree next)) (sym (same_allocated v next entries call)) (All-weaker (LiesFree v) (LiesFree next) free_still (allocated_in v) borne.free);
    pending =
        subst (λ (p : Pending). All (IsReservedFor next) (map reserved_object p.reserved)) (sym (pending_same v next entries call))
        (All-weaker (IsReservedFor v) (IsReservedFor next) reserved_still (reserved_in v) borne.pending);
    root = subst (AgreesOnRoot next) (sym same_root) (agree_same (root_in (slice_index v.words)) v next entries call borne.root);
  }
