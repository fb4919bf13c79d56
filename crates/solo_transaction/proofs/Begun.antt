-- A transaction that has just begun made and freed nothing, so what a lane alone has with empty lists is all that it needs to be at work with them.
use Rattle.std.proofs.Common.{◌≡◌, inl, inr, List, [], ◌∷◌, map, slice_index, None, sym, ap, ◌∙◌, subst, Contains, ◌++◌}
use Rattle.std.specs.List.{All}
use Rattle.std.proofs.lemmas.List.Elements.{All-nil, All-weaker}
use Rattle.pm_image.proofs.Members.{no_member}
use Rattle.solo_crash.proofs.CallBlocks.{first_agrees}
use Rattle.solo_crash.specs.CallBlocks.{CallBlocks, NewObject, allocated_in, allocated_told, blocks_in, blocks_told, no_blocks, reserved_in}
use Rattle.solo_crash.specs.Pending.{pending_before}
use Rattle.solo_crash.specs.Reserved.{IsBorneOut, IsReservedFor, root_in, LiesFree}
use Rattle.solo_made.specs.Made.{BlockLists, ListsBlocks}
use Rattle.solo_made.specs.declared.objects.Freed.{Freed}
use Rattle.pm_objects.specs.declared.calls.Operation.TheVariants.{Begin}
use Rattle.pm_objects.specs.declared.calls.Want.{Want}
use Rattle.solo_tx.specs.Begins.{HasBegun}
use Rattle.solo_view.specs.Founds.{IsAlone}
use Rattle.solo_view.specs.View.{View}
use Rattle.solo_world.specs.declared.lane.HeldLock.{HeldLock}
use Rattle.solo_world.specs.declared.lane.Lane.{Lane}
use Rattle.solo_transaction.specs.AtWork.{IsHeldFreed, LiesInReserved}
use Rattle.solo_transaction.specs.Beginning.{HasBegunWith}

-- where nothing is listed as freed, each is held
none_freed : (locks : List HeldLock) (freed : List Freed) → map (λ (f : Freed). f.off) freed ≡ [] → All (IsHeldFreed locks) freed
none_freed locks [] none = All-nil (IsHeldFreed locks)
none_freed locks (f ∷ freed) none = absurd cc

-- what lies whole in what the lane reserved is reserved
pub reserved_for : (v : View) (n : NewObject) → LiesInReserved v n → IsReservedFor v n
reserved_for v n (inl run) = inl run.0
reserved_for v n (inr chunks) = inr chunks

module _ {M : Type 0} (at : M → View → Type 0) (lane : Lane M) (blocks : BlockLists) (v : View) (wants : List Want) (none : ListsBlocks blocks no_blocks) (alone : IsAlone v) where
  begun_borne_out : (w : View) → w.call ≡ record { operation = Begin wants; reply = None } ∷ [] → All (IsReservedFor w) (reserved_in w) → IsBorneOut w
  unfolding allocated_told blocks_told
  begun_borne_out w call pending =
      let nothing : allocated_in w ≡ [] = ap (allocated_told (pending_before w)) call in
      let none_made : blocks_in w ≡ no_blocks = ap (blocks_told (pending_before w) no_blocks) call in
      record {
        made = subst (λ (b : CallBlocks). All (IsReservedFor w) (b.made ++ b.dropped)) (sym none_made) (All-nil (IsReservedFor w));
        free = subst (All (LiesFree w)) (sym nothing) (All-nil (LiesFree w));
        pending = pending;
        root = first_agrees w (Begin wants) None call (root_in (slice_index w.words)) tt;
      }

  begun_none : (w : View) → w.call ≡ record { operation = Begin wants; reply = None } ∷ [] → blocks_in w ≡ no_blocks
  unfolding blocks_told
  begun_none w call = ap (blocks_told (pending_before w) no_blocks) call

  pub begun_with : HasBegun at lane v wants → HasBegunWith at lane blocks v wants
  begun_with begun =
      let same : blocks_in begun.view ≡ no_blocks = begun_none begun.view begun.call in
      record {
        begun = begun;
        opens = λ o sound few finds pages quiet reserved within free. record {
          work = begun.opens o sound few finds;
          lists = subst (ListsBlocks blocks) (sym same) none;
          pages = pages;
          alone = begun.same.table ∙ alone;
          not_making = quiet;
          borne_out = begun_borne_out begun.view begun.call (All-weaker (LiesInReserved begun.view) (IsReservedFor begun.view) (reserved_for begun.view) (reserved_in begun.view) within);
          freed_held = none_freed lane.locks.items blocks.freed none.freed;
          within = λ n there. absurd (no_member n (subst (λ (b : CallBlocks). Contains b.made n) same there));
          has_reserved = reserved;
          reserved_within = within;
          reserved_free = free;
        };
      }
