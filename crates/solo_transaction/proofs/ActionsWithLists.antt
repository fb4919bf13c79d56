-- Behind an operation that tells nothing of the heap, and makes no memory call or only settles, a lane has its lists still.
use Rattle.std.proofs.Common.{◌≡◌, ℕ, List, [], ◌∷◌, Contains, slice_index, Option, None, refl, sym, ◌∙◌, ap, subst}
use Rattle.pm_image.specs.Blocks.{chunk_word, descriptor_word}
use Rattle.solo_made.specs.Made.{BlockLists}
use Rattle.pm_objects.specs.declared.calls.Operation.{Operation}
use Rattle.pm_objects.specs.declared.calls.Operation.TheVariants.{Cancel}
use Rattle.pm_objects.specs.declared.history.Value.{Value}
use Rattle.solo_view.proofs.Sequences.{after_all-append}
use Rattle.solo_view.specs.Steps.Step.{Tell}
use Rattle.solo_view.specs.View.{View}
use Rattle.solo_view.specs.Views.{after, after_all}
use Rattle.solo_world.specs.Opening.{Opening}
use Rattle.solo_world.specs.Sequences.{in_turn, one, settles}
use Rattle.solo_world.specs.declared.lane.HeldLock.{HeldLock}
use Rattle.solo_world.specs.declared.lane.Lane.{Lane}
use Rattle.solo_crash.proofs.CallBlocks.{blocks_once_more, same_blocks}
use Rattle.solo_crash.proofs.ReservedStays.{quietly_stays, told_stays}
use Rattle.solo_crash.specs.Operations.{KeepsKnown, Tells, TellsNothing}
use Rattle.solo_crash.specs.CallBlocks.{LeavesReserved, TellsOfRoot, blocks_in}
use Rattle.solo_crash.specs.Pending.{pending_in}
use Rattle.solo_undo.proofs.Settled.{settle_lawful}
use Rattle.solo_crash.proofs.StillReserved.{HasSameHeads}
use Rattle.solo_tx.specs.Actions.{HasCanceled, cancels}
use Rattle.solo_tx.specs.AtWork.{IsAtWork}
use Rattle.solo_transaction.proofs.GoingWith.{Keeps, keeps_quiet, keeps_told, kept_of, with_lists}
use Rattle.solo_transaction.specs.AtWork.{IsAtWorkWith}

keeps_behind_tell : (locks : List HeldLock) (blocks : BlockLists) (v : View) → Keeps locks blocks v → (op : Operation) (reply : Option Value) → blocks_in (after v (Tell op reply)) ≡ blocks_in v → LeavesReserved op reply (pending_in v)
    → ((root : Option ℕ) → TellsOfRoot root op reply (pending_in v)) → Keeps locks blocks (after v (Tell op reply))
keeps_behind_tell locks blocks v keeps op reply same none no_root =
    let told : View = after v (Tell op reply) in
    let heads : HasSameHeads v told = record { lanes = refl; zones = refl; reserved = refl; described = λ c in_pool. refl; bitmaps = λ c in_pool run. refl; root = refl } in
    let tells : Tells v told op reply = record { keeps = record { lanes = refl; zones = refl; pool = refl; lane = refl; entries = refl; known = λ i there. there }; locks = refl; call = refl } in
    let known : KeepsKnown v told = record { known = λ i outside there. refl; recorded = λ i outside is. refl } in
    keeps_told v told heads locks blocks keeps refl refl same op reply refl refl none no_root
    (told_stays v told op reply keeps.has_reserved tells known none (sym (blocks_once_more v told op reply refl refl) ∙ same))

module _ {M : Type 0} (o : Opening) (at : M → View → Type 0) (lane next : Lane M) (blocks : BlockLists) (v : View) (is : IsAtWorkWith o at lane blocks v) (locks : next.locks ≡ lane.locks) where
  keeps_as : Keeps next.locks.items blocks v
  keeps_as = subst (λ ls. Keeps ls.items blocks v) (sym locks) (kept_of o at lane blocks v is)

  pub told_with_lists : (op : Operation) (reply : Option Value) → blocks_in (after v (Tell op reply)) ≡ blocks_in v → LeavesReserved op reply (pending_in v) → ((root : Option ℕ) → TellsOfRoot root op reply (pending_in v))
      → IsAtWork o at next (after v (Tell op reply)) → IsAtWorkWith o at next blocks (after v (Tell op reply))
  told_with_lists op reply same none no_root work = with_lists o at next blocks (after v (Tell op reply)) work (keeps_behind_tell next.locks.items blocks v keeps_as op reply same none no_root)

  abbrev m : View
  m = after_all v (settles v)

  -- nothing changes as all is made persistent but what is undrained
  keeps_settled : Keeps next.locks.items blocks m
  keeps_settled =
      let settled = (settle_lawful v).1 in
      let words : (i : ℕ) → slice_index m.words i ≡ slice_index v.words i = λ i. ap (λ (u : View). slice_index u.words i) settled in
      let entries = ap (λ (u : View). u.entries) settled in
      let call = ap (λ (u : View). u.call) settled in
      let quietly : TellsNothing v m = record {
        keeps = record {
          lanes = ap (λ (u : View). u.lanes) settled;
          zones = ap (λ (u : View). u.zones) settled;
          pool = ap (λ (u : View). u.pool) settled;
          lane = ap (λ (u : View). u.lane) settled;
          entries = entries;
          known = λ i there. subst (λ (u : View). Contains u.known i) (sym settled) there;
        };
        locks = ap (λ (u : View). u.locks) settled;
        call = call;
      } in
      let known : KeepsKnown v m = record { known = λ i outside there. words i; recorded = λ i outside is. words i } in
      let heads : HasSameHeads v m = record {
        lanes = ap (λ (u : View). u.lanes) settled;
        zones = ap (λ (u : View). u.zones) settled;
        reserved = ap (λ (u : View). u.reserved) settled;
        described = λ c in_pool. words (descriptor_word v.lanes c);
        bitmaps = λ c in_pool run. words (chunk_word v.lanes c);
        root = words 64;
      } in
      keeps_quiet v m heads next.locks.items blocks keeps_as (ap (λ (u : View). u.table) settled) (ap (λ (u : View). u.zone_locks) settled) (same_blocks v m entries call) entries call (quietly_stays v m keeps_as.has_reserved quietly known)

  pub canceled_with_lists : HasCanceled o at next v → IsAtWorkWith o at next blocks (after_all v (cancels v))
  unfolding cancels in_turn one after_all
  canceled_with_lists canceled =
      let both = after_all-append v (settles v) (Tell Cancel None ∷ []) in
      with_lists o at next blocks (after_all v (cancels v)) canceled.works
      (subst (Keeps next.locks.items blocks) (sym both) (keeps_behind_tell next.locks.items blocks m keeps_settled Cancel None (same_told m) (refl, refl) (λ root. tt)))
    where
      same_told : (u : View) → blocks_in (after u (Tell Cancel None)) ≡ blocks_in u
      same_told u = blocks_once_more u (after u (Tell Cancel None)) Cancel None refl refl
