-- A lane alone whose call went on to hold all that is pending: there it works alone, and what it has reserved stands.
use Rattle.std.proofs.Common.{◌≡◌, Contains, List, ◌++◌, slice_index, sym, ap, ◌∙◌, subst}
use Rattle.std.proofs.lemmas.List.Elements.{All-contains}
use Rattle.solo_crash.proofs.Includes.{made_member}
use Rattle.solo_crash.proofs.PendingOn.{same_before}
use Rattle.solo_crash.proofs.ReservedStays.{nothing_made, pending_at_rest, stands_again}
use Rattle.solo_crash.proofs.StillReserved.{HasSameHeads}
use Rattle.solo_crash.specs.Alone.{WorksAlone}
use Rattle.solo_crash.specs.CallBlocks.{reserved_in, reserved_object}
use Rattle.solo_crash.specs.Pending.{pending_before, pending_in}
use Rattle.solo_crash.specs.Reserved.{IsReservedFor}
use Rattle.solo_crash.specs.Reserving.{HasReserved, block_reserved}
use Rattle.solo_epoch.specs.Reserving.{IsAloneBetween}
use Rattle.pm_image.specs.Blocks.{chunk_word, descriptor_word}
use Rattle.pm_image.specs.Reads.{ReadsBlock}
use Rattle.solo_model.specs.Actions.{Pending, Reservation}
use Rattle.solo_pending.specs.AllPending.{IsPendingAs}
use Rattle.solo_pending.specs.declared.pending.PendingActions.{PendingActions}
use Rattle.solo_view.specs.Constants.{IsSameLane}
use Rattle.solo_view.specs.Founds.{IsAlone}
use Rattle.solo_view.specs.View.{View}
use Rattle.solo_world.specs.declared.lane.Lane.{Lane}
use Rattle.solo_lock.proofs.Leads.{led_same}
use Rattle.solo_lock.proofs.LookedAlone.{led_words}
use Rattle.solo_lock.proofs.Remembered.{led_remembers}
use Rattle.solo_transaction.proofs.GoingWith.{lies_still}
use Rattle.solo_transaction.proofs.NewWords.{may_fill}
use Rattle.solo_transaction.proofs.NotMaking.{not_making_able, not_making_led}
use Rattle.solo_transaction.proofs.RestingViews.{all_reserved, read_in_block}
use Rattle.solo_transaction.proofs.StandsBehindBegin.{apart_so}
use Rattle.solo_transaction.specs.AtWork.{LiesInReserved}
use Rattle.solo_transaction.specs.Published.{HasOwnCounts}
use Rattle.solo_action.specs.Holding.{BeginsToPublish, GoesOnTo, HoldsPending}
use Rattle.solo_action.specs.Publishing.{HoldsToPublish}
use Rattle.solo_action.proofs.RefusedHolding.{begun_alone}
use Rattle.solo_transaction.proofs.LyingReserved.{lies_in_reserved}
use Rattle.solo_action.proofs.WorkingFurther.{works_further}

module _ {M : Type 0} (at : M → View → Type 0) (old held : Lane M) (pending : PendingActions) (w : View) (is : BeginsToPublish at old pending w) (goes : GoesOnTo at held w (λ u. HoldsPending u (pending_before w)))
    (counts : (m : M) (u : View) → at m u → IsAlone u → HasOwnCounts u) where
  abbrev u : View
  u = goes.view

  alone : IsAlone w
  alone = begun_alone at old w is.begins

  lane : IsSameLane w u
  lane = led_same w u goes.led

  -- the world in which it began its call
  abbrev between : IsAloneBetween is.begins.world.0 is.begins.world.1 is.begins.world.2 is.begins.world.3 is.begins.world.4 w old.shape
  between = is.begins.world.5

  pub own_held : HasOwnCounts u
  own_held = counts held.memory u goes.begun.seen.memory (lane.table ∙ alone)

  works_held : WorksAlone is.begins.world.0 is.begins.world.1 is.begins.world.2 is.begins.world.3 (is.begins.world.4 ++ goes.led.steps) u
  works_held = works_further is.begins.world.0 is.begins.world.1 is.begins.world.2 is.begins.world.3 w u is.begins.world.4 between.outside.works goes.led own_held

  -- ---- what is reserved

  words : (i : _) → slice_index u.words i ≡ slice_index w.words i
  words i = ap (λ (ws : List _). slice_index ws i) (led_words w u goes.led alone)

  heads : HasSameHeads w u
  heads = record { lanes = lane.lanes; zones = lane.zones; reserved = goes.led.heap.reserved; described = λ c in_pool. words (descriptor_word w.lanes c); bitmaps = λ c in_pool run. words (chunk_word w.lanes c); root = words 64 }

  pending_same : pending_in u ≡ pending_in w
  pending_same = pending_at_rest u goes.begun.untold ∙ same_before w u goes.entries ∙ sym (pending_at_rest w is.begins.begun.untold)

  lay : (r : Reservation) → Contains (pending_in w).reserved r → LiesInReserved w (reserved_object r)
  lay r there = lies_in_reserved is.begins.world.0 is.begins.world.1 is.begins.world.2 is.begins.world.3 is.begins.world.4 w between.outside.works (reserved_object r)
      (All-contains (IsReservedFor w) (reserved_in w) (reserved_object r) between.outside.borne_out.pending (made_member reserved_object (pending_in w).reserved r there))

  lies : (r : Reservation) → Contains (pending_in u).reserved r → LiesInReserved u (reserved_object r)
  lies r there = lies_still w u heads (reserved_object r) (lay r (subst (λ (p : Pending). Contains p.reserved r) pending_same there))

  knows : (r : Reservation) (i : _) → Contains (pending_in w).reserved r → ReadsBlock (slice_index w.words) (block_reserved r) i → Contains u.known i
  knows r i there reads =
      let made = (between.outside.reserved.each r there).made in
      led_remembers w u goes.led alone i (may_fill w (reserved_object r) (lay r there) i (read_in_block w (reserved_object r) made i reads)).reserved (made.known i reads)

  stands : HasReserved u
  stands = stands_again w u between.outside.reserved (ap (λ (p : Pending). p.reserved) pending_same) (nothing_made u goes.begun.untold) lane.lanes lane.zones lane.lane knows (λ r there i reads. words i)
      (apart_so is.begins.world.0 is.begins.world.1 is.begins.world.2 is.begins.world.3 u (is.begins.world.4 ++ goes.led.steps) works_held lies)

  same : pending_before w ≡ pending_before u
  same = sym (same_before w u goes.entries)

  pub holds_to_publish : HoldsToPublish at held pending u
  holds_to_publish = record {
    begun = goes.begun;
    holds = subst (HoldsPending u) same goes.holds;
    sound = is.sound held.memory u goes.led goes.begun.seen.memory;
    listed = subst (IsPendingAs pending) same is.listed;
    not_making = not_making_led w u lane goes.led alone (not_making_able w old.shape between.outside.can);
    reserved = stands;
    within = all_reserved (LiesInReserved u) (pending_in u).reserved lies;
    world = (is.begins.world.0, is.begins.world.1, is.begins.world.2, is.begins.world.3, is.begins.world.4 ++ goes.led.steps, works_held);
  }
