-- A lane alone that holds all that is pending, wherever it works alone: it may publish that, as a call that one log decides.
use Rattle.std.proofs.Common.{◌≤◌, List, length}
use Rattle.solo_crash.proofs.AloneCourse.{begins_holds}
use Rattle.solo_crash.specs.Alone.{WorksAlone}
use Rattle.solo_epoch.proofs.GainedObjects.{stood}
use Rattle.solo_epoch.proofs.OpeningSeen.{finds_opening}
use Rattle.pm_header.specs.declared.header.Header.{Header}
use Rattle.solo_made.specs.Made.{BlockLists}
use Rattle.pm_objects.specs.declared.pool.PoolView.{PoolView}
use Rattle.solo_pending.specs.declared.pending.PendingActions.{PendingActions}
use Rattle.solo_tx.proofs.Beginnings.{no_spans, works}
use Rattle.solo_view.specs.Founds.{IsAlone}
use Rattle.solo_view.specs.Steps.{Step}
use Rattle.solo_view.specs.View.{View}
use Rattle.solo_world.specs.Opening.{Opening}
use Rattle.solo_world.specs.declared.lane.Lane.{Lane}
use Rattle.solo_transaction.specs.Published.{HasOwnCounts}
use Rattle.solo_action.specs.Publishing.{HoldsToPublish}
use Rattle.solo_action.specs.PublishingAll.{HoldsAll, ListsPending, MayPublishPending, PublishLogs, entries_pending}
use Rattle.solo_action.proofs.NextBegun.{works_no_table}
use Rattle.solo_action.proofs.PublishedAlone.{may_publish_pending, publish_logs_some}

module _ {M : Type 0} (at : M → View → Type 0) (lane : Lane M) (pending : PendingActions) (v : View) (h : HoldsToPublish at lane pending v) where
  pub holds_alone : IsAlone v
  holds_alone = works_no_table h.world.0 h.world.1 h.world.2 h.world.3 v h.world.4 h.world.5

  -- in whatever world it works alone
  module _ (o : Opening) (header : Header) (pool : PoolView) (start : View) (steps : List Step) (alone : WorksAlone o header pool start steps v) where
    pub holds_all : HoldsAll o at lane pending v
    holds_all =
        let stands = stood o header pool start v steps alone in
        let is = h.begun in
        record {
          seen = is.seen;
          unharmed = is.unharmed;
          unstopped = is.unstopped;
          unlisted = is.unlisted;
          no_spans = no_spans at lane v is;
          working = works at lane v is;
          log = is.log;
          undrawn = is.undrawn;
          untold = is.untold;
          may_come = is.may_come;
          lines = is.lines;
          alone = holds_alone;
          not_making = h.not_making;
          sound = stands.goes.world.sound;
          zones = (begins_holds o header pool start alone.begins).1.has_header.has_shape.shape.zones_to;
          opening = finds_opening o header pool v stands;
          objects = h.holds.objects;
          holds = record { holds = record { in_lanes = is.area.lane; takes = h.holds.takes }; in_time = h.holds.in_time };
          frees = h.holds.frees;
          each = h.holds.each;
          not_root = h.holds.not_root;
          has_reserved = h.reserved;
          reserved_within = h.within;
          listed = h.listed;
        }

    pub may_publish_all : MayPublishPending lane.locks.items v
    may_publish_all = may_publish_pending holds_all alone

  abbrev pub holds_here : HoldsAll h.world.0 at lane pending v
  holds_here = holds_all h.world.0 h.world.1 h.world.2 h.world.3 h.world.4 h.world.5

  abbrev pub may_here : MayPublishPending lane.locks.items v
  may_here = may_publish_all h.world.0 h.world.1 h.world.2 h.world.3 h.world.4 h.world.5

  pub holds_somewhere : (o : Opening) × ((w : View) × (HoldsAll o at lane pending w × MayPublishPending lane.locks.items w))
  holds_somewhere = (h.world.0, (v, (holds_here, may_here)))

  pub logs_of : (blocks : BlockLists) → ListsPending lane.locks.items v blocks → 1 ≤ length (entries_pending pending v.lanes blocks) → PublishLogs v pending blocks
  logs_of blocks lists some o header pool start steps alone = publish_logs_some (holds_all o header pool start steps alone) alone lists some

  -- the numbers that it drew are its own
  pub own_counts : ((m : M) (u : View) → at m u → IsAlone u → HasOwnCounts u) → HasOwnCounts v
  own_counts counts = counts lane.memory v h.begun.seen.memory holds_alone
