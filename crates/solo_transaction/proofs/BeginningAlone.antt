-- A lane alone that began a transaction where it may begin works alone there, and is at work with its lists.
use Rattle.std.proofs.Common.{All, List, arith}
use Rattle.pm_header.specs.declared.header.Header.{Header}
use Rattle.pm_objects.specs.declared.calls.Want.{Want}
use Rattle.pm_objects.specs.declared.pool.PoolView.{PoolView}
use Rattle.solo_view.specs.View.{View}
use Rattle.solo_world.specs.Opening.{Opening}
use Rattle.solo_world.specs.declared.lane.Lane.{Lane}
use Rattle.solo_crash.proofs.AloneCourse.{StandsAlone, begins_alone, begins_holds, stands_at}
use Rattle.solo_crash.specs.Alone.{Begins, WorksAlone}
use Rattle.solo_crash.specs.CallBlocks.{reserved_in}
use Rattle.solo_crash.specs.Reserving.{HasReserved}
use Rattle.solo_epoch.proofs.OpeningSeen.{finds_opening}
use Rattle.solo_made.specs.Made.{BlockLists}
use Rattle.solo_transaction.proofs.NotMaking.{not_making_led}
use Rattle.solo_transaction.specs.AtWork.{AreForPool, IsAtWorkWith, IsNotMaking, LiesInReserved}
use Rattle.solo_transaction.specs.Beginning.{HasBegunWith}
use Rattle.solo_transaction.specs.Published.{HasOwnCounts}
use Rattle.solo_crash.specs.Reserved.{LiesFree, IsReservedFor}
use Rattle.solo_crash.proofs.LyingStill.{reserved_lies_free}
use Rattle.solo_transaction.proofs.Begun.{reserved_for}
use Rattle.std.proofs.lemmas.List.Elements.{All-weaker}

module _ {M : Type 0} (o : Opening) (header : Header) (pool : PoolView) (at : M → View → Type 0) (v : View) (lane : Lane M) (blocks : BlockLists) (wants : List Want) (begins : Begins o header pool v) (has : HasBegunWith at lane blocks v wants)
    (counts : HasOwnCounts has.begun.view) where
  abbrev w : View
  w = has.begun.view

  pub begun_works : WorksAlone o header pool v has.begun.led.steps w
  begun_works = record { begins = begins; leads = has.begun.led.leads; numbered = counts.numbered; within = counts.within }

  stands : StandsAlone o header pool w
  stands = stands_at o header pool v has.begun.led.steps w begins has.begun.led.leads counts.numbered counts.within

  module _ (pages : AreForPool blocks v) (making_none : IsNotMaking v) (reserved : HasReserved w) (within : All (LiesInReserved w) (reserved_in w)) where
    quiet : IsNotMaking w
    quiet = not_making_led v w has.begun.same has.begun.led (begins_alone o header pool v begins) making_none

    pub begun_at_work : IsAtWorkWith o at lane blocks w
    begun_at_work =
        has.opens o stands.goes.world.sound (begins_holds o header pool v begins).1.has_header.has_shape.shape.zones_to (finds_opening o header pool w stands)
        (let lanes = has.begun.same.lanes in let zones = has.begun.same.zones in omega (arith, pages, lanes, zones)) quiet reserved within
        (All-weaker (IsReservedFor w) (LiesFree w) (reserved_lies_free o header pool v w has.begun.led.steps begun_works) (reserved_in w) (All-weaker (LiesInReserved w) (IsReservedFor w) (reserved_for w) (reserved_in w) within))
