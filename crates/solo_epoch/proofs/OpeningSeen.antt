-- What a lane that works alone finds of blocks is as at the opening of its world.
use Rattle.std.proofs.Common.{◌≡◌, Some, inl, refl, arith}
use Rattle.std.specs.Option.{IfSome}
use Rattle.std.proofs.lemmas.List.Elements.{All-weaker}
use Rattle.pm_header.specs.declared.header.Header.{Header}
use Rattle.pm_objects.specs.declared.pool.PoolView.{PoolView}
use Rattle.solo_view.specs.Blocks.{block_at, descriptor_word}
use Rattle.solo_view.specs.View.{Lock, View}
use Rattle.solo_world.specs.Fits.{LaneFits, LockFits}
use Rattle.solo_world.specs.History.{Flies, settled}
use Rattle.solo_world.specs.Opening.{Opening}
use Rattle.solo_undo.specs.Working.{FindsOpening}
use Rattle.solo_crash.proofs.AloneCourse.{StandsAlone}
use Rattle.solo_crash.proofs.AloneMemory.{memory_of}
use Rattle.solo_crash.proofs.SoundPools.{telling_word}
use Rattle.solo_epoch.proofs.StandingPools.{own_fits}

pub finds_opening : (o : Opening) (header : Header) (pool : PoolView) (b : View) → StandsAlone o header pool b → FindsOpening o b
finds_opening o header pool b s =
    let fits : LaneFits o (memory_of b) (settled o s.log s.decided) (Flies s.log s.decided 0) 0 b = own_fits o header pool b s in
    record {
      lane = (let first = fits.lane.lane in let lanes = fits.lane.lanes in let some = s.goes.in_lanes in omega (arith, first, lanes, some));
      lanes = fits.lane.lanes;
      size = fits.lane.size;
      descriptors = λ page chunk taken. telling_word o header pool b s page (descriptor_word o.lanes page) chunk taken (inl refl);
      locks = All-weaker (LockFits o (memory_of b) 0) (λ (l : Lock). IfSome l.block (λ lines. block_at o.lanes o.words l.line ≡ Some lines)) (λ l fits. fits.found) b.locks fits.locks;
    }
