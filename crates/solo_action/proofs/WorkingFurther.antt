-- A lane that works alone does so where it was led, with its own numbers.
use Rattle.std.proofs.Common.{List, ◌++◌}
use Rattle.solo_crash.proofs.Leading.{leads_then}
use Rattle.solo_crash.specs.Alone.{WorksAlone}
use Rattle.pm_header.specs.declared.header.Header.{Header}
use Rattle.pm_objects.specs.declared.pool.PoolView.{PoolView}
use Rattle.solo_view.specs.Steps.{Step}
use Rattle.solo_view.specs.View.{View}
use Rattle.solo_world.specs.Opening.{Opening}
use Rattle.solo_lock.specs.Leading.{IsLed}
use Rattle.solo_transaction.specs.Published.{HasOwnCounts}

pub works_further : (o : Opening) (header : Header) (pool : PoolView) (start v w : View) (steps : List Step) → WorksAlone o header pool start steps v → (led : IsLed v w) → HasOwnCounts w → WorksAlone o header pool start (steps ++ led.steps) w
works_further o header pool start v w steps works led own =
    record { begins = works.begins; leads = leads_then start v w steps led.steps works.leads led.leads; numbered = own.numbered; within = own.within }
