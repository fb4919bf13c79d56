-- What a lane has where it begins, and at views that it comes to from there without a counted call.
use Rattle.std.proofs.Common.{◌≡◌, ◌≤◌, ℕ, List, Option, sym, subst, ◌∙◌}
use Rattle.std.specs.Option.{ForSome}
use Rattle.solo_crash.proofs.AloneCourse.{begins_alone, begins_holds, begins_idle, begins_lane, begins_words, stands_at, stands_begun}
use Rattle.solo_crash.proofs.SeenAlone.{works_where_seen}
use Rattle.solo_crash.specs.Alone.{WorksAlone}
use Rattle.solo_epoch.proofs.OpeningSeen.{finds_opening}
use Rattle.solo_lock.proofs.LookedAlone.{led_words}
use Rattle.solo_lock.specs.Leading.{IsLed}
use Rattle.solo_made.specs.Made.{BlockLists}
use Rattle.solo_memory.specs.Solo.{Sees, Solo}
use Rattle.solo_pending.specs.declared.pending.PendingActions.{PendingActions}
use Rattle.solo_transaction.specs.Published.{HasOwnCounts}
use Rattle.solo_undo.specs.Working.{FindsOpening}
use Rattle.solo_view.specs.Founds.{IsAlone}
use Rattle.solo_view.specs.Log.{no_log}
use Rattle.solo_view.specs.Log.Phase.{Idle}
use Rattle.solo_view.specs.View.{View}
use Rattle.solo_world.specs.Opening.{IsSound, Opening}
use Rattle.solo_world.specs.declared.lane.Lane.{Lane}
use Rattle.solo_exec.specs.Progress.{IsStart}

-- a lane's own counts, as its memory has them
pub own_counts : (m : Solo) (w : View) → Sees m w → HasOwnCounts w
own_counts m w seen = record { numbered = seen.numbers; within = subst (λ (stop : Option ℕ). ForSome stop (λ s. w.calls ≤ s)) (sym seen.stop) seen.within }

module _ (o : Opening) (lane : Lane Solo) (blocks : BlockLists) (actions : PendingActions) (v : View) (is : IsStart o lane blocks actions v) where
  pub start_lane : v.lane ≡ 0
  start_lane = begins_lane o is.header is.pool v is.begins

  pub start_idle : v.log ≡ no_log Idle
  start_idle = begins_idle o is.header is.pool v is.begins

  pub start_alone : IsAlone v
  start_alone = begins_alone o is.header is.pool v is.begins

  pub start_words : v.words ≡ o.words
  start_words = begins_words o is.header is.pool v is.begins

  -- the pool is sound
  pub start_sound : IsSound o
  start_sound = (stands_begun o is.header is.pool v is.begins).goes.world.sound

  -- it is found so, as its words stand, wherever a memory is seen as the view
  pub finds_led : (m : Solo) (w : View) → IsLed v w → Sees m w → FindsOpening o w
  finds_led m w led seen =
      let works : WorksAlone o is.header is.pool v led.steps w = works_where_seen o is.header is.pool m v w led.steps is.begins led.leads seen in
      finds_opening o is.header is.pool w (stands_at o is.header is.pool v led.steps w is.begins led.leads works.numbered works.within)

  pub words_led : (w : View) → IsLed v w → w.words ≡ o.words
  words_led w led = led_words v w led start_alone ∙ start_words
