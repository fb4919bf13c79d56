-- A FLUSH MARKS CHANGES of a lane, and changes nothing else that the world tells of it.
use Rattle.std.specs.Prelude.{All, List, [], ◌∷◌, length}
use Rattle.std.specs.List.{list_any}
use Rattle.std.specs.Option.{ForSome}
use Rattle.std.proofs.Common.{◌*◌, ◌≡◌, ℕ, zero, suc, ◌^◌, ◌<◌, ◌≤◌, Bool, true, false, ◌==◌, ◌&&◌, ◌||◌, not, refl, sym, ap, ◌∙◌, subst, arith}
use Rattle.std.specs.Int.{bit_at}
use Rattle.std.proofs.lemmas.List.{length-map}
use Rattle.pm_layout.specs.declared.shape.Shape.{Shape}
use Rattle.pm_layout.specs.Areas.{line_of_slot}
use Rattle.pm_layout.specs.Chunks.{words_of}
use Rattle.pm_view.specs.Changes.{Undrained, is_in_line, mark, flushed}
use Rattle.pm_view.specs.Counts.{max_changes}
use Rattle.pm_view.specs.Log.{Phase, Idle, Open, Drawn, Sealing, Applying, Clearing, Retiring, Voiding, Recorded, Log, old_in}
use Rattle.pm_view.specs.Parts.{SlotPart, part_of}
use Rattle.pm_view.specs.Places.{Place}
use Rattle.pm_view.specs.Steps.Step.{Flush}
use Rattle.pm_view.specs.View.{View}
use Rattle.pm_view.specs.Views.{after}
use Rattle.pm_world.specs.States.{Diff, given}
use Rattle.pm_world.specs.Sights.{is_use, is_slot_drained, is_logged_from, hold_of, sight_of}
use Rattle.pm_world.specs.Logs.{used_slots, AreaChange, PhaseFits}
use Rattle.pm_world.specs.Memory.{Memory}
use Rattle.pm_world.specs.World.{Opening, Past, LaneFits}
use Rattle.pm_world.specs.Laws.{Keeps}
use Rattle.pm_world.proofs.Worlds.{log_again}
use Rattle.pm_world.proofs.AfterStore.{stop_stays, counts_on}
use Rattle.pm_world.proofs.StepDraw.{all_cons}
use Rattle.pm_world.proofs.StepPlain.{plain_step}

-- ---- CHANGES THAT ARE MARKED
-- what is said of a change, whether it is flushed or not, is said of the marked one
marked : (line : ℕ) (P : Undrained → Type 0) → ((c : Undrained) → P c → P (record c { flushed = true })) → (c : Undrained) → P c → P (mark line c)
marked line P to c q = go (is_in_line line c)
  where
    go : (t : Bool) → P (Rattle.std.specs.Prelude.if◌then◌else◌ t (record c { flushed = true }) c)
    go true = to c q
    go false = q

all_marked : (line : ℕ) (P : Undrained → Type 0) → ((c : Undrained) → P c → P (record c { flushed = true })) → (changes : List Undrained) → All P changes → All P (flushed line changes)
all_marked line P to [] q = q
all_marked line P to (c ∷ t) q = all_cons P (mark line c) (flushed line t) (marked line P to c (q zero c (omega arith))) (all_marked line P to t (λ i d e. q (suc i) d (omega arith)))

any_marked : (line : ℕ) (f : Undrained → Bool) → ((c : Undrained) → f (record c { flushed = true }) ≡ f c) → (changes : List Undrained) → list_any f (flushed line changes) ≡ list_any f changes
any_marked line f same [] = refl
any_marked line f same (c ∷ t) = ap (λ a. a || list_any f (flushed line t)) (marked line (λ d. f d ≡ f c) (λ d q. same d ∙ q) c refl) ∙ ap (λ a. f c || a) (any_marked line f same t)

-- a call without changes has none after a flush
phase_marked : (sh : Shape) (lane line : ℕ) (picture : Diff) (l : Log) (changes : List Undrained) (ph : Phase) → PhaseFits sh lane picture l changes ph → PhaseFits sh lane picture l (flushed line changes) ph
phase_marked sh lane line picture l changes Idle f = f
phase_marked sh lane line picture l changes Open f = f
phase_marked sh lane line picture l changes (Drawn n) f = (ap (flushed line) f.0, f.1, f.2)
phase_marked sh lane line picture l changes (Sealing n) f = f
phase_marked sh lane line picture l changes (Applying t) f = f
phase_marked sh lane line picture l changes Clearing f = f
phase_marked sh lane line picture l changes (Retiring n) f = f
phase_marked sh lane line picture l changes Voiding f = f

logged_marked : (sh : Shape) (lane line : ℕ) (changes : List Undrained) (j : ℕ) (records : List Recorded) (p : Place) → is_logged_from sh lane (flushed line changes) j records p ≡ is_logged_from sh lane changes j records p
logged_marked sh lane line changes j [] p = refl
logged_marked sh lane line changes j (r ∷ t) p = ap (λ a. (given (old_in r p) && not a) || is_logged_from sh lane (flushed line changes) (suc j) t p) (any_marked line (is_in_line (line_of_slot sh lane j)) (λ c. refl) changes)
    ∙ ap (λ a. (given (old_in r p) && is_slot_drained sh lane changes j) || a) (logged_marked sh lane line changes (suc j) t p)

-- ---- THE LANE'S SIGHT IS THE SAME
sight_marked : (line : ℕ) (v : View) → sight_of (after v (Flush line)) ≡ sight_of v
sight_marked line v = λ i. record (sight_of v) {
  logged = λ p. logged_marked v.fixed.shape v.fixed.lane line v.changes 0 v.log.records p i;
  soiled = λ p b. is_use (hold_of v.fixed.shape v.claims) p && any_marked line (λ (c : Undrained). c.word == Rattle.pm_view.specs.Places.word_of v.fixed.shape p && bit_at c.mask b == 1) (λ c. refl) v.changes i;
}

lane_marked : (o : Opening) (mem : Memory) (g : Past) (k line : ℕ) (v : View) → LaneFits o mem g k v → ForSome v.fixed.stop (λ stop. length v.calls < stop) → LaneFits o mem g k (after v (Flush line))
lane_marked o mem g k line v f due = let l = f.log in record {
  lane = f.lane;
  shape = f.shape;
  lanes = f.lanes;
  log = log_again v.log.phase l l.bump l.sealed l.olds
      (all_marked line (λ (c : Undrained). part_of o.shape k c.word ≡ SlotPart → c.word < 8 * line_of_slot o.shape k (used_slots v.log)) (λ c q. q) v.changes l.slot_changes)
      (all_marked line (λ (c : Undrained). AreaChange v.log.phase (length v.log.entries) v.log.generation (part_of o.shape k c.word) c)
      (λ c q. q) v.changes l.area_changes)
      (phase_marked o.shape k line (sight_of v).picture v.log v.changes v.log.phase l.phase);
  made = f.made;
  recorded = λ u p r. let z = f.recorded u p r in (z.0, z.1);
  number = f.number;
  zones = f.zones;
  masks = all_marked line (λ (c : Undrained). (c.mask < 2 ^ 64) × (c.word < words_of o.shape)) (λ c q. q) v.changes f.masks;
  room = subst (λ n. n ≤ max_changes) (sym (length-map v.changes (mark line))) f.room;
  within = counts_on v.fixed.stop (length v.calls) due;
  alone = λ one. let a = f.alone one in record { words = a.words; occupancy = a.occupancy };
  entries = f.entries;
}

-- A FLUSH KEEPS THE WORLD
pub flush_keeps : (line : ℕ) → Keeps (Flush line)
flush_keeps line o mem new views views' g k x ink law moves t = (
  plain_step o mem new views views' g x k ink moves (after (views k) (Flush line)) t (sight_marked line (views k)) refl
      (stop_stays (views k).fixed.stop (length (views k).calls)) (lane_marked o mem g k line (views k) (x.each_lane k ink) (law.due refl)),
  tt,
)
