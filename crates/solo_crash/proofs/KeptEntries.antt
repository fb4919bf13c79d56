-- What a power failure leaves of one lane's course: its history, or all of it but the last entry.
use Rattle.std.proofs.Common.{◌≡◌, ◌≢◌, ⊎_elim, ℕ, suc, ◌+◌, ◌-◌, ◌<◌, ◌≤◌, Bool, true, false, not, List, [], ◌∷◌, length, take, slice_index, Option, Some, None, refl, sym, ◌∙◌, ap, subst, arith}
use Rattle.std.specs.List.{Contains, filter}
use Rattle.std.specs.Option.{option_or}
use Rattle.std.proofs.lemmas.Bool.{and_parts, cases_Bool, cases_eq, cases_lt, cond-false, cond-true, eqb-true, false_from_ne_true, false≢true, not_from_false}
use Rattle.pm_header.specs.declared.header.Header.{Header}
use Rattle.pm_objects.specs.declared.pool.PoolView.{PoolView}
use Rattle.pm_image.specs.declared.fault.ImageFault.{ImageFault}
use Rattle.pm_image.specs.HeapFaults.{heap_fault}
use Rattle.pm_image.specs.LogFaults.{log_fault}
use Rattle.pm_image.specs.Logs.{recovered_at}
use Rattle.pm_image.specs.Means.{IsMeaning}
use Rattle.pm_image.proofs.Members.{first_member, later_member, member_cases}
use Rattle.solo_view.specs.Area.{area_word}
use Rattle.solo_view.specs.Log.{Phase}
use Rattle.solo_view.specs.Log.Phase.{Idle}
use Rattle.solo_view.specs.View.{View}
use Rattle.solo_world.specs.Course.{is_number}
use Rattle.solo_world.specs.Crash.{IsAcknowledged, MeansKept, NoneTorn, Survives, is_deciding_in, is_kept, is_lost, loses}
use Rattle.solo_world.specs.History.{AreNumbered, Entry}
use Rattle.solo_world.specs.Memory.{Memory}
use Rattle.solo_world.specs.Memory.Location.{PoolWord}
use Rattle.solo_world.specs.Opening.{Opening, TellsOfBlocks}
use Rattle.solo_world.specs.Opens.{IsClean}
use Rattle.solo_world.specs.World.{Views}
use Rattle.solo_world.proofs.CrashRuns.{crash_law}
use Rattle.solo_world.proofs.Losses.{acknowledged, some_lane}
use Rattle.solo_crash.specs.Held.{HoldsImage}
use Rattle.solo_crash.specs.OneLane.{Begins, BeginsBetween, HoldsReplay, IsCourse, MeansReplay, Moment, Move, beginning, kept_entries}
use Rattle.solo_crash.proofs.CleanWords.{clean_words_hold}
use Rattle.solo_crash.proofs.FrontWords.{header_survives}
use Rattle.solo_crash.proofs.InFlight.{tells_as_opening}
use Rattle.solo_crash.proofs.ImageLogs.{no_log_fault}
use Rattle.solo_crash.proofs.LogCourse.{InRange}
use Rattle.solo_crash.proofs.LongerReplays.{replayed_without, words_after}
use Rattle.solo_crash.proofs.NewRuns.{image_holds}
use Rattle.solo_crash.proofs.OneCourse.{Goes, Reaches, goes_along, goes_between, goes_first}

is_number-some : (number : Option ℕ) (n : ℕ) → is_number number n ≡ true → number ≡ Some n
is_number-some None n e = absurd (false≢true e)
is_number-some (Some m) n e = ap Some (eqb-true m n e)

-- where all entries but the last pass the test, those that pass are the first so many
record FirstOf (keep : Entry → Bool) (n : ℕ) (log entries : List Entry) : Type 0 where
  count : ℕ
  within : count ≤ length log
  are : entries ≡ take count log
  -- these are all of so many that pass it themselves
  upto : (bound : ℕ) → bound ≤ length log → ((e : Entry) → Contains log e → e.number < n + bound → keep e ≡ true) → bound ≤ count

first_of : (keep : Entry → Bool) (n : ℕ) (log : List Entry) → AreNumbered n log → ((e : Entry) → Contains log e → e.number + 1 < n + length log → keep e ≡ true) → FirstOf keep n log (filter keep log)
unfolding AreNumbered
first_of keep n [] numbered earlier = record { count = 0; within = omega arith; are = refl; upto = λ bound low pass. low }
first_of keep n (e ∷ []) numbered earlier = ⊎_elim
    (λ (kept : keep e ≡ true). record { count = 1; within = omega arith; are = cond-true (keep e) (e ∷ []) [] kept; upto = λ bound low pass. low })
    (λ (lost : keep e ≡ false). record {
      count = 0;
      within = omega arith;
      are = cond-false (keep e) (e ∷ []) [] lost;
      upto = λ bound low pass. ⊎_elim (λ (none : bound < 1). omega (arith, none)) (λ (some : 1 ≤ bound). let number = numbered.0 in absurd (false≢true (sym lost ∙ pass e (first_member e []) (omega (arith, number, some))))) (cases_lt bound 1);
    })
    (cases_Bool (keep e))
first_of keep n (e ∷ d ∷ log) numbered earlier =
    let number = numbered.0 in
    let kept : keep e ≡ true = earlier e (first_member e (d ∷ log)) (omega arith) in
    let rest = first_of keep (n + 1) (d ∷ log) numbered.1 (λ x there low. earlier x (later_member e (d ∷ log) x there) (omega arith)) in
    let few = rest.within in
    record {
      count = suc rest.count;
      within = omega arith;
      are = cond-true (keep e) (e ∷ filter keep (d ∷ log)) (filter keep (d ∷ log)) kept ∙ ap (λ (es : List Entry). e ∷ es) rest.are;
      upto = λ bound low pass. ⊎_elim (λ (none : bound < 1). omega (arith, none))
          (λ (some : 1 ≤ bound). let more = rest.upto (bound - 1) (omega (arith, low, some)) (λ x there less. pass x (later_member e (d ∷ log) x there) (omega (arith, less, some))) in omega (arith, more, some)) (cases_lt bound 1);
    }

-- an entry that passes is there
pub passes_there : (keep : Entry → Bool) (log : List Entry) (e : Entry) → Contains log e → keep e ≡ true → Contains (filter keep log) e
passes_there keep [] e there kept = there
passes_there keep (d ∷ log) e there kept = ⊎_elim
    (λ (here : d ≡ e).
    let passes : keep d ≡ true = ap keep here ∙ kept in
    subst (λ (es : List Entry). Contains es e) (sym (cond-true (keep d) (d ∷ filter keep log) (filter keep log) passes)) (subst (λ (x : Entry). Contains (x ∷ filter keep log) e) (sym here) (first_member e (filter keep log))))
    (λ (later : Contains log e).
    let rest : Contains (filter keep log) e = passes_there keep log e later kept in
    ⊎_elim
    (λ (passes : keep d ≡ true). subst (λ (es : List Entry). Contains es e) (sym (cond-true (keep d) (d ∷ filter keep log) (filter keep log) passes)) (later_member d (filter keep log) e rest))
    (λ (fails : keep d ≡ false). subst (λ (es : List Entry). Contains es e) (sym (cond-false (keep d) (d ∷ filter keep log) (filter keep log) fails)) rest)
    (cases_Bool (keep d)))
    (member_cases d log e there)

module _ (o : Opening) (k : ℕ) (header : Header) (pool : PoolView) (m : Moment) (g : Goes o k header pool m) (image : List ℕ) where
  idle_keeps : (v : View) (n : ℕ) (phase : Phase) → phase ≡ Idle → v.log.phase ≡ phase → loses image v n ≡ true → ⊥
  idle_keeps v n phase idle is e =
      let t = and_parts (is_number v.number n) (not (is_deciding_in image v v.log.phase)) e in
      false≢true (sym (ap (λ (p : Phase). not (is_deciding_in image v p)) (is ∙ idle)) ∙ t.1)

  -- only the last entry can be lost
  lost_last : (n : ℕ) → is_lost o m.views image n ≡ true → n ≡ length m.log
  lost_last n lost =
      let t = some_lane (λ j. loses image (m.views j) n) 0 o.lanes lost in
      ⊎_elim
      (λ (same : t.0 ≡ k).
      let e : loses image (m.views k) n ≡ true = subst (λ j. loses image (m.views j) n ≡ true) same t.3 in
      g.newest n (is_number-some (m.views k).number n (and_parts (is_number (m.views k).number n) (not (is_deciding_in image (m.views k) (m.views k).log.phase)) e).0))
      (λ (other : t.0 ≢ k). absurd (idle_keeps (m.views t.0) n Idle refl (g.others t.0 (let high = t.2 in omega arith) other) t.3))
      (cases_eq t.0 k)

  -- and none of those that were over as the world began
  lost_behind : (n : ℕ) → is_lost o m.views image n ≡ true → g.over < n
  lost_behind n lost =
      let t = some_lane (λ j. loses image (m.views j) n) 0 o.lanes lost in
      ⊎_elim
      (λ (same : t.0 ≡ k).
      let e : loses image (m.views k) n ≡ true = subst (λ j. loses image (m.views j) n ≡ true) same t.3 in
      let number = is_number-some (m.views k).number n (and_parts (is_number (m.views k).number n) (not (is_deciding_in image (m.views k) (m.views k).log.phase)) e).0 in
      ⊎_elim (λ (behind : g.over < n). behind) (λ (before : n ≤ g.over). absurd (idle_keeps (m.views k) n Idle refl (g.behind n number before) e)) (cases_lt g.over n))
      (λ (other : t.0 ≢ k). absurd (idle_keeps (m.views t.0) n Idle refl (g.others t.0 (let high = t.2 in omega arith) other) t.3))
      (cases_eq t.0 k)

  kept_first : FirstOf (λ (e : Entry). is_kept o m.views image e.number) 1 m.log (kept_entries o m image)
  kept_first =
      first_of (λ (e : Entry). is_kept o m.views image e.number) 1 m.log g.world.numbered
      (λ e there low. not_from_false (is_lost o m.views image e.number) (false_from_ne_true (is_lost o m.views image e.number) (λ lost. let last = lost_last e.number lost in omega arith)))

  kept_over : g.over ≤ kept_first.count
  kept_over = kept_first.upto g.over g.few (λ e there low.
      not_from_false (is_lost o m.views image e.number) (false_from_ne_true (is_lost o m.views image e.number) (λ lost. let last = lost_behind e.number lost in omega (arith, last, low))))

  kept_reached : Reaches o header pool (kept_entries o m image)
  kept_reached = subst (Reaches o header pool) (sym kept_first.are) (g.reached kept_first.count kept_over kept_first.within)

  pub image_replays : Survives o m.memory m.views image → NoneTorn o m.views image → HoldsReplay (recovered_at image o.lanes) o.lanes o.zones header pool (kept_entries o m image)
  image_replays survives whole = record {
    last = kept_reached.last;
    replays = kept_reached.replays;
    holds =
        image_holds o (words_after (slice_index o.words) (kept_entries o m image)) kept_heads g.world.sound image survives.size
        (λ i living. kept.words i living ∙ replayed_without (is_kept o m.views image) m.log i (slice_index o.words i)) kept.new_runs header kept_reached.last kept_reached.holds;
  } where
    -- what tells of blocks is as at the opening
    kept_heads : (i : ℕ) → TellsOfBlocks o i → words_after (slice_index o.words) (kept_entries o m image) i ≡ slice_index o.words i
    kept_heads i tells =
        sym (replayed_without (is_kept o m.views image) m.log i (slice_index o.words i)) ∙ tells_as_opening o m.memory m.views m.log m.decided g.world (is_kept o m.views image) i tells

    kept : MeansKept o m.views m.log image
    kept = crash_law o m.memory m.views m.log m.decided image g.world survives whole

  pub acknowledged_kept : (e : Entry) → Contains m.log e → IsAcknowledged m.views e → Contains (kept_entries o m image) e
  acknowledged_kept e there ended =
      passes_there (λ (d : Entry). is_kept o m.views image d.number) m.log e there (acknowledged o m.memory m.views m.log m.decided image e g.world there ended)

  -- the image has the header and no fault in its logs, so that it means the pool
  pub image_means : (now : PoolView) → HoldsImage o.words o.lanes o.zones header now → ((j : ℕ) → j < o.lanes → IsClean o j) → Survives o m.memory m.views image → NoneTorn o m.views image
      → (held : HoldsReplay (recovered_at image o.lanes) o.lanes o.zones header pool (kept_entries o m image)) → IsMeaning image held.last
  image_means now holds clean survives whole held =
      let ranges : (j : ℕ) → j < o.lanes → InRange (m.memory (PoolWord (area_word j))) (m.views j) (m.views j).log.phase = λ j low. ⊎_elim
      (λ (same : j ≡ k). subst (λ n. InRange (m.memory (PoolWord (area_word n))) (m.views n) (m.views n).log.phase) (sym same) g.range)
      (λ (other : j ≢ k). subst (InRange (m.memory (PoolWord (area_word j))) (m.views j)) (sym (g.others j low other)) tt)
      (cases_eq j k) in
      let none : log_fault image o.lanes o.zones ≡ None =
      no_log_fault o m.memory m.views m.log m.decided g.world image survives whole ranges (clean_words_hold o header now holds clean).no_fault in
      record {
        lanes = o.lanes;
        zones = o.zones;
        header = header;
        has_header = header_survives o m.memory m.views m.log m.decided g.world header image survives g.front holds.has_header;
        fits = holds.fits;
        no_fault = ap (λ (found : Option ImageFault). option_or found (heap_fault (recovered_at image o.lanes) o.lanes o.zones)) none ∙ held.holds.no_fault;
        is_pool = held.holds.is_pool;
      }

module _ (o : Opening) (memory : Memory) (views : Views) (k : ℕ) (header : Header) (pool : PoolView) (steps : List Move) (m : Moment) (image : List ℕ) where
  pub replay_held : Begins o memory views k header pool → IsCourse o k (beginning memory views) steps m → Survives o m.memory m.views image → NoneTorn o m.views image
      → HoldsReplay (recovered_at image o.lanes) o.lanes o.zones header pool (kept_entries o m image)
  replay_held begins course = image_replays o k header pool m (goes_along o k header pool (beginning memory views) steps m (goes_first o memory views k header pool begins) course) image

  pub ended_kept : Begins o memory views k header pool → IsCourse o k (beginning memory views) steps m → (e : Entry) → Contains m.log e → IsAcknowledged m.views e → Contains (kept_entries o m image) e
  ended_kept begins course = acknowledged_kept o k header pool m (goes_along o k header pool (beginning memory views) steps m (goes_first o memory views k header pool begins) course) image

  pub replay_meant : Begins o memory views k header pool → IsCourse o k (beginning memory views) steps m → Survives o m.memory m.views image → NoneTorn o m.views image
      → MeansReplay image pool (kept_entries o m image)
  replay_meant begins course survives whole =
      let g : Goes o k header pool m = goes_along o k header pool (beginning memory views) steps m (goes_first o memory views k header pool begins) course in
      let held = image_replays o k header pool m g image survives whole in
      record { last = held.last; replays = held.replays; means = image_means o k header pool m g image pool begins.holds begins.clean survives whole held }

  -- the same from between calls on
  module _ (first : Moment) (begins : BeginsBetween o k header pool first) (course : IsCourse o k first steps m) where
    goes : Goes o k header pool m
    goes = goes_along o k header pool first steps m (goes_between o k header pool first begins) course

    pub between_held : Survives o m.memory m.views image → NoneTorn o m.views image → HoldsReplay (recovered_at image o.lanes) o.lanes o.zones header pool (kept_entries o m image)
    between_held = image_replays o k header pool m goes image

    pub between_meant : Survives o m.memory m.views image → NoneTorn o m.views image → MeansReplay image pool (kept_entries o m image)
    between_meant survives whole =
        let held = between_held survives whole in
        record { last = held.last; replays = held.replays; means = image_means o k header pool m goes image begins.now begins.holds begins.clean survives whole held }

    pub between_ended : (e : Entry) → Contains m.log e → IsAcknowledged m.views e → Contains (kept_entries o m image) e
    between_ended = acknowledged_kept o k header pool m goes image
