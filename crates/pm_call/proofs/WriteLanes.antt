-- A WRITE, on a lane: what its function asks of the lane, and what it leaves.
use Rattle.std.proofs.Common.{◌≡◌, ℕ, ◌+◌, ◌*◌, ◌/◌, ◌^◌, ◌<◌, true, false, List, length, sym, ap, ◌∙◌, subst, rules, Option, None, Result, Ok, Err}
use Rattle.pm_memory.specs.Runs.{Made}
use Rattle.pm_memory.specs.declared.lane_mem.Stopped.{Stopped}
use Rattle.pm_model.specs.declared.stage.Stage.TheVariants as stage
use Rattle.pm_model.specs.Transaction.{covered_words}
use Rattle.pm_objects.specs.declared.calls.Operation.{Operation}
use Rattle.pm_objects.specs.declared.calls.Operation.TheVariants.{Write}
use Rattle.pm_objects.specs.declared.history.Value.{Value}
use Rattle.pm_objects.specs.declared.ids.Oid.{Oid}
use Rattle.pm_objects.specs.declared.refusal.Refusal.{Refusal}
use Rattle.pm_objects.specs.declared.refusal.Refusal.TheVariants as refusal
use Rattle.pm_view.specs.Steps.{Step}
use Rattle.pm_view.specs.Steps.Step.{Tell}
use Rattle.pm_view.specs.View.{View}
use Rattle.pm_view.specs.Views.{after_all}
use Rattle.pm_world.specs.LaneFields.{Fields, Standing, Works, fields_at}
use Rattle.pm_world.specs.Lawful.{Allowed}
use Rattle.pm_world.specs.declared.lane.Lane.{Lane}
use Rattle.pm_crash.specs.Writes.{written_word}
use Rattle.pm_crash.proofs.Covered.{covered_has_byte}
use Rattle.pm_plan.specs.Plans.{IsMade, IsReady, Ready, Runs, in_turn, known_word, looks, one, stores}
use Rattle.pm_plan.proofs.Plans.{after_all-append, ready_left, ready_right, runs_err, runs_then}
use Rattle.pm_undo.specs.Working.{IsWorking}
use Rattle.pm_call.specs.At.{At}
use Rattle.pm_call.specs.Did.{Acted, Came, Cut, Done, IsAtSo, IsUnrefused}
use Rattle.pm_call.specs.Plans.{puts, tells, writes_word, writes_words}
use Rattle.pm_call.specs.Writing.{MayPut}
use Rattle.pm_call.proofs.AddedLanes.{at_once}
use Rattle.pm_call.proofs.LockedRanges.{range_low}
use Rattle.pm_call.proofs.UnwrittenStops.{puts_unwritten}
use Rattle.pm_call.proofs.RangeWrites.{LeadsPut, leads_write, one_covered}

-- ---- one word

pub word_look : (old : View → Type 0) (place : ℕ) (bytes : List ℕ) (w : ℕ) → IsReady old (writes_word place bytes w) → IsReady old (looks w)
unfolding IsReady writes_word in_turn
word_look old place bytes w r = (r.0, (r.1.0, ready_left r.0 (looks w r.0) (stores w (written_word place bytes w (known_word r.0 w)) (after_all r.0 (looks w r.0))) r.1.1))

module _ (old mid : View → Type 0) (place : ℕ) (bytes : List ℕ) (w x y : ℕ) (same : y ≡ written_word place bytes w x) (made : IsMade old mid (looks w)) (found : (v : View) → old v → Ready v (looks w v) → x ≡ known_word v w) where
  pub word_store : IsReady old (writes_word place bytes w) → IsReady mid (stores w y)
  unfolding IsReady Runs writes_word in_turn
  word_store r =
      let v : View = r.0 in
      let u : View = after_all v (looks w v) in
      let first = ready_left v (looks w v) (stores w (written_word place bytes w (known_word v w)) u) r.1.1 in
      (u, (made v r.1.0 first, subst (λ z. Ready u (stores w z u)) (sym (same ∙ ap (written_word place bytes w) (found v r.1.0 first))) (ready_right v (looks w v) (stores w (written_word place bytes w (known_word v w)) u) r.1.1)))

  pub word_runs : (new : View → Type 0) (result : Result (Unit {0}) Stopped) → Runs mid new (stores w y) result → Runs old new (writes_word place bytes w) result
  unfolding Runs writes_word in_turn
  word_runs new result runs v seen r =
      let first = ready_left v (looks w v) (stores w (written_word place bytes w (known_word v w)) (after_all v (looks w v))) r in
      runs_then {T = Unit {0}} old mid new (looks w) (stores w (written_word place bytes w (known_word v w))) tt result made
      (subst (λ z. Runs mid new (stores w z) result) (same ∙ ap (written_word place bytes w) (found v seen first)) runs) v seen r

-- ---- which words there are
pub covered_bounds : (place len k : ℕ) → k < length (covered_words place len) → (place < 8 * (place / 8 + k) + 8) × (8 * (place / 8 + k) < place + len)
covered_bounds place len k low = let b = covered_has_byte place len (place / 8 + k) (one_covered place len k low) in (b.2, b.1)

-- ---- BYTES ARE PUT, AND IT IS TOLD, by a lane at work that may carry out the plan
module _ {M : Type 0} (at : M → View → Type 0) (old : Lane M) (s : Standing)
    (works : Works at old s) (working : IsWorking s.view) (place : ℕ) (bytes : List ℕ) (op : Operation) (reply : Option Value)
    (l : LeadsPut s (in_turn (writes_words place bytes) (tells op reply))) where
  abbrev words : View → List Step
  words = writes_words place bytes

  -- the steps that tell it, after the words
  abbrev last : List Step
  last = tells op reply (after_all s.view (words s.view))

  pub put_ready : IsReady (at old.memory) (writes_words place bytes)
  unfolding IsReady in_turn
  put_ready = (s.view, (works.memory, ready_left s.view (words s.view) last l.ready))

  pub put_tell : (mid : M)
      → Runs {T = Unit {0}} (at old.memory) (at mid) (writes_words place bytes) (Ok tt)
      → (v : View) × at mid v × Allowed v (Tell op reply)
  unfolding Runs in_turn one Ready
  put_tell mid runs = (
    after_all s.view (words s.view),
    runs s.view works.memory (ready_left s.view (words s.view) last l.ready),
    (ready_right s.view (words s.view) last l.ready).0,
  )

  pub put_done : (may : View → Step → Type 0) → ((v : View) (s : Step) → Allowed v s → may v s)
      → (mid new : M)
      → Runs {T = Unit {0}} (at old.memory) (at mid) (writes_words place bytes) (Ok tt)
      → Made may (at mid) (at new) (Tell op reply) → IsUnrefused s op
      → Done at (record old { memory = new }) s op
      (in_turn (writes_words place bytes) (tells op reply))
  unfolding Runs in_turn one Ready after_all
  put_done may grants mid new runs told unrefused =
      let u : View = after_all s.view (words s.view) in
      let first = ready_left s.view (words s.view) last l.ready in
      let may_tell = (ready_right s.view (words s.view) last l.ready).0 in
      let seen = told u (runs s.view works.memory first) (grants u (Tell op reply) may_tell) in
      record {
        unrefused = unrefused;
        ready = l.ready;
        works = record {
          memory = subst (at new) (sym (after_all-append s.view (words s.view) last)) seen.0;
          fields = works.fields ∙ sym l.fields;
        };
        stands = l.stands;
      }

  pub put_cut : (mid : M) (stopped : Stopped)
      → Runs {T = Unit {0}} (at old.memory) (at mid) (writes_words place bytes) (Err stopped)
      → Cut at (record old { memory = mid }) s
      (in_turn (writes_words place bytes) (tells op reply)) false
  unfolding Runs
  put_cut mid stopped runs = record {
    working = working;
    ready = l.ready;
    stops = runs_err {U = Unit {0}} (Unit {0}) (at old.memory) (at mid) (writes_words place bytes)
        (tells op reply) stopped (Err stopped) (search rules) runs s.view works.memory l.ready;
    fields = works.fields ∙ sym (ap (λ (f : Fields). record (fields_at stage.Work s)
        { generation = f.generation; records = f.records; stopped = false }) works.fields);
    facts = l.stands.facts;
  }

-- ---- the lane
module _ {M : Type 0} (at : M → View → Type 0) (old : Lane M) (id : Oid) (off : ℕ) (bytes : List ℕ) where
  abbrev pub Here : Type 0
  Here = IsAtSo at old (λ s. MayPut s id off bytes)

  abbrev Acts : Lane M → Result (Unit {0}) Refusal → Type 0
  Acts new result = Acted at old new (λ s. MayPut s id off bytes) (Write id off bytes) (λ v. puts id off bytes) (λ v x. Unit {0}) result

  pub low : Here → id.off + off + length bytes < 2 ^ 60
  low h = range_low h.standing h.stands id off (length bytes) true h.holds.range

  leads : (s : Standing) → At s → MayPut s id off bytes → LeadsPut s (puts id off bytes)
  leads s is can = let l = leads_write s is id off bytes can in
      record { ready = l.ready; stands = l.stands; fields = l.fields }

  pub words_ready : Here → IsReady (at old.memory) (writes_words (id.off + off) bytes)
  words_ready h = put_ready at old h.standing h.works h.stands.working (id.off + off) bytes (Write id off bytes) None
      (leads h.standing h.stands h.holds)

  pub tell_may : (mid : M) → Here → Runs {T = Unit {0}} (at old.memory) (at mid) (writes_words (id.off + off) bytes) (Ok tt) → (v : View) × at mid v × Allowed v (Tell (Write id off bytes) None)
  tell_may mid h = put_tell at old h.standing h.works h.stands.working (id.off + off) bytes (Write id off bytes) None
      (leads h.standing h.stands h.holds) mid

  pub wrote_ok : (may : View → Step → Type 0) → ((v : View) (s : Step) → Allowed v s → may v s)
      → (mid new : M)
      → Runs {T = Unit {0}} (at old.memory) (at mid) (writes_words (id.off + off) bytes) (Ok tt)
      → Made may (at mid) (at new) (Tell (Write id off bytes) None)
      → Acts (record old { memory = new }) (Ok tt)
  unfolding Acted
  wrote_ok may grants mid new runs told s works is can =
      let l = leads s is can in
      at_once s (Came {T = Unit {0}} at (record old { memory = new }) (Write id off bytes)
      (λ v. puts id off bytes) (λ v x. Unit {0}) (Ok tt)) (
        put_done at old s works is.working (id.off + off) bytes (Write id off bytes) None l may grants mid new
            runs told (leads_write s is id off bytes can).unrefused,
        tt,
      )

  pub wrote_err : (mid : M) (stopped : Stopped) → Runs {T = Unit {0}} (at old.memory) (at mid) (writes_words (id.off + off) bytes) (Err stopped) → Acts (record old { memory = mid }) (Err refusal.Stopped)
  unfolding Acted
  wrote_err mid stopped runs s works is can =
      let l = leads s is can in
      at_once s (Came {T = Unit {0}} at (record old { memory = mid }) (Write id off bytes)
      (λ v. puts id off bytes) (λ v x. Unit {0}) (Err refusal.Stopped)) (
        (leads_write s is id off bytes can).unrefused,
        let cut = put_cut at old s works is.working (id.off + off) bytes (Write id off bytes) None l mid stopped runs in
            (cut, λ e. puts_unwritten s is id off bytes can.range cut.stops.made),
      )
