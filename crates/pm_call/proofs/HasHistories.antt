-- A VIEW KEEPS ITS HISTORY over steps of no plan; and a plan makes it longer by its operation.
use Rattle.std.proofs.Common.{◌≡◌, ℕ, List, [], ◌∷◌, ◌++◌, length, map, reverse, take, Option, Some, None, refl, sym, ap, ◌∙◌, arith}
use Rattle.std.specs.List.{cons_option, flat_map}
use Rattle.std.proofs.lemmas.List.{map-append, reverse-append, take_all}
use Rattle.pm_objects.specs.declared.calls.Operation.{Operation}
use Rattle.pm_objects.specs.declared.history.Value.{Value}
use Rattle.pm_layout.specs.Areas.{word_of_generation, word_of_seal}
use Rattle.pm_view.specs.Steps.{Step}
use Rattle.pm_view.specs.Steps.Step.{Load}
use Rattle.pm_view.specs.View.{Constants, Told, View, idle}
use Rattle.pm_view.specs.Views.{after, after_all}
use Rattle.pm_world.specs.LaneFields.{opened}
use Rattle.pm_call.specs.Histories.{Ended, LaneHistory, history_of, nothing_told, operations_in, operations_told, told, told_by, told_last, told_more}
use Rattle.pm_call.specs.Planned.{CameBy, CameUpTo, Planned, operation_of, operations_of, steps_of}
use Rattle.pm_call.specs.Planned.Planned.{Quiet}
use Rattle.pm_call.specs.Quiet.{WentQuietly}
use Rattle.pm_call.specs.Standing.{HasHistory, StoppedWith}
use Rattle.pm_call.proofs.Quiet.{quiet_one, quiet_then}

-- ---- THE OPERATIONS OF A HISTORY

abbrev earlier : LaneHistory → List Operation
earlier h = flat_map (λ (e : Ended). operations_told e.call) h.done

one_told : (call : List Told) (op : Operation) (reply : Option Value)
    → operations_told (call ++ told op reply ∷ []) ≡ op ∷ operations_told call
one_told call op reply =
    ap reverse (map-append (λ (t : Told). t.operation) call (told op reply ∷ []))
    ∙ reverse-append (map (λ (t : Told). t.operation) call) (op ∷ [])

pub more_operations : (op : Operation) (reply : Option Value) (h : LaneHistory) → h.within ≡ None
    → operations_in (told_more op reply h) ≡ op ∷ operations_in h
more_operations op reply h none =
    ap (λ (w : Option Operation). cons_option w (operations_told (h.call ++ told op reply ∷ []) ++ earlier h)) none
    ∙ ap (λ (ops : List Operation). ops ++ earlier h) (one_told h.call op reply)
    ∙ ap (λ (w : Option Operation). op ∷ cons_option w (operations_told h.call ++ earlier h)) (sym none)

pub last_operations : (n : ℕ) (op : Operation) (reply : Option Value) (h : LaneHistory)
    → h.within ≡ None → operations_in (told_last n op reply h) ≡ op ∷ operations_in h
last_operations n op reply h none =
    ap (λ (w : Option Operation). cons_option w (operations_told (h.call ++ told op reply ∷ []) ++ earlier h)) none
    ∙ ap (λ (ops : List Operation). ops ++ earlier h) (one_told h.call op reply)
    ∙ ap (λ (w : Option Operation). op ∷ cons_option w (operations_told h.call ++ earlier h)) (sym none)

pub by_operations : (d : Option ℕ) (op : Operation) (reply : Option Value) (h : LaneHistory)
    → h.within ≡ None → operations_in (told_by d op reply h) ≡ op ∷ operations_in h
by_operations None op reply h none =
    ap (λ (w : Option Operation). op ∷ cons_option w (operations_told h.call ++ earlier h)) (sym none)
by_operations (Some n) op reply h none = last_operations n op reply h none

-- ---- A VIEW HAS ITS HISTORY

-- that of a lane that goes on stopped in no operation
pub goes_on : (v : View) (h : LaneHistory) → HasHistory v h → h.within ≡ None
goes_on v h has = sym (ap (λ (x : LaneHistory). x.within) has.is)

-- of a lane that made no call
pub idle_history : (fixed : Constants) (generation : ℕ)
    → HasHistory (idle fixed generation) (nothing_told fixed.lane)
unfolding CameBy
idle_history fixed generation =
    record { is = refl; plans = []; came = (generation, refl); operations = refl }

-- AFTER STEPS OF NO PLAN
pub quiet_history : (v w : View) (h : LaneHistory) → WentQuietly v w → history_of w ≡ h
    → HasHistory v h → HasHistory w h
unfolding CameBy
quiet_history v w h went is has = record {
  is = is;
  plans = Quiet went.steps went.quiet ∷ has.plans;
  came = (v, has.came, went.then);
  operations = has.operations;
}

-- and once its lane has looked at its generation and its seal
pub opened_history : (fixed : Constants) (generation : ℕ)
    → HasHistory (opened fixed generation) (nothing_told fixed.lane)
opened_history fixed generation =
    let v : View = idle fixed generation in
    let one : Step = Load (word_of_generation fixed.shape fixed.lane) generation in
    let more : Step = Load (word_of_seal fixed.shape fixed.lane) 0 in
    quiet_history v (opened fixed generation) (nothing_told fixed.lane)
    (quiet_then v (after v one) (after (after v one) more) (quiet_one v one refl)
    (quiet_one (after v one) more refl)) refl (idle_history fixed generation)

-- AFTER A PLAN
module _ (p : Planned) (op : Operation) (v w : View) (h next : LaneHistory)
    (of : operation_of p ≡ Some op) (grows : operations_in next ≡ op ∷ operations_in h)
    (has : HasHistory v h) where
  longer : operations_of (p ∷ has.plans) ≡ operations_in next
  longer = ap (λ (o : Option Operation). cons_option o (operations_of has.plans)) of
      ∙ ap (λ (ops : List Operation). op ∷ ops) has.operations ∙ sym grows

  pub plan_history : w ≡ after_all v (steps_of p v) → history_of w ≡ next → HasHistory w next
  unfolding CameBy
  plan_history then is = record {
    is = is;
    plans = p ∷ has.plans;
    came = (v, has.came, then);
    operations = longer;
  }

  -- or up to the lane's stop
  pub plan_stopped : (made : ℕ) → w ≡ after_all v (take made (steps_of p v)) → StoppedWith w next
  unfolding CameUpTo
  plan_stopped made then = record {
    plans = p ∷ has.plans;
    came = (v, has.came, made, then);
    operations = longer;
  }

-- so far as it tells one more operation, and goes on; or its last, with its number
module _ (p : Planned) (op : Operation) (reply : Option Value) (v w : View) (h : LaneHistory)
    (of : operation_of p ≡ Some op) (then : w ≡ after_all v (steps_of p v))
    (has : HasHistory v h) where
  pub plan_tells : history_of w ≡ told_more op reply (history_of v)
      → HasHistory w (told_more op reply h)
  plan_tells is = plan_history p op v w h (told_more op reply h) of
      (more_operations op reply h (goes_on v h has)) has then (is ∙ ap (told_more op reply) has.is)

  pub plan_ends : (n : ℕ) → history_of w ≡ told_last n op reply (history_of v)
      → HasHistory w (told_last n op reply h)
  plan_ends n is = plan_history p op v w h (told_last n op reply h) of
      (last_operations n op reply h (goes_on v h has)) has then
      (is ∙ ap (told_last n op reply) has.is)

-- A LANE STOPPED between two plans
pub has_stopped : (v : View) (h : LaneHistory) → HasHistory v h → StoppedWith v h
unfolding CameBy CameUpTo
has_stopped v h has = record {
  plans = has.plans;
  came = up_to has.plans has.came;
  operations = has.operations;
}
  where
    up_to : (plans : List Planned) → CameBy v plans → CameUpTo v plans
    up_to [] came = came
    up_to (p ∷ plans) came = (
      came.0,
      came.1,
      length (steps_of p came.0),
      came.2 ∙ ap (after_all came.0)
          (sym (take_all (length (steps_of p came.0)) (steps_of p came.0) (omega arith))),
    )

-- or before the first step of an operation
pub stopped_before : (op : Operation) (p : Planned) (v : View) (h next : LaneHistory)
    → operation_of p ≡ Some op → operations_in next ≡ op ∷ operations_in h → HasHistory v h
    → StoppedWith v next
unfolding after_all
stopped_before op p v h next of grows has =
    plan_stopped p op v v h next of grows has 0 refl
