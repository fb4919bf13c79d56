-- What is pending given up outside of a transaction: what that leaves of its run, done or stopped.
use Rattle.std.proofs.Common.{◌≡◌, ⊎_elim, inl, inr, ℕ, zero, suc, ◌+◌, ◌-◌, ◌≤◌, ◌<◌, All, Bool, false, cond, List, [], ◌∷◌, ◌++◌, length, map, take, Option, None, Some, Result, Ok, Err, refl, sym, ap, ◌∙◌, subst, arith}
use Rattle.std.proofs.Math.Seq.{take-append-add}
use Rattle.std.proofs.lemmas.Bool.{cases_lt}
use Rattle.std.proofs.lemmas.List.{take-append-le}
use Rattle.std.proofs.lemmas.List.Elements.{All-head, All-tail}
use Rattle.solo_action.specs.Canceling.{CancelEnds, HasCanceledOutside, IsStoppedCanceling, canceled_view, cancels_outside, gives_reserved}
use Rattle.solo_action.specs.Outside.{RestsStill}
use Rattle.solo_crash.proofs.Leading.{leads_then}
use Rattle.solo_crash.specs.CallBlocks.{NewObject, block_of, reserved_object}
use Rattle.solo_crash.specs.Leading.{Leads}
use Rattle.solo_crash.specs.Pending.{pending_before}
use Rattle.solo_epoch.proofs.RestingReservations.{begun_entries}
use Rattle.solo_epoch.specs.GivingBack.{gives_back}
use Rattle.solo_epoch.specs.Reserving.{RestsWithReserved, with_next_call}
use Rattle.pm_image.specs.Logs.{generation_word}
use Rattle.solo_lock.proofs.Leading.{front_leads, ready_leads}
use Rattle.solo_lock.proofs.Leads.{counted_then}
use Rattle.solo_lock.proofs.LookedAlone.{none_counted}
use Rattle.solo_lock.specs.Leading.{IsLed}
use Rattle.solo_made.specs.Made.{BlockLists}
use Rattle.solo_memory.specs.Runs.{Stops}
use Rattle.solo_memory.specs.Solo.{Sees, Solo}
use Rattle.solo_model.specs.Actions.{Reservation, none_pending}
use Rattle.pm_objects.specs.declared.calls.Operation.{Operation}
use Rattle.pm_objects.specs.declared.calls.Operation.TheVariants as operation
use Rattle.pm_objects.specs.declared.refusal.Refusal.{Refusal}
use Rattle.pm_objects.specs.declared.refusal.Refusal.TheVariants as refusal
use Rattle.solo_pending.specs.AllPending.{IsPendingAs}
use Rattle.solo_pending.specs.declared.pending.PendingActions.{PendingActions}
use Rattle.solo_script.specs.declared.script.ScriptLine.{ScriptLine}
use Rattle.solo_script.specs.declared.script.ScriptOp.{ScriptOp}
use Rattle.solo_script.specs.declared.script.ScriptOp.TheVariants as op
use Rattle.solo_tx.proofs.NothingUndrained.{ends_uncounted}
use Rattle.solo_tx.proofs.OpeningGeneration.{unraised_first}
use Rattle.solo_tx.proofs.StepKinds.{each_first, only_settles}
use Rattle.solo_tx.proofs.StoreCounts.{none_in_settles, stores_append, stores_counted, stores_first}
use Rattle.solo_tx.proofs.Unraised.{IsWork, all_work_raises, quiet_work}
use Rattle.solo_tx.specs.Generations.{IsOfOpening, is_ending}
use Rattle.solo_undo.specs.Working.{IsWorking}
use Rattle.solo_exec.specs.Quiet.{IsQuiet}
use Rattle.solo_tx.specs.Sequences.{ends_call}
use Rattle.solo_undo.proofs.Settled.{settle_lawful}
use Rattle.solo_view.specs.Area.{area_word}
use Rattle.solo_view.specs.Counts.{counted, is_counted, stores_among}
use Rattle.solo_view.specs.Log.{Log}
use Rattle.solo_view.specs.Steps.{Step}
use Rattle.solo_view.specs.View.{View}
use Rattle.solo_view.specs.Views.{after_all}
use Rattle.solo_world.specs.Opening.{Opening}
use Rattle.solo_world.specs.Records.{generation_of}
use Rattle.solo_world.specs.Sequences.{Ready, Sequence, by_view, in_turn, settles}
use Rattle.solo_world.specs.declared.lane.Lane.{Lane}
use Rattle.solo_exec.proofs.Along.{lane_along, same_along}
use Rattle.solo_exec.proofs.Begun.{spent}
use Rattle.solo_exec.proofs.ChangeLines.{front_of}
use Rattle.solo_exec.proofs.GivenBackSteps.{gives_uncounted}
use Rattle.solo_exec.proofs.FewStores.{led_stores, walked}
use Rattle.solo_exec.proofs.OutsideLine.{acted}
use Rattle.solo_exec.proofs.QuietSequences.{calm_steps, quiet_by}
use Rattle.solo_exec.proofs.QuietSlots.{IsCalm}
use Rattle.solo_exec.proofs.ReservedLine.{free_start, rests_with, start_generation}
use Rattle.solo_exec.proofs.Starts.{start_lane}
use Rattle.solo_exec.proofs.UndrawnSteps.{IsUndrawn, Keeps, first_undrawn_keep, undrawn_steps}
use Rattle.solo_exec.specs.Bounds.{most_stores, stores_of_call}
use Rattle.solo_exec.specs.Calls.{operation_of, stands_alone}
use Rattle.solo_exec.specs.Course.{IsOutsideMade, IsOutsideStopped}
use Rattle.solo_exec.specs.Replies.{IsOutsideReply, numbered}
use Rattle.solo_exec.specs.Progress.{ActedOutside, IsActed, IsCut, IsStart, IsUnbegun}
use Rattle.solo_exec.specs.declared.calls.Names.{Names}

-- ---- the steps of a cancel

front_uncounted : (k : ℕ) (steps : List Step) → counted steps ≡ 0 → counted (take k steps) ≡ 0
unfolding counted
front_uncounted zero steps none = refl
front_uncounted (suc k) [] none = refl
front_uncounted (suc k) (s ∷ steps) none =
    let free = none_counted (is_counted s) (counted steps) none in
    let rest = front_uncounted k steps free.1 in let one : ◌≡◌ {A = ℕ} (cond (is_counted s) 1 0) 0 = ap (λ (b : Bool). cond b 1 0) free.0 in omega (arith, one, rest)

-- where no call behind the first steps is counted, the lane stops among these
stops_before : (new : View → Type 0) (v : View) (xs ys : List Step) → counted ys ≡ 0 → (stops : Stops new v (xs ++ ys)) → stops.made < length xs
stops_before new v xs ys none stops = ⊎_elim (λ (before : stops.made < length xs). before)
    (λ (behind : length xs ≤ stops.made).
    let j : ℕ = stops.made - length xs in
    let here : stops.made ≡ length xs + j = omega (arith, behind) in
    let next : stops.made + 1 ≡ length xs + (j + 1) = omega (arith, behind) in
    let now : counted (take stops.made (xs ++ ys)) ≡ counted xs = ap (λ n. counted (take n (xs ++ ys))) here ∙ (ap counted (take-append-add xs ys j) ∙ behind_first xs (take j ys) (front_uncounted j ys none)) in
    let then : counted (take (stops.made + 1) (xs ++ ys)) ≡ counted xs = ap (λ n. counted (take n (xs ++ ys))) next ∙ (ap counted (take-append-add xs ys (j + 1)) ∙ behind_first xs (take (j + 1) ys) (front_uncounted (j + 1) ys none)) in
    let due = stops.due in absurd (omega (arith, now, then, due)))
    (cases_lt stops.made (length xs))
  where
    behind_first : (before after_it : List Step) → counted after_it ≡ 0 → counted (before ++ after_it) ≡ counted before
    behind_first before after_it free = let both = counted_then before after_it in omega (arith, both, free)

module _ (v : View) (n : ℕ) where
  abbrev settled : View
  settled = after_all v (settles v)

  abbrev behind : List Step
  behind = in_turn (ends_call operation.Cancel None n) (gives_reserved v) settled

  parts : cancels_outside n v ≡ settles v ++ behind
  unfolding cancels_outside by_view in_turn
  parts = refl

  behind_uncounted : counted behind ≡ 0
  unfolding in_turn
  behind_uncounted =
      let ends : List Step = ends_call operation.Cancel None n settled in
      let gives : List Step = gives_reserved v (after_all settled ends) in
      let both = counted_then ends gives in
      let none = ends_uncounted operation.Cancel None n settled in
      let given = gives_uncounted (after_all settled ends).lanes (map reserved_object (pending_before v).reserved) in
      omega (arith, both, none, given)

  -- none is a store
  pub cancels_store_none : stores_among (cancels_outside n v) ≡ 0
  cancels_store_none =
      let both = stores_append (settles v) behind in let first = none_in_settles v in let few = stores_counted behind in let none = behind_uncounted in
      let same = ap stores_among parts in omega (arith, both, first, few, none, same)

module _ (o : Opening) (first : View) (lane new : Lane Solo) (blocks : BlockLists) (actions : PendingActions) (names : Names) (is : IsStart o lane blocks actions first) (shape : new.shape ≡ lane.shape) (x : ScriptOp) (says : x ≡ op.Cancel) where
  abbrev start : View
  start = with_next_call first

  cancel_is : operation.Cancel ≡ operation_of names x
  cancel_is = ap (operation_of names) (sym says)

  pub cancel_acted : (left : PendingActions) → IsPendingAs left none_pending → HasCanceledOutside Sees new first → IsActed o first new blocks left names x None None
  cancel_acted left none h =
      let w : View = canceled_view first new.last in
      let steps : List Step = cancels_outside new.last start in
      let still : RestsStill o is.header is.pool w new.shape = h.keeps o is.header is.pool first [] (rests_with o first lane new blocks actions names is shape) in
      acted o first lane new blocks actions names is x w (h.led.steps ++ steps) (leads_then first start w h.led.steps steps h.led.leads (ready_leads start steps h.ready h.draws)) h.rests h.idle still.stands still.quiet None None None left
      (subst (λ (y : Operation). IsOutsideReply y None None None) cancel_is (refl, refl))
      (h.entries ∙ ap (λ (y : Operation). first.entries ++ numbered new.last (record { operation = y; reply = None } ∷ []) ∷ []) cancel_is)
      (subst (IsPendingAs left) (sym h.pending) none)
      (subst (λ (y : ScriptOp). IsOutsideMade names y None first w) (sym says) (record { start = start; free = free_start o first lane new blocks actions names is shape h.led; number = new.last; made = refl }))
      (let both = stores_append h.led.steps steps in let before = led_stores first start h.led in let none = cancels_store_none start new.last in omega (arith, both, before, none))

  pub cancel_cut : (said : ScriptLine) → said.operation ≡ x → IsStoppedCanceling Sees new first → IsCut o first new names (said ∷ []) []
  cancel_cut said is_said h =
      let sequence : Sequence = cancels_outside new.last in
      let settling : List Step = settles start in
      let s = h.stopped in
      let k : ℕ = s.stops.made in
      let low : k < length settling = stops_before (Sees new.memory) start settling (behind start new.last) (behind_uncounted start new.last) (subst (Stops (Sees new.memory) start) (parts start new.last) s.stops) in
      let here : take k (sequence start) ≡ take k settling = ap (take k) (parts start new.last) ∙ take-append-le k settling (behind start new.last) (omega (arith, low)) in
      let m : View = after_all start (take k (sequence start)) in
      let mm : View = after_all start (take k settling) in
      let same_m : m ≡ mm = ap (after_all start) here in
      let at_start : start.lane ≡ 0 = lane_along first start h.led.steps h.led.leads (start_lane o lane blocks actions first is) in
      let kept : Keeps start mm = first_undrawn_keep start settling k (only_settles IsUndrawn undrawn_steps start at_start) in
      let number : m.number ≡ None = ap (λ (z : View). z.number) same_m ∙ (kept.number ∙ h.works.undrawn) in
      let entries : m.entries ≡ first.entries = ap (λ (z : View). z.entries) same_m ∙ (kept.entries ∙ begun_entries first) in
      let steps : List Step = h.led.steps ++ take k (sequence start) in
      let leads : Leads first steps m = leads_then first start m h.led.steps (take k (sequence start)) h.led.leads (front_leads start (sequence start) k s.ready s.draws) in
      let unraised = all_work_raises (take k settling) (each_first IsWork k settling (only_settles IsWork quiet_work start at_start)) in
      record {
        view = m;
        same = same_along first m steps leads;
        bound = walked first m (stores_of_call names (said ∷ [])) steps leads
            (let both = stores_append h.led.steps (take k (sequence start)) in let before = led_stores first start h.led in let part = stores_first k (sequence start) in let none = cancels_store_none start new.last in
            omega (arith, both, before, part, none));
        seen = s.stops.seen;
        drawn = s.drawn;
        way = inl (record {
          steps = steps;
          leads = leads;
          came = inl (record { number = number; entries = entries });
          opening = subst (IsOfOpening o) (sym same_m) (unraised_first o start settling k at_start (settle_ready start h.works) (start_generation o first lane new blocks actions names is shape h.led) (ap is_ending h.works.is_open) unraised);
          untorn = inl (record { view = start; steps = h.led.steps; leads = h.led.leads; working = h.works; calm = λ quiet. subst IsQuiet (sym same_m) (quiet_by settles (only_settles IsCalm calm_steps) start k quiet) });
        });
        at_stop = s.stops.stopped;
        stops = inr (
          x,
          record { line = said; alone = refl; says = is_said; outside = ap stands_alone says },
          subst (λ (y : ScriptOp). IsOutsideStopped names y first m) (sym says) (
            new.last,
            record {
              start = start;
              free = free_start o first lane new blocks actions names is shape h.led;
              stops = front_of (Sees new.memory) start (sequence start) sequence refl s.stops;
            },
          ),
        );
      }
    where
      settle_ready : (u : View) → IsWorking u → Ready u (settles u)
      settle_ready u works = (settle_lawful u).0

-- however it failed
module _ (o : Opening) (first : View) (lane new : Lane Solo) (blocks : BlockLists) (actions : PendingActions) (names : Names) (is : IsStart o lane blocks actions first) where
  pub cancel_failed : (r : Refusal) → (r ≡ refusal.Stopped → new.shape ≡ lane.shape) → (x : ScriptOp) → x ≡ op.Cancel → (left : PendingActions) → left ≡ actions → CancelEnds {T = Unit {0}} Sees new first (Err r) → ActedOutside o first new blocks left names x (Err r)
  cancel_failed refusal.Stopped shape x says left kept ends = λ said is_said. cancel_cut o first lane new blocks actions names is (shape refl) x says said is_said ends
  cancel_failed refusal.Spent shape x says left kept ends = subst (IsUnbegun first new) (sym kept) (spent o first lane new blocks actions names is ends)
  cancel_failed r shape x says left kept ends = absurd ends
