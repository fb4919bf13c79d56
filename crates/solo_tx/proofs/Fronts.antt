-- What the first of some steps leave of a call: what was drawn and told by then.
use Rattle.std.proofs.Common.{◌≡◌, ◌+◌, ◌<◌, ◌≤◌, ℕ, zero, suc, true, List, [], ◌∷◌, ◌++◌, length, take, Option, Some, None, refl, sym, ap, ◌∙◌, subst, arith, length-append}
use Rattle.std.proofs.Math.Seq.{take-append-add}
use Rattle.std.proofs.lemmas.List.{take-append-le}
use Rattle.solo_memory.specs.Runs.{Stops}
use Rattle.pm_objects.specs.declared.calls.Operation.{Operation}
use Rattle.pm_objects.specs.declared.history.Value.{Value}
use Rattle.solo_view.proofs.Sequences.{after_all-append}
use Rattle.solo_view.specs.Counts.{IsAtStop, counted}
use Rattle.solo_world.specs.Sequences.{Ready, Sequence}
use Rattle.solo_world.specs.declared.lane.Lane.{Lane}
use Rattle.solo_lock.proofs.Drawless.{kept, kept_by_all}
use Rattle.solo_lock.proofs.Leads.{counted_then}
use Rattle.solo_lock.specs.Leading.{DrawEnded}
use Rattle.solo_tx.specs.Ending.{IsDrawnOrNot, IsStoppedAmong, IsStoppedIn, IsUndrawn}
use Rattle.std.proofs.lemmas.Option.{none-some}
use Rattle.solo_view.specs.Log.{Phase}
use Rattle.solo_view.specs.Log.Phase.{Idle, Open, Drawn, Sealing, Applying, Clearing, Retiring}
use Rattle.solo_view.specs.Steps.{Step}
use Rattle.solo_view.specs.Steps.Step.{Load, Store, Or, And, Flush, Drain, TakeWrite, TakeRead, Raise, Give, ZoneTry, ZoneGive, Occupied, Occupy, Vacate, Draw, NumberSeen, StopSeen, SetStop, Tell}
use Rattle.solo_view.specs.View.{View}
use Rattle.solo_view.specs.Views.{after, after_all, begun}

begun_undrawn : (phase : Phase) (v : View) → v.number ≡ None → IsUndrawn v (begun phase v)
begun_undrawn Idle v none = (refl, refl)
begun_undrawn (Open slot pair) v none = (none, refl)
begun_undrawn Drawn v none = (none, refl)
begun_undrawn Sealing v none = (none, refl)
begun_undrawn (Applying applied) v none = (none, refl)
begun_undrawn Clearing v none = (none, refl)
begun_undrawn Retiring v none = (none, refl)

-- a step without a new entry draws none
step_undrawn : (v : View) (s : Step) → length (after v s).entries ≤ length v.entries → v.number ≡ None → IsUndrawn v (after v s)
step_undrawn v (Load w x) few none = (none, refl)
step_undrawn v (Store w x) few none = (none, refl)
step_undrawn v (Or w bits found) few none = (none, refl)
step_undrawn v (And w bits found) few none = (none, refl)
step_undrawn v (Flush line) few none = (none, refl)
step_undrawn v Drain few none = (none, refl)
step_undrawn v (TakeWrite line won) few none = (none, refl)
step_undrawn v (TakeRead line won) few none = (none, refl)
step_undrawn v (Raise line won) few none = (none, refl)
step_undrawn v (Give line) few none = (none, refl)
step_undrawn v (ZoneTry zone won) few none = (none, refl)
step_undrawn v (ZoneGive zone) few none = (none, refl)
step_undrawn v (Occupied at found) few none = (none, refl)
step_undrawn v (Occupy at bits won) few none = (none, refl)
step_undrawn v (Vacate at bits) few none = (none, refl)
step_undrawn v (Draw n) few none = absurd (let e = length-append v.entries (record { number = n; call = v.call } ∷ []) in omega (arith, e, few))
step_undrawn v (NumberSeen n) few none = let b = begun_undrawn v.log.phase v none in (b.0, b.1)
step_undrawn v (StopSeen set) few none = (none, refl)
step_undrawn v SetStop few none = (none, refl)
step_undrawn v (Tell operation reply) few none = (none, refl)

-- nor do the first of steps that lead to no new entry
pub front_undrawn : (v : View) (steps : List Step) (made : ℕ) → length (after_all v steps).entries ≤ length v.entries → v.number ≡ None → IsUndrawn v (after_all v (take made steps))
unfolding after_all
front_undrawn v steps zero few none = (none, refl)
front_undrawn v [] (suc made) few none = (none, refl)
front_undrawn v (s ∷ steps) (suc made) few none =
    let a = kept v s in let b = kept_by_all (after v s) steps in
    let one : IsUndrawn v (after v s) = step_undrawn v s (omega (arith, b, few)) none in
    let rest = front_undrawn (after v s) steps made (omega (arith, a, few)) one.0 in
    (rest.0, rest.1 ∙ one.1)

-- the number is this one, and the call is no shorter than before
abbrev WasDrawn : View → View → ℕ → Type 0
WasDrawn v w n = (v.number ≡ Some n) × (length v.call ≤ length w.call) × (w.entries ≡ v.entries) × (length w.call ≤ length v.call → w.call ≡ v.call)

begun_drawn : (phase : Phase) (v : View) (n : ℕ) → (begun phase v).number ≡ Some n → WasDrawn v (begun phase v) n
begun_drawn Idle v n some = absurd (none-some n some)
begun_drawn (Open slot pair) v n some = (some, omega arith, refl, λ few. refl)
begun_drawn Drawn v n some = (some, omega arith, refl, λ few. refl)
begun_drawn Sealing v n some = (some, omega arith, refl, λ few. refl)
begun_drawn (Applying applied) v n some = (some, omega arith, refl, λ few. refl)
begun_drawn Clearing v n some = (some, omega arith, refl, λ few. refl)
begun_drawn Retiring v n some = (some, omega arith, refl, λ few. refl)

-- a step without a new entry, behind which this number is drawn: it was before
step_drawn : (v : View) (s : Step) (n : ℕ) → length (after v s).entries ≤ length v.entries → (after v s).number ≡ Some n → WasDrawn v (after v s) n
step_drawn v (Load w x) n few some = (some, omega arith, refl, λ few. refl)
step_drawn v (Store w x) n few some = (some, omega arith, refl, λ few. refl)
step_drawn v (Or w bits found) n few some = (some, omega arith, refl, λ few. refl)
step_drawn v (And w bits found) n few some = (some, omega arith, refl, λ few. refl)
step_drawn v (Flush line) n few some = (some, omega arith, refl, λ few. refl)
step_drawn v Drain n few some = (some, omega arith, refl, λ few. refl)
step_drawn v (TakeWrite line won) n few some = (some, omega arith, refl, λ few. refl)
step_drawn v (TakeRead line won) n few some = (some, omega arith, refl, λ few. refl)
step_drawn v (Raise line won) n few some = (some, omega arith, refl, λ few. refl)
step_drawn v (Give line) n few some = (some, omega arith, refl, λ few. refl)
step_drawn v (ZoneTry zone won) n few some = (some, omega arith, refl, λ few. refl)
step_drawn v (ZoneGive zone) n few some = (some, omega arith, refl, λ few. refl)
step_drawn v (Occupied at found) n few some = (some, omega arith, refl, λ few. refl)
step_drawn v (Occupy at bits won) n few some = (some, omega arith, refl, λ few. refl)
step_drawn v (Vacate at bits) n few some = (some, omega arith, refl, λ few. refl)
step_drawn v (Draw m) n few some = absurd (let e = length-append v.entries (record { number = m; call = v.call } ∷ []) in omega (arith, e, few))
step_drawn v (NumberSeen m) n few some = let b = begun_drawn v.log.phase v n some in (b.0, b.1, b.2, b.3)
step_drawn v (StopSeen set) n few some = (some, omega arith, refl, λ few. refl)
step_drawn v SetStop n few some = (some, omega arith, refl, λ few. refl)
step_drawn v (Tell operation reply) n few some =
    let e = length-append v.call (record { operation = operation; reply = reply } ∷ []) in (some, omega (arith, e), refl, λ fewer. absurd (omega (arith, e, fewer)))

steps_drawn : (v : View) (steps : List Step) (n : ℕ) → length (after_all v steps).entries ≤ length v.entries → (after_all v steps).number ≡ Some n → (v.number ≡ Some n) × (length v.call ≤ length (after_all v steps).call)
unfolding after_all
steps_drawn v [] n few some = (some, omega arith)
steps_drawn v (s ∷ steps) n few some =
    let a = kept v s in let b = kept_by_all (after v s) steps in
    let rest = steps_drawn (after v s) steps n (omega (arith, a, few)) some in
    let one = step_drawn v s n (omega (arith, b, few)) rest.0 in
    let low = rest.1 in let high = one.1 in (one.0, omega (arith, low, high))

-- this number is drawn, with the call and the entries that were there
abbrev pub HasStayedDrawn : View → View → ℕ → Type 0
HasStayedDrawn v w n = (w.number ≡ Some n) × (w.entries ≡ v.entries) × (w.call ≡ v.call)

-- the first of steps that end with the number drawn, no new entry and nothing told
pub front_drawn : (v : View) (steps : List Step) (made n : ℕ) → length (after_all v steps).entries ≤ length v.entries → (after_all v steps).number ≡ Some n → length (after_all v steps).call ≤ length v.call
    → HasStayedDrawn v (after_all v (take made steps)) n
unfolding after_all
front_drawn v steps zero n few some told = ((steps_drawn v steps n few some).0, refl, refl)
front_drawn v [] (suc made) n few some told = (some, refl, refl)
front_drawn v (s ∷ steps) (suc made) n few some told =
    let a = kept v s in let b = kept_by_all (after v s) steps in
    let behind = steps_drawn (after v s) steps n (omega (arith, a, few)) some in
    let one = step_drawn v s n (omega (arith, b, few)) behind.0 in
    let low = behind.1 in let high = one.1 in
    let rest = front_drawn (after v s) steps made n (omega (arith, a, few)) some (omega (arith, told, high)) in
    (rest.0, rest.1 ∙ one.2, rest.2 ∙ one.3 (omega (arith, told, low)))

module _ {M : Type 0} (at : M → View → Type 0) (lane : Lane M) (v : View) (steps : Sequence) (operation : Operation) (reply : Option Value) where
  stopped_at : (made : ℕ) → made < length (steps v) → counted (take (made + 1) (steps v)) ≡ counted (take made (steps v)) + 1 → (w : View) → after_all v (take made (steps v)) ≡ w → Ready v (steps v) → at lane.memory w → IsAtStop w → lane.stopped ≡ true → lane.drawn ≡ w.number → IsDrawnOrNot v w operation reply
      → IsStoppedAmong at lane v steps operation reply
  stopped_at made fewer due w same ready seen stop says drawn came = record {
    ready = ready;
    stops = record { made = made; fewer = fewer; seen = subst (at lane.memory) (sym same) seen; stopped = subst (λ (u : View). IsAtStop u) (sym same) stop; due = due };
    stopped = says;
    drawn = drawn ∙ sym (ap (λ (u : View). u.number) same);
    came = subst (λ (u : View). IsDrawnOrNot v u operation reply) (sym same) came;
  }

  -- the lane stopped among the first of the steps
  pub among_left : (xs ys : List Step) → steps v ≡ xs ++ ys → Ready v (steps v) → (s : Stops (at lane.memory) v xs) → lane.stopped ≡ true → lane.drawn ≡ (after_all v (take s.made xs)).number
      → IsDrawnOrNot v (after_all v (take s.made xs)) operation reply → IsStoppedAmong at lane v steps operation reply
  among_left xs ys are ready s says drawn came =
      let fewer = s.fewer in
      let long = length-append xs ys in
      let all = ap length are in
      let same : take s.made (steps v) ≡ take s.made xs = ap (take s.made) are ∙ take-append-le s.made xs ys (omega (arith, fewer)) in
      let more : take (s.made + 1) (steps v) ≡ take (s.made + 1) xs = ap (take (s.made + 1)) are ∙ take-append-le (s.made + 1) xs ys (omega (arith, fewer)) in
      stopped_at s.made (omega (arith, fewer, long, all)) (ap counted more ∙ (s.due ∙ ap (λ (front : List Step). counted front + 1) (sym same))) (after_all v (take s.made xs))
      (ap (λ all. after_all v (take s.made all)) are ∙ ap (after_all v) (take-append-le s.made xs ys (omega (arith, fewer)))) ready s.seen s.stopped says drawn came

  -- or behind them
  pub among_right : (xs : List Step) (m : View) (ys : List Step) → after_all v xs ≡ m → steps v ≡ xs ++ ys → Ready v (steps v) → (s : Stops (at lane.memory) m ys) → lane.stopped ≡ true
      → lane.drawn ≡ (after_all m (take s.made ys)).number → IsDrawnOrNot v (after_all m (take s.made ys)) operation reply → IsStoppedAmong at lane v steps operation reply
  among_right xs m ys there are ready s says drawn came =
      let fewer = s.fewer in
      let long = length-append xs ys in
      let all = ap length are in
      let same : take (length xs + s.made) (steps v) ≡ xs ++ take s.made ys = ap (take (length xs + s.made)) are ∙ take-append-add xs ys s.made in
      let next : length xs + s.made + 1 ≡ length xs + (s.made + 1) = omega arith in
      let more : take (length xs + s.made + 1) (steps v) ≡ xs ++ take (s.made + 1) ys = ap (λ n. take n (steps v)) next ∙ (ap (take (length xs + (s.made + 1))) are ∙ take-append-add xs ys (s.made + 1)) in
      let now = ap counted same ∙ counted_then xs (take s.made ys) in
      let then = ap counted more ∙ counted_then xs (take (s.made + 1) ys) in
      let due = s.due in
      stopped_at (length xs + s.made) (omega (arith, fewer, long, all)) (omega (arith, now, then, due)) (after_all m (take s.made ys))
      (ap (λ all. after_all v (take (length xs + s.made) all)) are ∙ (ap (after_all v) (take-append-add xs ys s.made) ∙ (after_all-append v xs (take s.made ys) ∙ ap (λ u. after_all u (take s.made ys)) there)))
      ready s.seen s.stopped says drawn came

  -- where what they draw is an ended call's
  pub among_ended : DrawEnded v (steps v) → IsStoppedAmong at lane v steps operation reply → IsStoppedIn at lane v steps operation reply
  among_ended draws s = record { ready = s.ready; draws = draws; stops = s.stops; stopped = s.stopped; drawn = s.drawn; came = s.came }

  pub stopped_left : (xs ys : List Step) → steps v ≡ xs ++ ys → Ready v (steps v) → DrawEnded v (steps v) → (s : Stops (at lane.memory) v xs) → lane.stopped ≡ true → lane.drawn ≡ (after_all v (take s.made xs)).number
      → IsDrawnOrNot v (after_all v (take s.made xs)) operation reply → IsStoppedIn at lane v steps operation reply
  stopped_left xs ys are ready draws s says drawn came = among_ended draws (among_left xs ys are ready s says drawn came)

  pub stopped_right : (xs : List Step) (m : View) (ys : List Step) → after_all v xs ≡ m → steps v ≡ xs ++ ys → Ready v (steps v) → DrawEnded v (steps v) → (s : Stops (at lane.memory) m ys) → lane.stopped ≡ true
      → lane.drawn ≡ (after_all m (take s.made ys)).number → IsDrawnOrNot v (after_all m (take s.made ys)) operation reply → IsStoppedIn at lane v steps operation reply
  stopped_right xs m ys there are ready draws s says drawn came = among_ended draws (among_right xs m ys there are ready s says drawn came)
