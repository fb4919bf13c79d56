-- What a call comes to by steps that follow once all is persistent, it comes to by those with what makes it so in front of them.
use Rattle.std.proofs.Common.{◌≡◌, inl, inr, ⊎_elim, ℕ, true, List, ◌++◌, take, length, Option, None, refl, sym, ap, ◌∙◌, subst, arith}
use Rattle.solo_memory.specs.Runs.{Stops}
use Rattle.pm_objects.specs.declared.calls.Operation.{Operation}
use Rattle.pm_objects.specs.declared.history.Value.{Value}
use Rattle.solo_undo.proofs.Settled.{settle_lawful}
use Rattle.solo_undo.proofs.Staying.{same_settled}
use Rattle.solo_undo.specs.Working.{IsSameCall}
use Rattle.solo_view.proofs.SameLane.{same_lane-then}
use Rattle.solo_view.proofs.Sequences.{after_all-append}
use Rattle.solo_view.specs.View.{Numbered, Told, View}
use Rattle.solo_view.specs.Views.{after_all}
use Rattle.solo_world.proofs.Sequencing.{ready_both}
use Rattle.solo_world.specs.Sequences.{Ready, Sequence, in_turn, settles}
use Rattle.solo_world.specs.declared.lane.Lane.{Lane}
use Rattle.solo_lock.proofs.Drawless.{drawless, drawn_in_turn}
use Rattle.solo_lock.specs.Leading.{DrawEnded}
use Rattle.solo_tx.proofs.Fronts.{front_undrawn, stopped_left, stopped_right}
use Rattle.solo_tx.specs.Ending.{IsAfterCall, IsDrawnAs, IsDrawnOrNot, IsEndedBy, IsOver, IsStoppedIn, drawn_more, told_more}

module _ (v : View) (steps : Sequence) where
  abbrev pub m : View
  m = after_all v (settles v)

  call : IsSameCall v m
  call = same_settled v m (settle_lawful v).1

  in_parts : in_turn settles steps v ≡ settles v ++ steps m
  unfolding in_turn
  in_parts = refl

  pub ready_first : Ready m (steps m) → Ready v (in_turn settles steps v)
  unfolding in_turn
  ready_first ready = ready_both v (settles v) (steps m) (settle_lawful v).0 ready

  pub draws_first : DrawEnded m (steps m) → DrawEnded v (in_turn settles steps v)
  unfolding in_turn
  draws_first draws = drawn_in_turn v (settles v) (steps m) (drawless v (settles v) (let e = ap length call.entries in omega (arith, e))) draws

  pub after_first : after_all v (in_turn settles steps v) ≡ after_all m (steps m)
  unfolding in_turn
  after_first = after_all-append v (settles v) (steps m)

  pub over_first : (w : View) (n : ℕ) → IsOver m w n → IsOver v w n
  over_first w n over = record { lane = same_lane-then v m w call.lane over.lane; locks = over.locks ∙ call.locks; log = over.log; drained = over.drained; number = over.number; last = over.last }

  module _ (operation : Operation) (reply : Option Value) where
    told_first : (w : View) → w.call ≡ told_more m.call operation reply → w.call ≡ told_more v.call operation reply
    told_first w told = told ∙ ap (λ (told : List Told). told_more told operation reply) call.call

    entries_first : (w : View) (n : ℕ) → w.entries ≡ drawn_more m.entries n w.call → w.entries ≡ drawn_more v.entries n w.call
    entries_first w n entries = entries ∙ ap (λ (entries : List Numbered). drawn_more entries n w.call) call.entries

    drawn_or_not : (w : View) → IsDrawnOrNot m w operation reply → IsDrawnOrNot v w operation reply
    drawn_or_not w came = record {
      told = ⊎_elim (λ (none : w.number ≡ None). inl none) (λ (told : w.call ≡ told_more m.call operation reply). inr (told_first w told)) came.told;
      entries =
          ⊎_elim (λ (none : (w.number ≡ None) × (w.entries ≡ m.entries)). inl (none.0, none.1 ∙ call.entries))
          (λ (drawn : (n : ℕ) × IsDrawnAs m w n). inr (drawn.0, record { number = drawn.1.number; entries = entries_first w drawn.0 drawn.1.entries })) came.entries;
    }

    module _ {M : Type 0} (at : M → View → Type 0) (new : Lane M) where
      pub ended_first : IsEndedBy at new m steps operation reply → IsEndedBy at new v (in_turn settles steps) operation reply
      ended_first ended =
          let w : View = after_all m (steps m) in
          record {
            ready = ready_first ended.ready;
            draws = draws_first ended.draws;
            behind = subst (IsAfterCall at new) (sym after_first) ended.behind;
            over = subst (λ (w : View). IsOver v w new.last) (sym after_first) (over_first w new.last ended.over);
            told = subst (λ (w : View). w.call ≡ told_more v.call operation reply) (sym after_first) (told_first w ended.told);
            entries = subst (λ (w : View). w.entries ≡ drawn_more v.entries new.last w.call) (sym after_first) (entries_first w new.last ended.entries);
          }

      -- the lane stopped behind that
      pub stopped_behind : IsStoppedIn at new m steps operation reply → IsStoppedIn at new v (in_turn settles steps) operation reply
      stopped_behind was =
          stopped_right at new v (in_turn settles steps) operation reply (settles v) m (steps m) refl in_parts (ready_first was.ready) (draws_first was.draws) was.stops was.stopped was.drawn
          (drawn_or_not (after_all m (take was.stops.made (steps m))) was.came)

      -- or before all was persistent
      pub stopped_settling : v.number ≡ None → Ready m (steps m) → DrawEnded m (steps m) → Stops (at new.memory) v (settles v) → new.stopped ≡ true → new.drawn ≡ None → IsStoppedIn at new v (in_turn settles steps) operation reply
      stopped_settling undrawn ready draws stops says drawn =
          let before = front_undrawn v (settles v) stops.made (let e = ap length call.entries in omega (arith, e)) undrawn in
          stopped_left at new v (in_turn settles steps) operation reply (settles v) (steps m) in_parts (ready_first ready) (draws_first draws) stops says (drawn ∙ sym before.0) (record { told = inl before.0; entries = inl before })
