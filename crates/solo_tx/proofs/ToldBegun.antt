-- A call that has begun may be told as one operation and draw its number, with words undrained that it filled.
use Rattle.std.proofs.Common.{◌≡◌, inl, inr, ℕ, false, [], Option, Some, refl, sym, ap, subst}
use Rattle.pm_objects.specs.declared.calls.Operation.{Operation}
use Rattle.pm_objects.specs.declared.history.Value.{Value}
use Rattle.solo_view.specs.Log.{Log, log_drawn}
use Rattle.solo_view.specs.Steps.Step.{Tell}
use Rattle.solo_view.specs.View.{View}
use Rattle.solo_view.specs.Views.{after, after_all}
use Rattle.solo_world.proofs.Plain.{empty_plain}
use Rattle.solo_world.proofs.Shapes.{IsOfSamePool}
use Rattle.solo_world.specs.Lanes.{IsSeenAs}
use Rattle.solo_world.specs.Lawful.{HasDrained, MayDraw, MayTell}
use Rattle.solo_world.specs.Sequences.{Ready, in_turn, one}
use Rattle.solo_world.specs.declared.lane.Lane.{Lane}
use Rattle.solo_lock.proofs.Leads.{heap_drawn}
use Rattle.solo_lock.proofs.Undrained.{rest_kept}
use Rattle.solo_lock.specs.Begun.{HoldsLines, IsBegun}
use Rattle.solo_lock.specs.Leading.{KeepsHeap}
use Rattle.solo_lock.specs.Resting.{HasPlace, MayRest}
use Rattle.solo_tx.specs.Ending.{IsAfterTold, IsReadyForAny, IsToldAs, LiesUnlocked}
use Rattle.solo_tx.specs.Sequences.{ends_call}
use Rattle.solo_tx.proofs.GivenUp.{last_behind, lines_behind, place_behind, seen_behind}

-- what may rest may stay undrained as a call without records and entries draws
rest_drains : (v : View) → v.log.records ≡ [] → v.log.entries ≡ [] → MayRest v → HasDrained v
rest_drains v unrecorded unentered (inl none) = inl none
rest_drains v unrecorded unentered (inr rest) = inr (unrecorded, unentered, rest.1)

-- telling and drawing change no word
pub ends_words : (v : View) (operation : Operation) (reply : Option Value) (n : ℕ) → (after_all v (ends_call operation reply n v)).words ≡ v.words
unfolding ends_call in_turn one after_all
ends_words v operation reply n = refl

module _ {M : Type 0} (at : M → View → Type 0) (lane : Lane M) (v : View) (is : IsBegun at lane v) (operation : Operation) (reply : Option Value) where
  abbrev told : View
  told = after v (Tell operation reply)

  may_draw : MayDraw told
  may_draw = record {
    is_open = ap (λ (log : Log). log.phase) is.log;
    first = is.undrawn;
    drained = rest_drains told (ap (λ (log : Log). log.records) is.log) (ap (λ (log : Log). log.entries) is.log) (rest_kept v told refl refl refl refl (λ alone. refl) is.undrained);
    found = is.may_come.found;
    seen = is.may_come.seen;
    below = is.may_come.below;
    entered = inl (ap (λ (log : Log). log.entries) is.log);
  }

  pub begun_ready : (n : ℕ) → Ready v (ends_call operation reply n v)
  unfolding ends_call in_turn one Ready after_all
  begun_ready n = (subst (λ (log : Log). MayTell log.phase) (sym is.log) tt, tt, (may_draw, tt, tt))

  pub begun_ready_for_any : IsReadyForAny (at lane.memory) (ends_call operation reply)
  unfolding IsReadyForAny
  begun_ready_for_any = (v, (is.seen.memory, begun_ready))

  pub begun_over : (n : ℕ) → IsToldAs v (after_all v (ends_call operation reply n v)) n
  unfolding ends_call in_turn one after_all
  begun_over n = record {
    lane = record { lanes = refl; zones = refl; pool = refl; lane = refl; stop = refl; table = refl; size = refl };
    locks = refl;
    log = ap (λ (log : Log). log_drawn log.phase log) is.log;
    changes = refl;
    number = refl;
    last = last_behind v.entries (record { number = n; call = told.call });
  }

  -- the lane has of the heap what it had
  pub begun_heap : (n : ℕ) → KeepsHeap v (after_all v (ends_call operation reply n v))
  unfolding ends_call in_turn one after_all
  begun_heap n = let drawn = heap_drawn told n (empty_plain told (ap (λ (log : Log). log.entries) is.log)) in record { zone_locks = drawn.zone_locks; reserved = drawn.reserved; freed = drawn.freed }

  -- what may rest may rest still
  pub begun_rests : (n : ℕ) → MayRest (after_all v (ends_call operation reply n v))
  begun_rests n =
      let over = begun_over n in
      rest_kept v (after_all v (ends_call operation reply n v)) over.changes (begun_heap n).reserved over.lane.lanes over.lane.table (λ alone. ends_words v operation reply n) is.undrained

-- the lane between such a call and its rest
pub after_told : {M : Type 0} (at : M → View → Type 0) (lane new : Lane M) (v w : View) → IsSeenAs at lane v → HoldsLines v → at new.memory w → IsToldAs v w new.last → MayRest w → LiesUnlocked w → new.locks.items ≡ lane.locks.items → new.records.items ≡ [] → new.entries.items ≡ []
    → new.drawn ≡ Some new.last → IsOfSamePool lane new → new.stopped ≡ false → HasPlace v → IsAfterTold at new w
after_told at lane new v w seen lines memory over rests apart locks none unlisted drawn pool unstopped place = record {
  seen = seen_behind at lane new v w seen memory over.lane over.locks over.log over.number over.last locks none drawn pool;
  unstopped = unstopped;
  unlisted = unlisted;
  log = over.log;
  undrained = rests;
  apart = apart;
  lines = lines_behind v w over.lane over.locks lines;
  place = place_behind v w over.lane place;
}
