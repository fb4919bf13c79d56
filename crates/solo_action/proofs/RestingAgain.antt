-- The fields of a lane that rests again behind a call are as before it, but for its memory and its last number.
use Rattle.std.proofs.Common.{◌≡◌, ℕ, List, [], None, Some, sym, ap, ◌∙◌}
use Rattle.arrayvec.specs.ArrayVec.{ArrayVec}
use Rattle.solo_view.specs.View.{View}
use Rattle.solo_world.specs.declared.lane.HeldLock.{HeldLock}
use Rattle.solo_world.specs.declared.lane.Lane.{Lane}
use Rattle.solo_lock.specs.Resting.{IsAtRest}
use Rattle.solo_tx.specs.Beginning.{IsBegunBy}
use Rattle.solo_tx.specs.Sequences.{starts}
use Rattle.solo_tx.proofs.BeginPlanned.{no_locks}

module _ {M : Type 0} (at : M → View → Type 0) (old mid new : Lane M) (v : View) (n : ℕ) (rests : IsAtRest at old v) (started : IsBegunBy at mid v (starts n)) (same : mid ≡ record old { memory = mid.memory }) where
  abbrev no_items : List HeldLock → ArrayVec HeldLock
  no_items items = record { items = items }

  pub fields_kept : new.locks.items ≡ [] → new ≡ record mid { memory = new.memory; locks = new.locks; drawn = None; last = new.last } → new ≡ record old { memory = new.memory; last = new.last }
  fields_kept free fields =
      let held : old.locks.items ≡ [] = sym (ap (λ (l : Lane M). l.locks.items) same) ∙ no_locks at old mid v n started rests same in
      let locks : new.locks ≡ old.locks = ap no_items (free ∙ sym held) in
      let drawn : None ≡ old.drawn = sym rests.answered in
      fields
      ∙ ap (λ (l : Lane M). record l { memory = new.memory; locks = new.locks; drawn = None; last = new.last }) same
      ∙ (λ i. record old { memory = new.memory; locks = locks i; drawn = drawn i; last = new.last })

-- a list of a lane that is empty still
emptied : {T : Type 0} (old new : ArrayVec T) → old.items ≡ [] → new.items ≡ [] → new ≡ old
emptied {T} old new none now =
    let of : List T → ArrayVec T = λ items. record { items = items } in
    ap of (now ∙ sym none)

-- behind a start, of a call that left its lists as they were
pub fields_rested : {M : Type 0} (at : M → View → Type 0) (old mid new : Lane M) (v : View) → IsAtRest at old v → mid ≡ record old { memory = mid.memory } → new ≡ record mid { memory = new.memory; drawn = None; last = new.last }
    → new ≡ record old { memory = new.memory; last = new.last }
fields_rested {M} at old mid new v rests same fields =
    let drawn : None ≡ old.drawn = sym rests.answered in
    fields ∙ ap (λ (l : Lane M). record l { memory = new.memory; drawn = None; last = new.last }) same ∙ (λ i. record old { memory = new.memory; drawn = drawn i; last = new.last })

-- the lane's memory was another in between
pub fields_behind : {M : Type 0} (mid later new : Lane M) → later ≡ record mid { memory = later.memory } → new ≡ record later { memory = new.memory; locks = new.locks; drawn = None; last = new.last }
    → new ≡ record mid { memory = new.memory; locks = new.locks; drawn = None; last = new.last }
fields_behind {M} mid later new same fields = fields ∙ ap (λ (l : Lane M). record l { memory = new.memory; locks = new.locks; drawn = None; last = new.last }) same

-- its memory alone became another, once its last number was
pub memory_behind : {M : Type 0} (old mid new : Lane M) → mid ≡ record old { memory = mid.memory; last = mid.last } → new ≡ record mid { memory = new.memory } → new ≡ record old { memory = new.memory; last = new.last }
memory_behind {M} old mid new first second =
    second ∙ ap (λ (l : Lane M). record l { memory = new.memory }) first ∙ ap (λ (n : ℕ). record old { memory = new.memory; last = n }) (sym (ap (λ (l : Lane M). l.last) second))

-- it is of the same shape
pub shape_kept : {M : Type 0} (old mid later new : Lane M) → mid ≡ record old { memory = mid.memory } → later ≡ record mid { memory = later.memory } → new ≡ record later { memory = new.memory; locks = new.locks; drawn = None; last = new.last }
    → new.shape ≡ old.shape
shape_kept {M} old mid later new first then ended = ap (λ (l : Lane M). l.shape) ended ∙ (ap (λ (l : Lane M). l.shape) then ∙ ap (λ (l : Lane M). l.shape) first)
