-- A lane that found no free block for an object gives its call up.
use Rattle.std.proofs.Common.{◌≡◌, ◌≢◌, ◌⊎◌, inl, inr, ℕ, ◌+◌, ◌≤◌, List, [], Some, refl, sym, ap, ◌∙◌, subst, arith, true}
use Rattle.pm_layout.specs.Sizes.{class_of}
use Rattle.solo_model.specs.Actions.{max_entries}
use Rattle.pm_objects.specs.declared.calls.Operation.TheVariants.{Alloc}
use Rattle.pm_objects.specs.declared.history.TxErr.TheVariants as error
use Rattle.pm_objects.specs.declared.history.Value.TheVariants.{Refused}
use Rattle.pm_objects.specs.declared.refusal.Refusal.{Refusal}
use Rattle.pm_objects.specs.declared.refusal.Refusal.TheVariants as refusal
use Rattle.solo_view.specs.View.{View}
use Rattle.solo_world.specs.Opening.{Opening}
use Rattle.solo_world.specs.Searches.{HasSearched}
use Rattle.solo_world.specs.declared.lane.Lane.{Lane}
use Rattle.solo_world.specs.declared.lane.Span.{Span}
use Rattle.solo_blocks.specs.AnyBlocks.{HasNoRoom}
use Rattle.solo_blocks.specs.declared.making.NoBlock.{NoBlock}
use Rattle.solo_blocks.specs.declared.making.NoBlock.TheVariants as no_block
use Rattle.solo_memory.specs.declared.lane_mem.Stopped.{Stopped}
use Rattle.solo_alloc.specs.NewObjects.{GivesNoObject}
use Rattle.solo_crash.specs.Operations.{IsAllocReason, entries_so_far}
use Rattle.solo_made.specs.Made.{BlockLists}
use Rattle.solo_tx.proofs.GoingOn.{HasSameFields, fields_same}
use Rattle.solo_tx.specs.AtWork.{IsAtWork}
use Rattle.solo_tx.specs.Ending.{GivesUpBy, IsEndedBy, IsStoppedIn}
use Rattle.solo_tx.specs.Sequences.{gives_up}
use Rattle.solo_transaction.proofs.RefusedAllocs.{borne_behind, entries_behind, refusal_gives_up, refused_for_room, search_of, search_to, works_behind}
use Rattle.solo_transaction.specs.Allocating.{CameToRefuse, IsAllocGivenUp, IsAllocStopped, IsStoppedMaking, MayAllocate}

-- the answer is the refusal, or that the lane stopped
pub answered_or_stopped : (why answer : Refusal) → why ≡ refusal.NoSpace → (answer ≢ refusal.Stopped → answer ≡ why) → (answer ≡ refusal.NoSpace) ⊎ (answer ≡ refusal.Stopped)
answered_or_stopped why refusal.Stopped is answered = inr refl
answered_or_stopped why answer is answered = inl (answered (λ stopped. let clash : answer ≡ refusal.Stopped = stopped in absurd cc) ∙ is)

module _ {M : Type 0} (o : Opening) (at : M → View → Type 0) (lane : Lane M) (blocks : BlockLists) (v : View) (may : MayAllocate o at lane blocks v) (size kind : ℕ) (why : Refusal) (next : Lane M)
    (same : next ≡ record lane { memory = next.memory }) (none : HasNoRoom (at next.memory) v (class_of size) (no_block.Refused why)) where
  fields : HasSameFields lane next
  fields = fields_same lane next (same ∙ ap (λ records. record lane { memory = next.memory; records = records }) (sym (ap (λ (l : Lane M). l.records) same)))

  is_no_space : why ≡ refusal.NoSpace
  is_no_space = refused_for_room (at next.memory) v (class_of size) why none

  pub found_none : HasNoRoom (at next.memory) v (class_of size) (no_block.Refused refusal.NoSpace)
  found_none = subst (λ (r : Refusal). HasNoRoom (at next.memory) v (class_of size) (no_block.Refused r)) is_no_space none

  abbrev searched : (Q : View → Type 0) × HasSearched (at next.memory) v [] Q
  searched = search_of (at next.memory) v (class_of size) found_none

  abbrev x : View
  x = searched.1.view

  pub works_there : IsAtWork o at next x
  works_there = works_behind o at lane blocks v may (at next.memory) searched.0 searched.1 next fields (ap (λ (l : Lane M). l.records) same) searched.1.there

  pub works_still : (w : View) × IsAtWork o at next w
  works_still = (x, works_there)

  module _ (some : 1 ≤ size) (most : size ≤ 262080) (room : entries_so_far v + 2 ≤ max_entries) where
    reason : IsAllocReason x size why
    reason = subst (IsAllocReason x size) (sym is_no_space)
        (some, most, (let behind = entries_behind o at lane blocks v may (at next.memory) searched.0 searched.1 in omega (arith, behind, room)))

    gives : GivesUpBy x (Alloc size kind) (Some (Refused why)) (error.Refused why)
    gives = refusal_gives_up o at next x works_there (borne_behind o at lane blocks v may (at next.memory) searched.0 searched.1) size kind why reason

    came : CameToRefuse v size why x
    came = subst (λ (r : Refusal). CameToRefuse v size r x) (sym is_no_space) (search_to (at next.memory) v (class_of size) found_none)

    abbrev spans_same : next.records.items ≡ lane.records.items
    spans_same = ap (λ (l : Lane M). l.records.items) same

    pub given_up : (last : Lane M)
        → ((w : View) → IsAtWork o at next w → GivesUpBy w (Alloc size kind) (Some (Refused why)) (error.Refused why)
        → IsEndedBy at last w (gives_up next.records.items (Alloc size kind) (Some (Refused why)) last.last) (Alloc size kind) (Some (Refused why)))
        → IsAllocGivenUp at last v lane.records.items size kind why
    given_up last ended = record {
      view = x;
      came = came;
      reason = reason;
      ended = subst (λ (spans : List Span). IsEndedBy at last x (gives_up spans (Alloc size kind) (Some (Refused why)) last.last) (Alloc size kind) (Some (Refused why))) spans_same (ended x works_there gives);
    }

    pub stopped_giving_up : (last : Lane M)
        → ((w : View) → IsAtWork o at next w → why ≢ refusal.Stopped → GivesUpBy w (Alloc size kind) (Some (Refused why)) (error.Refused why)
        → IsStoppedIn at last w (gives_up next.records.items (Alloc size kind) (Some (Refused why)) last.last) (Alloc size kind) (Some (Refused why)))
        → IsAllocStopped at last v lane.records.items size kind
    stopped_giving_up last stops = record {
      refusal = why;
      view = x;
      came = came;
      reason = reason;
      stopped =
          subst (λ (spans : List Span). IsStoppedIn at last x (gives_up spans (Alloc size kind) (Some (Refused why)) last.last) (Alloc size kind) (Some (Refused why))) spans_same
          (stops x works_there (λ (stop : why ≡ refusal.Stopped). let clash : refusal.NoSpace ≡ refusal.Stopped = sym is_no_space ∙ stop in absurd cc) gives);
    }

-- a lane that came to its stop as it made an object
pub stopped_making : {M : Type 0} (at : M → View → Type 0) (lane mid last : Lane M) (v : View) (size kind : ℕ) (why : NoBlock) (stop : Stopped) → why ≡ no_block.Stopped stop → GivesNoObject (at mid.memory) v size kind why
    → mid ≡ record lane { memory = mid.memory } → last ≡ record mid { stopped = true } → IsStoppedMaking at lane last v size kind
stopped_making {M} at lane mid last v size kind why stop is gives same stopped = record {
  stop = stop;
  gives = subst (λ (m : M). GivesNoObject (at m) v size kind (no_block.Stopped stop)) (sym (ap (λ (l : Lane M). l.memory) stopped)) (subst (GivesNoObject (at mid.memory) v size kind) is gives);
  undrawn = ap (λ (l : Lane M). l.drawn) stopped ∙ ap (λ (l : Lane M). l.drawn) same;
}
