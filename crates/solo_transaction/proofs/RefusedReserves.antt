-- A reservation is refused, before any block was looked for or since none is free: that is told, and the lane is at work with its lists still.
use Rattle.std.proofs.Common.{◌≡◌, ℕ, ◌<◌, ◌≤◌, List, [], Some, refl, sym, ap, ◌∙◌, subst}
use Rattle.std.specs.List.{All}
use Rattle.std.proofs.lemmas.List.{append-nil}
use Rattle.pm_layout.specs.Sizes.{class_of}
use Rattle.solo_model.specs.Actions.{Pending, max_actions, pending_count}
use Rattle.solo_model.specs.declared.stage.Stage.TheVariants as model_stage
use Rattle.pm_objects.specs.declared.calls.Operation.TheVariants.{Reserve}
use Rattle.pm_objects.specs.declared.history.TxErr.TheVariants as error
use Rattle.pm_objects.specs.declared.history.Value.TheVariants.{Refused}
use Rattle.pm_objects.specs.declared.refusal.Refusal.{Refusal}
use Rattle.pm_objects.specs.declared.refusal.Refusal.TheVariants as refusal
use Rattle.solo_undo.proofs.Begun.{tell_works}
use Rattle.solo_undo.specs.Spans.{IsSpan}
use Rattle.solo_view.proofs.SameLane.{same_lane-after}
use Rattle.solo_view.specs.Steps.Step.{Tell}
use Rattle.solo_view.specs.View.{View}
use Rattle.solo_view.specs.Views.{after}
use Rattle.solo_world.specs.Opening.{Opening}
use Rattle.solo_world.specs.Searches.{HasSearched}
use Rattle.solo_world.specs.declared.lane.HeldLock.{HeldLock}
use Rattle.solo_world.specs.declared.lane.Lane.{Lane}
use Rattle.solo_blocks.specs.AnyBlocks.{HasNoRoom}
use Rattle.solo_blocks.specs.declared.making.NoBlock.TheVariants as no_block
use Rattle.solo_crash.proofs.CallBlocks.{blocks_once_more, same_blocks}
use Rattle.solo_crash.proofs.PendingOn.{pending_same, published_once_more}
use Rattle.solo_crash.proofs.ReserveOn.{refused_reserve_goes_on}
use Rattle.solo_crash.proofs.ReservedStays.{quietly_stays}
use Rattle.solo_crash.specs.OpenCall.{IsUnderWay}
use Rattle.solo_crash.specs.Operations.{KeepsKnown, TellsNothing}
use Rattle.solo_crash.specs.Pending.{pending_in, published_in}
use Rattle.solo_crash.specs.Reserving.{IsReserveReason, RefusesReserve}
use Rattle.solo_made.specs.Made.{BlockLists}
use Rattle.solo_tx.proofs.GoingOn.{HasSameFields, fields_same, goes_on}
use Rattle.solo_tx.proofs.NoneMade.{made_none_before}
use Rattle.solo_tx.specs.AtWork.{IsAtWork}
use Rattle.solo_transaction.proofs.ActionsWithLists.{told_with_lists}
use Rattle.solo_transaction.proofs.GoingWith.{Keeps, keeps_quiet, kept_of, with_lists}
use Rattle.solo_transaction.proofs.RefusedAllocs.{heads, refused_for_room, same_word, search_of, search_to, still, works_behind}
use Rattle.solo_transaction.specs.Allocating.{CameToRefuse, MayAllocate}
use Rattle.solo_transaction.specs.AtWork.{IsAtWorkWith}
use Rattle.solo_transaction.specs.Reserving.{HasRefusedReserve}

-- ---- the refusal is told

module _ {M : Type 0} (o : Opening) (at : M → View → Type 0) (lane next : Lane M) (blocks : BlockLists) (v : View) (is : IsAtWorkWith o at lane blocks v) (size kind : ℕ) (r : Refusal)
    (reason : IsReserveReason (pending_in v) size r) (fields : HasSameFields lane next) (records : next.records ≡ lane.records) where
  abbrev told : View
  told = after v (Tell (Reserve size kind) (Some (Refused r)))

  refuses : RefusesReserve v told size kind r
  refuses = record {
    reason = reason;
    tells = record { keeps = record { lanes = refl; zones = refl; pool = refl; lane = refl; entries = refl; known = λ i there. there }; locks = refl; call = refl };
    logs = record { records = refl; entries = refl };
    keeps = record { known = λ i outside there. refl; recorded = λ i outside there. refl };
  }

  under_way_told : IsUnderWay told lane.level model_stage.Work error.None
  under_way_told = refused_reserve_goes_on v told size kind r lane.level is.work.level is.work.under_way refuses

  told_at_work : at next.memory told → IsAtWork o at next told
  told_at_work seen =
      goes_on o at lane next v told is.work fields
      (record { lane = same_lane-after v (Tell (Reserve size kind) (Some (Refused r))); locks = refl; number = refl; entries = refl; remembers = λ i there. there; seen = λ s there. there; sizes = λ l held. refl })
      seen (ap (λ rs. rs.items) records ∙ is.work.seen.records) (subst (λ rs. All IsSpan rs.items) (sym records) is.work.spans)
      (let f = is.work.opening in record { lane = f.lane; lanes = f.lanes; size = f.size; descriptors = f.descriptors; locks = f.locks })
      (tell_works v (Reserve size kind) (Some (Refused r)) is.work.working) is.work.no_entries
      (published_once_more v told (Reserve size kind) (Some (Refused r)) refl refl ∙ append-nil (published_in v))
      (made_none_before v told (Reserve size kind) (Some (Refused r)) refl refl refl) under_way_told

  pub refusal_told : at next.memory told → IsAtWorkWith o at next blocks told
  refusal_told seen =
      told_with_lists o at lane next blocks v is fields.locks (Reserve size kind) (Some (Refused r)) (blocks_once_more v told (Reserve size kind) (Some (Refused r)) refl refl) (refl, refl) (λ root. tt)
      (told_at_work seen)

-- ---- where no block is free

-- a search that found none keeps the lists, and what is reserved
module _ {M : Type 0} (o : Opening) (at : M → View → Type 0) (lane : Lane M) (blocks : BlockLists) (v : View) (may : MayAllocate o at lane blocks v) (new : View → Type 0) (Q : View → Type 0) (searched : HasSearched new v [] Q) where
  abbrev found : View
  found = searched.view

  pub search_keeps : Keeps lane.locks.items blocks found
  search_keeps =
      let s = still o at lane blocks v may new Q searched in
      let words = same_word o at lane blocks v may new Q searched in
      let quietly : TellsNothing v found = record { keeps = record { lanes = s.lanes; zones = s.zones; pool = s.pool; lane = s.lane; entries = s.entries; known = s.known }; locks = s.locks; call = s.call } in
      let known : KeepsKnown v found = record { known = λ i outside there. words i; recorded = λ i outside there. words i } in
      keeps_quiet v found (heads o at lane blocks v may new Q searched) lane.locks.items blocks (kept_of o at lane blocks v may.works) s.same_lane.table searched.zones
      (same_blocks v found s.entries s.call) s.entries s.call (quietly_stays v found may.works.has_reserved quietly known)

module _ {M : Type 0} (o : Opening) (at : M → View → Type 0) (lane mid : Lane M) (blocks : BlockLists) (v : View) (may : MayAllocate o at lane blocks v) (size kind : ℕ) (why : Refusal)
    (same : mid ≡ record lane { memory = mid.memory }) (none : HasNoRoom (at mid.memory) v (class_of size) (no_block.Refused why)) where
  is_no_space : why ≡ refusal.NoSpace
  is_no_space = refused_for_room (at mid.memory) v (class_of size) why none

  pub found_none : HasNoRoom (at mid.memory) v (class_of size) (no_block.Refused refusal.NoSpace)
  found_none = subst (λ (r : Refusal). HasNoRoom (at mid.memory) v (class_of size) (no_block.Refused r)) is_no_space none

  abbrev searched : (Q : View → Type 0) × HasSearched (at mid.memory) v [] Q
  searched = search_of (at mid.memory) v (class_of size) found_none

  abbrev x : View
  x = searched.1.view

  fields : HasSameFields lane mid
  fields = fields_same lane mid (same ∙ ap (λ records. record lane { memory = mid.memory; records = records }) (sym (ap (λ (l : Lane M). l.records) same)))

  pub works_searched : IsAtWorkWith o at mid blocks x
  works_searched =
      with_lists o at mid blocks x (works_behind o at lane blocks v may (at mid.memory) searched.0 searched.1 mid fields (ap (λ (l : Lane M). l.records) same) searched.1.there)
      (subst (λ (ls : List HeldLock). Keeps ls blocks x) (sym (ap (λ ls. ls.items) fields.locks)) (search_keeps o at lane blocks v may (at mid.memory) searched.0 searched.1))

  pub no_space_refused : 1 ≤ size → size ≤ 262080 → pending_count (pending_in v) < max_actions → (next : Lane M) → next ≡ record mid { memory = next.memory }
      → ((w : View) → at mid.memory w → at next.memory (after w (Tell (Reserve size kind) (Some (Refused why))))) → HasRefusedReserve o at next blocks v size kind why
  no_space_refused some most room next later tells =
      let s = still o at lane blocks v may (at mid.memory) searched.0 searched.1 in
      let reason : IsReserveReason (pending_in x) size why =
      subst (IsReserveReason (pending_in x) size) (sym is_no_space) (some, most, subst (λ (p : Pending). pending_count p < max_actions) (sym (pending_same v x s.entries s.call)) room) in
      let records : next.records ≡ mid.records = ap (λ (l : Lane M). l.records) later in
      record {
        view = x;
        came = subst (λ (r : Refusal). CameToRefuse v size r x) (sym is_no_space) (search_to (at mid.memory) v (class_of size) found_none);
        reason = reason;
        works = refusal_told o at mid next blocks x works_searched size kind why reason (fields_same mid next (later ∙ ap (λ rs. record mid { memory = next.memory; records = rs }) (sym records))) records (tells x searched.1.there);
      }

-- ---- where none was looked for

pub refused_at_once : {M : Type 0} (o : Opening) (at : M → View → Type 0) (lane next : Lane M) (blocks : BlockLists) (v : View) → MayAllocate o at lane blocks v → (size kind : ℕ) (r : Refusal) → (CameToRefuse v size r v)
    → IsReserveReason (pending_in v) size r → next ≡ record lane { memory = next.memory } → ((w : View) → at lane.memory w → at next.memory (after w (Tell (Reserve size kind) (Some (Refused r))))) → HasRefusedReserve o at next blocks v size kind r
refused_at_once o at lane next blocks v may size kind r came reason later tells =
    let records : next.records ≡ lane.records = ap (λ (l : Lane _). l.records) later in
    record {
      view = v;
      came = came;
      reason = reason;
      works = refusal_told o at lane next blocks v may.works size kind r reason (fields_same lane next (later ∙ ap (λ rs. record lane { memory = next.memory; records = rs }) (sym records))) records (tells v may.works.work.seen.memory);
    }
