-- A lane that is alone and whose call has begun looks for a block and finds none, or looks for none, and tells that it refuses a reservation: that is all of its call, an ended one,
-- behind whose draw the lane rests with what it has reserved.
use Rattle.std.proofs.Common.{◌≡◌, inl, ℕ, List, [], ◌∷◌, ◌++◌, Contains, slice_index, Some, refl, sym, ap, ◌∙◌, subst}
use Rattle.std.proofs.lemmas.List.{append-nil}
use Rattle.pm_header.specs.declared.header.Header.{Header}
use Rattle.pm_image.specs.Blocks.{chunk_word, descriptor_word}
use Rattle.pm_layout.specs.Sizes.{class_of}
use Rattle.pm_layout.specs.declared.shape.Shape.{Shape}
use Rattle.solo_memory.specs.Solo.{AreNumbered}
use Rattle.pm_objects.specs.declared.calls.Operation.TheVariants.{Reserve}
use Rattle.pm_objects.specs.declared.history.Value.TheVariants.{Refused}
use Rattle.pm_objects.specs.declared.pool.PoolView.{PoolView}
use Rattle.pm_objects.specs.declared.refusal.Refusal.{Refusal}
use Rattle.pm_objects.specs.declared.refusal.Refusal.TheVariants as refusal
use Rattle.solo_undo.proofs.Begun.{tell_works}
use Rattle.solo_undo.specs.Working.{IsWorking}
use Rattle.solo_view.specs.Constants.{IsSameLane}
use Rattle.solo_view.specs.Log.{Log, Phase}
use Rattle.solo_view.specs.Steps.{Step}
use Rattle.solo_view.specs.Steps.Step.{Draw, Tell}
use Rattle.solo_view.specs.View.{Told, View}
use Rattle.solo_view.proofs.SameLane.{same_lane}
use Rattle.solo_world.specs.Lawful.{Allowed, MayTell}
use Rattle.solo_world.specs.Opening.{Opening}
use Rattle.solo_world.specs.Searches.{HasSearched}
use Rattle.solo_world.specs.declared.lane.Lane.{Lane}
use Rattle.solo_blocks.proofs.Searching.{IsLeft, left_by_search, works_still}
use Rattle.solo_blocks.specs.AnyBlocks.{HasNoRoom}
use Rattle.solo_blocks.specs.declared.making.NoBlock.TheVariants as no_block
use Rattle.solo_alloc.proofs.StillWhole.{words_still}
use Rattle.solo_alloc.specs.NewObjects.{CanMakeObject}
use Rattle.solo_crash.proofs.Leading.{leads_then}
use Rattle.solo_crash.proofs.ReservedOutside.{outside_refusal_is_step}
use Rattle.solo_crash.proofs.StillReserved.{HasSameHeads}
use Rattle.solo_crash.specs.Alone.{WorksAlone}
use Rattle.solo_crash.specs.HeldHistory.{IsEndedCall}
use Rattle.solo_crash.specs.Leading.{Leads}
use Rattle.solo_crash.specs.Pending.{pending_in}
use Rattle.solo_crash.specs.Reserving.{IsReserveReason, RefusesReserve}
use Rattle.solo_epoch.proofs.GainedRooms.{IsCallStill, search_still}
use Rattle.solo_epoch.proofs.OutsideCalls.{refused_outside, refuses_outside}
use Rattle.solo_epoch.proofs.QuietSteps.{search_leads}
use Rattle.solo_epoch.specs.Allocating.{HasSameDescriptors}
use Rattle.solo_epoch.specs.Reserving.{IsAloneBetween, IsAloneOutside}
use Rattle.solo_lock.proofs.Undrained.{rest_kept}
use Rattle.solo_lock.specs.Begun.{IsBegun}
use Rattle.solo_transaction.proofs.RefusedAllocs.{search_of}
use Rattle.solo_transaction.specs.Published.{HasOwnCounts}
use Rattle.solo_action.proofs.AloneStill.{can_still}
use Rattle.solo_action.proofs.BegunOn.{begun_on}
use Rattle.solo_action.proofs.ReservesOutside.{none_found}
use Rattle.solo_action.proofs.RestingStill.{rests_behind_draw}
use Rattle.solo_action.specs.Outside.{RestsStill}
use Rattle.solo_action.specs.Reserving.{refused_drawn, refused_view}

-- the lane looked on from the one view to the other: it told and drew nothing, and has all that it had, its words among it
pub record LooksOn (w x : View) : Type 0 where
  pub more : List Step
  pub leads : Leads w more x
  pub lane : IsSameLane w x
  pub locks : x.locks ≡ w.locks
  pub call : x.call ≡ w.call
  pub number : x.number ≡ w.number
  pub entries : x.entries ≡ w.entries
  pub log : x.log ≡ w.log
  pub seen : (s : Step) → Contains w.seen s → Contains x.seen s
  pub known : (i : ℕ) → Contains w.known i → Contains x.known i
  pub words : x.words ≡ w.words
  pub reserved : x.reserved ≡ w.reserved
  pub zone_locks : x.zone_locks ≡ w.zone_locks
  pub changes : x.changes ≡ w.changes
  pub working : IsWorking x

pub looks_not : (w : View) → IsWorking w → LooksOn w w
unfolding Leads
looks_not w working = record {
  more = [];
  leads = refl;
  lane = same_lane w;
  locks = refl;
  call = refl;
  number = refl;
  entries = refl;
  log = refl;
  seen = λ s there. there;
  known = λ i there. there;
  words = refl;
  reserved = refl;
  zone_locks = refl;
  changes = refl;
  working = working;
}

-- as it does where it looks for a block, and finds none
pub looks_for_room : (w : View) (shape : Shape) → CanMakeObject w shape → w.locks ≡ [] → (at : View → Type 0) (size : ℕ) (none : HasNoRoom at w (class_of size) (no_block.Refused refusal.NoSpace)) → LooksOn w (search_of at w (class_of size) none).1.view
looks_for_room w shape can free at size none =
    let t = search_of at w (class_of size) none in
    let searched : HasSearched at w [] t.0 = t.1 in
    let x : View = searched.view in
    let still : IsCallStill w x = search_still w shape can (none_found w.locks free) at [] t.0 searched in
    let left : IsLeft w x = left_by_search w x searched.steps searched.searches can.run.alone can.run.locked in
    record {
      more = searched.steps;
      leads = search_leads w x searched.steps searched.searches;
      lane = still.same_lane;
      locks = still.locks;
      call = still.call;
      number = still.number;
      entries = still.entries;
      log = still.log;
      seen = still.seen;
      known = still.known;
      words = words_still w shape can.run at [] t.0 searched;
      reserved = searched.reserved ∙ append-nil w.reserved;
      zone_locks = searched.zones;
      changes = ap (λ (z : View). z.changes) searched.kept.same;
      working = works_still w x searched.kept left can.run.working;
    }

module _ (w x : View) (looks : LooksOn w x) where
  pub begun_looked : {M : Type 0} (at : M → View → Type 0) (lane : Lane M) → IsBegun at lane w → (memory : M) → at memory x → IsBegun at (record lane { memory = memory }) x
  begun_looked at lane is memory there =
      begun_on at lane w x is (record { lane = looks.lane; locks = looks.locks; call = looks.call; number = looks.number; entries = looks.entries; log = looks.log; seen = looks.seen; below = looks.working.area.below })
      (rest_kept w x looks.changes looks.reserved looks.lane.lanes looks.lane.table (λ alone. looks.words) is.undrained) memory there

  module _ (o : Opening) (header : Header) (pool : PoolView) (start : View) (steps : List Step) (shape : Shape) (c : IsAloneBetween o header pool start steps w shape) (size kind : ℕ) (r : Refusal) (reason : IsReserveReason (pending_in w) size r) where
    abbrev z : View
    z = refused_view x size kind r

    word_same : (i : ℕ) → slice_index x.words i ≡ slice_index w.words i
    word_same i = ap (λ (ws : List ℕ). slice_index ws i) looks.words

    refuses : RefusesReserve w (refused_view x size kind r) size kind r
    refuses = record {
      reason = reason;
      tells = record {
        keeps = record { lanes = looks.lane.lanes; zones = looks.lane.zones; pool = looks.lane.pool; lane = looks.lane.lane; entries = looks.entries; known = looks.known };
        locks = looks.locks;
        call = ap (λ (call : List Told). call ++ record { operation = Reserve size kind; reply = Some (Refused r) } ∷ []) looks.call;
      };
      logs = record { records = ap (λ (l : Log). l.records) looks.log; entries = ap (λ (l : Log). l.entries) looks.log };
      keeps = record { known = λ i outside there. word_same i; recorded = λ i outside there. word_same i };
    }

    pub refusal_ends : IsEndedCall (refused_view x size kind r)
    refusal_ends = inl (outside_refusal_is_step z size kind r (refuses_outside o header pool start steps w shape c z size kind r refuses))

    tell_leads : Leads x (Tell (Reserve size kind) (Some (Refused r)) ∷ []) (refused_view x size kind r)
    unfolding Leads
    tell_leads = (subst (λ (phase : Phase). MayTell phase) (sym looks.working.is_open) tt, tt, tt, refl)

    module _ (n : ℕ) (counts : HasOwnCounts (refused_drawn x size kind r n)) where
      abbrev more : List Step
      more = looks.more ++ Tell (Reserve size kind) (Some (Refused r)) ∷ []

      works : WorksAlone o header pool start (steps ++ (looks.more ++ Tell (Reserve size kind) (Some (Refused r)) ∷ [])) (refused_view x size kind r)
      works = record {
        begins = c.outside.works.begins;
        leads = leads_then start w z steps more c.outside.works.leads (leads_then w x z looks.more (Tell (Reserve size kind) (Some (Refused r)) ∷ []) looks.leads tell_leads);
        numbered = subst (AreNumbered 1) (sym looks.entries) c.outside.works.numbered;
        within = counts.within;
      }

      heads : HasSameHeads w (refused_view x size kind r)
      heads = record { lanes = looks.lane.lanes; zones = looks.lane.zones; reserved = looks.reserved; described = λ chunk in_pool. word_same (descriptor_word w.lanes chunk); bitmaps = λ chunk in_pool run. word_same (chunk_word w.lanes chunk); root = word_same 64 }

      can : CanMakeObject (refused_view x size kind r) shape
      can =
          let lane = looks.lane in
          can_still o header pool start steps w shape c z (steps ++ more) works heads
          (record { lanes = lane.lanes; zones = lane.zones; pool = lane.pool; lane = lane.lane; stop = lane.stop; table = lane.table; size = lane.size }) looks.zone_locks
          (tell_works x (Reserve size kind) (Some (Refused r)) looks.working) (ap (λ (l : Log). l.entries) looks.log ∙ c.outside.no_entries)

      described : HasSameDescriptors w (refused_view x size kind r)
      described chunk in_pool = word_same (descriptor_word w.lanes chunk)

      outside : IsAloneOutside o header pool start (steps ++ (looks.more ++ Tell (Reserve size kind) (Some (Refused r)) ∷ [])) (refused_view x size kind r) shape
      outside = refused_outside o header pool start steps w shape c z (steps ++ more) works can looks.reserved described size kind r refuses

      pub refused_rests_still : Allowed (refused_view x size kind r) (Draw n) → RestsStill o header pool (refused_drawn x size kind r n) shape
      refused_rests_still allowed = rests_behind_draw o header pool start (steps ++ more) z shape n outside refusal_ends allowed counts.numbered
