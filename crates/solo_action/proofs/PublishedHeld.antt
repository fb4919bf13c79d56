-- A call that holds the objects of its actions may publish them, and is whole once they are logged.
use Rattle.std.proofs.Common.{◌≡◌, ◌⊎◌, ⊎_elim, inl, inr, ℕ, ◌+◌, ◌*◌, ◌/◌, ◌^◌, ◌<◌, ◌≤◌, Bool, true, All, Contains, List, [], ◌∷◌, ◌++◌, map, length, get_or, slice_index, Ok, None, Some, refl, sym, ap, ◌∙◌, subst, arith}
use Rattle.std.proofs.Math.ListN.{get_or-map}
use Rattle.std.proofs.lemmas.List.{append_assoc, length-map}
use Rattle.std.proofs.lemmas.List.Elements.{All-weaker}
use Rattle.solo_crash.proofs.PublishOutside.{publish_is_step}
use Rattle.solo_crash.proofs.PendingOn.{same_before, sets_alone}
use Rattle.solo_crash.specs.Locks.{AreSameLocks}
use Rattle.solo_crash.specs.OnActions.{CanSet}
use Rattle.solo_crash.specs.OpenCall.{IsWholeCall, lock_of as model_lock}
use Rattle.solo_crash.specs.Operations.{IsHeld, TakesWanted}
use Rattle.solo_crash.specs.Pending.{pending_before}
use Rattle.solo_crash.specs.Performing.{entry_for}
use Rattle.solo_memory.specs.Runs.{Stops}
use Rattle.solo_model.specs.Actions.{Action, Pending, only_sets, wants_for, wants_pending}
use Rattle.solo_model.specs.Actions.Action.{SetWord}
use Rattle.solo_model.specs.Places.{can_begin}
use Rattle.solo_model.specs.Transaction.{locked_all}
use Rattle.pm_objects.specs.declared.calls.Operation.TheVariants.{Publish}
use Rattle.pm_objects.specs.declared.ids.Oid.{Oid}
use Rattle.solo_pending.specs.Pending.{action_of, entry_of, redo_for, sets_of}
use Rattle.solo_pending.specs.declared.actions.SetAction.{SetAction}
use Rattle.pm_record.specs.declared.redo.Redo.{Redo}
use Rattle.solo_redo.specs.Entering.{IsOfPool, MayEnter}
use Rattle.solo_redo.specs.Sequences.{logs}
use Rattle.solo_view.specs.Blocks.{is_chunk}
use Rattle.solo_view.specs.Log.{Log}
use Rattle.solo_view.specs.Steps.{Step}
use Rattle.solo_view.specs.View.{Lock, Told, View}
use Rattle.solo_view.specs.Views.{after_all}
use Rattle.solo_view.proofs.Sequences.{after_all-append}
use Rattle.solo_world.proofs.Sequencing.{ready_left}
use Rattle.solo_world.proofs.Shapes.{IsOfSamePool}
use Rattle.solo_world.specs.Sequences.{IsStopped, Ready, Runs, in_turn, settles}
use Rattle.solo_world.specs.declared.lane.Lane.{Lane}
use Rattle.solo_lock.specs.Begun.{IsBegun}
use Rattle.solo_lock.specs.Leading.{DrawEnded}
use Rattle.solo_tx.specs.Ending.{IsAfterCall, IsEndedBy, IsOver, IsStoppedIn}
use Rattle.solo_tx.specs.Publishing.{IsWholeOnceLogged, MayPublish, StopsPublished, TellsLogged, logged_view, published_view}
use Rattle.solo_tx.specs.Sequences.{ends_call, performs_logged, publishes, publishes_outside}
use Rattle.solo_tx.proofs.Beginnings.{no_records, works}
use Rattle.solo_redo.proofs.Whole.{of_pool_kept}
use Rattle.solo_undo.proofs.Restored.{open_settled}
use Rattle.solo_undo.proofs.Settled.{settle_lawful}
use Rattle.solo_undo.proofs.Staying.{same_settled}
use Rattle.solo_undo.specs.Working.{IsSameCall, IsSettled}
use Rattle.solo_view.specs.Area.{is_in_area}
use Rattle.solo_tx.proofs.Committed.{finals_for}
use Rattle.solo_tx.proofs.Decided.{may_publish as may_publish_settled}
use Rattle.solo_tx.proofs.SettledFirst.{ended_first, stopped_behind, stopped_settling}
use Rattle.solo_tx.proofs.Fronts.{stopped_left, stopped_right}
use Rattle.solo_tx.proofs.GivenUp.{after_over, place_at_work, undrawn_lane}
use Rattle.solo_tx.proofs.Published.{logging_undrawn, performing_drawn, publish_drawn, publish_last, publish_lawful}
use Rattle.solo_action.specs.Publishing.{MayPublishHeld, entries_of}
use Rattle.solo_action.proofs.HeldWords.{all_of_pool, size_outside}

module _ {M : Type 0} (at : M → View → Type 0) (lane : Lane M) (actions : List Action) (v : View) (may : MayPublishHeld at lane actions v) where
  is : IsBegun at lane v
  is = may.begun

  entries : List Redo
  entries = entries_of actions

  pub own : All (IsOfPool v) (entries_of actions)
  own = all_of_pool v may.sound.opening may.sound.sound may.sound.finds may.holds.objects actions may.holds.each

  -- once all is persistent
  abbrev pub m : View
  m = after_all v (settles v)

  settled : IsSettled v m
  settled = (settle_lawful v).1

  call : IsSameCall v m
  call = same_settled v m settled

  words : m.words ≡ v.words
  words = ap (λ (u : View). u.words) settled

  pub own_settled : All (IsOfPool m) (entries_of actions)
  own_settled = All-weaker (IsOfPool v) (IsOfPool m) (λ e of. of_pool_kept v m e call (λ u out. ap (λ ws. slice_index ws u) words) of) (entries_of actions) own

  pub may_publish : 1 ≤ length actions → length actions ≤ 63 → MayPublish m (entries_of actions)
  may_publish some few =
      let n = length-map actions entry_of in
      may_publish_settled v m (works at lane v is) (ap (λ (log : Log). log.entries) is.log) is.may_come settled (entries_of actions) (omega (arith, n, some)) (omega (arith, n, few)) (All-weaker (IsOfPool v) (MayEnter v) (λ e of. inl of) (entries_of actions) own)

  module _ (same : only_sets actions ≡ pending_before v) (next : View) (t : TellsLogged v next (entries_of actions) Publish) where
    held_next : (id : Oid) (write : Bool) → IsHeld v id write → IsHeld next id write
    held_next id write h =
        record { lock = h.lock; lines = h.lines; held = subst (λ (ls : List Lock). Contains ls h.lock) (sym t.tells.locks) h.held; block = h.block; allows = h.allows; of_pool = h.of_pool ∙ sym t.tells.keeps.pool; place = h.place }

    takes_next : TakesWanted next [] (wants_for actions)
    takes_next =
        let takes = may.holds.takes in
        let keeps = t.tells.keeps in
        let locks = t.tells.locks in
        record {
          few = subst (λ (ls : List Lock). length ls ≤ 64) (sym locks) takes.few;
          locks = subst (λ (ls : List Lock). AreSameLocks (map model_lock ls) (locked_all (wants_for actions) [])) (sym locks) takes.locks;
          wanted = λ want there.
              let w = takes.wanted want there in
              record { place = (λ i. can_begin (keeps.lanes i) (keeps.zones i) want.id.off) ∙ w.place; held = held_next want.id want.write w.held };
          chunks = λ l lines there block. ap (λ n. is_chunk n (l.line / 64)) keeps.lanes ∙ takes.chunks l lines (subst (λ (ls : List Lock). Contains ls l) locks there) block;
        }

    sets_next : (a : Action) → CanSet v a → CanSet next a
    unfolding held_next
    sets_next (SetWord id off value) (range, word) =
        let h : IsHeld v id true = range.object in
        let size = t.words.words (8 * h.lock.line + 1) (size_outside v may.sound.opening may.sound.sound may.sound.finds may.holds.objects h.lock h.held) in
        let inside = range.inside in
        (record { object = held_next id true h; size_known = t.tells.keeps.known _ range.size_known; inside = omega (arith, size, inside) }, word)

    now : only_sets actions ≡ pending_before next
    now = same ∙ sym (same_before v next t.tells.keeps.entries)

    whole : IsWholeCall next
    whole =
        publish_is_step next (record {
          call = t.tells.call ∙ ap (λ (told : List Told). told ++ record { operation = Publish; reply = None } ∷ []) is.untold;
          no_records = t.records ∙ no_records at lane v is;
          alone = sets_alone (pending_before next) actions now;
          holds = record {
            in_lanes = (let low = is.area.lane in let lane = t.tells.keeps.lane in let lanes = t.tells.keeps.lanes in omega (arith, low, lane, lanes));
            takes = subst (λ (p : Pending). TakesWanted next [] (wants_pending p)) now takes_next;
          };
          each = subst (λ (p : Pending). All (CanSet next) p.sets) now (All-weaker (CanSet v) (CanSet next) sets_next actions may.holds.each);
          entries = t.logged ∙ finals_for actions ∙ ap (λ (p : Pending). map entry_for p.sets) now;
        })

  -- so it is from the view where all is persistent
  tells_before : (next : View) → TellsLogged m next (entries_of actions) Publish → TellsLogged v next (entries_of actions) Publish
  tells_before next t =
      let keeps = t.tells.keeps in
      record {
        tells = record {
          keeps = record {
            lanes = keeps.lanes ∙ call.lane.lanes;
            zones = keeps.zones ∙ call.lane.zones;
            pool = keeps.pool ∙ call.lane.pool;
            lane = keeps.lane ∙ call.lane.lane;
            entries = keeps.entries ∙ call.entries;
            known = λ u there. keeps.known u (call.remembers u there);
          };
          locks = t.tells.locks ∙ call.locks;
          call = t.tells.call ∙ ap (λ (told : List Told). told ++ record { operation = Publish; reply = None } ∷ []) call.call;
        };
        records = t.records ∙ (ap (λ (u : View). u.log.records) settled ∙ ap (λ (l : Log). l.records) (open_settled v.changes v [] [] (ap (λ (log : Log). log.phase) is.log)));
        words = record { words = λ u out. t.words.words u (ap (λ n. is_in_area n u) call.lane.lane ∙ out) ∙ ap (λ ws. slice_index ws u) words };
        logged = t.logged;
        reserved = t.reserved ∙ call.reserved;
      }

  pub whole_logged : only_sets actions ≡ pending_before v → IsWholeOnceLogged m (entries_of actions) Publish
  whole_logged same next t = inl (whole same next (tells_before next t))

-- a call that has begun may publish these entries, and lists them
module _ {M : Type 0} (at : M → View → Type 0) (lane : Lane M) (v : View) (is : IsBegun at lane v) (entries : List Redo) (mays : MayPublish v entries) (listed : Lane M) (lists : listed ≡ record lane { entries = listed.entries }) (are : listed.entries.items ≡ entries) (new : Lane M) where
  abbrev n : ℕ
  n = new.last

  abbrev w : View
  w = after_all v (publishes entries Publish n v)

  lawful : Ready v (publishes entries Publish n v) × IsOver v w n
  lawful = publish_lawful v entries mays Publish n

  seen_before : at listed.memory v
  seen_before = subst (λ (memory : M). at memory v) (sym (ap (λ (l : Lane M). l.memory) lists)) is.seen.memory

  -- once the log is performed the call is over
  pub published_after : Runs {T = Unit {0}} (at listed.memory) (at new.memory) (publishes listed.entries.items Publish n) (Ok tt) → new.records.items ≡ [] → new.entries.items ≡ [] → new.drawn ≡ Some n
      → new ≡ record listed { memory = new.memory; records = new.records; entries = new.entries; drawn = new.drawn; last = new.last } → IsAfterCall at new w
  unfolding Runs
  published_after ran none unlisted drawn fields =
      let made = subst (λ (es : List Redo). Runs {T = Unit {0}} (at listed.memory) (at new.memory) (publishes es Publish n) (Ok tt)) are ran in
      let pool : IsOfSamePool lane new = record { pool = ap (λ (l : Lane M). l.pool) fields ∙ ap (λ (l : Lane M). l.pool) lists; shape = ap (λ (l : Lane M). l.shape) fields ∙ ap (λ (l : Lane M). l.shape) lists } in
      after_over at lane new v w is.seen is.lines (made v seen_before lawful.0) lawful.1 (ap (λ (l : Lane M). l.locks.items) fields ∙ ap (λ (l : Lane M). l.locks.items) lists) none unlisted drawn pool
      (ap (λ (l : Lane M). l.stopped) fields ∙ (ap (λ (l : Lane M). l.stopped) lists ∙ is.unstopped)) (place_at_work v (works at lane v is))

  module _ (own : All (IsOfPool v) entries) (whole : IsWholeOnceLogged v entries Publish) where
    draws : DrawEnded v (publishes entries Publish n v)
    draws = publish_drawn v entries mays Publish n own whole

    pub published : IsAfterCall at new w → IsEndedBy at new v (publishes entries Publish n) Publish None
    published behind =
        let last = publish_last v entries mays Publish n in
        record { ready = lawful.0; draws = draws; behind = behind; over = lawful.1; told = last.0; entries = last.1.entries }

    abbrev first : List Step
    first = logs entries v

    abbrev ends : List Step
    ends = ends_call Publish None n (logged_view v entries)

    abbrev d : View
    d = published_view v entries Publish n

    abbrev performing : List Step
    performing = performs_logged entries d

    in_parts : publishes entries Publish n v ≡ first ++ (ends ++ performing)
    unfolding publishes in_turn
    in_parts = refl

    undrawn_before : listed.drawn ≡ None
    undrawn_before = ap (λ (l : Lane M). l.drawn) lists ∙ undrawn_lane at lane v is.seen is.undrawn

    -- it stopped before the draw
    stopped_logging : IsStopped (at listed.memory) (at new.memory) (logs entries) → new.stopped ≡ true → new.drawn ≡ listed.drawn → IsStoppedIn at new v (publishes entries Publish n) Publish None
    unfolding Runs
    stopped_logging stops says drawn =
        let s : Stops (at new.memory) v first = stops.1 v seen_before (ready_left v first (ends ++ performing) (subst (Ready v) in_parts lawful.0)) in
        let undrawn = logging_undrawn v entries mays s.made in
        stopped_left at new v (publishes entries Publish n) Publish None first (ends ++ performing) in_parts lawful.0 draws s says (drawn ∙ (undrawn_before ∙ sym undrawn.0)) (record { told = inl undrawn.0; entries = inl undrawn })

    -- or behind it
    stopped_performing : StopsPublished (at listed.memory) (at new.memory) entries Publish n → new.stopped ≡ true → new.drawn ≡ Some n → IsStoppedIn at new v (publishes entries Publish n) Publish None
    stopped_performing stops says drawn =
        let s : Stops (at new.memory) d performing = stops v seen_before lawful.0 in
        let behind = performing_drawn v entries mays Publish n s.made in
        stopped_right at new v (publishes entries Publish n) Publish None (first ++ ends) d performing (after_all-append v first ends) (in_parts ∙ sym (append_assoc first ends performing)) lawful.0 draws s says
        (drawn ∙ sym behind.1.number) (record { told = inr behind.0; entries = inr (n, behind.1) })

    pub stopped_publishing : ((new.drawn ≡ listed.drawn) × IsStopped (at listed.memory) (at new.memory) (logs listed.entries.items)) ⊎ ((new.drawn ≡ Some n) × StopsPublished (at listed.memory) (at new.memory) listed.entries.items Publish n) → new.stopped ≡ true
        → IsStoppedIn at new v (publishes entries Publish n) Publish None
    stopped_publishing stops says =
        let so = subst (λ (es : List Redo). ((new.drawn ≡ listed.drawn) × IsStopped (at listed.memory) (at new.memory) (logs es)) ⊎ ((new.drawn ≡ Some n) × StopsPublished (at listed.memory) (at new.memory) es Publish n)) are stops in
        ⊎_elim (λ (t : (new.drawn ≡ listed.drawn) × IsStopped (at listed.memory) (at new.memory) (logs entries)). stopped_logging t.1 says t.0)
        (λ (t : (new.drawn ≡ Some n) × StopsPublished (at listed.memory) (at new.memory) entries Publish n). stopped_performing t.1 says t.0) so

-- with all made persistent first
module _ {M : Type 0} (at : M → View → Type 0) (lane : Lane M) (actions : List Action) (v : View) (may : MayPublishHeld at lane actions v) (some : 1 ≤ length actions) (few : length actions ≤ 63) (same : only_sets actions ≡ pending_before v) where
  abbrev after_settles : View
  after_settles = after_all v (settles v)

  mays : MayPublish after_settles (entries_of actions)
  mays = may_publish at lane actions v may some few

  pub published_first : (new : Lane M) → IsEndedBy at new after_settles (publishes (entries_of actions) Publish new.last) Publish None → IsEndedBy at new v (publishes_outside (entries_of actions) Publish new.last) Publish None
  unfolding publishes_outside
  published_first new ended = ended_first v (publishes (entries_of actions) Publish new.last) Publish None at new ended

  pub stopped_behind_settling : (new : Lane M) → IsStoppedIn at new after_settles (publishes (entries_of actions) Publish new.last) Publish None → IsStoppedIn at new v (publishes_outside (entries_of actions) Publish new.last) Publish None
  unfolding publishes_outside
  stopped_behind_settling new was = stopped_behind v (publishes (entries_of actions) Publish new.last) Publish None at new was

  -- it stopped as it made all persistent
  pub stopped_before : (new : Lane M) → Stops (at new.memory) v (settles v) → new ≡ record lane { memory = new.memory; stopped = true } → IsStoppedIn at new v (publishes_outside (entries_of actions) Publish new.last) Publish None
  unfolding publishes_outside
  stopped_before new stops fields =
      let entries : List Redo = entries_of actions in
      stopped_settling v (publishes entries Publish new.last) Publish None at new may.begun.undrawn (publish_lawful after_settles entries mays Publish new.last).0
      (publish_drawn after_settles entries mays Publish new.last (own_settled at lane actions v may) (whole_logged at lane actions v may same)) stops (ap (λ (l : Lane M). l.stopped) fields)
      (ap (λ (l : Lane M). l.drawn) fields ∙ undrawn_lane at lane v may.begun.seen may.begun.undrawn)

redos : (actions : List SetAction) → map redo_for actions ≡ entries_of (sets_of actions)
redos [] = refl
redos (a ∷ actions) = ap (λ (es : List Redo). redo_for a ∷ es) (redos actions)

-- the lane lists the entries of the actions, and no others
pub listed_so : {M : Type 0} (at : M → View → Type 0) (lane : Lane M) (actions : List SetAction) (v : View) → IsBegun at lane v → (listed : List Redo) → listed ≡ lane.entries.items ++ map redo_for actions → listed ≡ entries_of (sets_of actions)
listed_so at lane actions v begun listed is = is ∙ ap (λ (es : List Redo). es ++ map redo_for actions) begun.unlisted ∙ redos actions

pub pending_some : (actions : List SetAction) → 1 ≤ length actions → 1 ≤ length (sets_of actions)
pending_some actions some = let n = length-map actions action_of in omega (arith, n, some)

pub pending_few : (actions : List SetAction) → length actions ≤ 63 → length (sets_of actions) ≤ 63
pending_few actions few = let n = length-map actions action_of in omega (arith, n, few)

module _ {M : Type 0} (at : M → View → Type 0) (lane : Lane M) (actions : List SetAction) (v : View) (may : MayPublishHeld at lane (sets_of actions) v) where
  -- each is of a place of the pool
  pub places : All (λ (a : SetAction). a.id.off + a.off < 2 ^ 64) actions
  places k d low =
      let all = all_of_pool v may.sound.opening may.sound.sound may.sound.finds may.holds.objects (sets_of actions) may.holds.each in
      let n = length-map actions action_of in
      let m = length-map (sets_of actions) entry_of in
      let e : IsOfPool v (entry_of (action_of (get_or actions k d))) =
      subst (IsOfPool v) (get_or-map entry_of (sets_of actions) k (action_of d) ∙ ap entry_of (get_or-map action_of actions k d)) (all k (entry_of (action_of d)) (omega (arith, n, m, low))) in
      let inside = e.inside in
      let size = may.begun.seen.shape.size in
      let lanes = lane.shape.lanes_to in
      let zones = lane.shape.zones_to in
      omega (arith, inside, size, lanes, zones)
