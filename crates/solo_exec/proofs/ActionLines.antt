-- A line that makes an action pending, gives up what is pending, or publishes it, from a lane at work.
use Rattle.std.proofs.Common.{◌≡◌, ◌≢◌, ◌⊎◌, inl, inr, ℕ, ◌+◌, ◌%◌, All, Bool, true, false, not, cond, eqb, leb, List, [], ◌∷◌, ◌++◌, length, slice_index, take, Option, None, Some, refl, sym, ap, ◌∙◌, subst, arith, append-nil}
use Rattle.std.specs.Option.{option_map}
use Rattle.std.proofs.lemmas.Bool.{eqb-true}
use Rattle.std.proofs.lemmas.List.Elements.{All-append, All-cons, All-nil}
use Rattle.solo_crash.specs.OpenCall.{words_recorded}
use Rattle.solo_crash.specs.Operations.{entries_so_far}
use Rattle.solo_crash.specs.Alone.{raises}
use Rattle.solo_crash.specs.CallBlocks.{CallBlocks, blocks_behind, blocks_in, reserved_in}
use Rattle.solo_crash.proofs.CallBlocks.{blocks_once_more}
use Rattle.solo_crash.specs.Pending.{pending_in, published_by, published_in}
use Rattle.solo_crash.specs.OnActions.{defer_refusal, set_refusal}
use Rattle.solo_crash.proofs.PendingOn.{published_once_more}
use Rattle.solo_crash.proofs.Raises.{raises_append}
use Rattle.solo_memory.specs.Solo.{Sees, Solo}
use Rattle.solo_model.specs.Checks.{is_action}
use Rattle.solo_model.specs.Actions.{Action, Pending, none_pending}
use Rattle.pm_objects.specs.declared.calls.Operation.{Operation}
use Rattle.pm_objects.specs.declared.calls.Operation.TheVariants as operation
use Rattle.pm_objects.specs.declared.history.Value.{Value}
use Rattle.pm_objects.specs.declared.history.Value.TheVariants.{Refused}
use Rattle.pm_objects.specs.declared.ids.Oid.{Oid}
use Rattle.pm_objects.specs.declared.refusal.Refusal.{Refusal}
use Rattle.pm_objects.specs.declared.refusal.Refusal.TheVariants as refusal
use Rattle.solo_pending.specs.AllPending.{IsPendingAs}
use Rattle.solo_pending.specs.declared.pending.PendingActions.{PendingActions}
use Rattle.solo_pending.specs.declared.actions.SetAction.{SetAction}
use Rattle.solo_script.specs.declared.script.ScriptId.{ScriptId}
use Rattle.solo_script.specs.declared.script.ScriptLine.{ScriptLine}
use Rattle.solo_script.specs.declared.script.ScriptOp.{ScriptOp}
use Rattle.solo_script.specs.declared.script.ScriptOp.TheVariants as op
use Rattle.solo_script.specs.declared.script.ScriptWant.{ScriptWant}
use Rattle.pm_objects.specs.declared.history.TxErr.TheVariants as error
use Rattle.solo_world.specs.declared.lane.Stage.TheVariants as stage
use Rattle.solo_lock.proofs.Leads.{led_none, led_then, ready_led}
use Rattle.solo_epoch.specs.GivingBack.{gives_back}
use Rattle.solo_lock.specs.Leading.{DrawEnded, IsLed, KeepsHeap}
use Rattle.solo_made.specs.Made.{BlockLists}
use Rattle.solo_transaction.specs.Canceling.{HasCanceledWith, cancels_pending, given_up_view}
use Rattle.solo_transaction.specs.Deferring.{HasToldPending}
use Rattle.solo_transaction.specs.AtWork.{IsAtWorkWith}
use Rattle.solo_transaction.specs.Publishing.{HasPublishedWith, IsPublishGivenUp, IsPublishStopped}
use Rattle.solo_tx.specs.Actions.{cancels}
use Rattle.solo_tx.specs.Ending.{IsStoppedIn}
use Rattle.solo_tx.specs.Learning.{Looks}
use Rattle.solo_tx.proofs.StepKinds.{HasOnly, only_in_turn, only_one, only_settles}
use Rattle.solo_tx.proofs.StoreCounts.{HasStores, none_in_one, none_in_settles, stores_append, stores_counted, stores_in_turn}
use Rattle.solo_tx.specs.Calls.{HasLooked}
use Rattle.solo_tx.proofs.Unraised.{IsWork, all_work_raises, quiet_work}
use Rattle.solo_undo.specs.Working.{IsWorking, log_settled}
use Rattle.solo_undo.proofs.Settled.{settle_lawful}
use Rattle.solo_view.specs.Counts.{stores_among}
use Rattle.solo_view.specs.Log.{Log, Recorded}
use Rattle.solo_view.specs.Steps.{Step}
use Rattle.solo_view.specs.Steps.Step.{Tell}
use Rattle.solo_view.specs.View.{Told, View}
use Rattle.solo_view.specs.Views.{after, after_all}
use Rattle.solo_view.proofs.Sequences.{after_all-append}
use Rattle.solo_world.specs.Opening.{Opening}
use Rattle.solo_world.specs.Sequences.{Ready, Sequence, by_view, in_turn, one, settles}
use Rattle.solo_world.specs.Lawful.{MayTell}
use Rattle.solo_world.specs.declared.lane.Lane.{Lane}
use Rattle.solo_exec.specs.Bounds.{log_due, logs_of, most_stores, recorded_count}
use Rattle.solo_exec.specs.Calls.{id_of, operation_of}
use Rattle.solo_exec.specs.Course.{IsFree, IsLineMade, IsLineStopped}
use Rattle.solo_exec.specs.Replies.{AreToldDone, IsToldDone, Values, done, values_told}
use Rattle.solo_exec.specs.Progress.{IsAtLine, IsCut, IsGivenUpAt}
use Rattle.solo_exec.specs.Torn.{words_after, words_by}
use Rattle.solo_exec.specs.declared.calls.Names.{Names}
use Rattle.solo_exec.proofs.ChangeLines.{GoesTo, at_next_with, at_there_by, at_there_with, calm_behind, cut_in, free_u, lane_there, lane_u, words_u}
use Rattle.solo_exec.proofs.AddAndWrite.{cut_giving_up, given_up, not_spent, tells_leave, tells_uncounted}
use Rattle.solo_exec.proofs.FreeLine.{one_log}
use Rattle.solo_exec.proofs.GivenBackSteps.{gives_uncounted}
use Rattle.solo_exec.proofs.LooksAlone.{looks_none}
use Rattle.solo_exec.proofs.LineLists.{gave_more, gave_nothing, words_more}
use Rattle.solo_exec.proofs.PendingLists.{uncounted_raises}
use Rattle.solo_exec.proofs.QuietSequences.{calm_steps, quiet_by}
use Rattle.solo_exec.proofs.QuietSlots.{IsCalm}
use Rattle.solo_exec.proofs.UndrawnSteps.{IsUndrawn, undrawn_steps}

-- behind a call on what is pending that publishes nothing of it, and makes and frees nothing, the log that is due is the same
pub due_still : (v w : View) (op : Operation) (reply : Option Value) → w.entries ≡ v.entries → w.call ≡ v.call ++ record { operation = op; reply = reply } ∷ [] → ((p : Pending) → published_by op reply p ≡ [])
    → blocks_behind op reply (pending_in v) (blocks_in v) ≡ blocks_in v → log_due w ≡ log_due v
due_still v w op reply entries call publishes_none keeps_blocks =
    let actions = ap length (published_once_more v w op reply entries call ∙ ap (λ (more : List Action). published_in v ++ more) (publishes_none (pending_in v)) ∙ append-nil (published_in v)) in
    let news = ap (λ (b : CallBlocks). length b.made + length b.freed) (blocks_once_more v w op reply entries call ∙ keeps_blocks) in
    ap logs_of (omega (arith, actions, news))

-- no publish is refused as spent
pub publish_not_spent : (r : Refusal) → (r ≡ refusal.NotLocked) ⊎ (r ≡ refusal.NoObject) ⊎ (r ≡ refusal.RootKept) ⊎ (r ≡ refusal.OutOfRange) ⊎ (r ≡ refusal.ActionsFull) ⊎ (r ≡ refusal.Stopped) → r ≢ refusal.Spent
publish_not_spent r (inl is) = not_spent r refusal.ActionsFull (λ same. cc) (inl is)
publish_not_spent r (inr (inl is)) = not_spent r refusal.ActionsFull (λ same. cc) (inr (inl is))
publish_not_spent r (inr (inr (inl is))) = λ spent. let clash : refusal.RootKept ≡ refusal.Spent = sym is ∙ spent in cc
publish_not_spent r (inr (inr (inr rest))) = not_spent r refusal.ActionsFull (λ same. cc) (inr (inr rest))

-- a line that changes what is pending gives its refusal, if it was refused, and else nothing
abbrev pub given_by : Values → ScriptLine → Option Refusal → Values
given_by values said None = values
given_by values said (Some why) = values ++ (said.line, Refused why) ∷ []

pub gives : (names : Names) (front : List ScriptLine) (said : ScriptLine) (call : List Told) (asked : Operation) (r : Option Refusal) (values : Values) → is_action asked ≡ true → AreToldDone names front call → values ≡ values_told front call
    → given_by values said r ≡ values_told (front ++ said ∷ []) (call ++ record { operation = asked; reply = option_map Refused r } ∷ [])
gives names front said call asked None values acts told gave = gave_nothing names front said call (record { operation = asked; reply = None }) values told refl gave
gives names front said call asked (Some why) values acts told gave =
    ap (λ (vs : Values). vs ++ (said.line, Refused why) ∷ []) gave
    ∙ sym (gave_more names front said call (record { operation = asked; reply = Some (Refused why) }) told ∙ ap (λ (b : Bool). values_told front call ++ cond b ((said.line, Refused why) ∷ []) []) acts)

-- one telling, of a call that is open
module _ (operation : Operation) (reply : Option Value) where
  abbrev tells : Sequence
  tells = one (Tell operation reply)

  tell_ready : (v : View) → MayTell v.log.phase → Ready v (tells v) × DrawEnded v (tells v)
  unfolding one Ready DrawEnded
  tell_ready v may = ((may, tt, tt), (tt, tt))

  told_view : (v : View) → after_all v (tells v) ≡ after v (Tell operation reply)
  unfolding one after_all
  told_view v = refl

  told_heap : (v : View) → KeepsHeap v (after_all v (tells v))
  unfolding one after_all
  told_heap v = record { zone_locks = refl; reserved = refl; freed = refl }

  tell_stores : (v : View) → stores_among (tells v) ≡ 0
  tell_stores v = none_in_one (Tell operation reply) refl v

  pub tell_led : (v : View) → MayTell v.log.phase → IsLed v (after v (Tell operation reply))
  tell_led v may = let t = tell_ready v may in subst (λ (u : View). IsLed v u) (told_view v) (ready_led v (tells v) t.0 t.1 (tells_uncounted operation reply v) (tells_leave operation reply v) (told_heap v))

module _ (o : Opening) (first : View) (lane : Lane Solo) (blocks : BlockLists) (actions : PendingActions) (names : Names) (front : List ScriptLine) (values : Values) (a : IsAtLine o first lane blocks actions names front values) (new : Lane Solo) (said : ScriptLine) where
  abbrev v : View
  v = a.view

  -- ---- an operation on what is pending is told, done or refused

  -- it changes no word, publishes nothing, and makes and frees nothing
  module _ (u : View) (goes : GoesTo v u) (working : IsWorking u) (asks : Operation) (r : Option Refusal) (acts : is_action asks ≡ true) where
    abbrev reply : Option Value
    reply = option_map Refused r

    abbrev t : Told
    t = record { operation = asks; reply = reply }

    abbrev w : View
    w = after u (Tell asks reply)

    pub told_done : (left : PendingActions) → IsToldDone names said.operation t → IsLineMade names said.operation v w → ((x : ℕ → ℕ) (i : ℕ) → words_by names said.operation x i ≡ x i)
        → ((p : Pending) → published_by asks reply p ≡ []) → blocks_behind asks reply (pending_in u) (blocks_in u) ≡ blocks_in u
        → IsAtWorkWith o Sees new blocks w → IsPendingAs left (pending_in w) → new.level ≡ 1 → new.locks ≡ lane.locks → IsAtLine o first new blocks left names (front ++ said ∷ []) (given_by values said r)
    told_done left is_done made no_word publishes_none keeps_blocks works pending level locks =
        let steps : Sequence = tells asks reply in
        let open_ : MayTell u.log.phase = subst MayTell (sym working.is_open) tt in
        let ready = tell_ready asks reply u open_ in
        let same = told_view asks reply u in
        let lane_is : u.lane ≡ 0 = lane_there o first lane blocks actions names front values a u goes in
        let due = due_still u w asks reply refl refl publishes_none keeps_blocks in
        let stored = tell_stores asks reply u in
        at_there_with o first lane blocks actions names front values a u goes new steps said (only_one IsWork (Tell asks reply) tt u lane_is) (only_one IsUndrawn (Tell asks reply) tt u lane_is) blocks left ready.0 ready.1
        (subst (IsAtWorkWith o Sees new blocks) (sym same) works) level locks t is_done (ap (λ (x : View). x.call) same)
        (λ i under. ap (λ (x : View). slice_index x.words i) same ∙ ap (λ (words : List ℕ). slice_index words i) goes.words ∙ a.words i under
        ∙ sym (words_more names front said (slice_index o.words) i ∙ no_word (words_after names front (slice_index o.words)) i))
        (given_by values said r) (gives names front said v.call asks r values acts a.told a.gave) (subst (λ (x : View). IsLineMade names said.operation v x) (sym same) made)
        (subst (λ (x : View). IsPendingAs left (pending_in x)) (sym same) pending)
        (let count = ap recorded_count same in let more = ap log_due same in omega (arith, stored, count, more, due))

  -- the telling is all that was done
  pub stays : GoesTo v v
  stays = record { led = led_none v; words = refl; call = refl; number = refl; entries = refl; log = refl; locks = refl }

  module _ (id : ScriptId) (action : SetAction) (id_is : action.id ≡ id_of names id) (is : said.operation ≡ op.Set id action.off action.value) where
    pub set_done : (r : Option Refusal) → r ≡ set_refusal action.off (pending_in v) → (left : PendingActions) → HasToldPending o Sees new blocks left v (operation.SetValue action.id action.off action.value) r → new.level ≡ 1 → new.locks ≡ lane.locks
        → IsAtLine o first new blocks left names (front ++ said ∷ []) (given_by values said r)
    set_done r reason left told level locks =
        let asks : Operation = operation.SetValue action.id action.off action.value in
        let t : Told = record { operation = asks; reply = option_map Refused r } in
        told_done v stays a.works.work.working asks r refl left
        (subst (λ (x : ScriptOp). IsToldDone names x t) (sym is) (r, ap (λ (i : Oid). record { operation = operation.SetValue i action.off action.value; reply = option_map Refused r }) id_is))
        (subst (λ (x : ScriptOp). IsLineMade names x v (after v (Tell asks (option_map Refused r)))) (sym is) (λ j. after v (Tell (operation.SetValue (id_is j) action.off action.value) (option_map Refused (reason j)))))
        (λ x i. ap (λ (y : ScriptOp). words_by names y x i) is) (none r) (keeps r) told.works told.listed level locks
      where
        none : (r : Option Refusal) (p : Pending) → published_by (operation.SetValue action.id action.off action.value) (option_map Refused r) p ≡ []
        none None p = refl
        none (Some why) p = refl

        keeps : (r : Option Refusal) → blocks_behind (operation.SetValue action.id action.off action.value) (option_map Refused r) (pending_in v) (blocks_in v) ≡ blocks_in v
        keeps None = refl
        keeps (Some why) = refl

  module _ (id : ScriptId) (target : Oid) (target_is : target ≡ id_of names id) (is : said.operation ≡ op.DeferFree id) where
    pub defer_done : (r : Option Refusal) → r ≡ defer_refusal (pending_in v) → (left : PendingActions) → HasToldPending o Sees new blocks left v (operation.DeferFree target) r → new.level ≡ 1 → new.locks ≡ lane.locks
        → IsAtLine o first new blocks left names (front ++ said ∷ []) (given_by values said r)
    defer_done r reason left told level locks =
        let asks : Operation = operation.DeferFree target in
        let t : Told = record { operation = asks; reply = option_map Refused r } in
        told_done v stays a.works.work.working asks r refl left
        (subst (λ (x : ScriptOp). IsToldDone names x t) (sym is) (r, ap (λ (i : Oid). record { operation = operation.DeferFree i; reply = option_map Refused r }) target_is))
        (subst (λ (x : ScriptOp). IsLineMade names x v (after v (Tell asks (option_map Refused r)))) (sym is) (λ j. after v (Tell (operation.DeferFree (target_is j)) (option_map Refused (reason j)))))
        (λ x i. ap (λ (y : ScriptOp). words_by names y x i) is) (none r) (keeps r) told.works told.listed level locks
      where
        none : (r : Option Refusal) (p : Pending) → published_by (operation.DeferFree target) (option_map Refused r) p ≡ []
        none None p = refl
        none (Some why) p = refl

        keeps : (r : Option Refusal) → blocks_behind (operation.DeferFree target) (option_map Refused r) (pending_in v) (blocks_in v) ≡ blocks_in v
        keeps None = refl
        keeps (Some why) = refl

  -- ---- what is pending is given up

  cancels_work : HasOnly IsWork cancels
  unfolding cancels
  cancels_work = only_in_turn IsWork settles (one (Tell operation.Cancel None)) (only_settles IsWork quiet_work) (only_one IsWork (Tell operation.Cancel None) tt)

  cancels_undrawn : HasOnly IsUndrawn cancels
  unfolding cancels
  cancels_undrawn = only_in_turn IsUndrawn settles (one (Tell operation.Cancel None)) (only_settles IsUndrawn undrawn_steps) (only_one IsUndrawn (Tell operation.Cancel None) tt)

  cancels_calm : HasOnly IsCalm cancels
  unfolding cancels
  cancels_calm = only_in_turn IsCalm settles (one (Tell operation.Cancel None)) (only_settles IsCalm calm_steps) (only_one IsCalm (Tell operation.Cancel None) tt)

  cancels_store_none : HasStores 0 cancels
  unfolding cancels
  cancels_store_none = stores_in_turn 0 0 0 settles (one (Tell operation.Cancel None)) (omega arith) none_in_settles (none_in_one (Tell operation.Cancel None) refl)

  -- behind that blocks are given back, by no counted call
  abbrev gave_back : List Step
  gave_back = gives_back (after_all v (cancels v)).lanes (reserved_in v)

  cancels_are : cancels_pending v ≡ cancels v ++ gave_back
  unfolding cancels_pending by_view in_turn
  cancels_are = refl

  pending_store_none : stores_among (cancels_pending v) ≡ 0
  pending_store_none =
      let same = ap stores_among cancels_are in let both = stores_append (cancels v) gave_back in let first = cancels_store_none v in let few = stores_counted gave_back in
      let none = gives_uncounted (after_all v (cancels v)).lanes (reserved_in v) in omega (arith, same, both, first, few, none)

  pending_raise_none : v.lane ≡ 0 → raises (cancels_pending v) ≡ 0
  pending_raise_none lane_is =
      let same = ap raises cancels_are in let both = raises_append (cancels v) gave_back in let first = all_work_raises (cancels v) (cancels_work v lane_is) in
      let none = uncounted_raises gave_back (gives_uncounted (after_all v (cancels v)).lanes (reserved_in v)) in omega (arith, same, both, first, none)

  module _ (is : said.operation ≡ op.Cancel) where
    abbrev canceled : View
    canceled = given_up_view v

    abbrev lane_is : v.lane ≡ 0
    lane_is = lane_u o first lane blocks actions names front values a 0 v (looks_none v)

    pub cancel_done : HasCanceledWith o Sees new blocks v → (left : PendingActions) → IsPendingAs left none_pending → new.level ≡ 1 → new.locks ≡ lane.locks → IsAtLine o first new blocks left names (front ++ said ∷ []) values
    cancel_done h left none level locks =
        let due = due_still v canceled operation.Cancel None h.entries h.call (λ pending. refl) refl in
        let stored = pending_store_none in
        let count = ap (λ (rs : List Recorded). length (words_recorded rs)) h.records in
        at_there_by o first lane blocks actions names front values a v stays new cancels_pending said (pending_raise_none lane_is) h.entries blocks left h.ready h.draws
        h.works level locks
        (done operation.Cancel) (subst (λ (x : ScriptOp). IsToldDone names x (done operation.Cancel)) (sym is) refl) h.call
        (λ i under. ap (λ (words : List ℕ). slice_index words i) h.words ∙ a.words i under ∙ sym (words_more names front said (slice_index o.words) i ∙ ap (λ (x : ScriptOp). words_by names x (words_after names front (slice_index o.words)) i) is))
        values (gave_nothing names front said v.call (done operation.Cancel) values a.told refl a.gave)
        (subst (λ (x : ScriptOp). IsLineMade names x v canceled) (sym is) (record { start = v; free = record { led = led_none v; undrawn = refl }; is = refl }))
        (subst (IsPendingAs left) (sym h.none) none) (omega (arith, due, stored, count))

    pub cancel_cut : (rest : List ScriptLine) → IsStoppedIn Sees new v cancels operation.Cancel None → IsCut o first new names (front ++ said ∷ rest) values
    cancel_cut rest stopped =
        let k : ℕ = stopped.stops.made in
        cut_in o first lane blocks actions names front values a 0 v (looks_none v) new cancels (cancels_work v lane_is) (cancels_undrawn v lane_is) said rest
        (subst (λ (x : Operation). IsStoppedIn Sees new v cancels x None) (ap (operation_of names) (sym is)) stopped)
        (inl (calm_behind o first lane blocks actions names front values a 0 v (looks_none v) (after_all v (take k (cancels v))) a.works.work.working (λ quiet. quiet_by cancels cancels_calm v k quiet)))
        cancels refl (λ m by. subst (λ (x : ScriptOp). IsLineStopped names x v m) (sym is) by) (let stored = cancels_store_none v in omega (arith, stored))

  -- ---- what is pending becomes the transaction's

  module _ (is : said.operation ≡ op.Publish) where
    publish_is : operation.Publish ≡ operation_of names said.operation
    publish_is = ap (operation_of names) (sym is)

    no_begin : (asked : List ScriptWant) → said.operation ≡ op.Begin asked → ⊥
    no_begin asked begins = let clash = sym is ∙ begins in cc

    -- told behind some looks
    module _ (n : ℕ) (u : View) (looks : Looks n v u) where
      abbrev here : View
      here = after u (Tell operation.Publish None)

      publish_made : MayTell u.log.phase → IsLineMade names said.operation v here
      publish_made open_ =
          let behind = free_u o first lane blocks actions names front values a n u looks in
          subst (λ (x : ScriptOp). IsLineMade names x v here) (sym is) (record { led = led_then v u here behind.led (tell_led operation.Publish None u open_); undrawn = behind.undrawn })

    pub publish_done : (now : BlockLists) → HasLooked v (HasPublishedWith o Sees new now) → (left : PendingActions) → IsPendingAs left none_pending → new.level ≡ 1 → new.locks ≡ lane.locks
        → IsAtLine o first new now left names (front ++ said ∷ []) values
    publish_done now t left none level locks =
        let n = t.loads in
        let u : View = t.view in
        let lane_is = lane_u o first lane blocks actions names front values a n u t.looks in
        let open_ = subst MayTell (sym t.working.is_open) tt in
        let r = tell_ready operation.Publish None u open_ in
        let same = told_view operation.Publish None u in
        let stored = tell_stores operation.Publish None u in
        let few = one_log (entries_so_far (after u (Tell operation.Publish None))) in
        at_next_with o first lane blocks actions names front values a n u t.looks new (tells operation.Publish None) (only_one IsWork (Tell operation.Publish None) tt u lane_is)
        (only_one IsUndrawn (Tell operation.Publish None) tt u lane_is) said now left r.0 r.1
        (subst (IsAtWorkWith o Sees new now) (sym same) t.holds.works) level locks (done operation.Publish) (subst (λ (x : ScriptOp). IsToldDone names x (done operation.Publish)) (sym is) refl) (ap (λ (w : View). w.call) same)
        (λ i under. ap (λ (w : View). slice_index w.words i) same ∙ words_u o first lane blocks actions names front values a n u t.looks i under ∙ sym (words_more names front said (slice_index o.words) i ∙ ap (λ (x : ScriptOp). words_by names x (words_after names front (slice_index o.words)) i) is))
        values (gave_nothing names front said v.call (done operation.Publish) values a.told refl a.gave)
        (subst (λ (w : View). IsLineMade names said.operation v w) (sym same) (publish_made n u t.looks open_))
        (subst (λ (w : View). IsPendingAs left (pending_in w)) (sym same) (subst (IsPendingAs left) (sym t.holds.none) none))
        (let most = ap (most_stores names) is in let count = ap recorded_count same in let more = ap log_due same in omega (arith, stored, count, more, few, most))

    pub publish_over : (r : Refusal) → HasLooked v (IsPublishGivenUp Sees new lane.records.items r)
        → new ≡ record lane { memory = new.memory; records = new.records; entries = new.entries; stage = stage.OnAbort; error = error.Refused r; drawn = Some new.last; last = new.last }
        → (rest : List ScriptLine) → IsGivenUpAt o first new blocks actions names (front ++ said ∷ rest) values said.line r
    publish_over r t fields rest = given_up o first lane blocks actions names front values a new said operation.Publish publish_is r t.loads t.view t.looks t.working t.holds.ended fields no_begin refl tt rest

    pub publish_cut : (rest : List ScriptLine) → HasLooked v (IsPublishStopped Sees new lane.records.items) → IsCut o first new names (front ++ said ∷ rest) values
    publish_cut rest t = cut_giving_up o first lane blocks actions names front values a new said operation.Publish publish_is t.holds.refusal t.loads t.view t.looks t.working tt t.holds.stopped rest
