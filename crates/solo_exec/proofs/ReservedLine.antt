-- A reservation outside of a transaction, and a write into what is reserved: what they leave of their run, done, refused or stopped.
use Rattle.std.proofs.Common.{◌≡◌, ◌≢◌, ⊎_elim, inl, inr, ℕ, ◌+◌, ◌*◌, ◌/◌, ◌≤◌, ◌<◌, true, false, List, [], ◌∷◌, ◌++◌, length, slice_index, take, Option, None, Some, Result, Ok, Err, refl, sym, ap, ◌∙◌, subst, arith}
use Rattle.std.specs.Option.{ForSome}
use Rattle.std.proofs.lemmas.List.Elements.{All-nil}
use Rattle.std.proofs.lemmas.Option.{none-some}
use Rattle.solo_alloc.specs.NewObjects.{GivesNoObject, HasNewObject}
use Rattle.solo_blocks.specs.declared.making.NoBlock.TheVariants as no_block
use Rattle.solo_crash.proofs.Leading.{leads_then}
use Rattle.solo_crash.proofs.Raises.{raises_append}
use Rattle.solo_crash.proofs.Raising.{generation_raised}
use Rattle.solo_crash.proofs.SeenAlone.{works_where_seen}
use Rattle.solo_crash.specs.Alone.{WorksAlone, raises}
use Rattle.solo_crash.specs.HeldHistory.{DrawsEnded, IsEndedCall}
use Rattle.solo_crash.specs.Leading.{Leads}
use Rattle.solo_crash.specs.Pending.{pending_before}
use Rattle.solo_crash.specs.Reserving.{put_refusal}
use Rattle.solo_lock.specs.Resting.{IsAtRest}
use Rattle.solo_epoch.proofs.HeldApart.{AllFound}
use Rattle.solo_epoch.proofs.RestingReservations.{begun_entries}
use Rattle.solo_epoch.specs.Allocating.{object_in_block}
use Rattle.solo_epoch.specs.Reserving.{IsAloneBetween, RestsWithReserved, begins_next, with_next_call, with_object_reserved}
use Rattle.pm_image.specs.declared.block.Block.{Block}
use Rattle.pm_image.specs.Logs.{generation_word}
use Rattle.solo_lock.proofs.Leading.{ready_leads}
use Rattle.pm_layout.specs.Sizes.{class_of}
use Rattle.solo_lock.proofs.Leads.{led_none, led_then}
use Rattle.solo_lock.specs.Leading.{IsLed}
use Rattle.solo_made.specs.Made.{BlockLists}
use Rattle.solo_memory.specs.Solo.{Sees, Solo}
use Rattle.solo_memory.specs.declared.lane_mem.Stopped.{Stopped as HasStopped}
use Rattle.pm_objects.specs.declared.calls.Operation.{Operation}
use Rattle.pm_objects.specs.declared.calls.Operation.TheVariants as operation
use Rattle.pm_objects.specs.declared.history.Value.{Value}
use Rattle.pm_objects.specs.declared.history.Value.TheVariants.{Offset, Refused}
use Rattle.pm_objects.specs.declared.ids.Oid.{Oid}
use Rattle.pm_objects.specs.declared.refusal.Refusal.{Refusal}
use Rattle.pm_objects.specs.declared.refusal.Refusal.TheVariants as refusal
use Rattle.solo_pending.specs.AllPending.{IsPendingAs}
use Rattle.solo_pending.specs.declared.pending.PendingActions.{PendingActions}
use Rattle.solo_script.specs.declared.script.ScriptId.{ScriptId}
use Rattle.solo_script.specs.declared.script.ScriptLine.{ScriptLine}
use Rattle.solo_script.specs.declared.script.ScriptOp.{ScriptOp}
use Rattle.solo_script.specs.declared.script.ScriptOp.TheVariants as op
use Rattle.solo_action.specs.Filling.{HasPutOutside, HasRefusedPutOutside, HasStoppedPutting, put_drawn, put_view}
use Rattle.solo_action.specs.Outside.{IsToldOutside, RestsStill}
use Rattle.solo_action.specs.Reserving.{HasRefusedOutside, HasReservedOutside, HasStoppedReserving, refused_drawn, refused_view, reserved_drawn}
use Rattle.solo_transaction.proofs.MadeBySteps.{object_makes}
use Rattle.solo_transaction.proofs.NoRoomFound.{finds_no_room}
use Rattle.solo_transaction.proofs.StopsMaking.{stops_making}
use Rattle.solo_transaction.specs.Allocating.{CameToRefuse}
use Rattle.solo_transaction.specs.Filling.{puts_range}
use Rattle.solo_transaction.specs.MakingSteps.{FindsNoRoom, MakesByFew, StopsMaking}
use Rattle.solo_action.proofs.PutsOutside.{put_beside_area}
use Rattle.solo_lock.proofs.Leading.{front_leads}
use Rattle.solo_tx.proofs.OpeningGeneration.{looks_first, unraised_first}
use Rattle.solo_tx.proofs.StepKinds.{Each, each_first}
use Rattle.solo_tx.proofs.StoreCounts.{none_in_one, stores_append, stores_first}
use Rattle.solo_tx.proofs.Unraised.{IsWork, all_work_raises}
use Rattle.solo_tx.specs.Generations.{is_ending}
use Rattle.solo_view.specs.Area.{area_word, is_in_area}
use Rattle.solo_tx.specs.Sequences.{word_count}
use Rattle.solo_world.specs.Records.{generation_of}
use Rattle.solo_view.specs.Counts.{is_store, stores_among}
use Rattle.solo_view.specs.Log.{Log, no_log}
use Rattle.solo_view.specs.Log.Phase.{Idle, Open}
use Rattle.solo_view.specs.Steps.{Step}
use Rattle.solo_view.specs.Steps.Step.{Draw, Tell}
use Rattle.solo_view.specs.View.{Told, View}
use Rattle.solo_view.specs.Views.{after, after_all}
use Rattle.solo_world.proofs.Plain.{empty_plain}
use Rattle.solo_world.specs.Lawful.{Allowed, MayTell, generation_limit}
use Rattle.solo_world.specs.Opening.{Opening}
use Rattle.solo_world.specs.Sequences.{Sequence, one}
use Rattle.solo_world.specs.declared.lane.Lane.{Lane}
use Rattle.solo_exec.proofs.ActionLines.{tell_led}
use Rattle.solo_exec.proofs.AllocLine.{quiet_making, tell_leads}
use Rattle.solo_exec.proofs.Along.{lane_along, same_along}
use Rattle.solo_exec.proofs.FewStores.{led_stores, lines_within, walked}
use Rattle.solo_exec.proofs.OutsideLine.{acted, told_acted}
use Rattle.solo_tx.specs.Beginning.{IsSpent}
use Rattle.solo_exec.proofs.Begun.{spent}
use Rattle.solo_exec.proofs.ChangeLines.{front_of}
use Rattle.solo_exec.proofs.LooksAlone.{looks_none}
use Rattle.solo_exec.proofs.PendingLists.{uncounted_raises}
use Rattle.solo_exec.proofs.PutLine.{put_stores, puts_calm, puts_work}
use Rattle.solo_exec.proofs.QuietSequences.{quiet_by}
use Rattle.solo_exec.proofs.Starts.{start_lane, words_led}
use Rattle.solo_exec.specs.Bounds.{making_stores, most_stores, stores_of_call, stores_of_lines}
use Rattle.solo_exec.specs.Calls.{id_of, operation_of, stands_alone}
use Rattle.solo_exec.specs.Course.{IsFree, IsOutsideMade, IsOutsideStopped, IsReserveMade, IsReserveRefusedOutside, put_calls}
use Rattle.solo_exec.specs.Replies.{IsOutsideReply, numbered}
use Rattle.solo_exec.specs.Progress.{ActedOutside, IsActed, IsCut, IsStart, IsUnbegun}
use Rattle.solo_exec.specs.declared.calls.Names.{Names}

module _ (o : Opening) (first : View) (lane new : Lane Solo) (blocks : BlockLists) (actions : PendingActions) (names : Names) (is : IsStart o lane blocks actions first) (shape : new.shape ≡ lane.shape) where
  abbrev start : View
  start = with_next_call first

  pub rests_with : RestsWithReserved o is.header is.pool first [] first new.shape
  rests_with = subst (RestsWithReserved o is.header is.pool first [] first) (sym shape) (is.keeps.rests is.header is.pool is.begins)

  pub free_start : IsLed first start → IsFree first start
  free_start led = record { led = led; undrawn = begun_entries first }

  -- a lane that rests behind a draw has an empty log
  idle_behind : (z : View) → IsAtRest Sees new (after z (Draw new.last)) → (after z (Draw new.last)).log ≡ no_log Idle
  idle_behind z rests = ⊎_elim (λ (idle : (after z (Draw new.last)).log ≡ no_log Idle). idle)
      (λ (is_open : ((after z (Draw new.last)).log ≡ no_log (Open [] [])) × ((after z (Draw new.last)).number ≡ None) × ((after z (Draw new.last)).call ≡ [])). let none : Some new.last ≡ None = is_open.1 in absurd (none-some new.last (sym none)))
      rests.fresh

  -- the last of its steps is the draw, of an ended call that entered nothing
  drawn_leads : (z : View) (steps : List Step) → Leads first steps z → Allowed z (Draw new.last) → IsEndedCall z → z.log.entries ≡ [] → Leads first (steps ++ Draw new.last ∷ []) (after z (Draw new.last))
  unfolding Leads
  drawn_leads z steps leads may ended unentered = leads_then first z (after z (Draw new.last)) steps (Draw new.last ∷ []) leads (may, tt, (ended, empty_plain z unentered), refl)

  one_stores : (s : Step) → is_store s ≡ false → stores_among (s ∷ []) ≡ 0
  unfolding one
  one_stores s none = none_in_one s none first

  module _ (below : generation_of first < generation_limit) where
    abbrev between : IsAloneBetween o is.header is.pool first (begins_next first) start new.shape
    between = rests_with.next below

  -- the generation is that of the opening as the call begins
  pub start_generation : IsLed first start → generation_of start ≡ generation_word o.words 0
  start_generation led =
      ap (λ n. slice_index start.words (area_word n)) (lane_along first start led.steps led.leads (start_lane o lane blocks actions first is))
      ∙ ap (λ (words : List ℕ). slice_index words (area_word 0)) (words_led o lane blocks actions first is start led)

  -- ---- bytes written into what is reserved

  module _ (x : ScriptOp) (id : ScriptId) (target : Oid) (target_is : target ≡ id_of names id) (off : ℕ) (bytes : List ℕ) (says : x ≡ op.WriteReserved id off bytes) where
    abbrev puts : Operation
    puts = operation.WriteReserved target off bytes

    puts_is : puts ≡ operation_of names x
    puts_is = ap (λ (i : Oid). operation.WriteReserved i off bytes) target_is ∙ ap (operation_of names) (sym says)

    pub put_acted : HasPutOutside Sees new actions first target off bytes → IsActed o first new blocks actions names x None None
    put_acted h =
        let z : View = put_view start target off bytes in
        let w : View = put_drawn start target off bytes new.last in
        let steps : List Step = puts_range target off bytes start in
        let still : RestsStill o is.header is.pool w new.shape = h.keeps o is.header is.pool first [] rests_with in
        let ended : IsEndedCall z = h.ended o is.header is.pool first [] rests_with in
        let unentered : z.log.entries ≡ [] = h.written.logs.entries ∙ (between h.below).outside.no_entries in
        let leads : Leads first (h.led.steps ++ steps) z = leads_then first start z h.led.steps steps h.led.leads (ready_leads start steps h.ready h.draws) in
        acted o first lane new blocks actions names is x w ((h.led.steps ++ steps) ++ Draw new.last ∷ []) (drawn_leads z (h.led.steps ++ steps) leads h.may_draw ended unentered) h.rests (idle_behind z h.rests) still.stands still.quiet None None None actions
        (subst (λ (y : Operation). IsOutsideReply y None None None) puts_is (refl, refl))
        (h.entries ∙ ap (λ (y : Operation). first.entries ++ numbered new.last (record { operation = y; reply = None } ∷ []) ∷ []) puts_is)
        h.listed
        (subst (λ (y : ScriptOp). IsOutsideMade names y None first w) (sym says) (record {
          start = start;
          free = free_start h.led;
          number = new.last;
          drawn = ap (λ (i : Oid). put_drawn start i off bytes new.last) target_is;
        }))
        (let two = stores_append (h.led.steps ++ steps) (Draw new.last ∷ []) in let both = stores_append h.led.steps steps in let before = led_stores first start h.led in let all = put_stores target off bytes start in
        let none = one_stores (Draw new.last) refl in
        let most = ap (most_stores names) says in let place = ap (λ (i : Oid). word_count (i.off + off) (length bytes)) target_is in omega (arith, two, both, before, all, none, most, place))

    pub put_refused : (r : Refusal) → HasRefusedPutOutside Sees new first target off bytes r → IsActed o first new blocks actions names x (Some r) None
    put_refused r h =
        let t = subst (λ (y : Operation). IsToldOutside Sees new first y (Some (Refused r))) puts_is h.told.told in
        told_acted o first lane new blocks actions names is x (Some r) actions t refl is.pending (refl, refl)
        (subst (λ (y : ScriptOp). IsOutsideMade names y (Some r) first t.view) (sym says) (t.led, ap (λ (i : Oid). put_refusal first.pool (pending_before first) i off (length bytes)) (sym target_is) ∙ h.reason))

    -- or the lane stopped in it
    pub put_cut : (said : ScriptLine) → said.operation ≡ x → HasStoppedPutting Sees new first target off bytes → IsCut o first new names (said ∷ []) []
    put_cut said is_said h =
        let b = between h.below in
        let sequence : Sequence = puts_range target off bytes in
        let k : ℕ = h.stops.stops.made in
        let m : View = after_all start (take k (sequence start)) in
        let steps : List Step = h.led.steps ++ take k (sequence start) in
        let at_start : start.lane ≡ 0 = lane_along first start h.led.steps h.led.leads (start_lane o lane blocks actions first is) in
        let beside : (i : ℕ) → i < word_count (target.off + off) (length bytes) → is_in_area 0 ((target.off + off) / 8 + i) ≡ false =
        λ i low. ap (λ (l : ℕ). is_in_area l ((target.off + off) / 8 + i)) (sym at_start) ∙ put_beside_area o is.header is.pool first (begins_next first) start new.shape b target off bytes h.range i low in
        let works : Each IsWork (sequence start) = puts_work target off bytes beside start at_start in
        let leads : Leads first steps m = leads_then first start m h.led.steps (take k (sequence start)) h.led.leads (front_leads start (sequence start) k h.stops.ready h.stops.draws) in
        record {
          view = m;
          same = same_along first m steps leads;
          bound = walked first m (stores_of_call names (said ∷ [])) steps leads
              (let both = stores_append h.led.steps (take k (sequence start)) in let before = led_stores first start h.led in let part = stores_first k (sequence start) in let all = put_stores target off bytes start in
              let most = ap (most_stores names) (is_said ∙ says) in let place = ap (λ (i : Oid). word_count (i.off + off) (length bytes)) target_is in let within = lines_within names [] [] said in
              let none : stores_of_lines names [] ≡ 0 = refl in omega (arith, both, before, part, all, most, place, within, none));
          seen = h.stops.stops.seen;
          drawn = h.undrawn ∙ sym h.stops.number;
          way = inl (record {
            steps = steps;
            leads = leads;
            came = inl (record { number = h.stops.number; entries = h.stops.entries ∙ begun_entries first });
            opening = unraised_first o start (sequence start) k at_start h.stops.ready (start_generation h.led) (ap is_ending b.outside.can.run.working.is_open) (all_work_raises (take k (sequence start)) (each_first IsWork k (sequence start) works));
            untorn = inl (record {
              view = start;
              steps = h.led.steps;
              leads = h.led.leads;
              working = b.outside.can.run.working;
              calm = λ quiet. quiet_by sequence (puts_calm target off bytes beside) start k quiet;
            });
          });
          at_stop = h.stops.stops.stopped;
          stops = inr (
            x,
            record { line = said; alone = refl; says = is_said; outside = ap stands_alone says },
            subst (λ (y : ScriptOp). IsOutsideStopped names y first m) (sym says) (record {
              start = start;
              free = free_start h.led;
              stops = front_of (Sees new.memory) start (sequence start) (put_calls names id off bytes) (ap (λ (i : Oid). puts_range i off bytes start) target_is) h.stops.stops;
            }),
          );
        }

  -- ---- an object reserved

  module _ (x : ScriptOp) (letter size kind : ℕ) (says : x ≡ op.Reserve letter size kind) where
    abbrev asks : Operation
    asks = operation.Reserve size kind

    asks_is : asks ≡ operation_of names x
    asks_is = ap (operation_of names) (sym says)

    pub reserve_acted : (left : PendingActions) (id : Oid) → HasReservedOutside Sees new left first size kind id → IsActed o first new blocks left names x None (Some id.off)
    reserve_acted left id h =
        let b = between h.below in
        let u : View = h.view in
        let offset : ℕ = h.block.place + 64 in
        let z : View = with_object_reserved u (object_in_block h.block size kind) in
        let w : View = reserved_drawn u h.block size kind new.last in
        let works : WorksAlone o is.header is.pool first (begins_next first) start = b.outside.works in
        let found : AllFound start.locks = subst AllFound (sym b.outside.free) (All-nil _) in
        let makes : MakesByFew start u size = object_makes o is.header is.pool first start (begins_next first) works new.shape b.outside.can found u size kind h.block h.made h.within in
        let still : RestsStill o is.header is.pool w new.shape = h.keeps o is.header is.pool first [] rests_with in
        let ended : IsEndedCall z = h.ended o is.header is.pool first [] rests_with in
        let unentered : z.log.entries ≡ [] = ap (λ (l : Log). l.entries) makes.log ∙ b.outside.no_entries in
        let may : MayTell u.log.phase = subst MayTell (sym (ap (λ (l : Log). l.phase) makes.log ∙ b.outside.can.run.working.is_open)) tt in
        let told : Leads first ((h.led.steps ++ makes.steps) ++ Tell asks (Some (Offset offset)) ∷ []) z =
        leads_then first u z (h.led.steps ++ makes.steps) (Tell asks (Some (Offset offset)) ∷ []) (leads_then first start u h.led.steps makes.steps h.led.leads makes.leads) (tell_leads u asks offset may) in
        let made : IsReserveMade size kind first w = record {
          start = start;
          free = free_start h.led;
          told = z;
          reserved = record { block = h.block; view = u; made = h.made; told = refl };
          number = new.last;
          drawn = refl;
        } in
        subst (λ (off : ℕ). IsActed o first new blocks left names x None (Some off)) (sym (ap (λ (i : Oid). i.off) h.is))
        (acted o first lane new blocks actions names is x w (((h.led.steps ++ makes.steps) ++ Tell asks (Some (Offset offset)) ∷ []) ++ Draw new.last ∷ [])
        (drawn_leads z ((h.led.steps ++ makes.steps) ++ Tell asks (Some (Offset offset)) ∷ []) told h.may_draw ended unentered) h.rests (idle_behind z h.rests) still.stands still.quiet None (Some offset) (Some (Offset offset)) left
        (subst (λ (y : Operation). IsOutsideReply y None (Some (Offset offset)) (Some offset)) asks_is (offset, (refl, refl)))
        (h.entries ∙ ap (λ (y : Operation). first.entries ++ numbered new.last (record { operation = y; reply = Some (Offset offset) } ∷ []) ∷ []) asks_is)
        h.listed
        (subst (λ (y : ScriptOp). IsOutsideMade names y None first w) (sym says) made)
        (let three = stores_append ((h.led.steps ++ makes.steps) ++ Tell asks (Some (Offset offset)) ∷ []) (Draw new.last ∷ []) in let two = stores_append (h.led.steps ++ makes.steps) (Tell asks (Some (Offset offset)) ∷ []) in
        let both = stores_append h.led.steps makes.steps in let before = led_stores first start h.led in let few = makes.few in
        let none = one_stores (Draw new.last) refl in let telling = one_stores (Tell asks (Some (Offset offset))) refl in
        let most : most_stores names x ≡ making_stores size = ap (most_stores names) says in omega (arith, three, two, both, before, few, none, telling, most)))

    -- refused: it looked for a block, or for none
    pub reserve_refused : (r : Refusal) → HasRefusedOutside Sees new first size kind r → IsActed o first new blocks actions names x (Some r) None
    reserve_refused r h =
        let b = between h.below in
        let u : View = h.view in
        let z : View = refused_view u size kind r in
        let w : View = refused_drawn u size kind r new.last in
        let works : WorksAlone o is.header is.pool first (begins_next first) start = b.outside.works in
        let looked = looked_on b r u h.came in
        let still : RestsStill o is.header is.pool w new.shape = h.keeps o is.header is.pool first [] rests_with in
        let ended : IsEndedCall z = h.ended o is.header is.pool first [] rests_with in
        let unentered : z.log.entries ≡ [] = ap (λ (l : Log). l.entries) looked.1 ∙ b.outside.no_entries in
        let may : MayTell u.log.phase = subst MayTell (sym (ap (λ (l : Log). l.phase) looked.1 ∙ b.outside.can.run.working.is_open)) tt in
        let told : IsLed first z = led_then first start z h.led (led_then start u z looked.0 (tell_led asks (Some (Refused r)) u may)) in
        let made : IsReserveRefusedOutside size kind r first w = record {
          start = start;
          free = free_start h.led;
          told = z;
          refused = record { view = u; came = h.came; told = refl };
          number = new.last;
          drawn = refl;
        } in
        acted o first lane new blocks actions names is x w (told.steps ++ Draw new.last ∷ []) (drawn_leads z told.steps told.leads h.may_draw ended unentered) h.rests (idle_behind z h.rests) still.stands still.quiet (Some r) None (Some (Refused r)) actions
        (refl, refl)
        (h.entries ∙ ap (λ (y : Operation). first.entries ++ numbered new.last (record { operation = y; reply = Some (Refused r) } ∷ []) ∷ []) asks_is)
        (subst (IsPendingAs actions) (sym h.pending) is.pending)
        (subst (λ (y : ScriptOp). IsOutsideMade names y (Some r) first w) (sym says) (made, h.reason))
        (let two = stores_append told.steps (Draw new.last ∷ []) in let before = led_stores first z told in let none = one_stores (Draw new.last) refl in omega (arith, two, before, none))
      where
        looked_on : (b : IsAloneBetween o is.header is.pool first (begins_next first) start new.shape) (r : Refusal) (u : View) → CameToRefuse start size r u → IsLed start u × (u.log ≡ start.log)
        looked_on b refusal.NoSpace u none = let f : FindsNoRoom start u = finds_no_room start new.shape b.outside.can (subst AllFound (sym b.outside.free) (All-nil _)) u (class_of size) none in (f.led, f.log)
        looked_on b r u came = subst (λ (y : View). IsLed start y × (y.log ≡ start.log)) (sym came) (led_none start, refl)

    -- or the lane stopped in it
    pub reserve_cut : (said : ScriptLine) → said.operation ≡ x → HasStoppedReserving Sees new first size kind → IsCut o first new names (said ∷ []) []
    reserve_cut said is_said h =
        let b = between h.below in
        let works : WorksAlone o is.header is.pool first (begins_next first) start = b.outside.works in
        let t : StopsMaking new.memory start size kind = stops_making o is.header is.pool first start (begins_next first) works new.shape b.outside.can (subst AllFound (sym b.outside.free) (All-nil _)) new.memory size kind h.stop h.gives in
        let m : View = t.view in
        let steps : List Step = h.led.steps ++ t.makes.steps in
        let leads : Leads first steps m = leads_then first start m h.led.steps t.makes.steps h.led.leads t.makes.leads in
        let unraised : raises steps ≡ 0 = (let both = raises_append h.led.steps t.makes.steps in let before = uncounted_raises h.led.steps h.led.uncounted in let none = t.makes.unraised in omega (arith, both, before, none)) in
        let generation = generation_raised o is.header is.pool first m steps (works_where_seen o is.header is.pool new.memory first m steps is.begins leads t.seen) in
        let undrawn : m.number ≡ None = t.makes.number ∙ b.outside.can.run.working.undrawn in
        let unended : is_ending m.log.phase ≡ false = ap (λ (l : Log). is_ending l.phase) t.makes.log ∙ ap is_ending b.outside.can.run.working.is_open in
        record {
          view = m;
          same = same_along first m steps leads;
          bound = walked first m (stores_of_call names (said ∷ [])) steps leads
              (let both = stores_append h.led.steps t.makes.steps in let before = led_stores first start h.led in let few = t.makes.few in
              let most : most_stores names said.operation ≡ making_stores size = ap (most_stores names) (is_said ∙ says) in let within = lines_within names [] [] said in
              let none : stores_of_lines names [] ≡ 0 = refl in omega (arith, both, before, few, most, within, none));
          seen = t.seen;
          drawn = h.undrawn ∙ sym undrawn;
          way = inl (record {
            steps = steps;
            leads = leads;
            came = inl (record { number = undrawn; entries = t.makes.entries ∙ begun_entries first });
            opening = looks_first o 0 m m (looks_none m) unended (omega (arith, generation, unraised));
            untorn = inl (record { view = start; steps = h.led.steps; leads = h.led.leads; working = b.outside.can.run.working; calm = quiet_making start m size t.makes });
          });
          at_stop = t.at_stop;
          stops = inr (
            x,
            record { line = said; alone = refl; says = is_said; outside = ap stands_alone says },
            subst (λ (y : ScriptOp). IsOutsideStopped names y first m) (sym says) (record { start = start; free = free_start h.led; stop = t.stop; gives = t.gives }),
          );
        }

-- ---- however it failed

module _ (o : Opening) (first : View) (lane new : Lane Solo) (blocks : BlockLists) (actions : PendingActions) (names : Names) (is : IsStart o lane blocks actions first) (x : ScriptOp) where
  -- of a reservation
  pub reserve_failed : (letter size kind : ℕ) → x ≡ op.Reserve letter size kind → (r : Refusal) (left : PendingActions) → left ≡ actions → (r ≢ refusal.Stopped → new.shape ≡ lane.shape) → (r ≡ refusal.Stopped → new.shape ≡ lane.shape)
      → (r ≡ refusal.Stopped → HasStoppedReserving Sees new first size kind) → (r ≡ refusal.Spent → IsSpent Sees new first) → (r ≢ refusal.Stopped → r ≢ refusal.Spent → HasRefusedOutside Sees new first size kind r)
      → ActedOutside o first new blocks left names x (Err r)
  reserve_failed letter size kind says refusal.Stopped left kept going stopped stops used refuses = λ said is_said. reserve_cut o first lane new blocks actions names is (stopped refl) x letter size kind says said is_said (stops refl)
  reserve_failed letter size kind says refusal.Spent left kept going stopped stops used refuses = subst (IsUnbegun first new) (sym kept) (spent o first lane new blocks actions names is (used refl))
  reserve_failed letter size kind says r left kept going stopped stops used refuses =
      subst (λ (list : PendingActions). IsActed o first new blocks list names x (Some r) None) (sym kept)
      (reserve_refused o first lane new blocks actions names is (going (λ clash. absurd cc)) x letter size kind says r (refuses (λ clash. absurd cc) (λ clash. absurd cc)))

  -- of a write into what is reserved
  pub put_failed : (id : ScriptId) (target : Oid) → target ≡ id_of names id → (off : ℕ) (bytes : List ℕ) → x ≡ op.WriteReserved id off bytes → (r : Refusal) → (r ≢ refusal.Stopped → new.shape ≡ lane.shape) → (r ≡ refusal.Stopped → new.shape ≡ lane.shape)
      → (r ≡ refusal.Stopped → HasStoppedPutting Sees new first target off bytes) → (r ≡ refusal.Spent → IsSpent Sees new first) → (r ≢ refusal.Stopped → r ≢ refusal.Spent → HasRefusedPutOutside Sees new first target off bytes r)
      → ActedOutside o first new blocks actions names x (Err r)
  put_failed id target target_is off bytes says refusal.Stopped going stopped stops used refuses = λ said is_said. put_cut o first lane new blocks actions names is (stopped refl) x id target target_is off bytes says said is_said (stops refl)
  put_failed id target target_is off bytes says refusal.Spent going stopped stops used refuses = spent o first lane new blocks actions names is (used refl)
  put_failed id target target_is off bytes says r going stopped stops used refuses = put_refused o first lane new blocks actions names is (going (λ clash. absurd cc)) x id target target_is off bytes says r (refuses (λ clash. absurd cc) (λ clash. absurd cc))

-- the reason of an answer
abbrev pub refusal_of : {T : Type 0} → Result T Refusal → Refusal
refusal_of (Ok done) = refusal.Stopped
refusal_of (Err r) = r
