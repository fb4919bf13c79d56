-- A line that makes an object, or reserves one, from a lane at work: it is done, or refused, which gives up an allocation's call, or the lane stops.
use Rattle.std.proofs.Common.{◌≡◌, ◌≢◌, ◌⊎◌, ⊎_elim, inl, inr, ℕ, ◌+◌, ◌≤◌, true, false, Contains, List, [], ◌∷◌, ◌++◌, length, Option, None, Some, slice_index, refl, sym, ap, ◌∙◌, subst, arith}
use Rattle.std.specs.Option.{ForSome}
use Rattle.std.proofs.lemmas.Bool.{false≢true}
use Rattle.std.proofs.lemmas.Option.{none-some}
use Rattle.solo_blocks.proofs.Searching.{left_by_search, works_still}
use Rattle.solo_blocks.specs.AnyBlocks.{HasNoRoom}
use Rattle.solo_blocks.specs.declared.making.NoBlock.TheVariants as no_block
use Rattle.solo_crash.proofs.Leading.{leads_then}
use Rattle.solo_crash.proofs.PendingOn.{pending_once_more, pending_same}
use Rattle.solo_crash.proofs.Raises.{raises_append}
use Rattle.solo_crash.proofs.Raising.{generation_raised}
use Rattle.solo_crash.proofs.SeenAlone.{works_where_seen}
use Rattle.solo_crash.specs.Alone.{WorksAlone, raises}
use Rattle.solo_crash.specs.Leading.{Leads}
use Rattle.solo_crash.specs.OpenCall.{IsUnderBlock, words_recorded}
use Rattle.solo_crash.specs.Operations.{entries_so_far}
use Rattle.solo_crash.specs.Pending.{pending_in, published_by}
use Rattle.solo_crash.specs.Reserving.{IsReserveReason}
use Rattle.pm_image.specs.Logs.{generation_word}
use Rattle.pm_layout.specs.Sizes.{class_of}
use Rattle.solo_lock.proofs.Leads.{led_none}
use Rattle.solo_made.specs.Made.{BlockLists}
use Rattle.solo_memory.specs.Solo.{Sees, Solo}
use Rattle.solo_model.specs.Checks.{is_action}
use Rattle.pm_objects.specs.declared.calls.Operation.{Operation}
use Rattle.pm_objects.specs.declared.calls.Operation.TheVariants as operation
use Rattle.pm_objects.specs.declared.history.TxErr.TheVariants as error
use Rattle.pm_objects.specs.declared.history.Value.{Value}
use Rattle.pm_objects.specs.declared.history.Value.TheVariants.{Bytes, Members, Number, Offset, Refused}
use Rattle.pm_objects.specs.declared.ids.Oid.{Oid}
use Rattle.pm_objects.specs.declared.refusal.Refusal.{Refusal}
use Rattle.pm_objects.specs.declared.refusal.Refusal.TheVariants as refusal
use Rattle.solo_pending.specs.declared.pending.PendingActions.{PendingActions}
use Rattle.solo_script.specs.declared.script.ScriptLine.{ScriptLine}
use Rattle.solo_script.specs.declared.script.ScriptOp.{ScriptOp}
use Rattle.solo_script.specs.declared.script.ScriptOp.TheVariants as op
use Rattle.solo_transaction.proofs.GainedAtWork.{all_found}
use Rattle.solo_transaction.proofs.EndingAlone.{may_allocate}
use Rattle.solo_transaction.proofs.MadeBySteps.{object_makes}
use Rattle.solo_transaction.proofs.NoRoomFound.{finds_no_room}
use Rattle.solo_transaction.proofs.RefusedAllocs.{search_of}
use Rattle.solo_transaction.proofs.StandsGivenUp.{came_may}
use Rattle.solo_transaction.proofs.StopsMaking.{stops_making}
use Rattle.solo_transaction.specs.Allocating.{CameToRefuse, HasAllocated, IsAllocGivenUp, IsAllocStopped, IsStoppedMaking, MayAllocate}
use Rattle.solo_transaction.specs.MakingSteps.{FindsNoRoom, MakesByFew, StopsMaking}
use Rattle.solo_tx.proofs.OpeningGeneration.{looks_first}
use Rattle.solo_tx.proofs.StepKinds.{only_one}
use Rattle.solo_tx.proofs.StoreCounts.{none_in_one, stores_append}
use Rattle.solo_tx.proofs.Unraised.{IsWork, all_work_raises}
use Rattle.solo_tx.specs.Ending.{IsEndedBy, IsStoppedIn}
use Rattle.solo_tx.specs.Generations.{is_ending}
use Rattle.solo_tx.specs.Sequences.{gives_up}
use Rattle.solo_undo.proofs.Areas.{in_area}
use Rattle.solo_undo.specs.Working.{IsWorking}
use Rattle.solo_view.specs.Area.{is_in_area}
use Rattle.solo_view.specs.Counts.{stores_among}
use Rattle.solo_view.specs.Log.{Log}
use Rattle.solo_view.specs.Steps.{Step}
use Rattle.solo_view.specs.Steps.Step.{Tell}
use Rattle.solo_view.specs.View.{Lock, Told, View}
use Rattle.solo_view.specs.Views.{after}
use Rattle.solo_view.specs.declared.change.Change.{Change}
use Rattle.solo_world.proofs.CrashLogs.{InSlots}
use Rattle.solo_world.specs.Lawful.{MayTell}
use Rattle.solo_world.specs.Opening.{Opening}
use Rattle.solo_world.specs.Records.{generation_of}
use Rattle.solo_world.specs.Sequences.{one}
use Rattle.solo_world.specs.declared.lane.Lane.{Lane}
use Rattle.solo_world.specs.declared.lane.Stage.TheVariants as stage
use Rattle.solo_exec.proofs.AddAndWrite.{given_up_so}
use Rattle.solo_exec.proofs.Along.{same_along}
use Rattle.solo_exec.proofs.ChangeLines.{GoesTo, cut_there, over_there}
use Rattle.solo_exec.proofs.FewStores.{walked, lines_more, lines_within}
use Rattle.solo_exec.proofs.FreeLine.{one_log}
use Rattle.solo_exec.proofs.LineLists.{gave_more, made_more, told_more, words_more}
use Rattle.solo_exec.proofs.LooksAlone.{looks_none}
use Rattle.solo_exec.proofs.PendingLists.{still_pending}
use Rattle.solo_exec.specs.Bounds.{log_due, log_stores, making_stores, most_stores, recorded_count, stores_of_call, stores_of_lines}
use Rattle.solo_exec.specs.Calls.{operation_of}
use Rattle.solo_exec.specs.Course.{CameToGiveUp, IsLineMade, IsLineStopped}
use Rattle.solo_exec.specs.Replies.{AreToldDone, IsToldDone, Values, values_told}
use Rattle.solo_exec.specs.Progress.{IsAtLine, IsCut, IsGivenUpAt}
use Rattle.solo_exec.proofs.ActionLines.{due_still, told_done}
use Rattle.solo_transaction.specs.Reserving.{HasRefusedReserve, HasReservedObject}
use Rattle.solo_transaction.specs.AtWork.{IsAtWorkWith}
use Rattle.solo_alloc.specs.NewObjects.{GivesNoObject, HasNewObject}
use Rattle.pm_image.specs.declared.block.Block.{Block}
use Rattle.solo_memory.specs.declared.lane_mem.Stopped.{Stopped as HasStopped}
use Rattle.solo_model.specs.Shown.{values_at}
use Rattle.solo_model.specs.Actions.{Pending}
use Rattle.solo_pending.specs.AllPending.{IsPendingAs}
use Rattle.solo_exec.specs.Quiet.{IsQuiet, MakesNone}
use Rattle.solo_exec.specs.Torn.{words_after, words_by}
use Rattle.solo_exec.specs.declared.calls.Names.{Names}

-- no line that makes an object is refused as spent
pub make_not_spent : (r : Refusal) → (r ≡ refusal.BadSize) ⊎ (r ≡ refusal.ActionsFull) ⊎ (r ≡ refusal.NoSpace) ⊎ (r ≡ refusal.Stopped) → r ≢ refusal.Spent
make_not_spent r (inl is) = λ spent. let clash : refusal.BadSize ≡ refusal.Spent = sym is ∙ spent in cc
make_not_spent r (inr (inl is)) = λ spent. let clash : refusal.ActionsFull ≡ refusal.Spent = sym is ∙ spent in cc
make_not_spent r (inr (inr (inl is))) = λ spent. let clash : refusal.NoSpace ≡ refusal.Spent = sym is ∙ spent in cc
make_not_spent r (inr (inr (inr is))) = λ spent. let clash : refusal.Stopped ≡ refusal.Spent = sym is ∙ spent in cc

-- a telling leads on
pub tell_leads : (u : View) (s : Operation) (offset : ℕ) → MayTell u.log.phase → Leads u (Tell s (Some (Offset offset)) ∷ []) (after u (Tell s (Some (Offset offset))))
unfolding Leads
tell_leads u s offset may = (may, tt, tt, refl)

-- the words under what was found are those of what was found before, where the locks are the same
under_before : (v w : View) → w.locks ≡ v.locks → (i : ℕ) → IsUnderBlock w i → IsUnderBlock v i
under_before v w same i under = record { lock = under.lock; lines = under.lines; held = subst (λ (ls : List Lock). Contains ls under.lock) same under.held; found = under.found; from = under.from; to = under.to }

-- a lane that drew no number has none that waits
none_waits : (drawn number : Option ℕ) → ForSome drawn (λ n. number ≡ Some n) → number ≡ None → drawn ≡ number
none_waits None number waits none = sym none
none_waits (Some n) number waits none = absurd (none-some n (sym none ∙ waits n refl))

-- it made no more counted calls than up to its stop number
seen_within : (m : Solo) (v : View) → Sees m v → ForSome v.stop (λ stop. v.calls ≤ stop)
seen_within m v seen = subst (λ (stop : Option ℕ). ForSome stop (λ s. v.calls ≤ s)) (sym seen.stop) seen.within

-- where no slot was being written none is: what is undrained is of no slot, or of a word of which something was
pub quiet_making : (v w : View) (size : ℕ) → MakesByFew v w size → IsQuiet v → IsQuiet w
quiet_making v w size makes quiet = record {
  lane = makes.lane.lane ∙ quiet.lane;
  unchanged = λ (c : Change) there slots. ⊎_elim
      (λ (out : is_in_area v.lane c.word ≡ false).
      let low = slots.low in let high = slots.high in
      let inside : is_in_area 0 c.word ≡ true = in_area 0 c.word (omega (arith, low)) (omega (arith, high)) in
      false≢true (sym out ∙ (ap (λ n. is_in_area n c.word) quiet.lane ∙ inside)))
      (λ (old : (d : Change) × Contains v.changes d × (d.word ≡ c.word)). quiet.unchanged old.0 old.1 (subst (InSlots 0) (sym old.2) slots))
      (makes.apart c there);
  unbegun = subst (λ (l : Log). MakesNone l.phase) (sym makes.log) quiet.unbegun;
}

module _ (o : Opening) (first : View) (lane : Lane Solo) (blocks : BlockLists) (actions : PendingActions) (names : Names) (front : List ScriptLine) (values : Values) (a : IsAtLine o first lane blocks actions names front values) where
  works_now : WorksAlone o a.header a.pool first a.steps a.view
  works_now = works_where_seen o a.header a.pool lane.memory first a.view a.steps a.begins a.leads a.works.work.seen.memory

  pub may_make : MayAllocate o Sees lane blocks a.view
  may_make = may_allocate o a.header a.pool Sees lane first a.view a.steps works_now blocks a.works

  -- ---- steps that make an object, or some of them

  module _ (size : ℕ) (u : View) (makes : MakesByFew a.view u size) where
    abbrev to_made : List Step
    to_made = a.steps ++ makes.steps

    made_leads : Leads first to_made u
    made_leads = leads_then first a.view u a.steps makes.steps a.leads makes.leads

    made_unraised : raises to_made ≡ 0
    made_unraised = let both = raises_append a.steps makes.steps in let before = a.unraised in let none = makes.unraised in omega (arith, both, before, none)

    made_count : recorded_count u ≡ recorded_count a.view
    made_count = ap (λ (l : Log). length (words_recorded l.records)) makes.log

    made_few : stores_among to_made + recorded_count a.view + log_due a.view ≤ stores_of_lines names front + making_stores size
    made_few = let both = stores_append a.steps makes.steps in let before = a.few in let few = makes.few in omega (arith, both, before, few)

    made_words : (i : ℕ) → IsUnderBlock a.view i → slice_index u.words i ≡ words_after names front (slice_index o.words) i
    made_words i under = makes.found i under ∙ a.words i under

    made_unended : is_ending u.log.phase ≡ false
    made_unended = ap (λ (l : Log). is_ending l.phase) makes.log ∙ ap is_ending a.works.work.working.is_open

  -- ---- a line that makes an object, and tells its offset by this operation

  module _ (new : Lane Solo) (said : ScriptLine) (size kind : ℕ) where
    -- the object was made, and told
    pub object_done : (asks : Operation) (block : Block) (u : View) → HasNewObject (λ z. z ≡ u) a.view size kind block
        → Sees new.memory (after u (Tell asks (Some (Offset (block.place + 64))))) → ForSome u.stop (λ stop. u.calls ≤ stop)
        → (now : BlockLists) (left : PendingActions) → IsAtWorkWith o Sees new now (after u (Tell asks (Some (Offset (block.place + 64))))) → IsPendingAs left (pending_in (after u (Tell asks (Some (Offset (block.place + 64))))))
        → new.level ≡ 1 → values_at said.line asks (Some (Offset (block.place + 64))) ≡ (said.line, Offset (block.place + 64)) ∷ []
        → IsToldDone names said.operation (record { operation = asks; reply = Some (Offset (block.place + 64)) }) → IsLineMade names said.operation a.view (after u (Tell asks (Some (Offset (block.place + 64)))))
        → ((x : ℕ → ℕ) (i : ℕ) → words_by names said.operation x i ≡ x i)
        → making_stores size + log_due (after u (Tell asks (Some (Offset (block.place + 64))))) ≤ most_stores names said.operation + log_due a.view
        → IsAtLine o first new now left names (front ++ said ∷ []) (values ++ (said.line, Offset (block.place + 64)) ∷ [])
    unfolding one
    object_done asks block u made seen within now left works pending level gives is_told line no_word most =
        let v : View = a.view in
        let offset : ℕ = block.place + 64 in
        let t : Told = record { operation = asks; reply = Some (Offset offset) } in
        let tell : Step = Tell asks (Some (Offset offset)) in
        let w : View = after u tell in
        let makes : MakesByFew v u size = object_makes o a.header a.pool first v a.steps works_now lane.shape may_make.can (all_found o Sees lane blocks v may_make.works) u size kind block made within in
        let may : MayTell u.log.phase = subst MayTell (sym (ap (λ (l : Log). l.phase) makes.log ∙ a.works.work.working.is_open)) tt in
        let front_steps : List Step = to_made size u makes in
        let steps : List Step = front_steps ++ tell ∷ [] in
        let leads : Leads first steps w = leads_then first u w front_steps (tell ∷ []) (made_leads size u makes) (tell_leads u asks offset may) in
        let lane_is : u.lane ≡ 0 = makes.lane.lane ∙ a.of_lane in
        let no_raise : raises (tell ∷ []) ≡ 0 = all_work_raises (tell ∷ []) (only_one IsWork tell tt u lane_is) in
        let unraised : raises steps ≡ 0 = (let both = raises_append front_steps (tell ∷ []) in let before = made_unraised size u makes in omega (arith, both, before, no_raise)) in
        let generation = generation_raised o a.header a.pool first w steps (works_where_seen o a.header a.pool new.memory first w steps a.begins leads seen) in
        let call : w.call ≡ v.call ++ t ∷ [] = ap (λ (ts : List Told). ts ++ t ∷ []) makes.call in
        record {
          header = a.header;
          pool = a.pool;
          begins = a.begins;
          view = w;
          steps = steps;
          leads = leads;
          of_lane = lane_is;
          works = works;
          level = level;
          opens = (a.opens.0, a.opens.1 ++ said ∷ [], ap (λ (ls : List ScriptLine). ls ++ said ∷ []) a.opens.2, a.opens.3);
          told = subst (AreToldDone names (front ++ said ∷ [])) (sym call) (told_more names front said v.call t a.told is_told);
          gave =
              ap (λ (vs : Values). vs ++ (said.line, Offset offset) ∷ []) a.gave
              ∙ (ap (λ (vs : Values). values_told front v.call ++ vs) (sym gives) ∙ (sym (gave_more names front said v.call t a.told) ∙ ap (values_told (front ++ said ∷ [])) (sym call)));
          entries = makes.entries ∙ a.entries;
          generation = (let g : generation_of w ≡ generation_word o.words 0 = omega (arith, generation, unraised) in g);
          words = λ i under. made_words size u makes i (under_before v w makes.locks i under) ∙ sym (words_more names front said (slice_index o.words) i ∙ no_word (words_after names front (slice_index o.words)) i);
          unraised = unraised;
          pending = pending;
          made = made_more names front said first v w a.made line;
          few =
              let both = stores_append front_steps (tell ∷ []) in let none = none_in_one tell refl u in let count = made_count size u makes in
              let before = made_few size u makes in let more = lines_more names front said in
              omega (arith, both, none, count, before, more, most);
        }

    -- the lane stopped as it made it
    pub object_stopped : (rest : List ScriptLine) → IsStoppedMaking Sees lane new a.view size kind → making_stores size ≤ most_stores names said.operation
        → ((m : View) (stop : HasStopped) → GivesNoObject (λ u. u ≡ m) a.view size kind (no_block.Stopped stop) → IsLineStopped names said.operation a.view m) → IsCut o first new names (front ++ said ∷ rest) values
    object_stopped rest s most so =
        let v : View = a.view in
        let t : StopsMaking new.memory v size kind = stops_making o a.header a.pool first v a.steps works_now lane.shape may_make.can (all_found o Sees lane blocks v may_make.works) new.memory size kind s.stop s.gives in
        let m : View = t.view in
        let steps : List Step = to_made size m t.makes in
        let leads : Leads first steps m = made_leads size m t.makes in
        let unraised = made_unraised size m t.makes in
        let generation = generation_raised o a.header a.pool first m steps (works_where_seen o a.header a.pool new.memory first m steps a.begins leads t.seen) in
        let undrawn : m.number ≡ None = t.makes.number ∙ a.works.work.working.undrawn in
        record {
          view = m;
          same = same_along first m steps leads;
          bound = walked first m (stores_of_call names (front ++ said ∷ rest)) steps leads
              (let few = made_few size m t.makes in let all = lines_within names front rest said in omega (arith, few, all, most));
          seen = t.seen;
          drawn = s.undrawn ∙ (none_waits lane.drawn v.number a.works.work.seen.drawn a.works.work.working.undrawn ∙ sym t.makes.number);
          way = inl (record {
            steps = steps;
            leads = leads;
            came = inl (record { number = undrawn; entries = t.makes.entries ∙ a.entries });
            opening = looks_first o 0 m m (looks_none m) (made_unended size m t.makes) (omega (arith, generation, unraised));
            untorn = inl (record { view = v; steps = a.steps; leads = a.leads; working = a.works.work.working; calm = quiet_making v m size t.makes });
          });
          at_stop = t.at_stop;
          stops = inl (record {
            front = front;
            said = said;
            rest = rest;
            is = refl;
            middle = v;
            made = a.made;
            stops = inl (so m t.stop t.gives);
          });
        }

  -- ---- where it is refused

  -- it went on without a counted call to where it found no room, and is at work there
  unroomed : (size : ℕ) (w : View) → HasNoRoom (λ u. u ≡ w) a.view (class_of size) (no_block.Refused refusal.NoSpace) → GoesTo a.view w × IsWorking w
  unroomed size w none =
      let f : FindsNoRoom a.view w = finds_no_room a.view lane.shape may_make.can (all_found o Sees lane blocks a.view may_make.works) w (class_of size) none in
      let found = search_of (λ u. u ≡ w) a.view (class_of size) none in
      let s = found.1 in
      let left = left_by_search a.view s.view s.steps s.searches may_make.can.run.alone may_make.can.run.locked in (
        record { led = f.led; words = f.words; call = f.call; number = f.number; entries = f.entries; log = f.log; locks = f.locks },
        subst IsWorking s.there (works_still a.view s.view s.kept left a.works.work.working),
      )

  pub went : (size : ℕ) (r : Refusal) (w : View) → CameToRefuse a.view size r w → GoesTo a.view w × IsWorking w
  went size refusal.NoSpace w none = unroomed size w none
  went size r w came = subst (λ (u : View). GoesTo a.view u × IsWorking u) (sym came) (record { led = led_none a.view; words = refl; call = refl; number = refl; entries = refl; log = refl; locks = refl }, a.works.work.working)

  -- ---- an object is allocated

  module _ (new : Lane Solo) (said : ScriptLine) (letter size kind : ℕ) (is : said.operation ≡ op.Alloc letter size kind) where
    pub make_is : operation.Alloc size kind ≡ operation_of names said.operation
    make_is = ap (operation_of names) (sym is)

    make_good : most_stores names said.operation ≡ making_stores size + log_stores
    make_good = ap (most_stores names) is

    pub make_done : (now : BlockLists) (id : Oid) → HasAllocated o Sees new now a.view size kind id → new.level ≡ 1 → IsAtLine o first new now actions names (front ++ said ∷ []) (values ++ (said.line, Offset id.off) ∷ [])
    make_done now id h level =
        let v : View = a.view in
        let u : View = h.view in
        let offset : ℕ = h.block.place + 64 in
        let asks : Operation = operation.Alloc size kind in
        let w : View = after u (Tell asks (Some (Offset offset))) in
        let within : ForSome u.stop (λ stop. u.calls ≤ stop) = seen_within new.memory w h.seen in
        let makes : MakesByFew v u size = object_makes o a.header a.pool first v a.steps works_now lane.shape may_make.can (all_found o Sees lane blocks v may_make.works) u size kind h.block h.made within in
        subst (λ (off : ℕ). IsAtLine o first new now actions names (front ++ said ∷ []) (values ++ (said.line, Offset off) ∷ [])) (sym (ap (λ (i : Oid). i.off) h.is))
        (object_done new said size kind asks h.block u h.made h.seen within now actions (h.works a.header a.pool first a.steps works_now within).works
        (still_pending (pending_in w) (pending_once_more u w asks (Some (Offset offset)) refl refl ∙ pending_same v u makes.entries makes.call) a.pending) level refl
        (subst (λ (x : ScriptOp). IsToldDone names x (record { operation = asks; reply = Some (Offset offset) })) (sym is) (offset, refl))
        (subst (λ (x : ScriptOp). IsLineMade names x v w) (sym is) (record { block = h.block; view = u; made = h.made; told = refl }))
        (λ x i. ap (λ (y : ScriptOp). words_by names y x i) is) (let good = make_good in let log = one_log (entries_so_far w) in omega (arith, good, log)))

    make_stopped : (rest : List ScriptLine) → IsStoppedMaking Sees lane new a.view size kind → IsCut o first new names (front ++ said ∷ rest) values
    make_stopped rest s =
        object_stopped new said size kind rest s (let good = make_good in omega (arith, good)) (λ m stop gives. subst (λ (x : ScriptOp). IsLineStopped names x a.view m) (sym is) (stop, gives))

    -- ---- the call is given up for it

    pub make_given_up : (r : Refusal) → IsAllocGivenUp Sees new a.view lane.records.items size kind r
        → new ≡ record lane { memory = new.memory; records = new.records; entries = new.entries; stage = stage.OnAbort; error = error.Refused r; drawn = Some new.last; last = new.last }
        → (rest : List ScriptLine) → IsGivenUpAt o first new blocks actions names (front ++ said ∷ rest) values said.line r
    make_given_up r g fields rest =
        let t = went size r g.view g.came in
        let same = same_along a.view g.view t.0.led.steps t.0.led.leads in
        over_there o first lane blocks actions names front values a g.view t.0 new said t.1 (came_may o Sees lane blocks a.view may_make size r g.view g.came t.0.log same.lanes t.0.locks t.1) r (subst (λ (y : Operation). CameToGiveUp y r a.view g.view) make_is g.came)
        (subst (λ (y : Operation). IsEndedBy Sees new g.view (gives_up lane.records.items y (Some (Refused r)) new.last) y (Some (Refused r))) make_is g.ended) (ap is_action (sym make_is))
        (ap (λ (l : Lane Solo). l.level) fields ∙ a.level) (ap (λ (l : Lane Solo). l.stage) fields) (ap (λ (l : Lane Solo). l.error) fields)
        (given_up_so names said.operation r a.view (λ asked clashes. let clash = sym is ∙ clashes in cc)) rest

    pub make_cut : (rest : List ScriptLine) → IsStoppedMaking Sees lane new a.view size kind ⊎ IsAllocStopped Sees new a.view lane.records.items size kind → IsCut o first new names (front ++ said ∷ rest) values
    make_cut rest (inl s) = make_stopped rest s
    make_cut rest (inr s) =
        let t = went size s.refusal s.view s.came in
        cut_there o first lane blocks actions names front values a s.view t.0 new said t.1 rest s.refusal (subst (λ (y : Operation). CameToGiveUp y s.refusal a.view s.view) make_is s.came)
        (subst (λ (y : Operation). IsStoppedIn Sees new s.view (gives_up lane.records.items y (Some (Refused s.refusal)) new.last) y (Some (Refused s.refusal))) make_is s.stopped)

  -- ---- an object is reserved

  module _ (new : Lane Solo) (said : ScriptLine) (letter size kind : ℕ) (is : said.operation ≡ op.Reserve letter size kind) where
    reserve_good : most_stores names said.operation ≡ making_stores size
    reserve_good = ap (most_stores names) is

    -- it publishes, makes and frees nothing, done or refused
    unpublished : (reply : Option Value) (p : Pending) → published_by (operation.Reserve size kind) reply p ≡ []
    unpublished None p = refl
    unpublished (Some (Refused r)) p = refl
    unpublished (Some (Offset off)) p = refl
    unpublished (Some (Number x)) p = refl
    unpublished (Some (Bytes bytes)) p = refl
    unpublished (Some (Members all)) p = refl

    pub reserve_done : (left : PendingActions) (id : Oid) → HasReservedObject o Sees new blocks left a.view size kind id → new.level ≡ 1 → IsAtLine o first new blocks left names (front ++ said ∷ []) (values ++ (said.line, Offset id.off) ∷ [])
    reserve_done left id h level =
        let v : View = a.view in
        let u : View = h.view in
        let offset : ℕ = h.block.place + 64 in
        let asks : Operation = operation.Reserve size kind in
        let w : View = after u (Tell asks (Some (Offset offset))) in
        let within : ForSome u.stop (λ stop. u.calls ≤ stop) = seen_within new.memory w h.seen in
        let makes : MakesByFew v u size = object_makes o a.header a.pool first v a.steps works_now lane.shape may_make.can (all_found o Sees lane blocks v may_make.works) u size kind h.block h.made within in
        let due = due_still v w asks (Some (Offset offset)) makes.entries (ap (λ (ts : List Told). ts ++ record { operation = asks; reply = Some (Offset offset) } ∷ []) makes.call) (unpublished (Some (Offset offset))) refl in
        subst (λ (off : ℕ). IsAtLine o first new blocks left names (front ++ said ∷ []) (values ++ (said.line, Offset off) ∷ [])) (sym (ap (λ (i : Oid). i.off) h.is))
        (object_done new said size kind asks h.block u h.made h.seen within blocks left (h.works a.header a.pool first a.steps works_now within).works (h.listed a.header a.pool first a.steps works_now within) level refl
        (subst (λ (x : ScriptOp). IsToldDone names x (record { operation = asks; reply = Some (Offset offset) })) (sym is) (inl (offset, refl)))
        (subst (λ (x : ScriptOp). IsLineMade names x v w) (sym is) (inl (record { block = h.block; view = u; made = h.made; told = refl })))
        (λ x i. ap (λ (y : ScriptOp). words_by names y x i) is) (let good = reserve_good in omega (arith, good, due)))

    pub reserve_refused : (r : Refusal) → HasRefusedReserve o Sees new blocks a.view size kind r → new.level ≡ 1 → new.locks ≡ lane.locks → IsAtLine o first new blocks actions names (front ++ said ∷ []) (values ++ (said.line, Refused r) ∷ [])
    reserve_refused r h level locks =
        let asks : Operation = operation.Reserve size kind in
        let t = went size r h.view h.came in
        let w : View = after h.view (Tell asks (Some (Refused r))) in
        told_done o first lane blocks actions names front values a new said h.view t.0 t.1 asks (Some r) refl actions
        (subst (λ (x : ScriptOp). IsToldDone names x (record { operation = asks; reply = Some (Refused r) })) (sym is) (inr (r, refl)))
        (subst (λ (x : ScriptOp). IsLineMade names x a.view w) (sym is)
        (inr (r, subst (λ (p : Pending). IsReserveReason p size r) (pending_same a.view h.view t.0.entries t.0.call) h.reason, record { view = h.view; came = h.came; told = refl })))
        (λ x i. ap (λ (y : ScriptOp). words_by names y x i) is) (unpublished (Some (Refused r))) refl h.works
        (still_pending (pending_in w) (pending_once_more h.view w asks (Some (Refused r)) refl refl ∙ pending_same a.view h.view t.0.entries t.0.call) a.pending) level locks

    pub reserve_cut : (rest : List ScriptLine) → IsStoppedMaking Sees lane new a.view size kind → IsCut o first new names (front ++ said ∷ rest) values
    reserve_cut rest s =
        object_stopped new said size kind rest s (let good = reserve_good in omega (arith, good)) (λ m stop gives. subst (λ (x : ScriptOp). IsLineStopped names x a.view m) (sym is) (stop, gives))
