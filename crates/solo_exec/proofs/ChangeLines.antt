-- What a line that records or writes comes to, from a lane at work: it is done, or its call is given up for it, or the lane stops.
use Rattle.std.proofs.Common.{◌≡◌, inl, inr, refl, subst, ℕ, ◌+◌, ◌≤◌, length, false, List, [], ◌∷◌, ◌++◌, map, slice_index, take, Option, None, Some, sym, ap, ◌∙◌, arith, Contains}
use Rattle.solo_crash.proofs.Leading.{leads_then}
use Rattle.solo_crash.specs.Leading.{Leads}
use Rattle.solo_crash.proofs.CallBlocks.{blocks_once_more, same_blocks}
use Rattle.solo_crash.specs.CallBlocks.{CallBlocks, blocks_behind, blocks_in}
use Rattle.solo_crash.specs.OpenCall.{IsUnderBlock}
use Rattle.pm_image.specs.Blocks.{chunk_word, descriptor_word}
use Rattle.pm_image.specs.Logs.{generation_word}
use Rattle.solo_made.specs.Made.{BlockLists}
use Rattle.solo_transaction.proofs.NotMaking.{not_making_still}
use Rattle.solo_transaction.specs.AtWork.{IsAtWorkWith, IsNotMaking}
use Rattle.solo_tx.proofs.BorneOut.{bitmap_unrecorded, bitmaps_outside, chunk_words_outside, descriptor_unrecorded, root_outside, root_unrecorded}
use Rattle.solo_tx.proofs.TakenBack.{take_back_lawful}
use Rattle.solo_view.proofs.Sequences.{after_all-append}
use Rattle.solo_view.specs.Constants.{IsSameLane}
use Rattle.solo_view.specs.Steps.Step.{Draw, Tell}
use Rattle.solo_world.specs.Records.{is_recorded}
use Rattle.solo_memory.specs.Runs.{Stops}
use Rattle.solo_memory.specs.Solo.{Sees, Solo}
use Rattle.solo_crash.specs.OpenCall.{words_recorded}
use Rattle.pm_objects.specs.declared.calls.Operation.{Operation}
use Rattle.pm_objects.specs.declared.history.TxErr.TheVariants as error
use Rattle.pm_objects.specs.declared.history.Value.{Value}
use Rattle.pm_objects.specs.declared.history.Value.TheVariants.{Refused}
use Rattle.pm_objects.specs.declared.refusal.Refusal.{Refusal}
use Rattle.solo_script.specs.declared.script.ScriptLine.{ScriptLine}
use Rattle.solo_script.specs.declared.script.ScriptOp.{ScriptOp}
use Rattle.solo_lock.proofs.Leading.{ready_leads}
use Rattle.solo_lock.proofs.Leads.{heap_then, led_same}
use Rattle.solo_lock.specs.Leading.{DrawEnded, IsLed}
use Rattle.solo_tx.proofs.GiveUpCourse.{gives_up_of}
use Rattle.solo_tx.proofs.Leading.{ended_leads, stopped_leads}
use Rattle.solo_tx.proofs.OpeningGeneration.{give_up_first, unraised_first}
use Rattle.solo_tx.proofs.ReadyGenerations.{looks_generation, unraised_when_ready}
use Rattle.solo_tx.proofs.StepKinds.{Each, each_first}
use Rattle.solo_tx.proofs.LineStores.{give_up_few}
use Rattle.solo_tx.proofs.StoreCounts.{stores_append, stores_counted, stores_first}
use Rattle.solo_tx.proofs.Unraised.{IsWork, all_work_raises}
use Rattle.solo_tx.specs.Ending.{IsEndedBy, IsStoppedIn, IsTakenBack}
use Rattle.solo_tx.specs.Generations.{is_ending}
use Rattle.solo_tx.specs.Learning.{Looks}
use Rattle.solo_tx.specs.Sequences.{ends_call, gives_up, takes_back}
use Rattle.solo_tx.specs.Stages.{is_work}
use Rattle.solo_undo.specs.Spans.{words_in}
use Rattle.solo_undo.specs.Working.{IsWorking}
use Rattle.solo_view.specs.Area.{area_word, is_in_area}
use Rattle.solo_view.specs.Counts.{stores_among}
use Rattle.solo_view.specs.Log.{Log}
use Rattle.solo_view.specs.Steps.{Step}
use Rattle.solo_view.specs.View.{Lock, Numbered, Told, View}
use Rattle.solo_view.specs.Views.{after_all}
use Rattle.solo_world.specs.Lanes.{lock_of, span_of}
use Rattle.solo_world.specs.Opening.{Opening}
use Rattle.solo_world.specs.Records.{generation_of}
use Rattle.solo_world.specs.Sequences.{Ready, Sequence, by_view, in_turn, one}
use Rattle.solo_world.specs.declared.lane.Lane.{Lane}
use Rattle.solo_world.specs.declared.lane.Span.{Span}
use Rattle.solo_world.specs.declared.lane.Stage.TheVariants as stage
use Rattle.solo_exec.specs.Bounds.{most_stores, recorded_count, stores_of_call, stores_of_lines}
use Rattle.solo_exec.proofs.FewStores.{walked, lines_more, lines_within, spans_count}
use Rattle.solo_exec.specs.Calls.{operation_of}
use Rattle.solo_exec.specs.Replies.{AreToldDone, IsToldDone, Values, numbered, refused, values_told}
use Rattle.solo_exec.specs.Progress.{IsAtLine, IsCalmBehind, IsCut, IsGivenUpAt, IsUntorn}
use Rattle.solo_exec.specs.Course.{CameToGiveUp, IsFree, IsFrontOf, IsGivenUpMade, IsLineMade, IsLineStopped, IsRefusalMade, IsStoppedBy, refused_calls, spans_of}
use Rattle.solo_exec.specs.declared.calls.Names.{Names}
use Rattle.solo_exec.proofs.LineLists.{made_more, told_more}
use Rattle.solo_exec.specs.Quiet.{IsQuiet}
use Rattle.solo_exec.specs.Torn.{words_after}
use Rattle.solo_exec.proofs.Along.{lane_along, same_along}
use Rattle.solo_exec.proofs.CommitFront.{give_up_keeps}
use Rattle.solo_exec.proofs.HeapStill.{gives_up_heapless, heap_along}
use Rattle.solo_exec.proofs.Links.{passed}
use Rattle.solo_exec.proofs.QuietSequences.{quiet_in_give_up}
use Rattle.solo_transaction.proofs.StandsGivenUp.{MayLeaveStanding, looked_may, refused_leaves_standing}
use Rattle.solo_exec.proofs.LooksAlone.{IsSameBut, looks_go_on, looks_same}
use Rattle.solo_exec.proofs.UndrawnSteps.{IsUndrawn, Keeps, all_undrawn_keep, first_undrawn_keep}
use Rattle.solo_pending.specs.declared.pending.PendingActions.{PendingActions}
use Rattle.solo_crash.specs.Pending.{pending_before, pending_behind, pending_in, published_by, published_in}
use Rattle.solo_crash.proofs.PendingOn.{pending_once_more, pending_same, published_once_more, published_same}
use Rattle.solo_model.specs.Actions.{Action, Pending}
use Rattle.solo_model.specs.Checks.{is_action}
use Rattle.solo_exec.specs.Bounds.{log_due, logs_of}
use Rattle.solo_pending.specs.AllPending.{IsPendingAs}
use Rattle.solo_exec.proofs.PendingLists.{drawn_pending, still_pending}
use Rattle.std.proofs.lemmas.List.{append-nil}
use Rattle.solo_crash.specs.Alone.{raises}
use Rattle.solo_crash.proofs.Raises.{raises_append}
use Rattle.solo_exec.proofs.PendingLists.{uncounted_raises}

-- the first of some steps are the first of a sequence that has them here
pub front_of : (new : View → Type 0) (u : View) (steps : List Step) (target : Sequence) → steps ≡ target u → (stops : Stops new u steps) → IsFrontOf target u (after_all u (take stops.made steps))
front_of new u steps target here stops =
    let w : View = after_all u (take stops.made steps) in
    subst (Stops (λ (x : View). w ≡ x) u) here (record { made = stops.made; fewer = stops.fewer; seen = refl; stopped = stops.stopped; due = stops.due })

-- a call is given up with the records that its view has
pub gives_up_here : (names : Names) (op : ScriptOp) (r : Refusal) (n : ℕ) (u : View) (spans : List Span) → spans ≡ spans_of u → gives_up spans (operation_of names op) (Some (Refused r)) n u ≡ refused_calls names op r n u
unfolding by_view
gives_up_here names op r n u spans are = ap (λ (s : List Span). gives_up s (operation_of names op) (Some (Refused r)) n u) are

-- the words are those that are taken back, once that is told and the number drawn
gives_up_words : (spans : List Span) (operation : Operation) (reply : Option Value) (n : ℕ) (u : View) → (after_all u (gives_up spans operation reply n u)).words ≡ (after_all u (takes_back spans u)).words
unfolding gives_up ends_call in_turn one after_all
gives_up_words spans operation reply n u = ap (λ (v : View). v.words) (after_all-append u (takes_back spans u) (Tell operation reply ∷ Draw n ∷ []))

-- the views have the same locks, where the lanes have
under_same : (lane new : Lane Solo) (v w : View) → map lock_of lane.locks.items ≡ v.locks → map lock_of new.locks.items ≡ w.locks → new.locks ≡ lane.locks → (i : ℕ) → IsUnderBlock w i → IsUnderBlock v i
under_same lane new v w before behind same i under =
    let locks : w.locks ≡ v.locks = sym behind ∙ (ap (λ ls. map lock_of ls.items) same ∙ before) in
    record { lock = under.lock; lines = under.lines; held = subst (λ (ls : List Lock). Contains ls under.lock) locks under.held; found = under.found; from = under.from; to = under.to }

-- what a log would be due of is the same
due_same : (v w : View) → published_in w ≡ published_in v → blocks_in w ≡ blocks_in v → log_due w ≡ log_due v
due_same v w published blocks =
    let actions = ap length published in
    let news = ap (λ (b : CallBlocks). length b.made + length b.freed) blocks in
    ap logs_of (omega (arith, actions, news))

-- from the one view to the other no counted call was made, nothing was told and no number drawn, and the words and the log are the same
pub record GoesTo (v w : View) : Type 0 where
  pub led : IsLed v w
  pub words : w.words ≡ v.words
  pub call : w.call ≡ v.call
  pub number : w.number ≡ v.number
  pub entries : w.entries ≡ v.entries
  pub log : w.log ≡ v.log
  pub locks : w.locks ≡ v.locks

module _ (o : Opening) (first : View) (lane : Lane Solo) (blocks : BlockLists) (actions : PendingActions) (names : Names) (front : List ScriptLine) (values : Values) (a : IsAtLine o first lane blocks actions names front values) where
  -- once it went on so
  module _ (u : View) (goes : GoesTo a.view u) where
    pub to_there : (steps : List Step) × (Leads first steps u)
    to_there = (a.steps ++ goes.led.steps, leads_then first a.view u a.steps goes.led.steps a.leads goes.led.leads)

    free_there : IsFree a.view u
    free_there = record { led = goes.led; undrawn = goes.entries }

    same_there : IsSameLane a.view u
    same_there = led_same a.view u goes.led

    pub lane_there : u.lane ≡ 0
    lane_there = same_there.lane ∙ a.of_lane

    generation_there : generation_of u ≡ generation_word o.words 0
    generation_there = (λ i. slice_index (goes.words i) (area_word (same_there.lane i))) ∙ a.generation

    due_there : log_due u ≡ log_due a.view
    due_there = due_same a.view u (published_same a.view u goes.entries goes.call) (same_blocks a.view u goes.entries goes.call)

    few_there : stores_among to_there.0 + recorded_count u + log_due u ≤ stores_of_lines names front
    unfolding to_there
    few_there =
        let logs = due_there in
        let l = goes.led.steps in
        let both = stores_append a.steps l in let none = stores_counted l in let free = goes.led.uncounted in
        let same = ap (λ (log : Log). length (words_recorded log.records)) goes.log in
        let before = a.few in omega (arith, logs, both, none, free, same, before)

    -- steps behind that store at most as much as the line is good for
    few_behind : (said : ScriptLine) (rest : List ScriptLine) (steps : List Step) → stores_among steps ≤ recorded_count u + most_stores names said.operation + 1 → stores_among (to_there.0 ++ steps) ≤ stores_of_call names (front ++ said ∷ rest)
    few_behind said rest steps few =
        let both = stores_append to_there.0 steps in let before = few_there in let within = lines_within names front rest said in omega (arith, both, before, within, few)

    entries_there : u.entries ≡ first.entries
    entries_there = goes.entries ∙ a.entries

    -- steps from there that leave the lane quiet
    calm_there : (w : View) → IsWorking u → (IsQuiet u → IsQuiet w) → IsCalmBehind first w
    calm_there w working calm = record { view = u; steps = to_there.0; leads = to_there.1; working = working; calm = calm }

    undrawn_there : u.number ≡ None
    undrawn_there = goes.number ∙ a.works.work.working.undrawn

    spans_there : lane.records.items ≡ spans_of u
    spans_there = a.works.work.seen.records ∙ ap (λ (l : Log). map span_of l.records) (sym goes.log)

    unraised_there : raises to_there.0 ≡ 0
    unfolding to_there
    unraised_there = let l = goes.led in let both = raises_append a.steps l.steps in let before = a.unraised in let none = uncounted_raises l.steps l.uncounted in omega (arith, both, before, none)

    pending_there : IsPendingAs actions (pending_in u)
    pending_there = still_pending (pending_in u) (pending_same a.view u goes.entries goes.call) a.pending

    -- the line is done
    module _ (new : Lane Solo) (steps : Sequence) (said : ScriptLine) where
      abbrev behind : View
      behind = after_all u (steps u)

      -- with these lists of blocks, and this one of what is pending
      abbrev IsLineEnded : BlockLists → PendingActions → Type 0
      IsLineEnded now left = Ready u (steps u) → DrawEnded u (steps u) → IsAtWorkWith o Sees new now behind → new.level ≡ 1 → new.locks ≡ lane.locks → (t : Told) → IsToldDone names said.operation t → behind.call ≡ u.call ++ t ∷ []
          → ((i : ℕ) → IsUnderBlock a.view i → slice_index behind.words i ≡ words_after names (front ++ said ∷ []) (slice_index o.words) i)
          → (given : Values) → given ≡ values_told (front ++ said ∷ []) (a.view.call ++ t ∷ []) → IsLineMade names said.operation a.view behind
          → IsPendingAs left (pending_in behind) → stores_among (steps u) + recorded_count behind + log_due behind ≤ recorded_count u + most_stores names said.operation + log_due u
          → IsAtLine o first new now left names (front ++ said ∷ []) given

      -- where its steps draw no number and raise no generation
      pub at_there_by : raises (steps u) ≡ 0 → behind.entries ≡ u.entries → (now : BlockLists) (left : PendingActions) → IsLineEnded now left
      at_there_by none_raised same_entries now left ready draws works level locks t is_done told words given gave made pending few =
          let leads = ready_leads u (steps u) ready draws in
          let raised = unraised_when_ready u (steps u) lane_there ready none_raised in
          let call : behind.call ≡ a.view.call ++ t ∷ [] = told ∙ ap (λ (ts : List Told). ts ++ t ∷ []) goes.call in
          record {
            header = a.header;
            pool = a.pool;
            begins = a.begins;
            view = behind;
            steps = to_there.0 ++ steps u;
            leads = leads_then first u behind to_there.0 (steps u) to_there.1 leads;
            of_lane = lane_along u behind (steps u) leads lane_there;
            works = works;
            level = level;
            opens = (a.opens.0, a.opens.1 ++ said ∷ [], ap (λ (ls : List ScriptLine). ls ++ said ∷ []) a.opens.2, a.opens.3);
            told = subst (AreToldDone names (front ++ said ∷ [])) (sym call) (told_more names front said a.view.call t a.told is_done);
            gave = gave ∙ ap (values_told (front ++ said ∷ [])) (sym call);
            entries = same_entries ∙ entries_there;
            generation = (let g = generation_there in omega (arith, raised, g));
            words = λ i under. words i (under_same lane new a.view behind a.works.work.seen.locks works.work.seen.locks locks i under);
            unraised = (let both = raises_append to_there.0 (steps u) in let before = unraised_there in omega (arith, both, before, none_raised));
            pending = pending;
            made = made_more names front said first a.view behind a.made made;
            few = (let both = stores_append to_there.0 (steps u) in let before = few_there in let more = lines_more names front said in omega (arith, both, before, more, few));
          }

      -- so it is where they are those of a line at work
      pub at_there_with : Each IsWork (steps u) → Each IsUndrawn (steps u) → (now : BlockLists) (left : PendingActions) → IsLineEnded now left
      at_there_with work undrawn = at_there_by (all_work_raises (steps u) work) (all_undrawn_keep u (steps u) undrawn).entries

    -- the call is given up for it
    module _ (new : Lane Solo) (said : ScriptLine) (working : IsWorking u) where
      given_up_few : (operation : Operation) (reply : Option Value) (number : ℕ) → stores_among (gives_up lane.records.items operation reply number u) ≤ recorded_count u + most_stores names said.operation + 1
      given_up_few operation reply number =
          let few = give_up_few lane.records.items operation reply number u in
          let spans = ap (λ (s : List Span). length (words_in s)) spans_there in let same = spans_count u.log.records in omega (arith, few, spans, same)

      abbrev gives_up_by : List Span → Option Value → Sequence
      gives_up_by spans reply = gives_up spans (operation_of names said.operation) reply new.last

      -- it makes no object then: no word that describes a chunk is recorded, so none is put back
      gives_up_quiet : (reply : Option Value) → IsEndedBy Sees new u (gives_up_by lane.records.items reply) (operation_of names said.operation) reply → IsNotMaking (after_all u (gives_up_by lane.records.items reply u))
      gives_up_quiet reply e =
          let op : Operation = operation_of names said.operation in
          let steps : List Step = gives_up_by lane.records.items reply u in
          let w : View = after_all u steps in
          let m : View = after_all u (takes_back lane.records.items u) in
          let no_entries = ap (λ (l : Log). l.entries) goes.log ∙ a.works.work.no_entries in
          let back : IsTakenBack u m = subst (λ (spans : List Span). IsTakenBack u (after_all u (takes_back spans u))) (sym spans_there) (take_back_lawful u working no_entries).1 in
          let on = ended_leads Sees new u (gives_up_by lane.records.items reply) op reply e in
          let lane_same = same_along u w steps on in
          let heap = heap_then a.view u w goes.led.heap (heap_along u w steps (gives_up_heapless lane.records.items op reply new.last u lane_there) on) in
          let at_m : w.words ≡ m.words = gives_up_words lane.records.items op reply new.last u in
          let looked : (i : ℕ) → slice_index u.words i ≡ slice_index a.view.words i = λ i. ap (λ (words : List ℕ). slice_index words i) goes.words in
          let unrecorded : (i : ℕ) → is_recorded a.view.log.records i ≡ false → is_recorded u.log.records i ≡ false = λ i none. ap (λ (l : Log). is_recorded l.records i) goes.log ∙ none in
          let here : (i : ℕ) → is_in_area u.lane i ≡ false → is_recorded a.view.log.records i ≡ false → slice_index w.words i ≡ slice_index a.view.words i =
          λ i outside none. ap (λ (words : List ℕ). slice_index words i) at_m ∙ back.takes_back.others i outside (unrecorded i none) ∙ looked i in
          let work = a.works.work in
          not_making_still a.view w (record {
            lanes = lane_same.lanes ∙ same_there.lanes;
            zones = lane_same.zones ∙ same_there.zones;
            reserved = heap.reserved;
            described = λ c in_pool. here (descriptor_word a.view.lanes c) (subst (λ k. is_in_area k (descriptor_word a.view.lanes c) ≡ false) (sym same_there.lane) (chunk_words_outside a.view.lane a.view.lanes c work.working.area.lane)) (descriptor_unrecorded o Sees lane a.view work c);
            bitmaps = λ c in_pool run.
                here (chunk_word a.view.lanes c) (subst (λ k. is_in_area k (chunk_word a.view.lanes c) ≡ false) (sym same_there.lane) (bitmaps_outside a.view.lane a.view.lanes c work.working.area.lane))
                (bitmap_unrecorded o Sees lane a.view work c run);
            root = here 64 (root_outside u.lane) (root_unrecorded o Sees lane a.view work);
          }) heap.zone_locks a.works.not_making

      pub over_there : MayLeaveStanding u → (r : Refusal) → CameToGiveUp (operation_of names said.operation) r a.view u → IsEndedBy Sees new u (gives_up lane.records.items (operation_of names said.operation) (Some (Refused r)) new.last) (operation_of names said.operation) (Some (Refused r)) → is_action (operation_of names said.operation) ≡ false → new.level ≡ 1 → new.stage ≡ stage.OnAbort → new.error ≡ error.Refused r
          → ((w : View) → IsGivenUpMade names said.operation r a.view w → IsRefusalMade names said.operation r a.view w) → (rest : List ScriptLine) → IsGivenUpAt o first new blocks actions names (front ++ said ∷ rest) values said.line r
      over_there may r came e gives level at fails refusal_made rest =
          let steps : Sequence = gives_up lane.records.items (operation_of names said.operation) (Some (Refused r)) new.last in
          let w : View = after_all u (steps u) in
          let on = ended_leads Sees new u steps (operation_of names said.operation) (Some (Refused r)) e in
          let all : List Step = to_there.0 ++ steps u in
          let leads : Leads first all w = leads_then first u w to_there.0 (steps u) to_there.1 on in
          let quiet = gives_up_quiet (Some (Refused r)) e in
          let call : w.call ≡ a.view.call ++ refused (operation_of names said.operation) r ∷ [] = e.told ∙ ap (λ (t : List Told). t ++ refused (operation_of names said.operation) r ∷ []) goes.call in
          record {
            told = w.call;
            at = record { front = front; said = said; rest = rest; is_lines = refl; of_line = refl; gives_up = gives; before = a.view.call; done = a.told; gave = a.gave; told_so = call };
            over = record {
              view = w;
              header = a.header;
              pool = a.pool;
              begins = a.begins;
              passed = passed o new first w all (stores_of_call names (front ++ said ∷ rest)) leads e.behind.seen.memory quiet (few_behind said rest (steps u) (given_up_few (operation_of names said.operation) (Some (Refused r)) new.last));
              behind = e.behind;
              unlocked = quiet.unlocked;
              stands = refused_leaves_standing u may lane.records.items spans_there (operation_of names said.operation) r new.last;
              pages = (let pages = a.works.pages in let before = same_there in let after = same_along u w (steps u) on in let l = before.lanes in let z = before.zones in let lanes = after.lanes in let zones = after.zones in omega (arith, pages, l, z, lanes, zones));
              number = e.over.number;
              entries = e.entries ∙ ap (λ (es : List Numbered). es ++ numbered new.last w.call ∷ []) entries_there;
              level = level;
              left = ap is_work at;
              fails = fails;
              pending = still_pending (pending_before w) (drawn_pending first a.view w new.last (refused (operation_of names said.operation) r) a.entries (e.entries ∙ ap (λ (es : List Numbered). es ++ numbered new.last w.call ∷ []) entries_there) call) a.pending;
              made = record {
                front = front;
                said = said;
                rest = rest;
                is = refl;
                middle = a.view;
                made = a.made;
                refused = refusal_made w (record {
                  number = new.last;
                  made = record { start = u; free = free_there; is = ap (after_all u) (gives_up_here names said.operation r new.last u lane.records.items spans_there) };
                  came = came;
                });
              };
            };
          }

      -- or the lane stopped while it gave the call up
      pub cut_there : (rest : List ScriptLine) (r : Refusal) → CameToGiveUp (operation_of names said.operation) r a.view u → IsStoppedIn Sees new u (gives_up lane.records.items (operation_of names said.operation) (Some (Refused r)) new.last) (operation_of names said.operation) (Some (Refused r))
          → IsCut o first new names (front ++ said ∷ rest) values
      cut_there rest r came stopped =
          let reply : Option Value = Some (Refused r) in
          let steps : Sequence = gives_up lane.records.items (operation_of names said.operation) reply new.last in
          let k : ℕ = stopped.stops.made in
          let m : View = after_all u (take k (steps u)) in
          let kept : Keeps u m = give_up_keeps u lane_there lane.records.items (operation_of names said.operation) reply new.last k stopped.stops.fewer in
          let no_entries = ap (λ (l : Log). l.entries) goes.log ∙ a.works.work.no_entries in
          let all : List Step = to_there.0 ++ take k (steps u) in
          let leads = leads_then first u m to_there.0 (take k (steps u)) to_there.1 (stopped_leads Sees new u steps (operation_of names said.operation) reply stopped) in
          let few = few_behind said rest (take k (steps u)) (let part = stores_first k (steps u) in let most = given_up_few (operation_of names said.operation) reply new.last in omega (arith, part, most)) in
          record {
            view = m;
            same = same_along first m all leads;
            bound = walked first m (stores_of_call names (front ++ said ∷ rest)) all leads few;
            seen = stopped.stops.seen;
            drawn = stopped.drawn;
            way = inl (record {
              steps = all;
              leads = leads;
              came = inl (record { number = kept.number ∙ undrawn_there; entries = kept.entries ∙ entries_there });
              opening = give_up_first o u (steps u) k lane_there stopped.ready generation_there (λ i. gives_up_of u lane.records.items (operation_of names said.operation) reply new.last i lane_there working no_entries spans_there);
              untorn = inl (calm_there m working (λ quiet. quiet_in_give_up u lane.records.items (operation_of names said.operation) reply new.last k quiet working spans_there));
            });
            at_stop = stopped.stops.stopped;
            stops = inl (record {
              front = front;
              said = said;
              rest = rest;
              is = refl;
              middle = a.view;
              made = a.made;
              stops = inr (
                r,
                record {
                  number = new.last;
                  stopped = record {
                    start = u;
                    free = free_there;
                    stops = front_of (Sees new.memory) u (steps u) (refused_calls names said.operation r new.last) (gives_up_here names said.operation r new.last u lane.records.items spans_there) stopped.stops;
                  };
                  came = came;
                },
              );
            });
          }

  -- behind some looks
  module _ (n : ℕ) (u : View) (looks : Looks n a.view u) where
    same : IsSameBut a.view u
    same = looks_same n a.view u looks a.works.alone

    looks_go : GoesTo a.view u
    looks_go =
        record {
          led = looks_go_on n a.view u looks;
          words = same.words;
          call = same.call;
          number = same.number;
          entries = same.entries;
          log = (looks_generation n a.view u looks).1;
          locks = same.locks;
        }

    pub to_u : (steps : List Step) × (Leads first steps u)
    to_u = to_there u looks_go

    pub free_u : IsFree a.view u
    free_u = free_there u looks_go

    pub lane_u : u.lane ≡ 0
    lane_u = lane_there u looks_go

    generation_u : generation_of u ≡ generation_word o.words 0
    generation_u = generation_there u looks_go

    unended_u : is_ending u.log.phase ≡ false
    unended_u = ap (λ (l : Log). is_ending l.phase) looks_go.log ∙ ap is_ending a.works.work.working.is_open

    pub pending_u : IsPendingAs actions (pending_in u)
    pending_u = pending_there u looks_go

    -- steps behind them that store at most as much as the line is good for
    few_in : (said : ScriptLine) (rest : List ScriptLine) (steps : List Step) → stores_among steps ≤ recorded_count u + most_stores names said.operation + 1 → stores_among (to_u.0 ++ steps) ≤ stores_of_call names (front ++ said ∷ rest)
    unfolding to_u
    few_in = few_behind u looks_go

    pub entries_u : u.entries ≡ first.entries
    entries_u = entries_there u looks_go

    pub words_u : (i : ℕ) → IsUnderBlock a.view i → slice_index u.words i ≡ words_after names front (slice_index o.words) i
    words_u i under = ap (λ (words : List ℕ). slice_index words i) same.words ∙ a.words i under

    -- steps from there that leave the lane quiet
    pub calm_behind : (w : View) → IsWorking u → (IsQuiet u → IsQuiet w) → IsCalmBehind first w
    calm_behind = calm_there u looks_go

    undrawn_u : u.number ≡ None
    undrawn_u = undrawn_there u looks_go

    pub spans_u : lane.records.items ≡ spans_of u
    spans_u = spans_there u looks_go

    -- the line is done
    module _ (new : Lane Solo) (steps : Sequence) (work : Each IsWork (steps u)) (undrawn : Each IsUndrawn (steps u)) (said : ScriptLine) where
      abbrev w : View
      w = after_all u (steps u)

      keeps : Keeps u w
      keeps = all_undrawn_keep u (steps u) undrawn

      -- with these lists of blocks, and this one of what is pending
      pub at_next_with : (now : BlockLists) (left : PendingActions) → Ready u (steps u) → DrawEnded u (steps u) → IsAtWorkWith o Sees new now w → new.level ≡ 1 → new.locks ≡ lane.locks → (t : Told) → IsToldDone names said.operation t → w.call ≡ u.call ++ t ∷ []
          → ((i : ℕ) → IsUnderBlock a.view i → slice_index w.words i ≡ words_after names (front ++ said ∷ []) (slice_index o.words) i)
          → (given : Values) → given ≡ values_told (front ++ said ∷ []) (a.view.call ++ t ∷ []) → IsLineMade names said.operation a.view w
          → IsPendingAs left (pending_in w) → stores_among (steps u) + recorded_count w + log_due w ≤ recorded_count u + most_stores names said.operation + log_due u
          → IsAtLine o first new now left names (front ++ said ∷ []) given
      at_next_with = at_there_with u looks_go new steps said work undrawn

      -- an operation that leaves what is pending, publishes nothing, and makes and frees nothing
      pub at_next : Ready u (steps u) → DrawEnded u (steps u) → IsAtWorkWith o Sees new blocks w → new.level ≡ 1 → new.locks ≡ lane.locks → (t : Told) → IsToldDone names said.operation t → w.call ≡ u.call ++ t ∷ []
          → ((i : ℕ) → IsUnderBlock a.view i → slice_index w.words i ≡ words_after names (front ++ said ∷ []) (slice_index o.words) i)
          → (given : Values) → given ≡ values_told (front ++ said ∷ []) (a.view.call ++ t ∷ []) → IsLineMade names said.operation a.view w
          → stores_among (steps u) + recorded_count w ≤ recorded_count u + most_stores names said.operation
          → ((p : Pending) → pending_behind t.operation t.reply p ≡ p) → ((p : Pending) → published_by t.operation t.reply p ≡ []) → ((p : Pending) (b : CallBlocks) → blocks_behind t.operation t.reply p b ≡ b)
          → IsAtLine o first new blocks actions names (front ++ said ∷ []) given
      at_next ready draws works level locks t is_done told words given gave made few leaves publishes_none keeps_blocks =
          let published : published_in w ≡ published_in u =
          published_once_more u w t.operation t.reply keeps.entries told ∙ ap (λ (more : List Action). published_in u ++ more) (publishes_none (pending_in u)) ∙ append-nil (published_in u) in
          let same = due_same u w published (blocks_once_more u w t.operation t.reply keeps.entries told ∙ keeps_blocks (pending_in u) (blocks_in u)) in
          at_next_with blocks actions ready draws works level locks t is_done told words given gave made
          (still_pending (pending_in w) (pending_once_more u w t.operation t.reply keeps.entries told ∙ leaves (pending_in u)) pending_u) (omega (arith, same, few))

      -- or the lane stopped in it
      pub cut_in : (rest : List ScriptLine) (stopped : IsStoppedIn Sees new u steps (operation_of names said.operation) None) → IsUntorn o first names (front ++ said ∷ rest) (after_all u (take stopped.stops.made (steps u)))
          → (target : Sequence) → steps u ≡ target u → ((m : View) → IsStoppedBy target a.view m → IsLineStopped names said.operation a.view m) → stores_among (steps u) ≤ most_stores names said.operation → IsCut o first new names (front ++ said ∷ rest) values
      cut_in rest stopped untorn target here so few =
          let k : ℕ = stopped.stops.made in
          let m : View = after_all u (take k (steps u)) in
          let kept : Keeps u m = first_undrawn_keep u (steps u) k undrawn in
          let all : List Step = to_u.0 ++ take k (steps u) in
          let leads = leads_then first u m to_u.0 (take k (steps u)) to_u.1 (stopped_leads Sees new u steps (operation_of names said.operation) None stopped) in
          record {
            view = m;
            same = same_along first m all leads;
            bound = walked first m (stores_of_call names (front ++ said ∷ rest)) all leads (few_in said rest (take k (steps u)) (let part = stores_first k (steps u) in omega (arith, part, few)));
            seen = stopped.stops.seen;
            drawn = stopped.drawn;
            way = inl (record {
              steps = all;
              leads = leads;
              came = inl (record { number = kept.number ∙ undrawn_u; entries = kept.entries ∙ entries_u });
              opening = unraised_first o u (steps u) k lane_u stopped.ready generation_u unended_u (all_work_raises (take k (steps u)) (each_first IsWork k (steps u) work));
              untorn = untorn;
            });
            at_stop = stopped.stops.stopped;
            stops = inl (record {
              front = front;
              said = said;
              rest = rest;
              is = refl;
              middle = a.view;
              made = a.made;
              stops = inl (so m (record { start = u; free = free_u; stops = front_of (Sees new.memory) u (steps u) target here stopped.stops }));
            });
          }

    -- the call is given up for it
    module _ (new : Lane Solo) (said : ScriptLine) (working : IsWorking u) where
      pub over_ended : (r : Refusal) → CameToGiveUp (operation_of names said.operation) r a.view u → IsEndedBy Sees new u (gives_up lane.records.items (operation_of names said.operation) (Some (Refused r)) new.last) (operation_of names said.operation) (Some (Refused r)) → is_action (operation_of names said.operation) ≡ false → new.level ≡ 1 → new.stage ≡ stage.OnAbort → new.error ≡ error.Refused r
          → ((w : View) → IsGivenUpMade names said.operation r a.view w → IsRefusalMade names said.operation r a.view w) → (rest : List ScriptLine) → IsGivenUpAt o first new blocks actions names (front ++ said ∷ rest) values said.line r
      over_ended = over_there u looks_go new said working (looked_may o Sees lane blocks n a.view u a.works looks looks_go.log (same_there u looks_go).lanes same.locks working)

      -- or the lane stopped while it gave the call up
      pub cut_ended : (rest : List ScriptLine) (r : Refusal) → CameToGiveUp (operation_of names said.operation) r a.view u → IsStoppedIn Sees new u (gives_up lane.records.items (operation_of names said.operation) (Some (Refused r)) new.last) (operation_of names said.operation) (Some (Refused r))
          → IsCut o first new names (front ++ said ∷ rest) values
      cut_ended = cut_there u looks_go new said working
