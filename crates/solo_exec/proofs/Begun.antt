-- What a script's begin comes to: the lane is at work over the words of the opening, or its call is refused, or it does not begin.
use Rattle.std.specs.List.{Any}
use Rattle.std.proofs.Common.{◌≡◌, ⊎_elim, inl, inr, ℕ, ◌+◌, ◌<◌, ◌≤◌, take, Some, Bool, true, false, List, [], ◌∷◌, ◌++◌, length, map, slice_index, refl, sym, ap, ◌∙◌, subst, arith}
use Rattle.std.proofs.lemmas.Bool.{false≢true}
use Rattle.std.proofs.lemmas.List.Elements.{All-contains}
use Rattle.solo_memory.specs.Solo.{IsGranted, Sees, Solo}
use Rattle.pm_objects.specs.declared.history.TxErr.TheVariants as error
use Rattle.pm_objects.specs.declared.refusal.Refusal.{Refusal}
use Rattle.pm_objects.specs.declared.refusal.Refusal.TheVariants as refusal
use Rattle.pm_objects.specs.declared.calls.Operation.{Operation}
use Rattle.pm_objects.specs.declared.calls.Operation.TheVariants as operation
use Rattle.solo_script.specs.declared.script.ScriptLine.{ScriptLine}
use Rattle.solo_script.specs.declared.script.ScriptOp.TheVariants as op
use Rattle.solo_lock.specs.Lacking.{LacksObject}
use Rattle.solo_lock.specs.Leading.{IsLed, KeepsHeap, LeaveBlocks}
use Rattle.solo_lock.proofs.Leads.{heap_then, led_same, ready_led}
use Rattle.solo_lock.proofs.LookedAlone.{led_words}
use Rattle.solo_lock.specs.Locking.{IsBusy, takes}
use Rattle.solo_tx.proofs.GiveUpCourse.{gives_up_of}
use Rattle.solo_tx.proofs.Leading.{ended_leads, stopped_leads}
use Rattle.solo_tx.proofs.LineStores.{give_up_few}
use Rattle.solo_tx.proofs.OpeningGeneration.{give_up_first}
use Rattle.solo_tx.proofs.RefusedBegins.{refusing_words}
use Rattle.solo_tx.proofs.StoreCounts.{stores_append, stores_first}
use Rattle.solo_tx.specs.Beginning.{IsSpent, RestsBehind}
use Rattle.solo_tx.specs.Ending.{IsEndedBy, IsStoppedIn}
use Rattle.solo_made.specs.Made.{BlockLists}
use Rattle.solo_transaction.proofs.BeginningAlone.{begun_at_work}
use Rattle.solo_transaction.proofs.NotMaking.{not_making_still}
use Rattle.solo_transaction.proofs.StandsBehindBegin.{begun_stands, begun_within}
use Rattle.solo_transaction.proofs.StandsRefused.{refused_stands}
use Rattle.solo_transaction.specs.AtWork.{AreForPool, IsNotMaking}
use Rattle.solo_transaction.specs.Published.{HasOwnCounts}
use Rattle.solo_transaction.specs.Resting.{StandsAtRest}
use Rattle.solo_undo.specs.Spans.{words_in}
use Rattle.solo_undo.specs.Working.{IsWorking}
use Rattle.solo_transaction.specs.Beginning.{HasBegunWith}
use Rattle.solo_tx.specs.Begins.{FailsToBegin, HasRefused, HasStoppedRefused, LeavesLane}
use Rattle.solo_tx.specs.Sequences.{gives_up, sees_generation, starts}
use Rattle.solo_tx.specs.Stages.{is_work}
use Rattle.solo_view.specs.Area.{area_word}
use Rattle.solo_view.specs.Log.{Log, no_log}
use Rattle.solo_view.specs.Log.Phase.{Open}
use Rattle.solo_view.specs.Steps.{Step}
use Rattle.solo_view.specs.Steps.Step.{Load}
use Rattle.solo_view.specs.View.{Numbered, Told, View}
use Rattle.solo_view.specs.Views.{after, after_all, begun}
use Rattle.solo_world.specs.Opening.{Opening}
use Rattle.solo_world.specs.Sequences.{Ready, Sequence, by_lane, by_view, in_turn, looks, one}
use Rattle.solo_world.specs.declared.lane.Lane.{Lane}
use Rattle.solo_world.specs.declared.lane.Stage.TheVariants as stage
use Rattle.solo_exec.proofs.ChangeLines.{front_of, gives_up_here}
use Rattle.solo_exec.proofs.CommitFront.{give_up_keeps}
use Rattle.solo_exec.proofs.FewStores.{idle_count, led_count, led_stores, walked}
use Rattle.solo_exec.proofs.QuietSequences.{quiet_in_give_up}
use Rattle.solo_exec.proofs.UndrawnSteps.{Keeps}
use Rattle.solo_exec.specs.Calls.{operation_of, stands_alone, want_of}
use Rattle.solo_exec.specs.Torn.{words_after, words_by}
use Rattle.solo_model.specs.Shown.{values_of}
use Rattle.pm_objects.specs.declared.calls.Want.{Want}
use Rattle.solo_script.specs.declared.script.ScriptOp.{ScriptOp}
use Rattle.solo_script.specs.declared.script.ScriptWant.{ScriptWant}
use Rattle.solo_view.specs.Counts.{counted, stores_among}
use Rattle.solo_world.specs.Lawful.{generation_limit}
use Rattle.solo_world.specs.Lanes.{span_of}
use Rattle.solo_world.specs.Records.{generation_of}
use Rattle.solo_exec.specs.Course.{IsBeginRefusal, IsFree, IsLineMade, IsRefusalMade, IsStoppedGivingUp, IsUsedUp, LinesMade, refused_calls, spans_of}
use Rattle.solo_exec.specs.Replies.{AreToldDone, IsToldDone, done, numbered, refused, values_told}
use Rattle.solo_exec.specs.Progress.{IsAtLine, IsCut, IsGivenUpAt, IsNotDone, IsStart, IsUnbegun, not_done}
use Rattle.solo_exec.specs.declared.calls.Names.{Names}
use Rattle.solo_exec.proofs.Along.{lane_along, same_along}
use Rattle.solo_exec.proofs.HeapStill.{begun_heap, gives_up_heapless, heap_along}
use Rattle.solo_exec.proofs.Links.{passed}
use Rattle.solo_exec.proofs.Starts.{own_counts, start_alone, start_idle, start_lane, start_words, words_led}
use Rattle.solo_crash.proofs.Leading.{leads_then}
use Rattle.solo_crash.proofs.SeenAlone.{works_where_seen}
use Rattle.solo_crash.specs.Leading.{Leads}
use Rattle.pm_image.specs.Blocks.{chunk_word, descriptor_word}
use Rattle.pm_image.specs.Logs.{generation_word}
use Rattle.solo_crash.specs.Operations.{entries_so_far}
use Rattle.solo_crash.specs.CallBlocks.{CallBlocks, blocks_in, blocks_told, no_blocks}
use Rattle.solo_pending.specs.declared.pending.PendingActions.{PendingActions}
use Rattle.solo_crash.specs.Pending.{pending_before, pending_in}
use Rattle.solo_crash.proofs.PendingOn.{pending_first, published_first, same_before}
use Rattle.pm_objects.specs.declared.history.Value.TheVariants.{Refused}
use Rattle.solo_pending.specs.AllPending.{IsPendingAs}
use Rattle.solo_model.specs.Checks.{is_action}
use Rattle.solo_exec.specs.Bounds.{log_due, logs_of, stores_of_call}
use Rattle.solo_exec.proofs.PendingLists.{drawn_first, still_pending, uncounted_raises}

module _ (o : Opening) (first : View) (lane new : Lane Solo) (blocks : BlockLists) (actions : PendingActions) (names : Names) (is : IsStart o lane blocks actions first) where
  -- no lock is refused
  pub not_busy : IsBusy Sees new first → ⊥
  not_busy b = refuted b.write (All-contains IsGranted b.view.seen (takes b.line b.write false) b.rests.seen.memory.alone b.refused) where
    refuted : (write : Bool) → IsGranted (takes b.line write false) → ⊥
    refuted true granted = false≢true granted
    refuted false granted = false≢true granted

  -- looks at the generation and the number keep the entries
  none_drawn : (n : ℕ) → (after_all first (starts n first)).entries ≡ first.entries
  unfolding starts sees_generation by_lane by_view looks in_turn one after_all
  none_drawn n = ap (λ (l : Log). (begun l.phase (after first (Load (area_word first.lane) (slice_index first.words (area_word first.lane))))).entries) (start_idle o lane blocks actions first is)

  none_drawn_yet : (after_all first (sees_generation first)).entries ≡ first.entries
  unfolding sees_generation by_lane by_view looks after_all
  none_drawn_yet = refl

  -- and are no counted calls
  looks_free : counted (sees_generation first) ≡ 0
  unfolding sees_generation by_lane by_view looks counted
  looks_free = refl

  starts_free : (n : ℕ) → counted (starts n first) ≡ 0
  unfolding starts sees_generation by_lane by_view looks in_turn one after_all counted
  starts_free n = refl

  -- what is seen of the numbers is how many it drew
  number_is : (n : ℕ) → Ready first (starts n first) → n ≡ length first.entries
  unfolding starts sees_generation by_lane by_view looks in_turn one after_all Ready
  number_is n ready = ready.2.1 (start_alone o lane blocks actions first is)

  -- nor do they take a block or give one back
  looks_leave : LeaveBlocks first (sees_generation first)
  unfolding sees_generation by_lane by_view looks LeaveBlocks
  looks_leave = (refl, tt)

  starts_leave : (n : ℕ) → LeaveBlocks first (starts n first)
  unfolding starts sees_generation by_lane by_view looks in_turn one after_all LeaveBlocks
  starts_leave n =
      let m : View = after first (Load (area_word first.lane) (slice_index first.words (area_word first.lane))) in
      (refl, ((begun_heap m.log.phase m).reserved, tt))

  -- nor do they change what the lane has of the heap
  looks_heap : KeepsHeap first (after_all first (sees_generation first))
  unfolding sees_generation by_lane by_view looks after_all
  looks_heap = record { zone_locks = refl; reserved = refl; freed = refl }

  starts_heap : (n : ℕ) → KeepsHeap first (after_all first (starts n first))
  unfolding starts sees_generation by_lane by_view looks in_turn one after_all
  starts_heap n =
      let m : View = after first (Load (area_word first.lane) (slice_index first.words (area_word first.lane))) in
      let kept = begun_heap m.log.phase m in record { zone_locks = kept.zone_locks; reserved = kept.reserved; freed = kept.freed }

  behind : (steps : Sequence) → (after_all first (steps first)).entries ≡ first.entries → counted (steps first) ≡ 0 → LeaveBlocks first (steps first) → KeepsHeap first (after_all first (steps first)) → IsUsedUp first → RestsBehind Sees new first steps → IsUnbegun first new actions
  behind steps kept free leaves heap used r = record {
    view = after_all first (steps first);
    free = record { led = ready_led first (steps first) r.ready r.draws free leaves heap; undrawn = kept };
    used_up = used;
    rests = r.rests;
    pending = is.pending;
  }

  pub spent : IsSpent Sees new first → IsUnbegun first new actions
  spent s =
      ⊎_elim (λ t. behind sees_generation none_drawn_yet looks_free looks_leave looks_heap (inl t.0) t.1)
      (λ t. behind (starts t.0) (none_drawn t.0) (starts_free t.0) (starts_leave t.0) (starts_heap t.0) (inr (subst (λ n. generation_limit ≤ n) (number_is t.0 t.1.1.ready) t.1.0)) t.1.1) s

  module _ (said : ScriptLine) (asked : List ScriptWant) (begins : said.operation ≡ op.Begin asked) (wants : List Want) (wants_are : wants ≡ map (want_of names) asked) where
    told_so : IsToldDone names said.operation (done (operation.Begin wants))
    told_so = subst (λ (x : ScriptOp). IsToldDone names x (done (operation.Begin wants))) (sym begins) (ap (λ (ws : List Want). done (operation.Begin ws)) wants_are)

    nothing_given : (told : List Told) → told ≡ done (operation.Begin wants) ∷ [] → [] ≡ values_told (said ∷ []) told
    unfolding values_of
    nothing_given told are = ap (values_told (said ∷ [])) (sym are)

    begin_made : (w : View) → IsLed first w → w.entries ≡ first.entries → IsLineMade names said.operation first w
    begin_made w led kept = subst (λ (x : ScriptOp). IsLineMade names x first w) (sym begins) (record { led = led; undrawn = kept })

    line_made : (w : View) → IsLed first w → w.entries ≡ first.entries → LinesMade names (said ∷ []) first w
    unfolding LinesMade
    line_made w led kept = (w, begin_made w led kept, refl)

    begin_writes_none : (words : ℕ → ℕ) (i : ℕ) → words_after names (said ∷ []) words i ≡ words i
    unfolding words_after
    begin_writes_none words i = ap (λ (x : ScriptOp). words_by names x words i) begins

    -- it published, made and freed nothing
    no_log_due : (w : View) → w.call ≡ done (operation.Begin wants) ∷ [] → log_due w ≡ 0
    unfolding blocks_told
    no_log_due w call =
        let none : blocks_in w ≡ no_blocks = ap (blocks_told (pending_before w) no_blocks) call in
        let made = ap (λ (b : CallBlocks). length b.made + length b.freed) none in
        let published = ap length (published_first w (done (operation.Begin wants)) call) in
        let nothing : entries_so_far w ≡ 0 = omega (arith, made, published) in ap logs_of nothing

    -- what was pending as the lane began is so behind the begin
    still_set : (w : View) → w.call ≡ done (operation.Begin wants) ∷ [] → w.entries ≡ first.entries → IsPendingAs actions (pending_in w)
    still_set w call entries = still_pending (pending_in w) (pending_first w (done (operation.Begin wants)) call ∙ same_before first w entries) is.pending

    pub begun_at_line : (now : BlockLists) → length now.dropped ≡ length blocks.dropped → HasBegunWith Sees new now first wants → new.level ≡ 1 → IsAtLine o first new now actions names (said ∷ []) []
    begun_at_line now pages t level =
        let b = t.begun in
        let w : View = b.view in
        let words_are : w.words ≡ o.words = words_led o lane blocks actions first is w b.led in
        let lane_is : w.lane ≡ 0 = lane_along first w b.led.steps b.led.leads (start_lane o lane blocks actions first is) in
        let works = works_where_seen o is.header is.pool new.memory first w b.led.steps is.begins b.led.leads b.seen.memory in
        let own : HasOwnCounts w = record { numbered = works.numbered; within = works.within } in
        let for_pool : AreForPool now first = pages ∙ is.pages in
        record {
          header = is.header;
          pool = is.pool;
          begins = is.begins;
          view = w;
          steps = b.led.steps;
          leads = b.led.leads;
          of_lane = lane_is;
          works = begun_at_work o is.header is.pool Sees first new now wants is.begins t own for_pool is.keeps.quiet
              (begun_stands o is.header is.pool Sees first new wants is.begins is.keeps.stands b own) (begun_within o is.header is.pool Sees first new wants is.begins is.keeps.stands b own);
          level = level;
          opens = (said, [], refl, ap stands_alone begins);
          told = subst (AreToldDone names (said ∷ [])) (sym b.call) (told_so, tt);
          gave = nothing_given w.call b.call;
          entries = b.entries;
          generation = ap (λ n. slice_index w.words (area_word n)) lane_is ∙ ap (λ (words : List ℕ). slice_index words (area_word 0)) words_are;
          words = λ i under. ap (λ (words : List ℕ). slice_index words i) words_are ∙ sym (begin_writes_none (slice_index o.words) i);
          unraised = uncounted_raises b.led.steps b.led.uncounted;
          pending = still_set w b.call b.entries;
          made = line_made w b.led b.entries;
          few = (let nothing = no_log_due w b.call in let none = led_stores first w b.led in let kept = led_count first w b.led in let before = idle_count first (start_idle o lane blocks actions first is) in omega (arith, nothing, none, kept, before));
        }

    -- ---- it was refused, with what was undrained made persistent

    abbrev want_list : List Want
    want_list = map (want_of names) asked

    abbrev asks : Operation
    asks = operation_of names (op.Begin asked)

    module _ (rest : List ScriptLine) (r : Refusal) (found : View) (led : IsLed first found) (undrawn : found.entries ≡ first.entries) (working : IsWorking found) (begun_so : found.log ≡ no_log (Open [] [])) where
      abbrev steps : Sequence
      steps = gives_up [] asks (Some (Refused r)) new.last

      lane_there : found.lane ≡ 0
      lane_there = lane_along first found led.steps led.leads (start_lane o lane blocks actions first is)

      words_there : found.words ≡ first.words
      words_there = led_words first found led (start_alone o lane blocks actions first is)

      spans_there : [] ≡ spans_of found
      spans_there = sym (ap (λ (l : Log). map span_of l.records) begun_so)

      generation_there : generation_of found ≡ generation_of first
      generation_there = (λ i. slice_index (words_there i) (area_word ((led_same first found led).lane i)))

      opening_there : generation_of found ≡ generation_word o.words 0
      opening_there = (λ i. slice_index (words_there i) (area_word (lane_there i))) ∙ ap (λ (words : List ℕ). generation_word words 0) (start_words o lane blocks actions first is)

      no_entries : found.log.entries ≡ []
      no_entries = ap (λ (l : Log). l.entries) begun_so

      free_there : IsFree first found
      free_there = record { led = led; undrawn = undrawn }

      here : steps found ≡ refused_calls names (op.Begin asked) r new.last found
      here = gives_up_here names (op.Begin asked) r new.last found [] spans_there

      few_of : (more : List Step) → stores_among more ≤ stores_among (steps found) → stores_among (led.steps ++ more) ≤ stores_of_call names (said ∷ rest)
      unfolding words_in
      few_of more less =
          let both = stores_append led.steps more in let none = led_stores first found led in
          let few = give_up_few [] asks (Some (Refused r)) new.last found in
          omega (arith, both, none, few, less)

      -- it makes no object
      module _ (e : IsEndedBy Sees new found steps asks (Some (Refused r))) where
        abbrev w : View
        w = after_all found (steps found)

        on : Leads found (steps found) w
        on = ended_leads Sees new found steps asks (Some (Refused r)) e

        quiet : IsNotMaking w
        quiet =
            let same = same_along found w (steps found) on in
            let to = led_same first found led in
            let heap = heap_then first found w led.heap (heap_along found w (steps found) (gives_up_heapless [] asks (Some (Refused r)) new.last found lane_there) on) in
            let words : (i : ℕ) → slice_index w.words i ≡ slice_index first.words i = λ i. ap (λ (ws : List ℕ). slice_index ws i) (refusing_words found asks (Some (Refused r)) new.last ∙ words_there) in
            not_making_still first w (record { lanes = same.lanes ∙ to.lanes; zones = same.zones ∙ to.zones; reserved = heap.reserved; described = λ c in_pool. words (descriptor_word first.lanes c); bitmaps = λ c in_pool run. words (chunk_word first.lanes c); root = words 64 }) heap.zone_locks is.keeps.quiet

        over_refused : StandsAtRest w → w.call ≡ refused asks r ∷ [] → IsBeginRefusal names asked r first → new.level ≡ 1 → new.stage ≡ stage.OnAbort → new.error ≡ error.Refused r → IsGivenUpAt o first new blocks actions names (said ∷ rest) [] said.line r
        unfolding LinesMade values_of
        over_refused stands call why level at fails =
            let all : List Step = led.steps ++ steps found in
            let leads : Leads first all w = leads_then first found w led.steps (steps found) led.leads on in
            let same = same_along first w all leads in
            let drawn : w.entries ≡ first.entries ++ numbered new.last w.call ∷ [] = e.entries ∙ ap (λ (es : List Numbered). es ++ numbered new.last w.call ∷ []) undrawn in
            let first_drawn : w.entries ≡ first.entries ++ numbered new.last (refused asks r ∷ []) ∷ [] = drawn ∙ ap (λ (told : List Told). first.entries ++ numbered new.last told ∷ []) call in
            let op_is : operation_of names said.operation ≡ asks = ap (operation_of names) begins in
            record {
              told = refused (operation_of names said.operation) r ∷ [];
              at = record { front = []; said = said; rest = rest; is_lines = refl; of_line = refl; gives_up = ap is_action op_is; before = []; done = tt; gave = refl; told_so = refl };
              over = record {
                view = w;
                header = is.header;
                pool = is.pool;
                begins = is.begins;
                passed = passed o new first w all (stores_of_call names (said ∷ rest)) leads e.behind.seen.memory quiet (few_of (steps found) (omega arith));
                behind = e.behind;
                unlocked = quiet.unlocked;
                stands = stands;
                pages = (let pages = is.pages in let lanes = same.lanes in let zones = same.zones in omega (arith, pages, lanes, zones));
                number = e.over.number;
                entries = first_drawn ∙ ap (λ (x : Operation). first.entries ++ numbered new.last (refused x r ∷ []) ∷ []) (sym op_is);
                level = level;
                left = ap is_work at;
                fails = fails;
                pending = still_pending (pending_before w) (drawn_first first w new.last (refused asks r) first_drawn) is.pending;
                made = record {
                  front = [];
                  said = said;
                  rest = rest;
                  is = refl;
                  middle = first;
                  made = refl;
                  refused = subst (λ (x : ScriptOp). IsRefusalMade names x r first w) (sym begins) (
                    record { number = new.last; made = record { start = found; free = free_there; is = ap (after_all found) here }; came = tt },
                    why,
                  );
                };
              };
            }

      -- or the lane stopped before that was told
      cut_refused : IsStoppedIn Sees new found steps asks (Some (Refused r)) → IsCut o first new names (said ∷ rest) []
      unfolding LinesMade
      cut_refused stopped =
          let k : ℕ = stopped.stops.made in
          let m : View = after_all found (take k (steps found)) in
          let kept : Keeps found m = give_up_keeps found lane_there [] asks (Some (Refused r)) new.last k stopped.stops.fewer in
          let all : List Step = led.steps ++ take k (steps found) in
          let leads : Leads first all m = leads_then first found m led.steps (take k (steps found)) led.leads (stopped_leads Sees new found steps asks (Some (Refused r)) stopped) in
          record {
            view = m;
            same = same_along first m all leads;
            bound = walked first m (stores_of_call names (said ∷ rest)) all leads (few_of (take k (steps found)) (stores_first k (steps found)));
            seen = stopped.stops.seen;
            drawn = stopped.drawn;
            way = inl (record {
              steps = all;
              leads = leads;
              came = inl (record { number = kept.number ∙ working.undrawn; entries = kept.entries ∙ undrawn });
              opening = give_up_first o found (steps found) k lane_there stopped.ready opening_there (λ i. gives_up_of found [] asks (Some (Refused r)) new.last i lane_there working no_entries spans_there);
              untorn = inl (record { view = found; steps = led.steps; leads = led.leads; working = working; calm = λ calm. quiet_in_give_up found [] asks (Some (Refused r)) new.last k calm working spans_there });
            });
            at_stop = stopped.stops.stopped;
            stops = inl (record {
              front = [];
              said = said;
              rest = rest;
              is = refl;
              middle = first;
              made = refl;
              stops = inr (
                r,
                subst (λ (x : ScriptOp). IsStoppedGivingUp names x r first m) (sym begins) (record {
                  number = new.last;
                  stopped = record { start = found; free = free_there; stops = front_of (Sees new.memory) found (steps found) (refused_calls names (op.Begin asked) r new.last) here stopped.stops };
                  came = tt;
                }),
              );
            });
          }

    module _ (rest : List ScriptLine) where
      -- what is reserved stands behind it
      refused_at : (r : Refusal) → IsBeginRefusal names asked r first → HasRefused Sees new first want_list r → new.level ≡ 1 → new.stage ≡ stage.OnAbort → new.error ≡ error.Refused r → IsGivenUpAt o first new blocks actions names (said ∷ rest) [] said.line r
      refused_at r why b level at fails =
          let below : generation_of first < generation_limit = subst (λ g. g < generation_limit) (generation_there rest r b.found b.led b.undrawn b.working b.log) b.working.area.below in
          let stands : StandsAtRest b.view = refused_stands o is.header is.pool first first [] lane.shape Sees new want_list r (is.keeps.rests is.header is.pool is.begins) below is.keeps.stands b (own_counts new.memory b.view b.over.seen.memory) in
          over_refused rest r b.found b.led b.undrawn b.working b.log b.ended (subst StandsAtRest b.is stands) (ap (λ (v : View). v.call) (sym b.is) ∙ b.call) why level at fails

      -- why it did not begin
      pub not_begun : (r : Refusal) → (r ≡ refusal.NoObject → Any (LacksObject first) wants) → FailsToBegin Sees new first wants r → LeavesLane r lane new → IsNotDone o first new blocks actions names (said ∷ rest) [] (not_done said.line r)
      not_begun refusal.Stopped missing fails leaves =
          let b : HasStoppedRefused Sees new first want_list = subst (HasStoppedRefused Sees new first) wants_are fails in
          cut_refused rest b.why b.found b.led b.undrawn b.working b.log b.stopped
      not_begun refusal.Spent missing fails leaves = (spent fails, refl)
      not_begun refusal.Busy missing fails leaves = absurd (not_busy fails)
      not_begun refusal.LocksFull missing fails leaves =
          refused_at refusal.LocksFull tt (subst (λ (ws : List Want). HasRefused Sees new first ws refusal.LocksFull) wants_are fails) (ap (λ (l : Lane Solo). l.level) leaves) (ap (λ (l : Lane Solo). l.stage) leaves) (ap (λ (l : Lane Solo). l.error) leaves)
      not_begun refusal.NoObject missing fails leaves =
          refused_at refusal.NoObject (subst (Any (LacksObject first)) wants_are (missing refl)) (subst (λ (ws : List Want). HasRefused Sees new first ws refusal.NoObject) wants_are fails) (ap (λ (l : Lane Solo). l.level) leaves) (ap (λ (l : Lane Solo). l.stage) leaves) (ap (λ (l : Lane Solo). l.error) leaves)
      not_begun r missing fails leaves = absurd fails
