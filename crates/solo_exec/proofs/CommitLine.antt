-- What a commit comes to, from a lane at work.
use Rattle.std.proofs.Common.{◌≡◌, ◌⊎◌, ⊎_elim, inl, inr, ℕ, zero, suc, ◌+◌, ◌<◌, ◌≤◌, All, false, List, [], ◌∷◌, ◌++◌, length, length-append, map, take, Option, None, Some, refl, sym, ap, ◌∙◌, subst, arith}
use Rattle.std.specs.Option.{ForSome}
use Rattle.std.proofs.lemmas.List.{length-map}
use Rattle.std.proofs.lemmas.List.Elements.{All-append, All-nil, All-weaker}
use Rattle.std.proofs.lemmas.Bool.{false≢true}
use Rattle.std.proofs.lemmas.Option.{none-some, same_Some}
use Rattle.solo_crash.proofs.BusyCalls.{walks_of}
use Rattle.solo_crash.proofs.Leading.{leads_then}
use Rattle.solo_crash.proofs.Raises.{raises_append}
use Rattle.solo_crash.proofs.SeenAlone.{works_where_seen}
use Rattle.solo_crash.specs.Alone.{Begins, raises}
use Rattle.solo_crash.specs.CallBlocks.{blocks_in}
use Rattle.solo_crash.specs.Leading.{Leads}
use Rattle.solo_crash.specs.Operations.{entries_so_far}
use Rattle.solo_crash.specs.Pending.{pending_before, published_in, told_of as model_told}
use Rattle.solo_crash.specs.Walking.{Walks}
use Rattle.solo_epoch.proofs.PublishingCalls.{heap as heap_kept}
use Rattle.pm_header.specs.declared.header.Header.{Header}
use Rattle.solo_lock.proofs.Drawless.{drawless}
use Rattle.solo_lock.proofs.Leading.{front_leads, ready_leads}
use Rattle.solo_lock.proofs.Leads.{led_none}
use Rattle.solo_lock.specs.Leading.{KeepsHeap}
use Rattle.solo_made.specs.Entries.{entries_of}
use Rattle.solo_made.specs.Made.{BlockLists, new_of}
use Rattle.solo_made.specs.declared.objects.Freed.{Freed}
use Rattle.solo_memory.specs.Solo.{Sees, Solo}
use Rattle.solo_model.specs.Actions.{Action}
use Rattle.solo_model.specs.Names.{is_refusal}
use Rattle.solo_model.specs.Shown.{answer_of}
use Rattle.pm_objects.specs.declared.calls.Operation.TheVariants.{Commit}
use Rattle.pm_objects.specs.declared.pool.PoolView.{PoolView}
use Rattle.solo_pending.specs.Pending.{entry_of}
use Rattle.solo_pending.specs.declared.pending.PendingActions.{PendingActions}
use Rattle.pm_record.specs.declared.redo.Redo.{Redo}
use Rattle.solo_redo.specs.Entering.{EntersHeap, IsOfPool, MayEnter}
use Rattle.solo_script.specs.declared.script.ScriptLine.{ScriptLine}
use Rattle.solo_script.specs.declared.script.ScriptOp.{ScriptOp}
use Rattle.solo_script.specs.declared.script.ScriptOp.TheVariants as op
use Rattle.solo_transaction.proofs.EndedCommit.{commit_drawn, commit_ends, commit_keeps_page, commit_unlocks}
use Rattle.solo_transaction.proofs.NotMaking.{not_making_still}
use Rattle.solo_transaction.proofs.StandsBehindCommit.{commit_leaves_standing}
use Rattle.solo_transaction.specs.AtWork.{IsNotMaking}
use Rattle.solo_transaction.specs.Committing.{HasCommitted, MayPublishBlocks}
use Rattle.solo_transaction.specs.Published.{CommitsAlone, HasOwnCounts}
use Rattle.solo_transaction.specs.Resting.{StandsAtRest}
use Rattle.solo_tx.proofs.BorneOut.{same_heads_outside}
use Rattle.solo_tx.proofs.CommitCourse.{commits_of}
use Rattle.solo_tx.proofs.Leading.{ended_leads}
use Rattle.solo_tx.proofs.OpeningGeneration.{commit_first}
use Rattle.solo_tx.proofs.StepKinds.{Each}
use Rattle.solo_tx.proofs.StoreCounts.{stores_append, stores_first}
use Rattle.solo_tx.specs.Ending.{IsDrawnAs, IsEndedBy, IsStoppedAmong, IsStoppedIn, PublishesNoBlock}
use Rattle.solo_tx.specs.Generations.{CanPublish}
use Rattle.solo_tx.specs.Sequences.{commits}
use Rattle.solo_tx.specs.Stages.{is_work}
use Rattle.solo_view.proofs.SameLane.{same_lane-after_all, same_lane-then}
use Rattle.solo_view.specs.Area.{is_in_area}
use Rattle.solo_view.specs.Counts.{stores_among}
use Rattle.solo_view.specs.Steps.{Step}
use Rattle.solo_view.specs.View.{Numbered, Told, View}
use Rattle.solo_view.specs.Views.{after, after_all}
use Rattle.solo_world.specs.Opening.{Opening}
use Rattle.solo_world.specs.Sequences.{Ready, Sequence, by_view}
use Rattle.solo_world.specs.declared.lane.Lane.{Lane}
use Rattle.solo_world.specs.declared.lane.Span.{Span}
use Rattle.solo_world.specs.declared.lane.Stage.TheVariants as stage
use Rattle.solo_exec.specs.Bounds.{log_due, logs_of, stores_of_call}
use Rattle.solo_exec.specs.Calls.{stands_alone, starts_alone}
use Rattle.solo_exec.specs.Course.{IsFree, IsLineMade, IsLineStopped, commit_calls, published_entries, spans_of}
use Rattle.solo_exec.specs.Links.{HasPassed}
use Rattle.solo_exec.specs.Replies.{AreToldDone, IsToldDone, Values, done, numbered, values_told}
use Rattle.solo_exec.specs.Progress.{IsAtLine, IsCommitted, IsCut, IsCutAtWork, IsCutPublishing, IsDrawnAlone, IsFlying, IsFlyingBy, IsInFlight, IsUndrawn}
use Rattle.solo_exec.specs.declared.calls.Names.{Names}
use Rattle.solo_exec.proofs.Along.{same_along}
use Rattle.solo_exec.proofs.AreaSteps.{StoresArea, area_alone, ends_in_area, found_where_foreseen}
use Rattle.solo_exec.proofs.ChangeLines.{front_of}
use Rattle.solo_exec.proofs.CommitFront.{commit_flies}
use Rattle.solo_exec.proofs.FewStores.{lines_within, walks_then}
use Rattle.solo_exec.proofs.HeapStill.{commits_heapless, heap_along}
use Rattle.solo_exec.proofs.LineLists.{gave_nothing, made_more, told_more}
use Rattle.solo_exec.proofs.LineStores.{entries_count, listed_few}
use Rattle.solo_exec.proofs.Links.{passed}
use Rattle.solo_exec.proofs.PendingLists.{drawn_pending, still_pending}
use Rattle.solo_exec.proofs.QuietSequences.{quiet_in_commit}
use Rattle.solo_exec.proofs.Starts.{own_counts}

-- a line that stands in a transaction is told without a refusal, once it is done
unrefused_inside : (names : Names) (x : ScriptOp) (t : Told) → stands_alone x ≡ false → IsToldDone names x t → is_refusal t.reply ≡ false
unrefused_inside names (op.Begin wants) t inside is = ap (λ (u : Told). is_refusal u.reply) is
unrefused_inside names (op.Add id off len) t inside is = ap (λ (u : Told). is_refusal u.reply) is
unrefused_inside names (op.Write id off bytes) t inside is = ap (λ (u : Told). is_refusal u.reply) is
unrefused_inside names (op.Read id off len) t inside is = ap (λ (u : Told). is_refusal u.reply) is.1
unrefused_inside names (op.Alloc letter size kind) t inside is = ap (λ (u : Told). is_refusal u.reply) is.1
unrefused_inside names (op.Free id) t inside is = ap (λ (u : Told). is_refusal u.reply) is
unrefused_inside names op.Commit t inside is = ap (λ (u : Told). is_refusal u.reply) is
unrefused_inside names x t inside is = absurd (false≢true (sym inside))

-- so the first operation of a transaction was no refusal
begun_inside : (names : Names) (front : List ScriptLine) (call : List Told) → AreToldDone names front call → starts_alone front ≡ false → is_refusal (answer_of (map model_told call)) ≡ false
begun_inside names front [] are inside = refl
begun_inside names [] (t ∷ call) are inside = absurd are
begun_inside names (line ∷ front) (t ∷ call) are inside = unrefused_inside names line.operation t inside are.0

answer_more : (call : List Told) → is_refusal (answer_of (map model_told call)) ≡ false → is_refusal (answer_of (map model_told (call ++ done Commit ∷ []))) ≡ false
answer_more [] begun = refl
answer_more (t ∷ call) begun = begun

-- a list without a member
empty_is : {A : Type 0} (xs : List A) → length xs ≡ 0 → xs ≡ []
empty_is [] none = refl
empty_is (x ∷ xs) none = absurd (omega (arith, none))

-- steps that are ready, and the first of them
pub ready_walks : (v : View) (steps : List Step) → Ready v steps → Walks v steps (after_all v steps)
unfolding Ready Walks after_all
ready_walks v [] ready = refl
ready_walks v (s ∷ steps) ready = (ready.0, found_where_foreseen v s ready.1, ready_walks (after v s) steps ready.2)

pub ready_front : (v : View) (steps : List Step) (k : ℕ) → Ready v steps → Ready v (take k steps)
unfolding Ready
ready_front v steps zero ready = tt
ready_front v [] (suc k) ready = tt
ready_front v (s ∷ steps) (suc k) ready = (ready.0, ready.1, ready_front (after v s) steps k ready.2)

module _ (o : Opening) (first : View) (lane : Lane Solo) (blocks : BlockLists) (actions : PendingActions) (names : Names) (front : List ScriptLine) (values : Values) (a : IsAtLine o first lane blocks actions names front values) (new : Lane Solo) (said : ScriptLine)
    (is : said.operation ≡ op.Commit) where
  abbrev v : View
  v = a.view

  -- the entries of what the call published, made and freed
  abbrev own : List Redo
  own = lane.entries.items ++ entries_of v.lanes blocks

  abbrev steps : Sequence
  steps = commits lane.records.items own new.last

  abbrev w : View
  w = after_all v (steps v)

  abbrev at_stop : ℕ → View
  at_stop k = after_all v (take k (steps v))

  abbrev all : List ScriptLine
  all = front ++ said ∷ []

  told_is : (call : List Told) → call ≡ v.call ++ done Commit ∷ [] → AreToldDone names all call
  told_is call so = subst (AreToldDone names all) (sym so) (told_more names front said v.call (done Commit) a.told (subst (λ (x : ScriptOp). IsToldDone names x (done Commit)) (sym is) refl))

  gave_is : (call : List Told) → call ≡ v.call ++ done Commit ∷ [] → values ≡ values_told all call
  gave_is call so = gave_nothing names front said v.call (done Commit) values a.told refl a.gave ∙ ap (values_told all) (sym so)

  begun_is : (call : List Told) → call ≡ v.call ++ done Commit ∷ [] → is_refusal (answer_of (map model_told call)) ≡ false
  begun_is call so = ap (λ (c : List Told). is_refusal (answer_of (map model_told c))) so ∙ answer_more v.call (begun_inside names front v.call a.told (ap starts_alone a.opens.2 ∙ a.opens.3))

  at_once : IsFree v v
  at_once = record { led = led_none v; undrawn = refl }

  own_are : own ≡ published_entries v ++ entries_of v.lanes blocks
  own_are = ap (λ (listed : List Redo). listed ++ entries_of v.lanes blocks) a.works.work.published.listed

  commits_here : steps v ≡ commit_calls blocks new.last v
  unfolding by_view
  commits_here = ap (λ (s : List Span). commits s own new.last v) a.works.work.seen.records ∙ ap (λ (listed : List Redo). commits (spans_of v) listed new.last v) own_are

  line_made : (m : View) → m ≡ after_all v (steps v) → IsLineMade names said.operation v m
  line_made m so = subst (λ (x : ScriptOp). IsLineMade names x v m) (sym is) (record {
    blocks = blocks;
    lists = a.works.lists;
    number = new.last;
    made = record { start = v; free = at_once; is = so ∙ ap (after_all v) commits_here };
  })

  -- ---- how many stores it makes

  own_count : length own ≡ entries_so_far v
  own_count =
      let all_of = ap length own_are in let count = entries_count v blocks in
      let made = ap length a.works.lists.made in let freed = ap length a.works.lists.freed in
      let many_made = length-map blocks.made new_of in let many_freed = length-map blocks.freed (λ (f : Freed). f.off) in
      omega (arith, all_of, count, made, freed, many_made, many_freed)

  -- where there is no entry it published, made and freed nothing
  no_block : own ≡ [] → PublishesNoBlock v
  no_block none =
      let count = ap length own_are in let all_of = entries_count v blocks in let zero_own = ap length none in
      let made = ap length a.works.lists.made in let freed = ap length a.works.lists.freed in
      let many_made = length-map blocks.made new_of in let many_freed = length-map blocks.freed (λ (f : Freed). f.off) in
      inr (
        empty_is (blocks_in v).made (omega (arith, count, all_of, zero_own, made, many_made)),
        empty_is (blocks_in v).freed (omega (arith, count, all_of, zero_own, freed, many_freed)),
        a.works.borne_out,
        subst (All (λ (act : Action). IsOfPool v (entry_of act))) (sym (empty_is (published_in v) (omega (arith, count, all_of, zero_own)))) (All-nil (λ (act : Action). IsOfPool v (entry_of act))),
      )

  listed_alone : own ≡ [] → lane.entries.items ≡ own
  listed_alone none = empty_is lane.entries.items (let count = ap length none in let both = length-append lane.entries.items (entries_of v.lanes blocks) in omega (arith, count, both)) ∙ sym none

  module _ (may : MayPublishBlocks v blocks) where
    few_own : length own ≤ 63
    few_own = let count = ap length own_are in let all_of = entries_count v blocks in let few = may.few in omega (arith, count, all_of, few)

    -- one store of the generation, and those of the redo log that performs what was published, made and freed
    commit_stores : stores_among (steps v) ≤ 1 + log_due v
    commit_stores = let few = listed_few lane.records.items own new.last v few_own in let same = ap logs_of own_count in omega (arith, few, same)

    few_in : (more : List Step) → stores_among more ≤ 1 + log_due v → stores_among (a.steps ++ more) ≤ stores_of_call names all
    few_in more few =
        let both = stores_append a.steps more in let before = a.few in let within = lines_within names front [] said in omega (arith, both, before, within, few)

    may_enter : All (MayEnter v) own
    may_enter = All-append (MayEnter v) lane.entries.items (entries_of v.lanes blocks) a.works.work.published.may_enter
        (All-weaker (EntersHeap v) (MayEnter v) (λ e heap. inr heap) (entries_of v.lanes blocks) may.enters)

    can_publish : CanPublish v own
    can_publish = record { unentered = a.works.work.no_entries; few = few_own; each = may_enter; may_come = a.works.work.may_come }

    -- ---- from wherever the lane began, where there are entries

    module _ (header : Header) (pool : PoolView) (begins : Begins o header pool first) (some : 1 ≤ length own) where
      commits_alone : CommitsAlone o header pool first a.steps Sees lane blocks v own
      commits_alone = record { works = works_where_seen o header pool lane.memory first v a.steps begins a.leads a.works.work.seen.memory; work = a.works; outer = a.level; are = refl; some = some }

    -- ---- it is over

    module _ (h : HasCommitted Sees new v steps) where
      counts : HasOwnCounts w
      counts = own_counts new.memory w h.behind.seen.memory

      -- what is reserved stands behind it
      stands : StandsAtRest w
      stands = commit_leaves_standing o a.header a.pool first v a.steps Sees lane blocks new.last (works_where_seen o a.header a.pool lane.memory first v a.steps a.begins a.leads a.works.work.seen.memory) a.works a.level h.ready counts

      walked : Walks first (a.steps ++ steps v) w
      walked = walks_then first v w a.steps (steps v) (walks_of first v a.steps a.leads) (ready_walks v (steps v) h.ready)

      -- with some entries it published them
      passed_publishing : 1 ≤ length own → HasPassed o first w (stores_of_call names all)
      passed_publishing some = record {
        same = same_lane-then first v w (same_along first v a.steps a.leads) (same_lane-after_all v (steps v));
        page = λ header pool begins. commit_keeps_page o header pool first v a.steps Sees lane blocks own lane.records.items new.last (commits_alone header pool begins some) h.ready counts;
        bound = record { steps = a.steps ++ steps v; walks = walked; stores = few_in (steps v) commit_stores };
        came = λ header pool begins. inl (commit_ends o header pool first v a.steps Sees lane blocks own lane.records.items new.last (commits_alone header pool begins some) h.ready counts);
      }

      unlocked_publishing : 1 ≤ length own → w.zone_locks ≡ []
      unlocked_publishing some = commit_unlocks o a.header a.pool first v a.steps Sees lane blocks own lane.records.items new.last (commits_alone a.header a.pool a.begins some) h.ready

      -- with none its records ended, and it works alone still
      module _ (none : own ≡ []) (ended : IsEndedBy Sees new v steps Commit None) where
        on : Leads v (steps v) w
        on = ended_leads Sees new v steps Commit None ended

        heap : KeepsHeap v w
        heap = heap_along v w (steps v) (commits_heapless lane.records.items own new.last v a.of_lane) on

        quiet : IsNotMaking w
        quiet = not_making_still v w (same_heads_outside v w a.works.work.under_way.in_lanes (same_along v w (steps v) on).lanes (same_along v w (steps v) on).zones heap.reserved
            (λ i outside. area_alone v w (steps v) a.works.alone on (subst (λ (es : List Redo). Each StoresArea (commits lane.records.items es new.last v)) (sym none) (ends_in_area lane.records.items new.last v a.of_lane)) i
            (ap (λ k. is_in_area k i) (sym a.of_lane) ∙ outside)))
            heap.zone_locks a.works.not_making

        passed_ending : HasPassed o first w (stores_of_call names all)
        passed_ending = passed o new first w (a.steps ++ steps v) (stores_of_call names all) (leads_then first v w a.steps (steps v) a.leads on) ended.behind.seen.memory quiet (few_in (steps v) commit_stores)

      committed_so : HasPassed o first w (stores_of_call names all) → w.zone_locks ≡ [] → new ≡ record lane { memory = new.memory; records = new.records; entries = new.entries; stage = stage.OnCommit; drawn = Some new.last; last = new.last }
          → IsCommitted o first new blocks actions names all values
      committed_so passes unlocked fields =
          let drawn : w.entries ≡ first.entries ++ numbered new.last w.call ∷ [] = h.entries ∙ ap (λ (es : List Numbered). es ++ numbered new.last w.call ∷ []) a.entries in
          record {
            told = w.call;
            done = told_is w.call h.told;
            gave = gave_is w.call h.told;
            over = record {
              view = w;
              header = a.header;
              pool = a.pool;
              begins = a.begins;
              passed = passes;
              behind = h.behind;
              unlocked = unlocked;
              stands = stands;
              pages = (let pages = a.works.pages in let lane_same = same_lane-after_all v (steps v) in let lanes = lane_same.lanes in let zones = lane_same.zones in omega (arith, pages, lanes, zones));
              number = h.over.number;
              entries = drawn;
              level = ap (λ (l : Lane Solo). l.level) fields ∙ a.level;
              left = ap (λ (l : Lane Solo). is_work l.stage) fields;
              fails = ap (λ (l : Lane Solo). l.error) fields ∙ a.works.work.unharmed;
              pending = still_pending (pending_before w) (drawn_pending first v w new.last (done Commit) a.entries drawn h.told) a.pending;
              made = made_more names front said first v w a.made (line_made w refl);
            };
          }

      pub committed : (PublishesNoBlock v → IsEndedBy Sees new v (commits lane.records.items lane.entries.items new.last) Commit None) → new ≡ record lane { memory = new.memory; records = new.records; entries = new.entries; stage = stage.OnCommit; drawn = Some new.last; last = new.last }
          → IsCommitted o first new blocks actions names all values
      committed ends fields = of own refl where
        of : (es : List Redo) → own ≡ es → IsCommitted o first new blocks actions names all values
        of [] none =
            let ended = subst (λ (es : List Redo). IsEndedBy Sees new v (commits lane.records.items es new.last) Commit None) (listed_alone none) (ends (no_block none)) in
            committed_so (passed_ending none ended) (quiet none ended).unlocked fields
        of (e ∷ es) are = let some : 1 ≤ length own = (let count = ap length are in omega (arith, count)) in committed_so (passed_publishing some) (unlocked_publishing some) fields

    -- ---- or the lane stopped in it

    module _ (s : IsStoppedAmong Sees new v steps Commit None) where
      abbrev k : ℕ
      k = s.stops.made

      abbrev x : View
      x = at_stop k

      x_counts : HasOwnCounts x
      x_counts = own_counts new.memory x s.stops.seen

      x_ready : Ready v (take k (steps v))
      x_ready = ready_front v (steps v) k s.ready

      x_few : stores_among (take k (steps v)) ≤ 1 + log_due v
      x_few = let part = stores_first k (steps v) in let most = commit_stores in omega (arith, part, most)

      cut_by : IsCutAtWork o first names all values x ⊎ IsCutPublishing o first names all values x → IsCut o first new names all values
      cut_by way = record {
        view = x;
        same = same_lane-then first v x (same_along first v a.steps a.leads) (same_lane-after_all v (take k (steps v)));
        bound = record {
          steps = a.steps ++ take k (steps v);
          walks = walks_then first v x a.steps (take k (steps v)) (walks_of first v a.steps a.leads) (ready_walks v (take k (steps v)) x_ready);
          stores = few_in (take k (steps v)) x_few;
        };
        seen = s.stops.seen;
        drawn = s.drawn;
        way = way;
        at_stop = s.stops.stopped;
        stops = inl (record {
          front = front;
          said = said;
          rest = [];
          is = refl;
          middle = v;
          made = a.made;
          stops = inl (subst (λ (y : ScriptOp). IsLineStopped names y v x) (sym is) (record {
            blocks = blocks;
            lists = a.works.lists;
            number = new.last;
            stopped = record { start = v; free = at_once; stops = front_of (Sees new.memory) v (steps v) (commit_calls blocks new.last) commits_here s.stops };
          }));
        });
      }

      -- at work, by steps that lead
      at_work : Leads v (take k (steps v)) x → IsUndrawn first x ⊎ IsFlying first names all values (raises (a.steps ++ take k (steps v))) x → IsCut o first new names all values
      at_work on came = cut_by (inl (record {
        steps = a.steps ++ take k (steps v);
        leads = leads_then first v x a.steps (take k (steps v)) a.leads on;
        came = came;
        opening = commit_first o v (steps v) k a.of_lane s.ready a.generation own (λ i. commits_of v lane.records.items own new.last i a.of_lane a.works.work.working a.works.work.seen.records (λ some. can_publish));
        untorn = inl (record { view = v; steps = a.steps; leads = a.leads; working = a.works.work.working; calm = λ calm. quiet_in_commit v lane.records.items own new.last k calm few_own may_enter });
      }))

      -- before it drew a number
      undrawn_cut : x.number ≡ None → x.entries ≡ v.entries → IsCut o first new names all values
      undrawn_cut none entries =
          at_work (ready_leads v (take k (steps v)) x_ready (drawless v (take k (steps v)) (let same = ap length entries in omega (arith, same)))) (inl (record { number = none; entries = entries ∙ a.entries }))

      module _ (n : ℕ) (drawn : IsDrawnAs v x n) (told : x.call ≡ v.call ++ done Commit ∷ []) where
        flight : IsInFlight first names all values x
        flight = record {
          number = n;
          drawn = drawn.number;
          told = x.call;
          entries = drawn.entries ∙ ap (λ (es : List Numbered). es ++ numbered n x.call ∷ []) a.entries;
          done = told_is x.call told;
          gave = gave_is x.call told;
          begun = begun_is x.call told;
        }

        -- the steps of the lines raised nothing before those of the commit
        raised_by : raises (take k (steps v)) ≡ raises (a.steps ++ take k (steps v))
        raised_by = let both = raises_append a.steps (take k (steps v)) in let none = a.unraised in omega (arith, both, none)

        flying : IsFlying first names all values (raises (a.steps ++ take k (steps v))) x
        flying = record {
          flight = flight;
          flies = subst (λ r. IsFlyingBy r x.log.phase) raised_by (commit_flies v lane.records.items own new.last k n a.of_lane a.works.work.working a.works.work.seen.records (λ some. can_publish) s.stops.fewer drawn.number);
        }

        more : length v.entries < length x.entries
        more = let all_of = ap length drawn.entries in let count = length-append v.entries (record { number = n; call = x.call } ∷ []) in omega (arith, all_of, count)

        publishing : 1 ≤ length own → IsCutPublishing o first names all values x
        unfolding flight
        publishing some = record { flight = flight; publishing = by_it } where
          by_it : (header : Header) (pool : PoolView) → Begins o header pool first → IsDrawnAlone o header pool n x
          by_it header pool begins =
              let t = commit_drawn o header pool first v a.steps Sees lane blocks own lane.records.items new.last (commits_alone header pool begins some) k s.ready x_counts more in
              let has = t.0 in
              let same : new.last ≡ n = same_Some new.last n (sym (heap_kept o header pool has.drawn new.last has.all x has.publishing).number ∙ drawn.number) in
              subst (λ i. IsDrawnAlone o header pool i x) same (record { has = has; generation = t.1 ∙ a.generation })

      pub commit_cut : (PublishesNoBlock v → IsStoppedIn Sees new v (commits lane.records.items lane.entries.items new.last) Commit None) → IsCut o first new names all values
      commit_cut ends = ⊎_elim
          (λ (undrawn : (x.number ≡ None) × (x.entries ≡ v.entries)). undrawn_cut undrawn.0 undrawn.1)
          (λ (drawn : (n : ℕ) × IsDrawnAs v x n). of own refl drawn.0 drawn.1
          (⊎_elim (λ (none : x.number ≡ None). absurd (none-some drawn.0 (sym none ∙ drawn.1.number))) (λ (told : x.call ≡ v.call ++ done Commit ∷ []). told) s.came.told))
          s.came.entries
        where
          of : (es : List Redo) → own ≡ es → (n : ℕ) → IsDrawnAs v x n → x.call ≡ v.call ++ done Commit ∷ [] → IsCut o first new names all values
          of [] none n drawn told =
              let stopped = subst (λ (es : List Redo). IsStoppedIn Sees new v (commits lane.records.items es new.last) Commit None) (listed_alone none) (ends (no_block none)) in
              at_work (front_leads v (steps v) k s.ready stopped.draws) (inr (flying n drawn told))
          of (e ∷ es) are n drawn told = cut_by (inr (publishing n drawn told (let count = ap length are in omega (arith, count))))
