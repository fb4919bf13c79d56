-- What is pending published outside of a transaction: what that leaves of its run, done, refused or stopped.
use Rattle.std.proofs.Common.{◌≡◌, ◌⊎◌, ⊎_elim, inl, inr, ℕ, ◌+◌, ◌<◌, ◌≤◌, All, Any, Contains, IfSome, eqb, true, false, List, [], ◌∷◌, ◌++◌, length, length-append, map, slice_index, take, Option, None, Some, Result, Ok, Err, refl, sym, ap, ◌∙◌, subst, arith}
use Rattle.std.proofs.lemmas.List.{append-nil, length-map}
use Rattle.std.proofs.lemmas.Option.{none-some, same_Some}
use Rattle.solo_action.proofs.PublishedSets.{lists_none, logs_outside, no_lists}
use Rattle.solo_action.proofs.WorkingFurther.{works_further}
use Rattle.solo_action.specs.Holding.{StaysSound}
use Rattle.solo_action.specs.Outside.{IsToldOutside, RestsStill}
use Rattle.solo_action.specs.Publishing.{AreSetsAlone, IsPublished, IsPublishedBy, IsPublishedNone, IsStoppedInPublish, IsStoppedPublishing, PublishEnds}
use Rattle.solo_action.specs.PublishingAll.{HasPublishedHeld, IsPublishedAll, IsStoppedPublishingAll, entries_pending}
use Rattle.solo_crash.proofs.AloneCourse.{StandsAlone}
use Rattle.solo_crash.proofs.AloneMemory.{memory_of}
use Rattle.solo_crash.proofs.BusyCalls.{walks_of}
use Rattle.solo_crash.proofs.Leading.{leads_then}
use Rattle.solo_crash.proofs.PendingOn.{same_before}
use Rattle.solo_crash.proofs.Raises.{raises_append}
use Rattle.solo_crash.proofs.ReservedStays.{pending_at_rest}
use Rattle.solo_crash.proofs.SeenAlone.{works_where_seen}
use Rattle.solo_crash.specs.Alone.{Begins, WorksAlone, raises, standing}
use Rattle.solo_crash.specs.CallBlocks.{blocks_behind, blocks_told, no_blocks}
use Rattle.solo_crash.specs.Leading.{Leads}
use Rattle.solo_crash.specs.OnActions.{blocks_published}
use Rattle.solo_crash.specs.Pending.{pending_before, pending_behind, sets_before}
use Rattle.solo_epoch.proofs.GainedObjects.{stood}
use Rattle.solo_epoch.proofs.StandingPools.{own_fits}
use Rattle.solo_exec.proofs.Along.{lane_along, same_along}
use Rattle.solo_exec.proofs.Begun.{not_busy, spent}
use Rattle.solo_exec.proofs.ChangeLines.{front_of}
use Rattle.solo_exec.proofs.Closed.{gives_uncounted, reclaims_uncounted}
use Rattle.solo_exec.proofs.CommitLine.{ready_front, ready_walks}
use Rattle.solo_exec.proofs.FewStores.{led_stores, lines_within, walks_then}
use Rattle.solo_exec.proofs.LoggedOutside.{logged_few, logged_so}
use Rattle.solo_exec.proofs.OutsideLine.{acted, told_acted}
use Rattle.solo_exec.proofs.PendingLists.{uncounted_raises}
use Rattle.solo_exec.proofs.PublishFront.{publishing_flies}
use Rattle.solo_exec.proofs.QuietSequences.{quiet_in_log}
use Rattle.solo_exec.proofs.RestingReserved.{rest_keeps}
use Rattle.solo_exec.proofs.Starts.{finds_led, own_counts, start_lane, start_sound, words_led}
use Rattle.solo_exec.specs.Bounds.{IsWalked, log_stores, most_stores, stores_of_call, stores_of_lines}
use Rattle.solo_exec.specs.Calls.{operation_of}
use Rattle.solo_exec.specs.Course.{IsFree, IsOutsideMade, IsPublishMade, IsPublishRefusal, publish_calls}
use Rattle.solo_exec.specs.Links.{IsLink}
use Rattle.solo_exec.specs.Replies.{IsOutsideReply, IsToldDone, done, numbered}
use Rattle.solo_exec.specs.Progress.{ActedOutside, IsActed, IsCut, IsCutAtWork, IsCutPublishing, IsDrawnAlone, IsFlying, IsFlyingBy, IsInFlight, IsStart, IsUnbegun, IsUndrawn}
use Rattle.solo_exec.specs.declared.calls.Names.{Names}
use Rattle.pm_header.specs.declared.header.Header.{Header}
use Rattle.solo_lock.proofs.Drawless.{drawless}
use Rattle.solo_lock.proofs.GivenBack.{all_gives_leave}
use Rattle.solo_lock.proofs.Leading.{front_leads, ready_leads}
use Rattle.solo_lock.proofs.Undrained.{rest_led}
use Rattle.solo_lock.specs.Leading.{DrawEnded, IsLed, KeepsHeap}
use Rattle.solo_lock.specs.Locking.{gives}
use Rattle.solo_lock.specs.Resting.{MayRest}
use Rattle.solo_made.specs.Entries.{entries_of}
use Rattle.solo_made.specs.Made.{BlockLists, ListsBlocks}
use Rattle.solo_memory.specs.Solo.{AreNumbered, Sees, Solo}
use Rattle.solo_model.specs.Actions.{none_pending, pending_count, Pending}
use Rattle.solo_model.specs.Shown.{values_of}
use Rattle.pm_objects.specs.declared.history.Value.TheVariants.{Refused}
use Rattle.pm_objects.specs.declared.pool.PoolView.{PoolView}
use Rattle.pm_objects.specs.declared.refusal.Refusal.{Refusal}
use Rattle.solo_pending.specs.AllPending.{IsPendingAs}
use Rattle.solo_pending.specs.declared.pending.PendingActions.{PendingActions}
use Rattle.solo_pending.specs.Pending.{entry_of}
use Rattle.solo_redo.specs.Entering.{EntersHeap, IsOfPool, MayEnter}
use Rattle.solo_script.specs.declared.script.ScriptLine.{ScriptLine}
use Rattle.solo_transaction.proofs.EndedLog.{log_drawn, log_keeps_page}
use Rattle.solo_transaction.specs.Ending.{unlocked_view}
use Rattle.solo_transaction.specs.Published.{HasOwnCounts, LogsCall, logs_call}
use Rattle.solo_tx.proofs.Decided.{may_publish}
use Rattle.solo_tx.proofs.GivenBack.{none_under}
use Rattle.solo_tx.proofs.OpeningGeneration.{publish_first}
use Rattle.solo_tx.proofs.StoreCounts.{stores_append, stores_counted, stores_first}
use Rattle.solo_tx.specs.Ending.{IsStoppedAmong, LiesUnlocked, IsDrawnAs}
use Rattle.solo_tx.specs.Generations.{IsPublishing}
use Rattle.solo_tx.specs.Publishing.{MayPublish}
use Rattle.solo_tx.specs.Sequences.{publishes_outside}
use Rattle.solo_undo.proofs.Settled.{settle_lawful}
use Rattle.solo_undo.specs.Working.{IsWorking}
use Rattle.solo_view.proofs.SameLane.{same_lane-after_all, same_lane-then}
use Rattle.solo_view.specs.Area.{area_word}
use Rattle.solo_view.specs.Blocks.{block_at}
use Rattle.solo_view.specs.Constants.{IsSameLane}
use Rattle.solo_view.specs.Counts.{counted, stores_among}
use Rattle.solo_view.specs.Held.{is_reserved, is_under, is_under_found, root_word}
use Rattle.solo_view.specs.Steps.{Step}
use Rattle.solo_view.specs.Views.{after_all}
use Rattle.solo_world.proofs.Reserved.{reserved_apart}
use Rattle.solo_world.specs.Fits.{LaneFits, LockFits}
use Rattle.solo_world.specs.History.{Flies, settled}
use Rattle.solo_world.specs.Lawful.{FilledChange, OnlyFilled}
use Rattle.solo_world.specs.Opening.{Guards, Opening}
use Rattle.solo_world.specs.Records.{generation_of}
use Rattle.solo_world.specs.Sequences.{Ready, by_view, settles}
use Rattle.solo_world.specs.declared.lane.Lane.{Lane}
use Rattle.std.proofs.lemmas.Bool.{and_parts, eqb-true, false_from_ne_true}
use Rattle.std.proofs.lemmas.List.Elements.{All-append, All-contains, All-contains_itself, All-weaker}
use Rattle.std.specs.Option.{ForSome}
use Rattle.solo_epoch.proofs.PublishingCalls.{heap as heap_kept}
use Rattle.pm_image.specs.Logs.{generation_word}
use Rattle.solo_view.specs.declared.change.Change.{Change}
use Rattle.solo_view.specs.Founds.{IsAlone}
use Rattle.solo_view.specs.View.{Lock, Numbered, Told, View}
use Rattle.pm_objects.specs.declared.calls.Operation.{Operation}
use Rattle.pm_record.specs.declared.redo.Redo.{Redo}
use Rattle.solo_script.specs.declared.script.ScriptOp.{ScriptOp}
use Rattle.solo_script.specs.declared.script.ScriptOp.TheVariants as op
use Rattle.pm_objects.specs.declared.calls.Operation.TheVariants as operation
use Rattle.pm_objects.specs.declared.refusal.Refusal.TheVariants as refusal

-- ---- nothing undrained lies under a lock

module _ (o : Opening) (header : Header) (pool : PoolView) (first w : View) (steps : List Step) (works : WorksAlone o header pool first steps w) where
  stands : StandsAlone o header pool w
  stands = stood o header pool first w steps works

  fits : LaneFits o (memory_of w) (settled o stands.log stands.decided) (Flies stands.log stands.decided 0) 0 w
  fits = own_fits o header pool w stands

  -- what it reserved is no word that a lock guards, whose block was found
  beside : (i line : ℕ) (block : Option ℕ) → is_reserved w i ≡ true → IfSome block (λ lines. block_at o.lanes o.words line ≡ Some lines) → is_under_found line block i ≡ true → ⊥
  beside i line None own found under =
      let apart = reserved_apart o (memory_of w) w i fits.lane.lanes fits.blocks own in
      let root = eqb-true i root_word (and_parts (eqb line 0) (eqb i root_word) under).1 in let behind = apart.behind in omega (arith, root, behind)
  beside i line (Some lines) own found under =
      let apart = reserved_apart o (memory_of w) w i fits.lane.lanes fits.blocks own in
      let guard : Guards o line i = record { lines = lines; block = found; inside = under } in
      apart.outside (stands.goes.world.sound.in_blocks line i guard)

  unlocked_word : (c : Change) → FilledChange w c → (l : Lock) → Contains w.locks l → is_under c.word l ≡ false
  unlocked_word c filled l held = false_from_ne_true (is_under c.word l) (λ under. beside c.word l.line l.block filled.may.reserved (All-contains (LockFits o (memory_of w) 0) w.locks l fits.locks held).found under)

  pub filled_unlocked : MayRest w → LiesUnlocked w
  filled_unlocked rests = ⊎_elim
      (λ (none : w.changes ≡ []). none_under w none)
      (λ (filled : IsAlone w × OnlyFilled w).
      All-weaker (FilledChange w) (λ (c : Change). All (λ (l : Lock). is_under c.word l ≡ false) w.locks)
      (λ c of. All-weaker (Contains w.locks) (λ (l : Lock). is_under c.word l ≡ false) (unlocked_word c of) w.locks (All-contains_itself w.locks)) w.changes filled.1)
      rests

-- a lane that rests with words undrained that it filled finds the pool sound wherever it goes on to
module _ (o : Opening) (lane : Lane Solo) (blocks : BlockLists) (actions : PendingActions) (first : View) (is : IsStart o lane blocks actions first) where
  pub stays_sound : StaysSound Sees first
  stays_sound memory w led seen = record {
    opening = o;
    sound = start_sound o lane blocks actions first is;
    finds = finds_led o lane blocks actions first is memory w led seen;
    apart = filled_unlocked o is.header is.pool first w led.steps (works_where_seen o is.header is.pool memory first w led.steps is.begins led.leads seen) (rest_led first w led is.rests.undrained);
  }

module _ (o : Opening) (first : View) (lane new : Lane Solo) (blocks : BlockLists) (actions : PendingActions) (names : Names) (is : IsStart o lane blocks actions first) (x : ScriptOp) (says : x ≡ op.Publish) where
  publish_is : operation.Publish ≡ operation_of names x
  publish_is = ap (operation_of names) (sym says)

  module _ (h : View) (led : IsLed first h) (undrawn : h.entries ≡ first.entries) (counts : HasOwnCounts h) where
    free : IsFree first h
    free = record { led = led; undrawn = undrawn }

    -- it works alone there
    works_there : (header : Header) (pool : PoolView) → Begins o header pool first → WorksAlone o header pool first led.steps h
    works_there header pool begins = works_further o header pool first first h [] (is.keeps.rests header pool begins).works led counts

    lane_there : h.lane ≡ 0
    lane_there = lane_along first h led.steps led.leads (start_lane o lane blocks actions first is)

    -- with the opening's generation
    first_generation : generation_of h ≡ generation_word o.words 0
    first_generation = ap (λ n. slice_index h.words (area_word n)) lane_there ∙ ap (λ (words : List ℕ). slice_index words (area_word 0)) (words_led o lane blocks actions first is h led)

    -- ---- the lane stopped in it

    module _ (entries : List Redo) (lists : BlockLists) (are_lists : ListsBlocks lists (blocks_behind operation.Publish None (pending_before first) no_blocks)) (are : entries ≡ map entry_of (sets_before h) ++ entries_of h.lanes lists)
        (works : IsWorking h) (untold : h.call ≡ []) (may : MayPublish (after_all h (settles h)) entries) (each : All (MayEnter h) entries) (s : IsStoppedAmong Sees new h (logs_call operation.Publish entries new.last) operation.Publish None)
        (said : ScriptLine) (is_said : said.operation ≡ x) where
      abbrev steps : List Step
      steps = logs_call operation.Publish entries new.last h

      abbrev k : ℕ
      k = s.stops.made

      abbrev front : List Step
      front = take k steps

      abbrev y : View
      y = after_all h front

      said_is : said.operation ≡ op.Publish
      said_is = is_said ∙ says

      ready_k : Ready h front
      ready_k = ready_front h steps k s.ready

      publish_here : steps ≡ publish_calls lists new.last h
      unfolding by_view
      publish_here = ap (λ (es : List Redo). logs_call operation.Publish es new.last h) are

      few : stores_among (led.steps ++ front) ≤ stores_of_call names (said ∷ [])
      few =
          let both = stores_append led.steps front in let before = led_stores first h led in let part = stores_first k steps in let all = logged_few h entries operation.Publish new.last may.few in
          let most : most_stores names said.operation ≡ log_stores = ap (most_stores names) said_is in let within = lines_within names [] [] said in
          let none : stores_of_lines names [] ≡ 0 = refl in omega (arith, both, before, part, all, most, within, none)

      cut_by : IsCutAtWork o first names (said ∷ []) [] y ⊎ IsCutPublishing o first names (said ∷ []) [] y → IsCut o first new names (said ∷ []) []
      cut_by way = record {
        view = y;
        same = same_lane-then first h y (same_along first h led.steps led.leads) (same_lane-after_all h front);
        bound = record { steps = led.steps ++ front; walks = walks_then first h y led.steps front (walks_of first h led.steps led.leads) (ready_walks h front ready_k); stores = few };
        seen = s.stops.seen;
        drawn = s.drawn;
        way = way;
        at_stop = s.stops.stopped;
        stops = inr (
          op.Publish,
          record { line = said; alone = refl; says = said_is; outside = refl },
          record {
            blocks = lists;
            lists = are_lists;
            number = new.last;
            stopped = record { start = h; free = free; stops = front_of (Sees new.memory) h steps (publish_calls lists new.last) publish_here s.stops };
          },
        );
      }

      so : IsPublishing (length entries) (raises front) y
      so = logged_so h lane_there works entries may operation.Publish new.last k

      -- at work, by steps that lead
      at_work : Leads h front y → IsUndrawn first y ⊎ IsFlying first names (said ∷ []) [] (raises (led.steps ++ front)) y → IsCut o first new names (said ∷ []) []
      at_work on came = cut_by (inl (record {
        steps = led.steps ++ front;
        leads = leads_then first h y led.steps front led.leads on;
        came = came;
        opening = publish_first o h steps k lane_there s.ready first_generation (length entries) so;
        untorn = inl (record { view = h; steps = led.steps; leads = led.leads; working = works; calm = λ calm. quiet_in_log h entries operation.Publish new.last k calm may.few each });
      }))

      -- before it drew a number
      undrawn_cut : y.number ≡ None → y.entries ≡ h.entries → IsCut o first new names (said ∷ []) []
      undrawn_cut none same = at_work (ready_leads h front ready_k (drawless h front (let e = ap length same in omega (arith, e)))) (inl (record { number = none; entries = same ∙ undrawn }))

      module _ (n : ℕ) (drawn : IsDrawnAs h y n) (told : y.call ≡ h.call ++ done operation.Publish ∷ []) where
        flight : IsInFlight first names (said ∷ []) [] y
        unfolding values_of
        flight = record {
          number = n;
          drawn = drawn.number;
          told = done operation.Publish ∷ [];
          entries = drawn.entries ∙ (ap (λ (es : List Numbered). es ++ numbered n y.call ∷ []) undrawn ∙ ap (λ (call : List Told). first.entries ++ numbered n call ∷ []) (told ∙ ap (λ (call : List Told). call ++ done operation.Publish ∷ []) untold));
          done = (subst (λ (z : ScriptOp). IsToldDone names z (done operation.Publish)) (sym said_is) refl, tt);
          gave = refl;
          begun = refl;
        }

        flying : IsFlying first names (said ∷ []) [] (raises (led.steps ++ front)) y
        flying = record {
          flight = flight;
          flies = subst (λ r. IsFlyingBy r y.log.phase) (let both = raises_append led.steps front in let none = uncounted_raises led.steps led.uncounted in let e : raises front ≡ raises (led.steps ++ front) = omega (arith, both, none) in e)
              (publishing_flies (length entries) (raises front) n y drawn.number so);
        }

        more : length h.entries < length y.entries
        more = let all_of = ap length drawn.entries in let count = length-append h.entries (record { number = n; call = y.call } ∷ []) in omega (arith, all_of, count)

        -- it publishes
        module _ (logs : (header : Header) (pool : PoolView) → Begins o header pool first → LogsCall o header pool first led.steps operation.Publish (sets_before h) lists h entries) where
          publishing : IsCutPublishing o first names (said ∷ []) [] y
          unfolding flight
          publishing = record { flight = flight; publishing = by_it } where
            by_it : (header : Header) (pool : PoolView) → Begins o header pool first → IsDrawnAlone o header pool n y
            by_it header pool begins =
                let t = log_drawn (logs header pool begins) new.last s.ready k (own_counts new.memory y s.stops.seen) more in
                let has = t.0 in
                let same : new.last ≡ n = same_Some new.last n (sym (heap_kept o header pool has.drawn new.last has.all y has.publishing).number ∙ drawn.number) in
                subst (λ i. IsDrawnAlone o header pool i y) same (record { has = has; generation = t.1 ∙ first_generation })

      told_there : (n : ℕ) → IsDrawnAs h y n → y.call ≡ h.call ++ done operation.Publish ∷ []
      told_there n drawn = ⊎_elim (λ (none : y.number ≡ None). absurd (none-some n (sym none ∙ drawn.number))) (λ (told : y.call ≡ h.call ++ done operation.Publish ∷ []). told) s.came.told

      -- as it drew, by steps that lead still
      pub cut_alone : DrawEnded h steps → IsCut o first new names (said ∷ []) []
      cut_alone draws = ⊎_elim
          (λ (none : (y.number ≡ None) × (y.entries ≡ h.entries)). undrawn_cut none.0 none.1)
          (λ (drawn : (n : ℕ) × IsDrawnAs h y n). at_work (front_leads h steps k s.ready draws) (inr (flying drawn.0 drawn.1 (told_there drawn.0 drawn.1))))
          s.came.entries

      -- or as it published what changes the heap
      pub cut_publishing : ((header : Header) (pool : PoolView) → Begins o header pool first → LogsCall o header pool first led.steps operation.Publish (sets_before h) lists h entries) → IsCut o first new names (said ∷ []) []
      cut_publishing logs = ⊎_elim
          (λ (none : (y.number ≡ None) × (y.entries ≡ h.entries)). undrawn_cut none.0 none.1)
          (λ (drawn : (n : ℕ) × IsDrawnAs h y n). cut_by (inr (publishing drawn.0 drawn.1 (told_there drawn.0 drawn.1) logs)))
          s.came.entries

  -- ---- words alone are pending

  module _ (alone : AreSetsAlone first) where
    sets_lists : ListsBlocks no_lists (blocks_behind operation.Publish None (pending_before first) no_blocks)
    sets_lists = subst (λ (p : Pending). ListsBlocks no_lists (blocks_behind operation.Publish None p no_blocks)) (sym alone.alone) lists_none

    some_sets : 1 ≤ pending_count (pending_before first)
    some_sets = let some = alone.some in let count = ap pending_count alone.alone in omega (arith, some, count)

    -- they are the entries of what is pending
    sets_are : (h : View) → h.entries ≡ first.entries → map entry_of (sets_before first) ≡ map entry_of (sets_before h) ++ entries_of h.lanes no_lists
    sets_are h undrawn = ap (λ (p : Pending). map entry_of p.sets) (sym (same_before first h undrawn)) ∙ sym (append-nil (map entry_of (sets_before h)))

    by_lists : (h : View) → h.entries ≡ first.entries → logs_call operation.Publish (map entry_of (sets_before first)) new.last h ≡ publish_calls no_lists new.last h
    unfolding by_view
    by_lists h undrawn = ap (λ (es : List Redo). logs_call operation.Publish es new.last h) (sets_are h undrawn)

    -- one log decides its publish
    stopped_as : (h : View) (entries : List Redo) → IsStoppedAmong Sees new h (publishes_outside entries operation.Publish new.last) operation.Publish None → IsStoppedAmong Sees new h (logs_call operation.Publish entries new.last) operation.Publish None
    unfolding logs_call publishes_outside
    stopped_as h entries s = s

    pub sets_acted : (left : PendingActions) → IsPendingAs left none_pending → IsPublishedBy Sees new (sets_before first) first → IsActed o first new blocks left names x None None
    sets_acted left none p =
        let h : View = p.holding in
        let w : View = p.view in
        let made : List Step = publishes_outside (map entry_of (sets_before first)) operation.Publish new.last h in
        let over : View = after_all h made in
        let works : WorksAlone o is.header is.pool first p.led.steps h = works_there h p.led p.undrawn p.counts is.header is.pool is.begins in
        let still : RestsStill o is.header is.pool w new.shape = p.keeps o is.header is.pool first p.led.steps works in
        let leads : Leads first ((p.led.steps ++ made) ++ p.back.steps) w =
        leads_then first over w (p.led.steps ++ made) p.back.steps (leads_then first h over p.led.steps made p.led.leads (ready_leads h made p.ready p.draws)) p.back.leads in
        acted o first lane new blocks actions names is x w ((p.led.steps ++ made) ++ p.back.steps) leads p.rests p.idle still.stands still.quiet None None None left
        (subst (λ (y : Operation). IsOutsideReply y None None None) publish_is (refl, refl))
        (p.entries ∙ ap (λ (y : Operation). first.entries ++ numbered new.last (record { operation = y; reply = None } ∷ []) ∷ []) publish_is)
        (subst (IsPendingAs left) (sym p.pending) none)
        (subst (λ (y : ScriptOp). IsOutsideMade names y None first w) (sym says) (inl (record {
          start = h;
          free = free h p.led p.undrawn p.counts;
          some = some_sets;
          blocks = no_lists;
          lists = sets_lists;
          number = new.last;
          over = over;
          is = ap (after_all h) (sym (logs_outside (map entry_of (sets_before first)) new.last h) ∙ by_lists h p.undrawn);
          unlocked = w;
          closed = record { led = p.back; undrawn = p.drawn_there };
          given = inl (alone.alone, refl);
        })))
        (let two = stores_append (p.led.steps ++ made) p.back.steps in let both = stores_append p.led.steps made in let before = led_stores first h p.led in let behind = led_stores over w p.back in
        let same = ap stores_among (logs_outside (map entry_of (sets_before first)) new.last h) in let few = p.few in let count = length-map (sets_before first) entry_of in
        let all = logged_few h (map entry_of (sets_before first)) operation.Publish new.last (omega (arith, few, count)) in
        let most : most_stores names x ≡ log_stores = ap (most_stores names) says in omega (arith, two, both, before, behind, same, all, most))

    pub sets_cut : (said : ScriptLine) → said.operation ≡ x → IsStoppedPublishing Sees new (sets_before first) first → IsCut o first new names (said ∷ []) []
    sets_cut said is_said p =
        let h : View = p.holding in
        let entries : List Redo = map entry_of (sets_before first) in
        let same : publishes_outside entries operation.Publish new.last h ≡ logs_call operation.Publish entries new.last h = sym (logs_outside entries new.last h) in
        let t = p.stopped in
        let among : IsStoppedAmong Sees new h (publishes_outside entries operation.Publish new.last) operation.Publish None = record { ready = t.ready; stops = t.stops; stopped = t.stopped; drawn = t.drawn; came = t.came } in
        cut_alone h p.led p.undrawn p.counts entries no_lists sets_lists (sets_are h p.undrawn) p.works p.untold p.may (All-weaker (IsOfPool h) (MayEnter h) (λ e own. inl own) entries p.own)
        (stopped_as h entries among) said is_said (subst (DrawEnded h) same t.draws)

  -- ---- frees or reservations are, with what words there are

  module _ (pending : PendingActions) where
    -- in a call that told nothing yet these are the lists of what is pending
    lists_of : (h : View) → h.entries ≡ first.entries → h.call ≡ [] → ListsBlocks blocks (blocks_published h) → ListsBlocks blocks (blocks_behind operation.Publish None (pending_before first) no_blocks)
    unfolding blocks_told
    lists_of h undrawn untold lists =
        subst (ListsBlocks blocks)
        ((λ j. blocks_behind operation.Publish None (pending_at_rest h untold j) (blocks_told (pending_before h) no_blocks (untold j))) ∙ ap (λ (p : Pending). blocks_behind operation.Publish None p no_blocks) (same_before first h undrawn))
        lists

    module _ (p : IsPublishedAll Sees new pending blocks first) where
      abbrev h : View
      h = p.holding

      abbrev d : HasPublishedHeld Sees new pending blocks h
      d = p.done

      abbrev entries : List Redo
      entries = entries_pending pending h.lanes blocks

      abbrev made : List Step
      made = logs_call operation.Publish entries new.last h

      abbrev over : View
      over = after_all h made

      abbrev u : View
      u = unlocked_view over d.locks

      abbrev w : View
      w = d.ended.view

      works_h : (header : Header) (pool : PoolView) → Begins o header pool first → WorksAlone o header pool first p.led.steps h
      works_h = works_there h p.led p.undrawn p.counts

      logs_h : (header : Header) (pool : PoolView) → Begins o header pool first → LogsCall o header pool first p.led.steps operation.Publish (sets_before h) blocks h entries
      logs_h header pool begins = d.logs o header pool first p.led.steps (works_h header pool begins)

      here : LogsCall o is.header is.pool first p.led.steps operation.Publish (sets_before h) blocks h entries
      here = logs_h is.header is.pool is.begins

      same_u : u ≡ record over { locks = []; known = u.known }
      same_u = d.ended.given

      same_w : w ≡ record u { run_words = w.run_words; zone_words = w.zone_words; known = w.known; reserved = w.reserved; freed = w.freed; seen = w.seen }
      same_w = d.ended.reclaims.same

      entries_u : u.entries ≡ over.entries
      entries_u = ap (λ (z : View). z.entries) same_u

      entries_w : w.entries ≡ over.entries
      entries_w = ap (λ (z : View). z.entries) same_w ∙ entries_u

      words_w : w.words ≡ over.words
      words_w = ap (λ (z : View). z.words) same_w ∙ ap (λ (z : View). z.words) same_u

      -- its counts as the log is performed are those at the end
      counts_over : HasOwnCounts over
      counts_over =
          let own = own_counts new.memory w d.ended.rests.seen.memory in
          let stop : w.stop ≡ over.stop = ap (λ (z : View). z.stop) same_w ∙ ap (λ (z : View). z.stop) same_u in
          let calls : w.calls ≡ over.calls = ap (λ (z : View). z.calls) same_w ∙ ap (λ (z : View). z.calls) same_u in
          record {
            numbered = subst (λ (es : List Numbered). AreNumbered 1 es) entries_w own.numbered;
            within = subst (λ (c : ℕ). ForSome over.stop (λ s. c ≤ s)) calls (subst (λ (most : Option ℕ). ForSome most (λ s. w.calls ≤ s)) stop own.within);
          }

      -- ---- from there it only gives back

      lane_over : over.lane ≡ 0
      lane_over = (same_lane-after_all h made).lane ∙ lane_there h p.led p.undrawn p.counts

      on_u : Leads over (gives d.locks over) u
      on_u = ready_leads over (gives d.locks over) d.ended.ready (drawless over (gives d.locks over) (let same = ap length entries_u in omega (arith, same)))

      abbrev back : List Step
      back = gives d.locks over ++ d.ended.reclaims.steps

      on_w : Leads over back w
      on_w = leads_then over u w (gives d.locks over) d.ended.reclaims.steps on_u d.ended.reclaims.leads

      given_none : counted (gives d.locks over) ≡ 0
      given_none = gives_uncounted d.locks over lane_over

      back_none : stores_among back ≤ 0
      back_none =
          let both = stores_append (gives d.locks over) d.ended.reclaims.steps in let one = stores_counted (gives d.locks over) in let two = stores_counted d.ended.reclaims.steps in
          let a = given_none in let b = reclaims_uncounted d.ended.reclaims.steps d.ended.reclaims.only in omega (arith, both, one, two, a, b)

      walked_all : IsWalked first w (most_stores names x + 1)
      walked_all = record {
        steps = p.led.steps ++ (made ++ back);
        walks = walks_then first h w p.led.steps (made ++ back) (walks_of first h p.led.steps p.led.leads) (walks_then h over w made back (ready_walks h made d.ready) (walks_of over w back on_w));
        stores =
            (let both = stores_append p.led.steps (made ++ back) in let two = stores_append made back in let before = led_stores first h p.led in let none = back_none in
            let all = logged_few h entries operation.Publish new.last here.few in let most : most_stores names x ≡ log_stores = ap (most_stores names) says in omega (arith, both, two, before, none, all, most));
      }

      same_first : IsSameLane first w
      same_first = same_lane-then first h w (same_along first h p.led.steps p.led.leads) d.same

      link : IsLink o first w (most_stores names x + 1)
      link = record {
        same = same_first;
        again = λ header pool begins. inr (d.begins o header pool first p.led.steps (works_h header pool begins));
        page = λ header pool begins i low. ap (λ (words : List ℕ). slice_index words i) words_w ∙ log_keeps_page (logs_h header pool begins) new.last d.ready counts_over i low;
        bound = walked_all;
      }

      heap_u : KeepsHeap over u
      heap_u = record { zone_locks = ap (λ (z : View). z.zone_locks) same_u; reserved = ap (λ (z : View). z.reserved) same_u; freed = ap (λ (z : View). z.freed) same_u }

      published_here : made ≡ publish_calls blocks new.last h
      unfolding by_view
      published_here = ap (λ (es : List Redo). logs_call operation.Publish es new.last h) here.are

      made_all : IsPublishMade first w
      made_all = record {
        start = h;
        free = free h p.led p.undrawn p.counts;
        some = (let some = p.some in omega (arith, some));
        blocks = blocks;
        lists = lists_of h p.undrawn p.untold d.lists;
        number = new.last;
        over = over;
        is = ap (after_all h) published_here;
        unlocked = u;
        closed = record { led = record { steps = gives d.locks over; leads = on_u; uncounted = given_none; leaves = all_gives_leave d.locks over; heap = heap_u }; undrawn = entries_u };
        given = inr (record { reclaims = d.ended.reclaims; left = d.ended.left });
      }

      pub all_acted : (left : PendingActions) → IsPendingAs left none_pending → IsActed o first new blocks left names x None None
      all_acted left none =
          let still : RestsStill o is.header is.pool w new.shape = d.keeps o is.header is.pool first p.led.steps (works_h is.header is.pool is.begins) in
          record {
            view = w;
            link = link;
            rests = d.ended.rests;
            idle = d.idle;
            keeps = rest_keeps (standing o w) new w d.ended.rests d.idle still.stands still.quiet;
            pages = (let pages = is.pages in let same = same_first in let lanes = same.lanes in let zones = same.zones in omega (arith, pages, lanes, zones));
            answer = None;
            replies = subst (λ (y : Operation). IsOutsideReply y None None None) publish_is (refl, refl);
            entries =
                d.entries ∙ (ap (λ (es : List Numbered). es ++ numbered new.last (record { operation = operation.Publish; reply = None } ∷ []) ∷ []) p.undrawn
                ∙ ap (λ (y : Operation). first.entries ++ numbered new.last (record { operation = y; reply = None } ∷ []) ∷ []) publish_is);
            pending = subst (IsPendingAs left) (sym d.none) none;
            made = subst (λ (y : ScriptOp). IsOutsideMade names y None first w) (sym says) (inl made_all);
          }

    pub all_cut : (said : ScriptLine) → said.operation ≡ x → IsStoppedPublishingAll Sees new pending blocks first → IsCut o first new names (said ∷ []) []
    all_cut said is_said p =
        let h : View = p.holding in
        let entries : List Redo = entries_pending pending h.lanes blocks in
        let logs : (header : Header) (pool : PoolView) → Begins o header pool first → LogsCall o header pool first p.led.steps operation.Publish (sets_before h) blocks h entries =
        λ header pool begins. p.stops.logs o header pool first p.led.steps (works_there h p.led p.undrawn p.counts header pool begins) in
        let here = logs is.header is.pool is.begins in
        let each : All (MayEnter h) entries = subst (All (MayEnter h)) (sym here.are)
        (All-append (MayEnter h) (map entry_of (sets_before h)) (entries_of h.lanes blocks) here.may_set (All-weaker (EntersHeap h) (MayEnter h) (λ e heap. inr heap) (entries_of h.lanes blocks) here.enters_heap)) in
        cut_publishing h p.led p.undrawn p.counts entries blocks (lists_of h p.undrawn p.untold p.stops.lists) here.are p.works p.untold
        (may_publish h (after_all h (settles h)) p.works here.no_entries p.stops.may_come (settle_lawful h).1 entries here.some here.few each) each p.stops.stopped said is_said logs

  -- ---- nothing is

  pub none_acted : (left : PendingActions) → IsPendingAs left none_pending → IsPublishedNone Sees new first → IsActed o first new blocks left names x None None
  none_acted left none p =
      let t = subst (λ (y : Operation). IsToldOutside Sees new first y None) publish_is p.told.told in
      told_acted o first lane new blocks actions names is x None left t
      (ap (λ (y : Operation). (pending_behind y None (pending_before first)).reserved) (sym publish_is) ∙ ap (λ (q : Pending). q.reserved) (sym p.none))
      (subst (λ (y : Operation). IsPendingAs left (pending_behind y None (pending_before first))) publish_is none) (subst (λ (y : Operation). IsOutsideReply y None None None) publish_is (refl, refl))
      (subst (λ (y : ScriptOp). IsOutsideMade names y None first t.view) (sym says) (inr (t.led, p.none)))

  -- ---- refused

  pub publish_refused : (r : Refusal) (left : PendingActions) → left ≡ actions → IsPublishRefusal (pending_before first) r first → IsToldOutside Sees new first operation.Publish (Some (Refused r)) → IsActed o first new blocks left names x (Some r) None
  publish_refused r left kept why told =
      let t = subst (λ (y : Operation). IsToldOutside Sees new first y (Some (Refused r))) publish_is told in
      told_acted o first lane new blocks actions names is x (Some r) left t refl (subst (λ (list : PendingActions). IsPendingAs list (pending_before first)) (sym kept) is.pending) (refl, refl)
      (subst (λ (y : ScriptOp). IsOutsideMade names y (Some r) first t.view) (sym says) (t.led, why))

  -- ---- however it is answered

  pub publish_acted : (left : PendingActions) → IsPendingAs left none_pending → IsPublished Sees new actions blocks first → IsActed o first new blocks left names x None None
  publish_acted left none (inl p) = none_acted left none p
  publish_acted left none (inr (inl p)) = sets_acted p.0 left none p.1
  publish_acted left none (inr (inr p)) = all_acted actions p left none

  publish_cut : (said : ScriptLine) → said.operation ≡ x → IsStoppedInPublish Sees new actions blocks first → IsCut o first new names (said ∷ []) []
  publish_cut said is_said (inl p) = sets_cut p.0 said is_said p.1
  publish_cut said is_said (inr p) = all_cut actions said is_said p

  pub publish_failed : (r : Refusal) (left : PendingActions) → left ≡ actions → PublishEnds {T = Unit {0}} Sees new actions blocks first (Err r) → (r ≡ refusal.NoObject → IsPublishRefusal (pending_before first) refusal.NoObject first)
      → (r ≡ refusal.RootKept → IsPublishRefusal (pending_before first) refusal.RootKept first) → (r ≡ refusal.OutOfRange → IsPublishRefusal (pending_before first) refusal.OutOfRange first) → ActedOutside o first new blocks left names x (Err r)
  publish_failed refusal.Stopped left kept ends missing root past = λ said is_said. publish_cut said is_said ends
  publish_failed refusal.Spent left kept ends missing root past = subst (IsUnbegun first new) (sym kept) (spent o first lane new blocks actions names is ends)
  publish_failed refusal.Busy left kept ends missing root past = absurd (not_busy o first lane new blocks actions names is ends)
  publish_failed refusal.NoObject left kept ends missing root past = publish_refused refusal.NoObject left kept (missing refl) ends.told
  publish_failed refusal.RootKept left kept ends missing root past = publish_refused refusal.RootKept left kept (root refl) ends.told
  publish_failed refusal.OutOfRange left kept ends missing root past = publish_refused refusal.OutOfRange left kept (past refl) ends.told
  publish_failed r left kept ends missing root past = absurd ends

-- scratch lists of another call of the lane, of the pool's pages, serve as well
pub start_with : (o : Opening) (lane : Lane Solo) (blocks now : BlockLists) (actions : PendingActions) (v : View) → length now.dropped ≡ length blocks.dropped → IsStart o lane blocks actions v → IsStart o lane now actions v
start_with o lane blocks now actions v pages is = record { rests = is.rests; header = is.header; pool = is.pool; begins = is.begins; keeps = is.keeps; pages = pages ∙ is.pages; pending = is.pending }
