-- A call of a lane that works alone and is decided by one log: it is published from where the number is drawn, and at the end it has ended. Wherever the lane stops on
-- the way, it works alone still, or it publishes.
use Rattle.std.proofs.Common.{◌≡◌, ◌⊎◌, ⊎_elim, inl, inr, ℕ, zero, suc, ◌/◌, ◌<◌, ◌≤◌, ◌&&◌, false, List, [], ◌∷◌, ◌++◌, append_assoc, length, length-append, slice_index, take, drop, All, None, refl, sym, ap, ◌∙◌, subst, arith}
use Rattle.std.specs.List.{list_any}
use Rattle.std.specs.Option.{ForSome}
use Rattle.std.proofs.lemmas.List.Elements.{All-weaker}
use Rattle.pm_header.specs.declared.header.Header.{Header}
use Rattle.solo_memory.specs.Solo.{AreNumbered}
use Rattle.solo_model.specs.Actions.{Action}
use Rattle.pm_objects.specs.declared.calls.Operation.{Operation}
use Rattle.pm_objects.specs.declared.pool.PoolView.{PoolView}
use Rattle.pm_record.specs.declared.redo.Redo.{Redo}
use Rattle.solo_redo.proofs.Sealed.{seal_lawful}
use Rattle.solo_redo.proofs.Whole.{may_outside}
use Rattle.solo_redo.specs.Entering.{MayEnter, ending}
use Rattle.solo_redo.specs.Sequences.{ending_of, performs, performs_on, seals, writes_seal}
use Rattle.solo_crash.proofs.AloneCourse.{begins_lane, grows_along}
use Rattle.solo_crash.proofs.CallWords.{behind_is_outside}
use Rattle.solo_crash.proofs.Leading.{leads_end, leads_then}
use Rattle.solo_crash.specs.Alone.{WorksAlone}
use Rattle.solo_crash.specs.Leading.{Leads}
use Rattle.solo_crash.specs.Publishing.{Published}
use Rattle.solo_epoch.proofs.GainedObjects.{stood}
use Rattle.solo_epoch.proofs.PublishedCalls.{has_ended}
use Rattle.solo_epoch.proofs.StandingPools.{own_fits}
use Rattle.solo_epoch.specs.Epochs.{HasEnded, IsPublishing, LoadsNoneOf, ReservesNoRun}
use Rattle.solo_made.specs.Made.{BlockLists}
use Rattle.solo_sealed.specs.Sealed.{Publishes}
use Rattle.solo_view.proofs.Sequences.{after_all-append}
use Rattle.solo_view.specs.Area.{is_in_area}
use Rattle.solo_view.specs.Blocks.{is_run}
use Rattle.solo_view.specs.Blocks.{descriptor_word as lane_descriptor}
use Rattle.solo_view.specs.Log.{Log}
use Rattle.solo_view.specs.Log.Phase.{Applying, Idle}
use Rattle.solo_view.specs.Steps.{Step}
use Rattle.solo_view.specs.Steps.Step.{Draw, Tell}
use Rattle.solo_view.specs.View.{View}
use Rattle.solo_view.specs.Views.{after, after_all, chunk_bit, has_bit, is_made, zone_at}
use Rattle.solo_view.proofs.SameLane.{same_lane-after_all}
use Rattle.solo_world.specs.Lawful.{Allowed}
use Rattle.solo_world.specs.Opening.{IsChunk, Opening}
use Rattle.solo_world.specs.Records.{generation_of}
use Rattle.solo_world.specs.Sequences.{Ready, by_lane, by_view, in_turn, one, settles}
use Rattle.solo_world.proofs.Sequencing.{ready_right}
use Rattle.solo_redo.specs.Sequences.{logs}
use Rattle.solo_tx.specs.Sequences.{ends_call, performs_logged, publishes}
use Rattle.solo_transaction.proofs.LogViews.{call_l, committed_u, each_d, generation_l, leads_d, leads_to, number_view, outside_l, performed, performed_view, ready_to_perform, settled_view, steps_to_draw, told_view, works_to, drawn as is_drawn}
use Rattle.solo_transaction.proofs.PerformedSteps.{IsAlong, performing_keeps_zones, performing_loads_none, performs_along, publishes_along}
use Rattle.solo_transaction.proofs.PublishedLog.{entered_call}
use Rattle.solo_transaction.proofs.EndingAlone.{none_run}
use Rattle.solo_transaction.proofs.LeftCommits.{settled_page}
use Rattle.solo_transaction.specs.Published.{HasDrawn, HasOwnCounts, IsCommittingAlone, IsCommittingIn, LogsCall, logs_call}

-- ---- the steps

in_parts : (op : Operation) (entries : List Redo) (n : ℕ) (v : View) → logs_call op entries n v ≡ steps_to_draw v op entries ++ Draw n ∷ performs_logged entries (number_view v op entries n)
unfolding logs_call publishes ends_call in_turn one after_all
in_parts op entries n v =
    let first : List Step = settles v in
    let second : List Step = logs entries (settled_view v) in
    let rest : List Step = Draw n ∷ performs_logged entries (number_view v op entries n) in
    sym (append_assoc (first ++ second) (Tell op None ∷ []) rest ∙ append_assoc first second (Tell op None ∷ rest))

-- the first of steps that lead, and of steps that publish
leads_front : (v w : View) (steps : List Step) (k : ℕ) → Leads v steps w → Leads v (take k steps) (after_all v (take k steps))
unfolding Leads after_all
leads_front v w steps zero leads = refl
leads_front v w [] (suc k) leads = refl
leads_front v w (s ∷ steps) (suc k) leads = (leads.0, leads.1, leads.2, leads_front (after v s) w steps k leads.3)

publishes_front : (v w : View) (steps : List Step) (k : ℕ) → Publishes v steps w → Publishes v (take k steps) (after_all v (take k steps))
unfolding Publishes after_all
publishes_front v w steps zero publishes = refl
publishes_front v w [] (suc k) publishes = refl
publishes_front v w (s ∷ steps) (suc k) publishes = (publishes.0, publishes.1, publishes.2, publishes_front (after v s) w steps k publishes.3)

-- the others lead on from there
leads_back : (v w : View) (steps : List Step) (k : ℕ) → Leads v steps w → Leads (after_all v (take k steps)) (drop k steps) w
unfolding Leads after_all
leads_back v w steps zero leads = leads
leads_back v w [] (suc k) leads = leads
leads_back v w (s ∷ steps) (suc k) leads = leads_back (after v s) w steps k leads.3

-- the first of two lists of steps: some of the first list, or that and some of the second
front_cases : (xs ys : List Step) (s : Step) (k : ℕ) → (take k (xs ++ s ∷ ys) ≡ take k xs) ⊎ ((j : ℕ) × (take k (xs ++ s ∷ ys) ≡ xs ++ s ∷ take j ys))
front_cases xs ys s zero = inl refl
front_cases [] ys s (suc k) = inr (k, refl)
front_cases (x ∷ xs) ys s (suc k) = ⊎_elim
    (λ (first : take k (xs ++ s ∷ ys) ≡ take k xs). inl (ap (λ (zs : List Step). x ∷ zs) first))
    (λ (both : (j : ℕ) × (take k (xs ++ s ∷ ys) ≡ xs ++ s ∷ take j ys)). inr (both.0, ap (λ (zs : List Step). x ∷ zs) both.1))
    (front_cases xs ys s k)

module _ {o : Opening} {header : Header} {pool : PoolView} {start v : View} {steps : List Step} {op : Operation} {actions : List Action} {blocks : BlockLists} {entries : List Redo}
    (c : LogsCall o header pool start steps op actions blocks v entries) (n : ℕ) (ready : Ready v (logs_call op entries n v)) where
  abbrev u : View
  u = told_view v op entries

  abbrev d : View
  d = number_view v op entries n

  abbrev tail : List Step
  tail = performs_logged entries d

  abbrev front : List Step
  front = steps_to_draw v op entries

  there : u ≡ after_all v front
  there = leads_end v u front (leads_to c)

  -- the number may be drawn
  draws : Allowed u (Draw n)
  unfolding Ready
  draws = (subst (λ (x : View). Ready x (Draw n ∷ tail)) (sym there) (ready_right v front (Draw n ∷ tail) (subst (Ready v) (in_parts op entries n v) ready))).0

  -- behind the draw, so many of the steps
  behind_draw : (more : List Step) → after_all v (front ++ Draw n ∷ more) ≡ after_all d more
  unfolding after_all
  behind_draw more = after_all-append v front (Draw n ∷ more) ∙ ap (λ (x : View). after_all x (Draw n ∷ more)) (sym there)

  pub at_end : after_all v (logs_call op entries n v) ≡ performed_view v op entries n
  at_end = ap (after_all v) (in_parts op entries n v) ∙ behind_draw tail

  -- ---- what is published

  lane_d : d.lane ≡ 0
  lane_d = (call_l c).lane.lane ∙ first_lane where
    first_lane : v.lane ≡ 0
    first_lane = ap (λ (x : View). x.lane) (leads_end start v steps c.works.leads) ∙ ((same_lane-after_all start steps).lane ∙ begins_lane o header pool start c.works.begins)

  outside : All (λ (e : Redo). is_in_area 0 (e.place / 8) ≡ false) entries
  outside = All-weaker (MayEnter d) (λ (e : Redo). is_in_area 0 (e.place / 8) ≡ false) (λ e of. ap (λ k. is_in_area k (e.place / 8)) (sym lane_d) ∙ may_outside d e of) entries
      (each_d c n)

  along : IsAlong d tail
  unfolding performs_logged performs seals by_lane by_view
  along =
      let can = ready_to_perform c n in
      let g : ℕ = generation_of d in
      let sealed = (seal_lawful d (entries ++ ending d ∷ []) can.place can.drawn can.drained can.below can.entered).1 in
      subst (λ k. IsAlong d (performs_on k (entries ++ ending_of k g ∷ []) d)) (sym lane_d)
      (performs_along entries g outside d lane_d (is_drawn c n)
      (subst (λ k. (after_all d (writes_seal k (length (entries ++ ending_of k g ∷ [])) d)).log.phase ≡ Applying 0) lane_d (ap (λ (log : Log). log.phase) sealed.log)))

  pub leads_tail : Leads d tail (performed_view v op entries n)
  leads_tail = leads_d c n

  pub publishes_tail : Publishes d tail (performed_view v op entries n)
  publishes_tail = publishes_along d tail (performed_view v op entries n) leads_tail along

  -- with so many of the steps behind the draw
  pub publishing : (more : List Step) (x : View) → Leads d more x → Publishes d more x → ForSome x.stop (λ stop. x.calls ≤ stop) → AreNumbered 1 x.entries
      → (all : List Published) × (call : IsPublishing o header pool u n all x) × (call.log_steps ≡ more)
  publishing more x leads publishes within numbered =
      let works_u : WorksAlone o header pool start (steps ++ front) u = works_to c n more x leads within in
      let entered = entered_call c works_u in (
        entered.0,
        record {
          start = start;
          steps = steps ++ front;
          works = works_u;
          draws = draws;
          committed = (committed_u c).committed;
          borne_out = (committed_u c).borne_out;
          entered = entered.1;
          log_steps = more;
          publishes = publishes;
          numbered = numbered;
        },
        refl,
      )

  -- ---- at the end

  loads : All (LoadsNoneOf u.log.entries) tail
  unfolding performs_logged performs by_lane by_view
  loads = performing_loads_none u.log.entries d.lane (entries ++ ending d ∷ []) d

  over : (performed_view v op entries n).log.phase ≡ Idle
  over = ap (λ (log : Log). log.phase) (performed c n).log

  -- no chunk that it reserved is a run: its words describe each chunk as before
  same_made : (page : ℕ) → IsChunk v.lanes page → is_made u page ≡ is_made v page
  same_made page chunk =
      let call = call_l c in
      let low = chunk.0 in let first = chunk.1 in let inside = c.working.area.lane in
      let outside_area : is_in_area v.lane (lane_descriptor v.lanes page) ≡ false = behind_is_outside v.lane v.lanes (lane_descriptor v.lanes page) inside (omega (arith, low, first)) in
      let word : slice_index u.words (lane_descriptor u.lanes page) ≡ slice_index v.words (lane_descriptor v.lanes page) =
      ap (λ k. slice_index u.words (lane_descriptor k page)) call.lane.lanes ∙ outside_l c (lane_descriptor v.lanes page) outside_area in
      (λ j. list_any (has_bit (zone_at (call.lane.lanes j) page) (chunk_bit (call.lane.lanes j) page)) (call.reserved j) && is_run (word j))

  no_run : ReservesNoRun o.lanes u
  no_run = subst (λ k. ReservesNoRun k u) (own_fits o header pool v (stood o header pool start v steps c.works)).lane.lanes (λ page chunk. same_made page chunk ∙ none_run o header pool start v steps c.works c.not_making page chunk)

  -- nor is a zone locked
  zones_performed : (performed_view v op entries n).zone_locks ≡ d.zone_locks
  unfolding performs_logged performs by_lane by_view
  zones_performed = performing_keeps_zones d.lane (entries ++ ending d ∷ []) d

  pub unlocked : (after_all v (logs_call op entries n v)).zone_locks ≡ []
  unlocked = ap (λ (x : View). x.zone_locks) at_end ∙ (zones_performed ∙ ((call_l c).zone_locks ∙ c.not_making.unlocked))

  abbrev end : View
  end = after_all v (logs_call op entries n v)

  pub has_drawn : ForSome end.stop (λ stop. end.calls ≤ stop) → AreNumbered 1 end.entries → HasDrawn o header pool n end
  has_drawn within numbered =
      subst (λ (x : View). ForSome x.stop (λ stop. x.calls ≤ stop) → AreNumbered 1 x.entries → HasDrawn o header pool n x) (sym at_end)
      (λ low counted. let p = publishing tail (performed_view v op entries n) leads_tail publishes_tail low counted in record { drawn = u; all = p.0; publishing = p.1 }) within numbered

  pub call_ends : ForSome end.stop (λ stop. end.calls ≤ stop) → AreNumbered 1 end.entries → HasEnded o header pool end
  call_ends within numbered =
      subst (λ (x : View). ForSome x.stop (λ stop. x.calls ≤ stop) → AreNumbered 1 x.entries → HasEnded o header pool x) (sym at_end)
      (λ low counted. let p = publishing tail (performed_view v op entries n) leads_tail publishes_tail low counted in
      has_ended o header pool u n p.0 (performed_view v op entries n) p.1 no_run (subst (All (LoadsNoneOf u.log.entries)) (sym p.2) loads) over low) within numbered

  -- ---- wherever it stops

  abbrev stop_at : ℕ → View
  stop_at k = after_all v (take k (logs_call op entries n v))

  before_draw : (k : ℕ) → ForSome (after_all v (take k front)).stop (λ stop. (after_all v (take k front)).calls ≤ stop) → AreNumbered 1 (after_all v (take k front)).entries
      → WorksAlone o header pool start (steps ++ take k front) (after_all v (take k front))
  before_draw k within numbered = record {
    begins = c.works.begins;
    leads = leads_then start v (after_all v (take k front)) steps (take k front) c.works.leads (leads_front v u front k (leads_to c));
    numbered = numbered;
    within = within;
  }

  pub stops_so : (k : ℕ) → ForSome (stop_at k).stop (λ stop. (stop_at k).calls ≤ stop) → AreNumbered 1 (stop_at k).entries → IsCommittingIn (generation_of v) o header pool start steps n (stop_at k)
  stops_so k =
      subst (λ (all : List Step). ForSome (after_all v (take k all)).stop (λ stop. (after_all v (take k all)).calls ≤ stop) → AreNumbered 1 (after_all v (take k all)).entries → IsCommittingIn (generation_of v) o header pool start steps n (after_all v (take k all)))
      (sym (in_parts op entries n v))
      (⊎_elim
      (λ (first : take k (front ++ Draw n ∷ tail) ≡ take k front).
      subst (λ (taken : List Step). ForSome (after_all v taken).stop (λ stop. (after_all v taken).calls ≤ stop) → AreNumbered 1 (after_all v taken).entries → IsCommittingIn (generation_of v) o header pool start steps n (after_all v taken)) (sym first)
      (λ within numbered. inl (take k front, before_draw k within numbered)))
      (λ (both : (j : ℕ) × (take k (front ++ Draw n ∷ tail) ≡ front ++ Draw n ∷ take j tail)).
      let x : View = after_all d (take both.0 tail) in
      subst (λ (taken : List Step). ForSome (after_all v taken).stop (λ stop. (after_all v taken).calls ≤ stop) → AreNumbered 1 (after_all v taken).entries → IsCommittingIn (generation_of v) o header pool start steps n (after_all v taken)) (sym both.1)
      (subst (λ (z : View). ForSome z.stop (λ stop. z.calls ≤ stop) → AreNumbered 1 z.entries → IsCommittingIn (generation_of v) o header pool start steps n z) (sym (behind_draw (take both.0 tail)))
      (λ within numbered.
      let p = publishing (take both.0 tail) x (leads_front d (performed_view v op entries n) tail both.0 leads_tail) (publishes_front d (performed_view v op entries n) tail both.0 publishes_tail) within numbered in
      inr (record { drawn = u; all = p.0; publishing = p.1 }, generation_l c))))
      (front_cases front tail (Draw n) k))

  -- ---- and where it has drawn its number

  -- before the draw there is no entry more
  few_before : (k : ℕ) → length (after_all v (take k front)).entries ≤ length v.entries
  few_before k =
      let x : View = after_all v (take k front) in
      let leads = leads_to c in
      let grows = grows_along x (drop k front) u (leads_back v u front k leads) in
      let all = ap length grows.entries in let both = length-append x.entries grows.rest in
      let same = ap length (call_l c).entries in omega (arith, all, both, same)

  abbrev IsDrawnFrom : View → Type 0
  IsDrawnFrom x =
      ForSome x.stop (λ stop. x.calls ≤ stop) → AreNumbered 1 x.entries → length v.entries < length x.entries → (has : HasDrawn o header pool n x) × (generation_of has.drawn ≡ generation_of v)

  pub drawn_so : (k : ℕ) → IsDrawnFrom (stop_at k)
  drawn_so k =
      subst (λ (all : List Step). IsDrawnFrom (after_all v (take k all))) (sym (in_parts op entries n v))
      (⊎_elim
      (λ (first : take k (front ++ Draw n ∷ tail) ≡ take k front).
      subst (λ (taken : List Step). IsDrawnFrom (after_all v taken)) (sym first) (λ within numbered more. absurd (let few = few_before k in omega (arith, few, more))))
      (λ (both : (j : ℕ) × (take k (front ++ Draw n ∷ tail) ≡ front ++ Draw n ∷ take j tail)).
      subst (λ (taken : List Step). IsDrawnFrom (after_all v taken)) (sym both.1)
      (subst IsDrawnFrom (sym (behind_draw (take both.0 tail)))
      (λ within numbered more.
      let x : View = after_all d (take both.0 tail) in
      let p = publishing (take both.0 tail) x (leads_front d (performed_view v op entries n) tail both.0 leads_tail) (publishes_front d (performed_view v op entries n) tail both.0 publishes_tail) within numbered in
      (record { drawn = u; all = p.0; publishing = p.1 }, generation_l c))))
      (front_cases front tail (Draw n) k))

-- of whatever generation it drew
pub committing_alone : (generation : ℕ) (o : Opening) (header : Header) (pool : PoolView) (start w : View) (steps : List Step) (n : ℕ) → IsCommittingIn generation o header pool start steps n w → IsCommittingAlone o header pool start steps n w
committing_alone generation o header pool start w steps n (inl still) = inl still
committing_alone generation o header pool start w steps n (inr drew) = inr drew.0

-- ---- so it is

module _ {o : Opening} {header : Header} {pool : PoolView} {start v : View} {steps : List Step} {op : Operation} {actions : List Action} {blocks : BlockLists} {entries : List Redo}
    (c : LogsCall o header pool start steps op actions blocks v entries) (n : ℕ) (ready : Ready v (logs_call op entries n v)) where
  abbrev log_end : View
  log_end = after_all v (logs_call op entries n v)

  abbrev log_stop : ℕ → View
  log_stop made = after_all v (take made (logs_call op entries n v))

  pub log_publishes : HasOwnCounts log_end → HasDrawn o header pool n log_end
  log_publishes own = has_drawn c n ready own.within own.numbered

  pub log_ends : HasOwnCounts log_end → HasEnded o header pool log_end
  log_ends own = call_ends c n ready own.within own.numbered

  pub log_unlocks : log_end.zone_locks ≡ []
  log_unlocks = unlocked c n ready

  pub log_keeps_page : HasOwnCounts log_end → (i : ℕ) → i < 512 → slice_index log_end.words i ≡ slice_index o.words i
  log_keeps_page own = settled_page o header pool n log_end (log_publishes own) (log_ends own).drained

  pub log_stops_in : (made : ℕ) → HasOwnCounts (log_stop made) → IsCommittingIn (generation_of v) o header pool start steps n (log_stop made)
  log_stops_in made own = stops_so c n ready made own.within own.numbered

  pub log_stops : (made : ℕ) → HasOwnCounts (log_stop made) → IsCommittingAlone o header pool start steps n (log_stop made)
  log_stops made own = committing_alone (generation_of v) o header pool start (log_stop made) steps n (log_stops_in made own)

  pub log_drawn : (made : ℕ) → HasOwnCounts (log_stop made) → length v.entries < length (log_stop made).entries → (has : HasDrawn o header pool n (log_stop made)) × (generation_of has.drawn ≡ generation_of v)
  log_drawn made own more = drawn_so c n ready made own.within own.numbered more
