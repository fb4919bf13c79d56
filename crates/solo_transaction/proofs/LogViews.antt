-- The views on the way of a call that one log decides: all is made persistent, the entries are logged, and the operation is told; then the number is drawn, and the log
-- performed. To where the number is drawn the lane works alone, and its call is committed.
use Rattle.std.proofs.Common.{◌≡◌, inr, ℕ, ◌<◌, ◌≤◌, false, All, Option, List, [], ◌∷◌, ◌++◌, length, length-append, map, slice_index, None, refl, sym, ap, ◌∙◌, subst, arith}
use Rattle.std.specs.Option.{ForSome}
use Rattle.std.proofs.lemmas.List.{length-map}
use Rattle.std.proofs.lemmas.List.Elements.{All-append, All-cons, All-head, All-nil, All-tail, All-weaker}
use Rattle.pm_header.specs.declared.header.Header.{Header}
use Rattle.solo_memory.specs.Solo.{AreNumbered}
use Rattle.pm_objects.specs.declared.calls.Operation.{Operation}
use Rattle.pm_objects.specs.declared.pool.PoolView.{PoolView}
use Rattle.solo_model.specs.Actions.{Action}
use Rattle.solo_model.specs.Actions.Action.{SetWord}
use Rattle.solo_pending.specs.Pending.{entry_of}
use Rattle.pm_record.specs.declared.redo.Redo.{Redo}
use Rattle.solo_redo.proofs.Logged.{log_lawful}
use Rattle.solo_redo.proofs.Performed.{perform_lawful}
use Rattle.solo_redo.proofs.Whole.{heap_kept, may_enter_kept}
use Rattle.solo_redo.specs.Entering.{AreEntered, EntersHeap, HasLogged, IsPerformed, IsReadyToLog, IsReadyToPerform, MayEnter, ending, final_of}
use Rattle.solo_redo.specs.Sequences.{ending_of, logs}
use Rattle.solo_view.specs.Area.{area_word, is_in_area}
use Rattle.solo_view.specs.Log.{Log, Phase, log_drawn}
use Rattle.solo_view.specs.Log.Phase.{Drawn, Open}
use Rattle.solo_view.specs.Steps.{Step}
use Rattle.solo_view.specs.Steps.Step.{Draw, Tell}
use Rattle.solo_view.specs.View.{Told, View}
use Rattle.solo_view.specs.Views.{after, after_all}
use Rattle.solo_world.specs.Lawful.{MayTell, generation_limit}
use Rattle.solo_world.specs.Opening.{Opening}
use Rattle.solo_world.specs.Records.{generation_of}
use Rattle.solo_world.specs.Sequences.{Ready, settles}
use Rattle.solo_crash.proofs.AloneCourse.{Grows, grows_along}
use Rattle.solo_crash.proofs.Leading.{leads_then}
use Rattle.solo_crash.specs.Alone.{WorksAlone}
use Rattle.solo_crash.specs.Leading.{Leads}
use Rattle.solo_lock.proofs.Drawless.{drawless}
use Rattle.solo_lock.proofs.Leading.{ready_leads}
use Rattle.solo_made.specs.Entries.{entries_of}
use Rattle.solo_made.specs.Made.{BlockLists}
use Rattle.solo_undo.proofs.Restored.{open_settled}
use Rattle.solo_undo.proofs.Settled.{settle_lawful}
use Rattle.solo_undo.proofs.Staying.{same_call-then, same_settled}
use Rattle.solo_undo.proofs.Written.{settled_works}
use Rattle.solo_undo.specs.Working.{IsSameCall, IsSettled}
use Rattle.solo_crash.proofs.StillReserved.{HasSameHeads}
use Rattle.solo_tx.proofs.BorneOut.{same_heads_outside}
use Rattle.solo_tx.proofs.GoingOn.{sets_on}
use Rattle.solo_tx.proofs.Published.{some_drawn}
use Rattle.solo_tx.specs.Sequences.{performs_logged}
use Rattle.solo_transaction.specs.Published.{IsCommittedWith, IsToldBy, LogsCall}

-- fewer calls are within the stop number too
fewer_within : (stop other : Option ℕ) (calls last : ℕ) → other ≡ stop → calls ≤ last → ForSome other (λ s. last ≤ s) → ForSome stop (λ s. calls ≤ s)
fewer_within stop other calls last same less within s is = let most = within s (same ∙ is) in omega (arith, less, most)

-- ---- the views

abbrev pub settled_view : View → View
settled_view v = after_all v (settles v)

abbrev pub entries_view : View → List Redo → View
entries_view v entries = after_all (settled_view v) (logs entries (settled_view v))

abbrev pub told_view : View → Operation → List Redo → View
told_view v op entries = after (entries_view v entries) (Tell op None)

abbrev pub number_view : View → Operation → List Redo → ℕ → View
number_view v op entries n = after (told_view v op entries) (Draw n)

abbrev pub performed_view : View → Operation → List Redo → ℕ → View
performed_view v op entries n = after_all (number_view v op entries n) (performs_logged entries (number_view v op entries n))

-- the steps up to where the number is drawn
abbrev pub steps_to_draw : View → Operation → List Redo → List Step
steps_to_draw v op entries = (settles v ++ logs entries (settled_view v)) ++ Tell op None ∷ []

-- what an entry that sets its word is of, and one of the heap, stays so as the number is drawn
sets_at : (v l : View) (op : Operation) (n : ℕ) (actions : List Action) → IsSameCall v l → All (MayEnter v) (map entry_of actions) → All (MayEnter (after (after l (Tell op None)) (Draw n))) (map entry_of actions)
sets_at v l op n [] call each = All-nil (MayEnter (after (after l (Tell op None)) (Draw n)))
sets_at v l op n (SetWord id off value ∷ actions) call each =
    All-cons (MayEnter (after (after l (Tell op None)) (Draw n))) (entry_of (SetWord id off value)) (map entry_of actions)
    (sets_on v (after (after l (Tell op None)) (Draw n)) (let s = call.lane in record { lanes = s.lanes; zones = s.zones; pool = s.pool; lane = s.lane; stop = s.stop; table = s.table; size = s.size }) call.locks
    (entry_of (SetWord id off value)) refl (All-head (MayEnter v) (entry_of (SetWord id off value)) (map entry_of actions) each))
    (sets_at v l op n actions call (All-tail (MayEnter v) (entry_of (SetWord id off value)) (map entry_of actions) each))

heap_at : (l : View) (op : Operation) (n : ℕ) (e : Redo) → EntersHeap l e → MayEnter (after (after l (Tell op None)) (Draw n)) e
heap_at l op n e h = inr (record { entry = h.entry; alone = h.alone; unlocked = h.unlocked; outside = h.outside; inside = h.inside; small = h.small })

module _ {o : Opening} {header : Header} {pool : PoolView} {start v : View} {steps : List Step} {op : Operation} {actions : List Action} {blocks : BlockLists} {entries : List Redo}
    (c : LogsCall o header pool start steps op actions blocks v entries) where
  abbrev m : View
  m = settled_view v

  abbrev l : View
  l = entries_view v entries

  abbrev u : View
  u = told_view v op entries

  -- ---- all is persistent

  settled : IsSettled v m
  settled = (settle_lawful v).1

  call_m : IsSameCall v m
  call_m = same_settled v m settled

  log_m : m.log ≡ v.log
  log_m = ap (λ (x : View). x.log) settled ∙ open_settled v.changes v [] [] c.working.is_open

  words_m : (i : ℕ) → slice_index m.words i ≡ slice_index v.words i
  words_m i = ap (λ (x : View). slice_index x.words i) settled

  -- ---- the entries are logged

  ready_to_log : IsReadyToLog m
  ready_to_log = record {
    entering = record {
      is_open = ap (λ (log : Log). log.phase) log_m ∙ c.working.is_open;
      undrawn = call_m.number ∙ c.working.undrawn;
      area = (settled_works v m c.working settled).area;
      few = (let count = ap (λ (x : View). length x.changes) settled in omega (arith, count));
    };
    none = ap (λ (log : Log). log.entries) log_m ∙ c.no_entries;
  }

  may_enter : All (MayEnter v) entries
  may_enter = subst (All (MayEnter v)) (sym c.are)
      (All-append (MayEnter v) (map entry_of actions) (entries_of v.lanes blocks) c.may_set (All-weaker (EntersHeap v) (MayEnter v) (λ e h. inr h) (entries_of v.lanes blocks) c.enters_heap))

  written : Ready m (logs entries m) × HasLogged m entries l
  written = log_lawful m entries ready_to_log c.few (All-weaker (MayEnter v) (MayEnter m) (λ e of. may_enter_kept v m e call_m (λ i outside. words_m i) of) entries may_enter)

  pub call_l : IsSameCall v l
  call_l = same_call-then v m l call_m written.1.call

  pub outside_l : (i : ℕ) → is_in_area v.lane i ≡ false → slice_index l.words i ≡ slice_index v.words i
  outside_l i out = written.1.outside i (ap (λ j. is_in_area j i) call_m.lane.lane ∙ out) ∙ words_m i

  pub open_l : l.log.phase ≡ Open [] []
  open_l = written.1.is_open

  pub drained_l : l.changes ≡ []
  drained_l = written.1.drained

  same_ending : ending m ≡ ending l
  same_ending = sym (λ j. ending_of (written.1.call.lane.lane j) (written.1.generation j))

  pub logged_l : l.log.entries ≡ map final_of (entries ++ ending l ∷ [])
  logged_l = written.1.entered.logged ∙ ap (λ (e : Redo). map final_of (entries ++ e ∷ [])) same_ending

  pub generation_l : generation_of l ≡ generation_of v
  generation_l = written.1.generation ∙ (words_m (area_word m.lane) ∙ ap (λ (k : ℕ). slice_index v.words (area_word k)) call_m.lane.lane)

  pub below_l : generation_of l < generation_limit
  below_l = let same = written.1.generation in let below = ready_to_log.entering.area.below in omega (arith, same, below)

  -- ---- the operation is told

  pub is_told : IsToldBy v u op
  is_told = record {
    tells = record {
      keeps = record { lanes = call_l.lane.lanes; zones = call_l.lane.zones; pool = call_l.lane.pool; lane = call_l.lane.lane; entries = call_l.entries; known = call_l.remembers };
      locks = call_l.locks;
      call = ap (λ (told : List Told). told ++ record { operation = op; reply = None } ∷ []) call_l.call;
    };
    records = written.1.records ∙ ap (λ (log : Log). log.records) log_m;
    words = record { words = outside_l };
    reserved = call_l.reserved;
  }

  pub committed_u : IsCommittedWith u actions blocks
  committed_u = c.told u is_told

  pub heads : HasSameHeads v u
  heads = same_heads_outside v u c.working.area.lane call_l.lane.lanes call_l.lane.zones call_l.reserved outside_l

  -- ---- to there it leads

  same_entries_m : length m.entries ≤ length v.entries
  same_entries_m = let e = ap length call_m.entries in omega (arith, e)

  leads_m : Leads v (settles v) m
  leads_m = ready_leads v (settles v) (settle_lawful v).0 (drawless v (settles v) same_entries_m)

  same_entries_l : length l.entries ≤ length m.entries
  same_entries_l = let e = ap length written.1.call.entries in omega (arith, e)

  leads_l : Leads m (logs entries m) l
  leads_l = ready_leads m (logs entries m) written.0 (drawless m (logs entries m) same_entries_l)

  leads_u : Leads l (Tell op None ∷ []) u
  unfolding Leads
  leads_u = (subst (λ (phase : Phase). MayTell phase) (sym open_l) tt, tt, tt, refl)

  pub leads_to : Leads v (steps_to_draw v op entries) u
  leads_to = leads_then v l u (settles v ++ logs entries m) (Tell op None ∷ []) (leads_then v m l (settles v) (logs entries m) leads_m leads_l) leads_u

  -- ---- behind the draw

  module _ (n : ℕ) where
    abbrev d : View
    d = number_view v op entries n

    abbrev w : View
    w = performed_view v op entries n

    some_logged : 1 ≤ length l.log.entries
    some_logged =
        let some = c.some in let count = ap length logged_l in let all = length-map (entries ++ ending l ∷ []) final_of in let number = length-append entries (ending l ∷ []) in
        omega (arith, some, count, all, number)

    pub drawn : d.log.phase ≡ Drawn
    drawn = ap (λ (p : Phase). (log_drawn p l.log).phase) open_l ∙ some_drawn l.log.records l.log.entries some_logged

    pub each_d : All (MayEnter d) entries
    each_d = subst (All (MayEnter d)) (sym c.are)
        (All-append (MayEnter d) (map entry_of actions) (entries_of v.lanes blocks) (sets_at v l op n actions call_l c.may_set)
        (All-weaker (EntersHeap v) (MayEnter d) (λ e h. heap_at l op n e (heap_kept v l e call_l outside_l h)) (entries_of v.lanes blocks) c.enters_heap))

    entered : AreEntered d (entries ++ ending d ∷ [])
    entered = record {
      front = entries;
      are = refl;
      each = each_d;
      logged = ap (λ (p : Phase). (log_drawn p l.log).entries) open_l ∙ logged_l;
      most = (let number = length-append entries (ending d ∷ []) in let most = c.few in omega (arith, number, most));
    }

    pub ready_to_perform : IsReadyToPerform d (entries ++ ending d ∷ [])
    ready_to_perform = record {
      place =
          (let lane_is = call_l.lane.lane in let lanes = call_l.lane.lanes in let size = call_l.lane.size in
          let area = c.working.area in let low = area.lane in let first = area.few in let inside = area.inside in
          record { lane = omega (arith, lane_is, lanes, low); few = omega (arith, lane_is, first); inside = omega (arith, lane_is, size, inside) });
      drawn = drawn;
      drained = drained_l;
      below = below_l;
      entered = entered;
    }

    done : Ready d (performs_logged entries d) × IsPerformed d w
    unfolding performs_logged
    done = perform_lawful d (entries ++ ending d ∷ []) ready_to_perform

    pub performed : IsPerformed d w
    performed = done.1

    same_entries_w : length w.entries ≤ length d.entries
    same_entries_w = let e = ap length performed.call.entries in omega (arith, e)

    pub leads_d : Leads d (performs_logged entries d) w
    leads_d = ready_leads d (performs_logged entries d) done.0 (drawless d (performs_logged entries d) same_entries_w)

    -- so the lane works alone up to there, where it makes no more calls behind the draw than it may
    pub works_to : (more : List Step) (x : View) → Leads d more x → ForSome x.stop (λ stop. x.calls ≤ stop) → WorksAlone o header pool start (steps ++ steps_to_draw v op entries) u
    works_to more x leads within =
        let grows : Grows d x = grows_along d more x leads in
        record {
          begins = c.works.begins;
          leads = leads_then start v u steps (steps_to_draw v op entries) c.works.leads leads_to;
          numbered = subst (AreNumbered 1) (sym call_l.entries) c.works.numbered;
          within = fewer_within u.stop x.stop u.calls x.calls grows.stop grows.calls within;
        }
