-- A call that publishes: its log is written, it is told and draws its number, the log is performed, and then it is over.
use Rattle.std.proofs.Common.{◌≡◌, ◌⊎◌, ⊎_elim, true, ℕ, ◌*◌, ◌/◌, ◌≤◌, not, inl, inr, List, [], ◌∷◌, ◌++◌, All, Any, IsTrue, length, length-append, map, take, None, Some, refl, sym, ap, ◌∙◌, subst, arith, false, ◌||◌}
use Rattle.std.specs.List.{filter, list_any, Contains}
use Rattle.std.proofs.lemmas.Bool.{cases_Bool, cond-false, cond-true, or_left, or_right}
use Rattle.std.proofs.lemmas.List.{length-map}
use Rattle.std.proofs.lemmas.List.Elements.{All-head, All-tail, All-weaker}
use Rattle.solo_crash.specs.Operations.{Tells}
use Rattle.pm_objects.specs.declared.calls.Operation.{Operation}
use Rattle.pm_record.specs.declared.redo.Redo.{Redo}
use Rattle.solo_redo.proofs.Logged.{log_lawful}
use Rattle.solo_redo.proofs.Performed.{perform_lawful}
use Rattle.solo_redo.specs.Entering.{AreEntered, HasLogged, IsOfPool, IsPerformed, IsReadyToPerform, ending, final_of, MayEnter}
use Rattle.solo_redo.specs.Sequences.{ending_of, logs}
use Rattle.solo_undo.proofs.Areas.{generation_in_area}
use Rattle.solo_view.proofs.SameLane.{same_lane-then}
use Rattle.solo_view.proofs.Sequences.{after_all-append}
use Rattle.solo_view.specs.Area.{area_word, is_in_area}
use Rattle.solo_view.specs.Constants.{IsSameLane}
use Rattle.solo_view.specs.Log.{Final, Phase, Recorded, log_drawn, phase_drawn}
use Rattle.solo_view.specs.Log.Phase.{Drawn}
use Rattle.solo_view.specs.Rights.{is_written}
use Rattle.solo_view.specs.Steps.{Step}
use Rattle.solo_view.specs.Steps.Step.{Draw, NumberSeen, Tell}
use Rattle.solo_view.specs.View.{Lock, Numbered, Told, View}
use Rattle.solo_view.specs.Views.{after, after_all, changes_heap, unallocated}
use Rattle.solo_redo.proofs.Whole.{entered_own, may_outside, own_plain_log}
use Rattle.solo_view.specs.Founds.{IsAlone}
use Rattle.solo_view.specs.Held.{is_held, is_reserved, is_under}
use Rattle.solo_world.proofs.Sequencing.{ready_both}
use Rattle.solo_world.proofs.StepGive.{contains-filter}
use Rattle.solo_world.proofs.Stored.{written_under}
use Rattle.solo_world.specs.Lanes.{last_number_of}
use Rattle.solo_world.specs.Lawful.{MayDraw, MayTell}
use Rattle.solo_world.specs.Sequences.{Ready, in_turn, one}
use Rattle.solo_lock.proofs.Drawless.{drawless, drawn_in_turn}
use Rattle.solo_lock.specs.Leading.{DrawEnded}
use Rattle.solo_tx.proofs.BorneOut.{whole_ended}
use Rattle.solo_tx.proofs.Fronts.{front_drawn, front_undrawn}
use Rattle.solo_tx.proofs.GivenUp.{last_behind}
use Rattle.solo_tx.proofs.GoingOn.{enters_on, knows_on, of_pool_on}
use Rattle.solo_tx.specs.Ending.{IsDrawnBy, IsOver, IsUndrawn, drawn_more, told_more}
use Rattle.solo_tx.specs.Publishing.{IsWholeOnceLogged, MayPublish, TellsLogged, logged_view, published_view}
use Rattle.solo_tx.specs.Sequences.{ends_call, performs_logged, publishes}
use Rattle.solo_world.proofs.StorePair.{final_word}

-- where each is of a word that the lane locked for writing, one of the entries at least is
any_written : (v : View) (entries more : List Redo) → 1 ≤ length entries → All (IsOfPool v) entries → Any (λ (f : Final). IsTrue (is_written v f.word)) (map final_of (entries ++ more))
any_written v [] more some each = absurd (omega (arith, some))
any_written v (e ∷ entries) more some each =
    (0, final_of e, omega arith, refl, subst (λ w. IsTrue (is_written v w)) (sym (final_word e.op (e.place / 8) e.value)) (All-head (IsOfPool v) e entries each).own)

-- of these and the one that ends the generation, these are of the pool
pool_of : (v : View) (entries : List Redo) → All (MayEnter v) entries → filter (λ (f : Final). not (is_in_area v.lane f.word)) (map final_of (entries ++ ending v ∷ [])) ≡ map final_of entries
pool_of v [] each =
    let word : 8 * area_word v.lane / 8 ≡ area_word v.lane = omega arith in
    cond-false (not (is_in_area v.lane (8 * area_word v.lane / 8))) (final_of (ending v) ∷ []) []
    (ap (λ (w : ℕ). not (is_in_area v.lane w)) word ∙ ap not (generation_in_area v.lane))
pool_of v (e ∷ entries) each =
    let rest : List Final = filter (λ (f : Final). not (is_in_area v.lane f.word)) (map final_of (entries ++ ending v ∷ [])) in
    cond-true (not (is_in_area v.lane (final_of e).word)) (final_of e ∷ rest) rest
    (ap (λ w. not (is_in_area v.lane w)) (final_word e.op (e.place / 8) e.value) ∙ ap not (may_outside v e (All-head (MayEnter v) e entries each)))
    ∙ ap (λ (fs : List Final). final_of e ∷ fs) (pool_of v entries (All-tail (MayEnter v) e entries each))

-- a call with entries is still to be decided
pub some_drawn : (records : List Recorded) (entries : List Final) → 1 ≤ length entries → phase_drawn records entries ≡ Drawn
some_drawn records [] some = absurd (omega (arith, some))
some_drawn [] (f ∷ entries) some = refl
some_drawn (r ∷ records) (f ∷ entries) some = refl

module _ (v : View) (entries : List Redo) (may : MayPublish v entries) where
  abbrev m : View
  m = logged_view v entries

  pub written : Ready v (logs entries v) × HasLogged v entries (logged_view v entries)
  written = log_lawful v entries may.ready may.few may.each

  -- while they are logged nothing is drawn
  pub logging_undrawn : (k : ℕ) → IsUndrawn v (after_all v (take k (logs entries v)))
  logging_undrawn k = front_undrawn v (logs entries v) k (let e = ap length written.1.call.entries in omega (arith, e)) may.ready.entering.undrawn

  logged : m.log.entries ≡ map final_of (entries ++ ending v ∷ [])
  logged = written.1.entered.logged

  pub some_logged : 1 ≤ length m.log.entries
  some_logged =
      let count = ap length logged in
      let all = length-map (entries ++ ending v ∷ []) final_of in
      let number = length-append entries (ending v ∷ []) in
      omega (arith, count, all, number)

  same_ending : ending v ≡ ending m
  same_ending = sym (λ j. ending_of (written.1.call.lane.lane j) (written.1.generation j))

  module _ (operation : Operation) where
    abbrev told : View
    told = after m (Tell operation None)

    told_lane : IsSameLane v told
    told_lane = let l = written.1.call.lane in record { lanes = l.lanes; zones = l.zones; pool = l.pool; lane = l.lane; stop = l.stop; table = l.table; size = l.size }

    told_entered : AreEntered told (entries ++ ending told ∷ [])
    told_entered = record {
      front = entries;
      are = refl;
      each = All-weaker (MayEnter v) (MayEnter told) (enters_on v told told_lane written.1.call.locks (λ u own there. written.1.call.remembers u there) written.1.outside) entries may.each;
      logged = logged ∙ ap (λ (e : Redo). map final_of (entries ++ e ∷ [])) same_ending;
      most = (let number = length-append entries (ending told ∷ []) in let few = may.few in omega (arith, number, few));
    }

    -- one of the entries at least changes the pool
    changes_pool : Any (λ (f : Final). IsTrue (is_written told f.word)) told.log.entries ⊎ IsTrue (changes_heap told)
    unfolding told_entered
    changes_pool = ⊎_elim
        (λ (own : All (IsOfPool told) entries). inl (subst (Any (λ (f : Final). IsTrue (is_written told f.word))) (sym logged) (any_written told entries (ending v ∷ []) may.some own)))
        (λ (heap : IsAlone told × (changes_heap told ≡ true)). inr heap.1) (entered_own told (entries ++ ending told ∷ []) told_entered)

    may_draw : MayDraw told
    may_draw = record {
      is_open = written.1.is_open;
      first = written.1.call.number ∙ may.ready.entering.undrawn;
      drained = inl written.1.drained;
      found = may.may_come.found;
      seen = written.1.call.seen (NumberSeen may.may_come.found) may.may_come.seen;
      below = may.may_come.below;
      entered = inr changes_pool;
    }

    pub end_ready : (n : ℕ) → Ready m (ends_call operation None n m)
    unfolding ends_call in_turn one Ready after_all
    end_ready n = (subst (λ (phase : Phase). MayTell phase) (sym written.1.is_open) tt, tt, (may_draw, tt, tt))

    tells : Tells v told operation None
    tells =
        let lane = written.1.call.lane in
        record {
          keeps = record { lanes = lane.lanes; zones = lane.zones; pool = lane.pool; lane = lane.lane; entries = written.1.call.entries; known = written.1.call.remembers };
          locks = written.1.call.locks;
          call = ap (λ (call : List Told). call ++ record { operation = operation; reply = None } ∷ []) written.1.call.call;
        }

    tells_logged : TellsLogged v told entries operation
    tells_logged = record {
      tells = tells;
      records = written.1.records;
      words = record { words = written.1.outside };
      logged =
          (λ j. filter (λ (f : Final). not (is_in_area (written.1.call.lane.lane j) f.word)) (logged j))
          ∙ pool_of v entries may.each;
      reserved = written.1.call.reserved;
    }

    -- where each entry is of a word that the lane locked, none of them changes the heap
    told_plain : All (IsOfPool v) entries → changes_heap told ≡ false
    unfolding told_entered
    told_plain own = own_plain_log told (entries ++ ending told ∷ []) told_entered
        (All-weaker (IsOfPool v) (IsOfPool told) (λ e is. of_pool_on v told told_lane written.1.call.locks e is (knows_on v told written.1.call.remembers written.1.outside e is)) entries own)

    end_drawn : All (IsOfPool v) entries → IsWholeOnceLogged v entries operation → (n : ℕ) → DrawEnded m (ends_call operation None n m)
    unfolding ends_call in_turn one DrawEnded after_all
    end_drawn own whole n = (tt, ((whole_ended told (whole told tells_logged), told_plain own), tt))

    module _ (n : ℕ) where
      abbrev drawn : View
      drawn = after told (Draw n)

      abbrev d : View
      d = published_view v entries operation n

      is_drawn : d ≡ drawn
      unfolding ends_call in_turn one after_all
      is_drawn = refl

      lane_drawn : IsSameLane v drawn
      lane_drawn = let l = written.1.call.lane in record { lanes = l.lanes; zones = l.zones; pool = l.pool; lane = l.lane; stop = l.stop; table = l.table; size = l.size }

      -- the words under its locks that it knew it knows behind the draw, by which it no longer holds what it allocates
      remembers_drawn : (u : ℕ) → is_written v u ≡ true → Contains v.known u → Contains drawn.known u
      remembers_drawn u own there =
          let left : View = record told { reserved = unallocated told } in
          let known = written.1.call.remembers u there in
          let under : list_any (is_under u) left.locks ≡ true = subst (λ (locks : List Lock). list_any (is_under u) locks ≡ true) (sym written.1.call.locks) (written_under v.locks u own) in
          let held : is_held left u ≡ true =
          or_left (is_in_area left.lane u || list_any (is_under u) left.locks) (is_reserved left u) (or_right (is_in_area left.lane u) (list_any (is_under u) left.locks) under) in
          ⊎_elim
          (λ (heap : changes_heap told ≡ true).
          subst (λ known. Contains known u) (sym (cond-true (changes_heap told) (filter (is_held left) told.known) told.known heap)) (contains-filter (is_held left) told.known u known held))
          (λ (plain : changes_heap told ≡ false). subst (λ known. Contains known u) (sym (cond-false (changes_heap told) (filter (is_held left) told.known) told.known plain)) known)
          (cases_Bool (changes_heap told))

      entered : AreEntered drawn (entries ++ ending drawn ∷ [])
      entered = record {
        front = entries;
        are = refl;
        each = All-weaker (MayEnter v) (MayEnter drawn) (enters_on v drawn lane_drawn written.1.call.locks remembers_drawn written.1.outside) entries may.each;
        logged = ap (λ (p : Phase). (log_drawn p m.log).entries) written.1.is_open ∙ (logged ∙ ap (λ (e : Redo). map final_of (entries ++ e ∷ [])) same_ending);
        most = (let number = length-append entries (ending drawn ∷ []) in let few = may.few in omega (arith, number, few));
      }

      ready_to_perform : IsReadyToPerform drawn (entries ++ ending drawn ∷ [])
      ready_to_perform = record {
        place =
            (let l = written.1.call.lane in let lane = l.lane in let lanes = l.lanes in let size = l.size in
            let low = may.place.lane in let few = may.place.few in let inside = may.place.inside in
            record { lane = omega (arith, lane, lanes, low); few = omega (arith, lane, few); inside = omega (arith, lane, size, inside) });
        drawn = ap (λ (p : Phase). (log_drawn p m.log).phase) written.1.is_open ∙ some_drawn m.log.records m.log.entries some_logged;
        drained = written.1.drained;
        below = (let same = written.1.generation in let below = may.ready.entering.area.below in omega (arith, same, below));
        entered = entered;
      }

      drawn_last : IsDrawnBy v drawn operation None n
      drawn_last = (
        ap (λ (call : List Told). told_more call operation None) written.1.call.call,
        record { number = refl; entries = ap (λ (entries : List Numbered). drawn_more entries n told.call) written.1.call.entries },
      )

      over_then : (w : View) → IsPerformed drawn w → IsOver v w n
      over_then w done = record {
        lane = same_lane-then v drawn w lane_drawn done.call.lane;
        locks = done.call.locks ∙ written.1.call.locks;
        log = done.log;
        drained = done.drained;
        number = done.call.number;
        last = ap last_number_of done.call.entries ∙ last_behind m.entries (record { number = n; call = told.call });
      }

      last_then : (w : View) → w.number ≡ Some n → w.entries ≡ drawn.entries → w.call ≡ drawn.call → IsDrawnBy v w operation None n
      last_then w number entries call = (
        call ∙ drawn_last.0,
        record { number = number; entries = entries ∙ (drawn_last.1.entries ∙ ap (λ (told : List Told). drawn_more v.entries n told) (sym call)) },
      )

      -- what comes behind the draw
      abbrev tail : View → List Step
      tail u = performs_logged entries u

      done_drawn : Ready drawn (tail drawn) × IsPerformed drawn (after_all drawn (tail drawn))
      unfolding performs_logged
      done_drawn = perform_lawful drawn (entries ++ ending drawn ∷ []) ready_to_perform

      front_so : (k : ℕ) → IsDrawnBy v (after_all drawn (take k (tail drawn))) operation None n
      front_so k =
          let call = done_drawn.1.call in
          let stays = front_drawn drawn (tail drawn) k n (let e = ap length call.entries in omega (arith, e)) call.number (let e = ap length call.call in omega (arith, e)) in
          last_then (after_all drawn (take k (tail drawn))) stays.0 stays.1 stays.2

      -- behind the draw the call's entry is the last, wherever the lane stops
      pub performing_drawn : (k : ℕ) → IsDrawnBy v (after_all (published_view v entries operation n) (take k (performs_logged entries (published_view v entries operation n)))) operation None n
      performing_drawn k = subst (λ (u : View). IsDrawnBy v (after_all u (take k (tail u))) operation None n) (sym is_drawn) (front_so k)

      abbrev IsTail : View → Type 0
      IsTail u = Ready u (tail u) × IsOver v (after_all u (tail u)) n × IsDrawnBy v (after_all u (tail u)) operation None n × (length (after_all u (tail u)).entries ≤ length u.entries)

      whole_tail : IsTail d
      whole_tail = subst IsTail (sym is_drawn) (
          let call = done_drawn.1.call in
          (done_drawn.0, over_then (after_all drawn (tail drawn)) done_drawn.1, last_then (after_all drawn (tail drawn)) call.number call.entries call.call, (let e = ap length call.entries in omega (arith, e)))
          )

      abbrev first : List Step
      first = logs entries v

      abbrev ends : List Step
      ends = ends_call operation None n m

      -- so the log may be performed
      pub perform_may : IsReadyToPerform (published_view v entries operation n) (entries ++ ending (published_view v entries operation n) ∷ [])
      perform_may = subst (λ (u : View). IsReadyToPerform u (entries ++ ending u ∷ [])) (sym is_drawn) ready_to_perform

      pub perform_ready : Ready (published_view v entries operation n) (performs_logged entries (published_view v entries operation n))
      perform_ready = whole_tail.0

      pub ending_behind : ending (published_view v entries operation n) ≡ ending v
      ending_behind = ap ending is_drawn ∙ sym same_ending

      -- where all of it ends
      there : after_all v (publishes entries operation n v) ≡ after_all d (tail d)
      unfolding publishes in_turn
      there = after_all-append v first (ends ++ tail d) ∙ after_all-append m ends (tail d)

      pub publish_lawful : Ready v (publishes entries operation n v) × IsOver v (after_all v (publishes entries operation n v)) n
      unfolding publishes in_turn
      publish_lawful = (
        ready_both v first (ends ++ tail d) written.0 (ready_both m ends (tail d) (end_ready n) whole_tail.0),
        subst (λ (w : View). IsOver v w n) (sym there) whole_tail.1,
      )

      pub publish_last : IsDrawnBy v (after_all v (publishes entries operation n v)) operation None n
      publish_last = subst (λ (w : View). IsDrawnBy v w operation None n) (sym there) whole_tail.2

      pub publish_drawn : All (IsOfPool v) entries → IsWholeOnceLogged v entries operation → DrawEnded v (publishes entries operation n v)
      unfolding publishes in_turn
      publish_drawn own whole =
          drawn_in_turn v first (ends ++ tail d) (drawless v first (let e = ap length written.1.call.entries in omega (arith, e)))
          (drawn_in_turn m ends (tail d) (end_drawn own whole n) (drawless d (tail d) whole_tail.3))
