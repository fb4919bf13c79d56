-- THE PENDING WORDS ARE SET by one log, or the number alone is taken where there is none; then the
-- locks are given back.
use Rattle.std.proofs.Common.{◌≡◌, ◌≢◌, ℕ, suc, ◌+◌, ◌≤◌, true, List, [], ◌∷◌, ◌++◌, length, map, refl, sym, ap, ◌∙◌, subst, arith, None, Result, Ok, Err}
use Rattle.std.specs.List.{AllByRecursion}
use Rattle.std.proofs.lemmas.List.{length-map}
use Rattle.pm_memory.specs.declared.lane_mem.Stopped.{Stopped}
use Rattle.pm_model.specs.Pending.{SetWord}
use Rattle.pm_objects.specs.declared.calls.Operation.TheVariants.{Publish}
use Rattle.pm_objects.specs.declared.refusal.Refusal.{Refusal}
use Rattle.pm_objects.specs.declared.refusal.Refusal.TheVariants as refusal
use Rattle.pm_record.specs.declared.redo.Redo.{Redo}
use Rattle.pm_view.specs.View.{View}
use Rattle.pm_view.specs.Views.{after_all}
use Rattle.pm_world.specs.LaneFields.{Fields, Rests, Standing, at_rest, fields_of, listed}
use Rattle.pm_world.specs.declared.lane.Lane.{Lane}
use Rattle.pm_world.specs.declared.lane.PendingAction.{PendingAction}
use Rattle.pm_lock.specs.Holding.{MayGiveAll}
use Rattle.pm_lock.specs.Locking.{GivenBack, Stands}
use Rattle.pm_plan.specs.Plans.{IsMade, Plan, Ready, Runs, in_turn, one}
use Rattle.pm_redo.specs.Calls.{MayLog}
use Rattle.pm_undo.specs.Records.{with_log}
use Rattle.pm_call.specs.At.{set_entry}
use Rattle.pm_call.specs.Did.{next}
use Rattle.pm_call.specs.Entering.{HasPlace, entries_of}
use Rattle.pm_call.specs.Finishing.{CanLogCall, FinishedAs, FinishedEntries, StandsAs, TellsNumber}
use Rattle.pm_call.specs.GivenUp.{MayEnd}
use Rattle.pm_call.specs.Plans.{ends_call, logs_entries}
use Rattle.pm_call.specs.Publications.{HoldsWords, LeavesPublished, SeesWords, publishes, wants_to_set}
use Rattle.pm_call.specs.Publishing.{words_pending}
use Rattle.pm_call.specs.Waiting.{listed_set}
use Rattle.pm_call.proofs.EnteredWords.{entries_are, have_places}
use Rattle.pm_call.proofs.HeldWords.{as_begun, begun_at, none_entered}
use Rattle.pm_call.proofs.LonePublications.{can, can_log, publications_may_be_made}
use Rattle.pm_call.proofs.PendingLooks.{begun_words}
use Rattle.pm_call.specs.PublicationParts.{IsHolding, PublishWasCut, WasPublishedOutside, WordsSet}
use Rattle.pm_call.proofs.UnwrittenPublishes.{publishes_unwritten}
use Rattle.pm_call.proofs.RefusedPublishes.{between, may_unlock, unlocks}

none_mapped : (ws : List SetWord) → length (map set_entry ws) ≡ 0 → ws ≡ []
none_mapped [] e = refl
none_mapped (a ∷ ws) e = absurd (omega (arith, e))

publishes_some : (ws : List SetWord) (found : ℕ → ℕ) (n : ℕ) → length (map set_entry ws) ≢ 0
    → logs_entries Publish (map set_entry ws) found n ≡ publishes ws found n
publishes_some [] found n some = absurd (some refl)
publishes_some (a ∷ ws) found n some = refl

module _ {M : Type 0} (at : M → View → Type 0) (old : Lane M) where
  module _ (s : Standing) (rests : Rests at old s) (h : HoldsWords s) where
    pub listed_words : old.pending.items ≡ map listed_set (words_pending s)
    listed_words = ap (λ (f : Fields). f.pending) rests.fields
        ∙ ((begun_at s h).pending.lists ∙ ap (λ ws. map listed_set ws) (begun_words s h))

    none_listed : old.entries.items ≡ []
    none_listed = ap (λ (f : Fields). f.entries) rests.fields ∙ none_entered s h

    pub few_words : length (words_pending s) ≤ 63
    few_words = subst (λ (ws : List SetWord). length ws ≤ 63) (begun_words s h)
        (begun_at s h).pending.few

  pub enter_room : IsHolding at old SeesWords
      → length old.entries.items + length old.pending.items ≤ 64
  enter_room is =
      let none = ap length (none_listed is.standing is.rests is.holding) in
      let many = ap length (listed_words is.standing is.rests is.holding)
      ∙ length-map (words_pending is.standing) listed_set in
      let few = few_words is.standing is.rests is.holding in
      omega (arith, none, many, few)

  pub enter_places : IsHolding at old SeesWords → AllByRecursion HasPlace old.pending.items
  enter_places is =
      let s = is.standing in
      let h = is.holding in
      let g = as_begun (wants_to_set h.before) s in
      subst (AllByRecursion HasPlace) (sym (listed_words s is.rests h))
      (subst (λ (ws : List SetWord). AllByRecursion HasPlace (map listed_set ws)) (begun_words s h)
      (have_places g (begun_at s h) (words_pending g) (can s h is.holds).each))

  -- ---- the words are entries
  module _ (mid : Lane M) (entries : List Redo) (pending : List PendingAction)
      (memory : mid.memory ≡ old.memory)
      (same : fields_of mid ≡ record (fields_of old) { entries = entries; pending = pending })
      (entered : entries ≡ old.entries.items ++ entries_of old.pending.items)
      (left : pending ≡ []) where
    module _ (s : Standing) (rests : Rests at old s) (h : HoldsWords s) (sees : SeesWords s) where
      abbrev words : List SetWord
      words = words_pending s

      law : (found : ℕ → ℕ) (n : ℕ) → LeavesPublished s found n
      law found n = publications_may_be_made s found n h sees

      are_entries : entries ≡ map set_entry (words_pending s)
      are_entries = entered
          ∙ ((λ i. none_listed s rests h i ++ entries_of (listed_words s rests h i))
          ∙ entries_are words)

      mid_entries : mid.entries.items ≡ map set_entry (words_pending s)
      mid_entries = ap (λ (f : Fields). f.entries) same ∙ are_entries

      seen : at mid.memory s.view
      seen = subst (λ m. at m s.view) (sym memory) rests.memory

      mid_fields : fields_of mid ≡ record (at_rest s) { entries = entries; pending = [] }
      mid_fields = same ∙ (λ i. record (rests.fields i) { entries = entries; pending = left i })

      tells : TellsNumber mid s.view
      tells = record {
        drawn = ap (λ (f : Fields). f.drawn) mid_fields ∙ sym (begun_at s h).number.none;
        last = ap (λ (f : Fields). f.last) mid_fields;
      }

      -- ---- there is none
      module _ (empty : length mid.entries.items ≡ 0) where
        none : words_pending s ≡ []
        none = none_mapped words (sym (ap length mid_entries) ∙ empty)

        plan_none : (n : ℕ) → publishes words (λ i. 0) n ≡ ends_call Publish None n
        plan_none n = ap (λ ws. publishes ws (λ i. 0) n) none

        may_number : (n : ℕ) → Ready s.view (ends_call Publish None n s.view)
        may_number n = subst (λ (p : Plan). Ready s.view (p s.view)) (plan_none n)
            (law (λ i. 0) n).ready

        rests_then : (n : ℕ) → at_rest (next s (ends_call Publish None n))
            ≡ record (at_rest s) { pending = []; last = suc n }
        unfolding in_turn one after_all
        rests_then n = refl

        rests_numbered : (new : Lane M) (n : ℕ)
            → IsMade (at mid.memory) (at new.memory) (ends_call Publish None n)
            → fields_of new ≡ record (fields_of mid) { last = n + 1 }
            → Rests at new (next s (publishes words (λ i. 0) n))
        unfolding Runs
        rests_numbered new n made fields =
            subst (λ (p : Plan). Rests at new (next s p))
            (sym (plan_none n)) (record {
              memory = made s.view seen (may_number n);
              fields = fields
                  ∙ ((λ i. record (mid_fields i)
                  { last = (let z : n + 1 ≡ suc n = omega arith in z) i })
                  ∙ ((λ i. record (at_rest s) {
                    entries = (are_entries ∙ (ap (map set_entry) none ∙ sym (none_entered s h))) i;
                    pending = [];
                    last = suc n;
                  })
                  ∙ sym (rests_then n)));
            })

      -- ---- or a log is written of all
      can_log_mid : CanLogCall s.view Publish mid.entries.items
      can_log_mid = subst (CanLogCall s.view Publish) (sym mid_entries) (can_log s h sees)

      may_log : MayLog at mid mid.log.generation s.view
      may_log = record {
        memory = seen;
        shape = ap (λ (f : Fields). f.shape) mid_fields;
        generation_ = ap (λ (f : Fields). f.generation) mid_fields;
        can = can_log_mid.logs;
      }

      module _ (some : length mid.entries.items ≢ 0) where
        plan_some : (found : ℕ → ℕ) (n : ℕ)
            → logs_entries Publish mid.entries.items found n ≡ publishes words found n
        plan_some found n = ap (λ es. logs_entries Publish es found n) mid_entries
            ∙ publishes_some words found n (λ e. some (ap length mid_entries ∙ e))

        finished_as : (new : Lane M) (result : Result (Unit {0}) Stopped)
            → (f : FinishedEntries at Publish mid new result) → (found : ℕ → ℕ) × (n : ℕ)
            × FinishedAs at mid new (publishes words found n) n s.view result
        unfolding FinishedEntries
        finished_as new result f = (
          f.0,
          f.1,
          subst (λ (p : Plan). FinishedAs at mid new p f.1 s.view result) (plan_some f.0 f.1)
              (f.2 s.view may_log can_log_mid),
        )

        rests_logged : (new : Lane M) (found : ℕ → ℕ) (n : ℕ)
            → FinishedAs at mid new (publishes words found n) n s.view (Ok tt)
            → Rests at (record new { drawn = None }) (next s (publishes words found n))
        rests_logged new found n f =
            let l = law found n in
            let w : View = after_all s.view (publishes words found n s.view) in record {
              memory = f.memory;
              fields = ap (λ (g : Fields). record g { drawn = None }) f.fields
                  ∙ ((λ i. record (with_log w (mid_fields i))
                  { entries = []; drawn = None; last = n + 1 })
                  ∙ (λ i. record (with_log w (at_rest s)) {
                    pool = (sym l.fixed i).pool;
                    entries = (sym (none_entered s h)) i;
                    pending = listed (sym l.pending i);
                    drawn = None;
                    last = ((let z : n + 1 ≡ suc n = omega arith in z) ∙ sym l.number) i;
                  }));
            }

        cut : (new : Lane M) (stopped : Stopped) (found : ℕ → ℕ) (n : ℕ)
            → FinishedAs at mid new (publishes words found n) n s.view (Err stopped)
            → PublishWasCut at (record new { stopped = true }) s
        cut new stopped found n f =
            let l = law found n in record {
              found = found;
              number = n;
              passes = l.passes;
              ready = l.ready;
              stops = record {
                made = f.made;
                fewer = f.fewer;
                seen = f.seen.0;
                stopped = f.stopped;
                due = f.due;
              };
              numbered = let t = f.seen.1.numbered tells in
                  record { drawn = t.drawn; last = t.last };
              fields = ap (λ (g : Fields). record g { stopped = true }) f.seen.1.same
                  ∙ (λ i. record (mid_fields i) {
                    generation = new.log.generation;
                    records = new.log.records.items;
                    entries = new.entries.items;
                    drawn = new.drawn;
                    last = new.last;
                    stopped = true;
                  });
              facts = l.over.facts;
              unwritten = publishes_unwritten s (begun_at s h).working words found n f.made
                  (can_log s h sees).logs.few l.ready;
            }

      -- ---- the locks are given back
      done : (lane : Lane M) (found : ℕ → ℕ) (n : ℕ)
          → Rests at lane (next s (publishes words found n)) → (new : Lane M)
          → GivenBack at lane new → WasPublishedOutside at new s
      done lane found n r new gave =
          let l = law found n in
          let t = next s (publishes words found n) in record {
            found = found;
            number = n;
            passes = l.passes;
            ready = l.ready;
            rests = unlocks at lane t r l.over new gave;
            between = between at lane t r l.over (none_entered s h);
          }

    -- ---- SO IT IS, whatever the lane may be seen as

    pub may_end : IsHolding at old SeesWords → length mid.entries.items ≡ 0
        → MayEnd (at mid.memory) Publish None
    unfolding MayEnd
    may_end is empty = (
      is.standing.view,
      seen is.standing is.rests is.holding is.holds,
      λ n. may_number is.standing is.rests is.holding is.holds empty n,
    )

    pub may_finish : IsHolding at old SeesWords
        → StandsAs (MayLog at mid mid.log.generation)
        (λ v. CanLogCall v Publish mid.entries.items)
    may_finish is = (
      is.standing.view,
      may_log is.standing is.rests is.holding is.holds,
      can_log_mid is.standing is.rests is.holding is.holds,
    )

    module _ (new : Lane M) where
      pub give_numbered : IsHolding at old SeesWords → length mid.entries.items ≡ 0 → (n : ℕ)
          → IsMade (at mid.memory) (at new.memory) (ends_call Publish None n)
          → fields_of new ≡ record (fields_of mid) { last = n + 1 }
          → Stands at new (λ v. MayGiveAll v new.locks.items)
      give_numbered is empty n made fields =
          let s = is.standing in
          may_unlock at new (next s (publishes (words_pending s) (λ i. 0) n))
          (rests_numbered s is.rests is.holding is.holds empty new n made fields)
          (law s is.rests is.holding is.holds (λ i. 0) n).over

      pub give_logged : IsHolding at old SeesWords → length mid.entries.items ≢ 0
          → FinishedEntries at Publish mid new (Ok tt)
          → Stands at (record new { drawn = None }) (λ v. MayGiveAll v new.locks.items)
      give_logged is some f =
          let s = is.standing in
          let r = finished_as s is.rests is.holding is.holds some new (Ok tt) f in
          may_unlock at (record new { drawn = None }) (next s (publishes (words_pending s) r.0 r.1))
          (rests_logged s is.rests is.holding is.holds some new r.0 r.1 r.2)
          (law s is.rests is.holding is.holds r.0 r.1).over

      pub set_numbered : length mid.entries.items ≡ 0 → (n : ℕ)
          → IsMade (at mid.memory) (at new.memory) (ends_call Publish None n)
          → fields_of new ≡ record (fields_of mid) { last = n + 1 } → (last : Lane M)
          → GivenBack at new last → WordsSet at old last (Ok tt)
      unfolding WordsSet
      set_numbered empty n made fields last gave s rests h sees =
          done s rests h sees new (λ i. 0) n
          (rests_numbered s rests h sees empty new n made fields) last gave

      pub set_logged : length mid.entries.items ≢ 0 → FinishedEntries at Publish mid new (Ok tt)
          → (last : Lane M) → GivenBack at (record new { drawn = None }) last
          → WordsSet at old last (Ok tt)
      unfolding WordsSet
      set_logged some f last gave s rests h sees =
          let r = finished_as s rests h sees some new (Ok tt) f in
          done s rests h sees (record new { drawn = None }) r.0 r.1
          (rests_logged s rests h sees some new r.0 r.1 r.2) last gave

      pub set_cut : length mid.entries.items ≢ 0 → (stopped : Stopped)
          → FinishedEntries at Publish mid new (Err stopped) → (why : Refusal)
          → why ≡ refusal.Stopped → (last : Lane M) → last ≡ record new { stopped = true }
          → WordsSet at old last (Err why)
      unfolding WordsSet
      set_cut some stopped f why is last same s rests h sees =
          subst (λ (r : Refusal). Rattle.pm_call.specs.PublicationParts.WordsSetAs at last (Err r) s)
          (sym is) (subst (λ (l : Lane M). PublishWasCut at l s) (sym same)
          (let r = finished_as s rests h sees some new (Err stopped) f in
          cut s rests h sees some new stopped r.0 r.1 r.2))
