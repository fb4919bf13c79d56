-- A WORD IS ASKED FOR: it is told, done or refused, and the lane is at work then.
use Rattle.std.proofs.Common.{◌≡◌, ℕ, ◌%◌, ◌^◌, ◌<◌, ◌==◌, nat_le, inl, inr, true, false, Contains, [], ◌∷◌, ◌++◌, length, not, refl, sym, ap, ◌∙◌, subst, arith, rules, eq-eqb, ne_eqb, None, Some, Result, Ok, Err}
use Rattle.std.proofs.lemmas.Bool.{false_from_ne_true, le-leb, leb-true}
use Rattle.pm_memory.specs.Runs.{Made}
use Rattle.pm_model.specs.Pending.{SetWord, max_actions, pending_count, with_set}
use Rattle.pm_model.specs.Refusals.{first_of}
use Rattle.pm_model.specs.Transaction.{idle}
use Rattle.pm_objects.specs.declared.calls.Operation.TheVariants.{SetValue}
use Rattle.pm_objects.specs.declared.history.Value.TheVariants.{Refused}
use Rattle.pm_objects.specs.declared.ids.Oid.{Oid}
use Rattle.pm_objects.specs.declared.refusal.Refusal.{Refusal}
use Rattle.pm_objects.specs.declared.refusal.Refusal.TheVariants as refusal
use Rattle.pm_view.specs.Steps.{Step}
use Rattle.pm_view.specs.Steps.Step.{Tell}
use Rattle.pm_view.specs.View.{Told, View}
use Rattle.pm_view.specs.Views.{after_all}
use Rattle.pm_world.specs.LaneFields.{Fields, Standing, Works, fields_of, listed, listed_as, moved}
use Rattle.pm_world.specs.Lawful.{Allowed}
use Rattle.pm_world.specs.declared.lane.Lane.{Lane}
use Rattle.pm_world.specs.declared.lane.PendingAction.TheVariants.{Set}
use Rattle.pm_crash.specs.Calls.{pending_of}
use Rattle.pm_crash.specs.OpenRuns.{no_pool}
use Rattle.pm_crash.specs.Looked.{Enters, refusal_by}
use Rattle.pm_crash.specs.Sim.{Sim, lists_of}
use Rattle.pm_crash.specs.SimOps.{LookedAt}
use Rattle.pm_crash.proofs.OpenRuns.{told_once_more}
use Rattle.pm_crash.proofs.SimFacts.{no_entries}
use Rattle.pm_crash.proofs.SimOps.{sim_extends, sim_refuses}
use Rattle.pm_crash.proofs.Telling.{no_root_is_asked, tells_grow}
use Rattle.pm_plan.specs.Plans.{Ready, one}
use Rattle.pm_call.specs.At.{At, AreLists, MaySet}
use Rattle.pm_call.specs.Did.{IsRefused, IsUnrefused, next, unseen, work_refusal}
use Rattle.pm_call.specs.Plans.{tells}
use Rattle.pm_call.specs.Waiting.{HasPending}
use Rattle.pm_call.proofs.AskedWords.{asked_now, asked_pending, count_is, listed_more}
use Rattle.pm_call.proofs.Noting.{all_map, data_told, told_at}
use Rattle.pm_call.proofs.RangeReads.{begun_more, keeps_same, lists_told}
use Rattle.pm_call.proofs.Staying.{now_told, pending_told}
use Rattle.pm_action.specs.Actions.{Asked, AskedSo, HasTold, IsTold, JudgedSet}

module _ (s : Standing) (id : Oid) (off value : ℕ) (at : At s) where
  abbrev v : View
  v = s.view

  -- ---- its first refusal

  enters : Enters v []
  enters = no_entries v (λ p e. let d = at.recorded p e in (d.object.block, d.index, d.at, d.within, inr (d.found, d.object.object.inside, d.data_)))

  looked : LookedAt v [] None (SetValue id off value)
  looked = record {
    enters = enters;
    sizes = λ other write among held stays. absurd (none_of other among);
    knows_root = no_root_is_asked v None (SetValue id off value) refl;
  }
    where
      none_of : (other : Oid) → Contains [] other → ⊥
      none_of other among = search rules

  first : refusal_by unseen v None (SetValue id off value) ≡ first_of ((refusal.Unaligned, not (off % 8 == 0)) ∷ (refusal.ActionsFull, nat_le max_actions (pending_count (lists_of v).pending)) ∷ [])
  first = refl

  many : length (listed v.actions) ≡ pending_count (lists_of v).pending
  many = count_is v at.pending ∙ ap pending_count (sym at.lists.pending)

  pub unrefused : JudgedSet off (length (listed v.actions)) (Ok tt) → IsUnrefused s (SetValue id off value)
  unfolding first_of
  unrefused is = record {
    looks = looked;
    none = first ∙ (λ i. first_of ((refusal.Unaligned, not (eq-eqb (off % 8) 0 is.0 i)) ∷ (refusal.ActionsFull, few i) ∷ []));
  }
    where
      few : nat_le max_actions (pending_count (lists_of v).pending) ≡ false
      few = false_from_ne_true (nat_le max_actions (pending_count (lists_of v).pending)) (λ e. let l = leb-true max_actions (pending_count (lists_of v).pending) e in let low = is.1 in let same = many in omega (arith, l, low, same))

  pub refused : (why : Refusal) → JudgedSet off (length (listed v.actions)) (Err why) → IsRefused s (SetValue id off value) why
  unfolding first_of
  refused refusal.Unaligned is = record {
    looks = looked;
    first = first ∙ (λ i. first_of ((refusal.Unaligned, not (ne_eqb (off % 8) 0 is i)) ∷ (refusal.ActionsFull, nat_le max_actions (pending_count (lists_of v).pending)) ∷ []));
  }
  refused refusal.ActionsFull is = record {
    looks = looked;
    first = first ∙ (λ i. first_of ((refusal.Unaligned, not (eq-eqb (off % 8) 0 is.0 i)) ∷ (refusal.ActionsFull, full i) ∷ []));
  }
    where
      full : nat_le max_actions (pending_count (lists_of v).pending) ≡ true
      full = le-leb max_actions (pending_count (lists_of v).pending) (let most = is.1 in let same = many in omega (arith, most, same))
  refused why is = absurd is

  -- ---- it is done

  abbrev t : Told
  t = record { operation = SetValue id off value; reply = None }

  abbrev u : View
  u = record v { call = v.call ++ t ∷ []; actions = v.actions ++ t ∷ []; published = v.published }

  abbrev word : SetWord
  word = record { id = id; off = off; value = value }

  lists_then : lists_of u ≡ record (lists_of v) { pending = with_set word (lists_of v).pending }
  lists_then = told_once_more v.call t (idle no_pool (pending_of v.entries))

  lists : AreLists (moved s u) s.level (lists_of u)
  lists = subst (AreLists (moved s u) s.level) (sym lists_then) (record {
    level_is = at.lists.level_is;
    works = at.lists.works;
    locks = at.lists.locks;
    count = at.lists.count;
    recorded = at.lists.recorded;
    records = at.lists.records;
    blocks = at.lists.blocks;
    pending = ap (with_set word) at.lists.pending ∙ sym (asked_now v id off value);
    sets = at.lists.sets;
    may_set = all_map (MaySet s) (MaySet (moved s u)) (lists_of v).sets (λ a m. record { locked = m.locked; aligned = m.aligned; size = m.size; sized = m.sized; inside = m.inside; small = m.small }) at.lists.may_set;
    error_is = at.lists.error_is;
  })

  pending_then : JudgedSet off (length (listed v.actions)) (Ok tt) → value < 2 ^ 64 → HasPending u
  pending_then is small = asked_pending v id off value is.0 is.1 small at.pending

  sim : IsUnrefused s (SetValue id off value) → Sim u []
  sim un = sim_extends v u [] [] None (record { operation = SetValue id off value; seen = unseen; reply = None }) at.sim
      (record { keeps = record { fixed = refl; entries = refl }; call = refl })
      (inr at.lists.works)
      (λ kept. tells_grow v (SetValue id off value) None kept)
      (record {
        leaves = refl;
        looks = un.looks;
        unrefused = un.none;
        replies = refl;
        enters = no_entries u (λ p e. let d = data_told v u.call u.actions u.published at.sound p (at.recorded p e) in (d.object.block, d.index, d.at, d.within, inr (d.found, d.object.object.inside, d.data_)));
        there = λ i d low. absurd (omega (arith, low));
        same = λ p b. inl refl;
      })

  stands : IsUnrefused s (SetValue id off value) → JudgedSet off (length (listed v.actions)) (Ok tt) → value < 2 ^ 64 → At (moved s u)
  stands un is small = told_at s s.level at [] v.changes v.calls v.log (keeps_same s s.level at) u.call u.actions u.published s.level at.some at.most (begun_more v.call t at.begun) lists (pending_then is small) (sim un)

  pub set_told : {M : Type 0} (of : M → View → Type 0) (lane : Lane M) → IsUnrefused s (SetValue id off value) → JudgedSet off (length (listed v.actions)) (Ok tt) → value < 2 ^ 64 → Works of lane (next s (tells (SetValue id off value) None)) → IsTold of lane s (SetValue id off value) None
  unfolding Ready one after_all
  set_told of lane un is small works = record { ready = (at.working.is_open, tt, tt); works = works; stands = stands un is small }

  -- ---- it is refused

  module _ (why : Refusal) (is : IsRefused s (SetValue id off value) why) where
    abbrev no : Told
    no = record { operation = SetValue id off value; reply = Some (Refused why) }

    abbrev w : View
    w = record v { call = v.call ++ no ∷ []; actions = v.actions; published = v.published }

    lists_same : lists_of w ≡ lists_of v
    lists_same = told_once_more v.call no (idle no_pool (pending_of v.entries))

    refused_sim : Sim w []
    refused_sim = sim_refuses v w [] [] None (record { operation = SetValue id off value; seen = unseen; reply = Some (Refused why) }) at.sim
        (record { keeps = record { fixed = refl; entries = refl }; call = refl })
        (inr at.lists.works)
        (λ kept. tells_grow v (SetValue id off value) (Some (Refused why)) kept)
        (record {
          inside = refl;
          looks = is.looks;
          refusal = why;
          first = is.first;
          traced = Rattle.pm_call.proofs.Ending.refusal_traced (Rattle.pm_crash.specs.Sim.tx_with v (Rattle.pm_crash.specs.Looked.pool_seen v None) (Rattle.pm_crash.specs.Looked.items_seen v)) at.lists.works
              (let e = at.lists.level_is in let l = at.some in omega (arith, e, l)) unseen (SetValue id off value) why is.first;
          replied = refl;
          left = λ p b. inl refl;
        })

    refused_stands : At (moved s w)
    refused_stands = told_at s s.level at [] v.changes v.calls v.log (keeps_same s s.level at) w.call w.actions w.published s.level at.some at.most (begun_more v.call no at.begun)
        (lists_told s s.level w.call w.actions w.published at lists_same (now_told v (SetValue id off value) (Some (Refused why)) (λ p. refl)))
        (pending_told v (SetValue id off value) (Some (Refused why)) (λ p. refl) refl at.pending) refused_sim

    pub refused_told : {M : Type 0} (of : M → View → Type 0) (lane : Lane M) → Works of lane (next s (tells (SetValue id off value) (Some (Refused why)))) → IsTold of lane s (SetValue id off value) (Some (Refused why))
    unfolding Ready one after_all
    refused_told of lane works = record { ready = (at.working.is_open, tt, tt); works = works; stands = refused_stands }

-- ---- the lane

module _ {M : Type 0} (at : M → View → Type 0) (old : Lane M) (id : Oid) (off value : ℕ) where
  -- a refusal is told
  pub told_no : (may : View → Step → Type 0) → ((v : View) (s : Step) → Allowed v s → may v s) → (new : M) (why : Refusal) → Made may (at old.memory) (at new) (Tell (SetValue id off value) (Some (Refused why)))
      → HasTold at old (record old { memory = new }) (SetValue id off value) (Some (Refused why))
  unfolding HasTold one after_all
  told_no may grants new why made s works is = record {
    memory = (made s.view works.memory (grants s.view (Tell (SetValue id off value) (Some (Refused why))) is.working.is_open)).0;
    fields = works.fields;
  }

  -- the word is on the list, and told
  pub told_set : (may : View → Step → Type 0) → ((v : View) (s : Step) → Allowed v s → may v s) → (new : Lane M) → Made may (at old.memory) (at new.memory) (Tell (SetValue id off value) None)
      → fields_of new ≡ record (fields_of old) { pending = old.pending.items ++ Set id off value ∷ [] } → HasTold at old new (SetValue id off value) None
  unfolding HasTold one after_all
  told_set may grants new made more s works is = record {
    memory = (made s.view works.memory (grants s.view (Tell (SetValue id off value) None) is.working.is_open)).0;
    fields = more ∙ ((λ i. record (works.fields i) { pending = (works.fields i).pending ++ Set id off value ∷ [] })
        ∙ ap (λ xs. record (Rattle.pm_world.specs.LaneFields.at_work s) { pending = xs }) (sym (listed_more s.view.actions (record { operation = SetValue id off value; reply = None }))));
  }

  -- ---- by what is answered

  pub asked_nothing : (r : Refusal) → Some r ≡ work_refusal old → Asked at old old (SetValue id off value) (Err r)
  unfolding Asked
  asked_nothing r e = subst (λ o. AskedSo o at old old (SetValue id off value) (Err r)) e (refl, refl)

  judged : (s : Standing) (result : Result (Unit {0}) Refusal) → Works at old s → JudgedSet off (length old.pending.items) result → JudgedSet off (length (listed s.view.actions)) result
  judged s result works is = subst (λ (f : Fields). JudgedSet off (length f.pending) result) works.fields is

  pub asked_set : (new : Lane M) → value < 2 ^ 64 → None ≡ work_refusal old → JudgedSet off (length old.pending.items) (Ok tt) → HasTold at old new (SetValue id off value) None → Asked at old new (SetValue id off value) (Ok tt)
  unfolding Asked HasTold
  asked_set new small none is told = subst (λ o. AskedSo o at old new (SetValue id off value) (Ok tt)) none (λ s works stands.
      let room = judged s (Ok tt) works is in
      let un = unrefused s id off value stands room in (un, set_told s id off value stands at new un room small (told s works stands)))

  pub asked_no : (new : Lane M) (why : Refusal) → None ≡ work_refusal old → JudgedSet off (length old.pending.items) (Err why) → HasTold at old new (SetValue id off value) (Some (Refused why)) → Asked at old new (SetValue id off value) (Err why)
  unfolding Asked HasTold
  asked_no new why none is told = subst (λ o. AskedSo o at old new (SetValue id off value) (Err why)) none (λ s works stands.
      let no = refused s id off value stands why (judged s (Err why) works is) in (no, refused_told s id off value stands why no at new (told s works stands)))
