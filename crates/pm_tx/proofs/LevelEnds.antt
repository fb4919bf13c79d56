-- What the end of a level leaves of its lane.
use Rattle.std.proofs.Common.{◌≡◌, ◌≢◌, ℕ, zero, suc, ◌-◌, [], Some, None, Ok, Err, refl, sym, ap, ◌∙◌, subst, arith}
use Rattle.pm_model.specs.declared.stage.Stage.{Stage}
use Rattle.pm_model.specs.declared.stage.Stage.TheVariants as stage
use Rattle.pm_objects.specs.declared.history.TxErr.{TxErr}
use Rattle.pm_objects.specs.declared.history.TxErr.TheVariants as error
use Rattle.pm_objects.specs.declared.refusal.Refusal.{Refusal}
use Rattle.pm_view.specs.View.{View}
use Rattle.pm_view.specs.Views.{after_all}
use Rattle.pm_world.specs.LaneFields.{Fields, Standing, at_rest, fields_of}
use Rattle.pm_world.specs.declared.lane.Lane.{Lane}
use Rattle.pm_lock.specs.Holding.{MayGiveAll}
use Rattle.pm_lock.specs.Locking.{GivenBack, Stands}
use Rattle.pm_lock.specs.Steps.{gives}
use Rattle.pm_call.specs.Did.{IsOver}
use Rattle.pm_call.specs.Stages.{Ended, EndedAs, EndedSo, IsLanePast, IsPastAt, Leaves, closed, end_refusal}
use Rattle.pm_call.proofs.Closing.{closed_is, closes, leaves_outermost, may_give, over_at, work_at}
use Rattle.pm_tx.specs.Ending.{Closed, IsClosed, stage_outside}

module _ {M : Type 0} (at : M → View → Type 0) (old : Lane M) where
  pub closes_locks : (mid : Lane M) → GivenBack at old mid → Closed at old (record mid { level = 0; stage = stage.None; error = error.None })
  unfolding GivenBack Closed
  closes_locks mid gave v seen may = let t = gave v seen may in (t.0, record { unlocked = t.2; same = ap (λ (lane : Lane M). record lane { level = 0; stage = stage.None; error = error.None }) t.1 })

  -- refused for its stage
  pub end_refused : (r : Refusal) → Some r ≡ end_refusal old → Ended at old old (Err r)
  unfolding Ended
  end_refused r e = subst (λ o. EndedSo o at old old (Err r)) e (refl, refl)

  -- ---- what a lane past work says
  module _ (s : Standing) (at_stage : Stage) (e : TxErr) (is : IsPastAt at old s at_stage e) where
    error_is : old.error ≡ e
    error_is = ap (λ (f : Fields). f.error) is.sees.fields

    level_is : old.level ≡ s.level
    level_is = ap (λ (f : Fields). f.level) is.sees.fields

    locks_are : old.locks.items ≡ s.locks
    locks_are = ap (λ (f : Fields). f.locks) is.sees.fields

    over : old.level ≡ 1 → IsOver s × (s.entries ≡ [])
    over one = leaves_outermost e s (subst (λ n. Leaves e n s) (sym level_is ∙ one) is.past.leaves)

    may_close : old.level ≡ 1 → Stands at old (λ v. MayGiveAll v old.locks.items)
    may_close one = (s.view, is.sees.memory, subst (MayGiveAll s.view) (sym locks_are) (may_give s (over one).0))

    -- ---- the outermost level
    outer : (new : Lane M) → old.level ≡ 1 → Closed at old new → EndedAs at new e s.level s
    unfolding Closed
    outer new one closed_ =
        let t = closed_ s.view is.sees.memory (subst (MayGiveAll s.view) (sym locks_are) (may_give s (over one).0)) in
        subst (λ n. EndedAs at new e n s) (sym one ∙ level_is) (record { memory = subst (λ ls. at new.memory (after_all s.view (gives ls))) locks_are t.0; fields = fields t.1 }, closes s (over one).0 (over one).1)
      where
        fields : IsClosed old new → fields_of new ≡ at_rest (closed s)
        fields c = ap fields_of c.same
            ∙ ((λ i. record (is.sees.fields i) { locks = c.unlocked i; level = 0; stage = stage.None; error = error.None })
            ∙ sym (ap at_rest (closed_is s)))

    -- ---- an inner one
    inner : (st : Stage) → old.level ≢ 1 → st ≡ stage_outside old.error → EndedAs at (record old { level = old.level - 1; stage = st }) e s.level s
    inner st many says = by e refl s.level refl where
      new : Lane M
      new = record old { level = old.level - 1; stage = st }

      says_so : st ≡ stage_outside e
      says_so = says ∙ ap stage_outside error_is

      one_less : (n : ℕ) → s.level ≡ suc (suc n) → old.level - 1 ≡ suc n
      one_less n is_n = let l : old.level ≡ suc (suc n) = level_is ∙ is_n in omega (arith, l)

      by : (x : TxErr) → e ≡ x → (n : ℕ) → s.level ≡ n → EndedAs at (record old { level = old.level - 1; stage = st }) x n s
      by x is_x zero is_n = let some = is.past.some in absurd (omega (arith, some, is_n))
      by x is_x (suc zero) is_n = absurd (many (level_is ∙ is_n))
      by error.None is_x (suc (suc n)) is_n = (
        record {
          memory = is.sees.memory;
          fields = λ i. record (is.sees.fields i) { level = (one_less n is_n) i; stage = (says_so ∙ ap stage_outside is_x) i; error = (error_is ∙ is_x) i };
        },
        work_at (suc n) (suc n) s (subst (λ k. Leaves error.None k s) is_n (subst (λ y. Leaves y s.level s) is_x is.past.leaves)),
      )
      by x is_x (suc (suc n)) is_n = record {
        sees = record {
          memory = is.sees.memory;
          fields = λ i. record (is.sees.fields i) { level = (one_less n is_n) i; stage = (says_so ∙ ap stage_outside is_x) i; error = (error_is ∙ is_x) i };
        };
        past = let l : Leaves x (suc (suc n)) s = subst (λ k. Leaves x k s) is_n (subst (λ y. Leaves y s.level s) is_x is.past.leaves) in let most = is.past.most in record {
          past = refl;
          some = omega arith;
          most = omega (arith, most, is_n);
          leaves = (over_at (suc n) s l.0, l.1);
        };
      }

  -- ---- so the level ended
  pub may_close_at : IsLanePast at old → old.level ≡ 1 → Stands at old (λ v. MayGiveAll v old.locks.items)
  may_close_at lane one = may_close lane.standing lane.stage lane.error lane.stands one

  pub ended_outer : (new : Lane M) → None ≡ end_refusal old → old.level ≡ 1 → Closed at old new → Ended at old new (Ok old.error)
  unfolding Ended
  ended_outer new none one closed_ = subst (λ o. EndedSo o at old new (Ok old.error)) none (λ s st e is. (error_is s st e is, outer s st e is new one closed_))

  pub ended_inner : (st : Stage) → None ≡ end_refusal old → old.level ≢ 1 → st ≡ stage_outside old.error → Ended at old (record old { level = old.level - 1; stage = st }) (Ok old.error)
  unfolding Ended
  ended_inner st none many says = subst (λ o. EndedSo o at old (record old { level = old.level - 1; stage = st }) (Ok old.error)) none (λ s before e is. (error_is s before e is, inner s before e is st many says))
