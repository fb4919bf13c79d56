-- What a commit, and the step to the next stage, leave of their lane.
use Rattle.std.proofs.Common.{◌≡◌, ◌≢◌, ℕ, zero, suc, ◌<◌, ◌≤◌, true, false, refl, sym, ap, ◌∙◌, subst, arith, None, Some, Result, Ok, Err}
use Rattle.pm_memory.specs.declared.lane_mem.Stopped.{Stopped}
use Rattle.pm_model.specs.Transaction.{is_working}
use Rattle.pm_model.specs.declared.stage.Stage.{Stage}
use Rattle.pm_model.specs.declared.stage.Stage.TheVariants as stage
use Rattle.pm_objects.specs.declared.refusal.Refusal.{Refusal}
use Rattle.pm_objects.specs.declared.refusal.Refusal.TheVariants as refusal
use Rattle.pm_view.specs.View.{View}
use Rattle.pm_world.specs.LaneFields.{Fields, Standing, Works}
use Rattle.pm_world.specs.declared.lane.Lane.{Lane}
use Rattle.pm_call.specs.At.{At}
use Rattle.pm_call.specs.Commits.{CallCommitted, CommitCut, CommittedInner}
use Rattle.pm_call.specs.Did.{IsAt, IsAtSo, work_refusal}
use Rattle.pm_call.specs.Stages.{end_refusal, next_stage}
use Rattle.pm_call.proofs.Calls.{after_so}
use Rattle.pm_tx.specs.Commits.{InnerEnds, LevelCommitted, LevelCommittedSo, LevelEnds, PassedSo, Processed, ProcessedFrom}

-- the stage after one past work is past it too
next_past : (s : Stage) → is_working s ≡ false → is_working (next_stage s) ≡ false
next_past stage.Work e = e
next_past stage.OnCommit e = refl
next_past stage.OnAbort e = refl
next_past stage.Finally e = refl
next_past stage.None e = refl

module _ {M : Type 0} (at : M → View → Type 0) (old : Lane M) where
  -- refused for its stage
  pub commit_refused : (r : Refusal) → Some r ≡ work_refusal old → LevelCommitted at old old (Err r)
  unfolding LevelCommitted
  commit_refused r e = subst (λ o. LevelCommittedSo o at old old (Err r)) e (refl, refl)

  level_of : (s : Standing) → Works at old s → old.level ≡ s.level
  level_of s works = ap (λ (f : Fields). f.level) works.fields

  only_one : (s : Standing) → Works at old s → At s → old.level ≤ 1 → s.level ≡ 1
  only_one s works is low = let l = level_of s works in let some = is.some in omega (arith, l, some, low)

  pub inner_stands : IsAt at old → 1 < old.level → IsAtSo at old (λ s. 2 ≤ s.level)
  inner_stands is deep = record { standing = is.standing; works = is.works; stands = is.stands; holds = let l = level_of is.standing is.works in omega (arith, l, deep) }

  pub outer_stands : IsAt at old → old.level ≤ 1 → IsAtSo at old (λ s. s.level ≡ 1)
  outer_stands is low = record { standing = is.standing; works = is.works; stands = is.stands; holds = only_one is.standing is.works is.stands low }

  at_work : (new : Lane M) (result : Result (Unit {0}) Refusal) → None ≡ work_refusal old → ((s : Standing) → Works at old s → At s → LevelEnds at new result s.level s) → LevelCommitted at old new result
  unfolding LevelCommitted
  at_work new result e so = subst (λ o. LevelCommittedSo o at old new result) e so

  -- an inner level
  inner_ends : (new : Lane M) (result : Result (Unit {0}) Refusal) (n : ℕ) (s : Standing) → 2 ≤ n → InnerEnds at new result s → LevelEnds at new result n s
  inner_ends new result zero s deep ends = absurd (omega (arith, deep))
  inner_ends new result (suc zero) s deep ends = absurd (omega (arith, deep))
  inner_ends new result (suc (suc n)) s deep ends = ends

  pub committed_inner : (new : Lane M) → None ≡ work_refusal old → 1 < old.level → CommittedInner at old new → LevelCommitted at old new (Ok tt)
  unfolding CommittedInner
  committed_inner new none deep committed = at_work new (Ok tt) none (λ s works is.
      let d : 2 ≤ s.level = (let l = level_of s works in omega (arith, l, deep)) in inner_ends new (Ok tt) s.level s d (committed s works is d))

  -- the outermost one
  pub committed_ok : (new : Lane M) → None ≡ work_refusal old → old.level ≤ 1 → CallCommitted at old new (Ok tt) → LevelCommitted at old new (Ok tt)
  unfolding CallCommitted
  committed_ok new none low committed = at_work new (Ok tt) none (λ s works is.
      let one = only_one s works is low in subst (λ n. LevelEnds at new (Ok tt) n s) (sym one) (committed s works is one))

  pub committed_cut : (mid new : Lane M) (answer : Refusal) (stopped : Stopped) → None ≡ work_refusal old → old.level ≤ 1 → CallCommitted at old mid (Err stopped) → answer ≡ refusal.Stopped → new ≡ record mid { stopped = true }
      → LevelCommitted at old new (Err answer)
  unfolding CallCommitted
  committed_cut mid new answer stopped none low committed is_stopped says = subst (λ (r : Refusal). LevelCommitted at old new (Err r)) (sym is_stopped) (at_work new (Err refusal.Stopped) none (λ s works is.
      let one = only_one s works is low in
      subst (λ n. LevelEnds at new (Err refusal.Stopped) n s) (sym one) (after_so s (λ t. CommitCut at mid t false) (λ t. CommitCut at new t true) (λ t c. subst (λ (lane : Lane M). CommitCut at lane t true) (sym says) (record {
        found = c.found;
        number = c.number;
        ready = c.ready;
        stops = c.stops;
        numbered = record { drawn = c.numbered.drawn; last = c.numbered.last };
        fields = ap (λ (f : Fields). record f { stopped = true }) c.fields;
        facts = c.facts;
        unwritten = c.unwritten;
      })) (committed s works is one))))

  -- ---- stage by stage
  pub processed_work : (new : Lane M) (result : Result (Unit {0}) Refusal) → old.stage ≡ stage.Work → LevelCommitted at old new result → Processed at old new result
  unfolding Processed
  processed_work new result work committed = subst (λ s. ProcessedFrom s at old new result) (sym work) committed

  not_work : (s : Stage) (new : Lane M) (result : Result (Unit {0}) Refusal) → s ≢ stage.Work → PassedSo (end_refusal old) at old new result → ProcessedFrom s at old new result
  not_work stage.Work new result past passed = absurd (past refl)
  not_work s new result past passed = passed

  pub process_refused : (r : Refusal) → old.stage ≢ stage.Work → Some r ≡ end_refusal old → Processed at old old (Err r)
  unfolding Processed
  process_refused r past e = not_work old.stage old (Err r) past (subst (λ o. PassedSo o at old old (Err r)) e (refl, refl))

  pub processed_past : (next : Stage) → old.stage ≢ stage.Work → None ≡ end_refusal old → next ≡ next_stage old.stage → Processed at old (record old { stage = next }) (Ok tt)
  unfolding Processed
  processed_past next past none is_next = not_work old.stage (record old { stage = next }) (Ok tt) past (subst (λ o. PassedSo o at old (record old { stage = next }) (Ok tt)) none (λ s before e is. (
    refl,
    record {
      sees = record {
        memory = is.sees.memory;
        fields = λ i. record (is.sees.fields i) { stage = (is_next ∙ ap next_stage (ap (λ (f : Fields). f.stage) is.sees.fields)) i };
      };
      past = record { past = next_past before is.past.past; some = is.past.some; most = is.past.most; leaves = is.past.leaves };
    },
  )))
