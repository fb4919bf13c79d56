-- A call of a lane at work may be committed, and then it is over: what it drew is an ended call's, where it publishes no change of a block.
use Rattle.std.proofs.Common.{◌≡◌, ◌⊎◌, ⊎_elim, ℕ, ◌+◌, ◌-◌, ◌<◌, ◌≤◌, inl, inr, true, All, List, [], ◌∷◌, map, length, slice_index, Err, None, Ok, OnErr, Result, Some, refl, sym, ap, ◌∙◌, subst, arith}
use Rattle.solo_crash.proofs.CallBlocks.{blocks_once_more, keeps_still, same_blocks}
use Rattle.solo_crash.proofs.Committed.{commit_is_told, commit_is_whole, commit_makes_its_step}
use Rattle.solo_crash.proofs.Levels.{inner_commit_goes_on}
use Rattle.solo_crash.specs.CallBlocks.{CallBlocks, KeepsBlocks, blocks_in}
use Rattle.solo_crash.specs.OpenCall.{IsUnderWay}
use Rattle.solo_crash.specs.Reserved.{IsBorneOut}
use Rattle.solo_crash.specs.Performing.{entry_for}
use Rattle.solo_crash.proofs.Staying.{goes_on_quietly}
use Rattle.solo_crash.proofs.StillReserved.{borne_on, borne_still}
use Rattle.solo_tx.proofs.BorneOut.{same_heads_outside}
use Rattle.solo_world.specs.Records.{pool_entries}
use Rattle.solo_model.specs.Actions.{Action}
use Rattle.solo_model.specs.Actions.Action.{SetWord}
use Rattle.solo_pending.specs.Pending.{entry_of}
use Rattle.pm_record.specs.declared.redo.Redo.{Redo}
use Rattle.solo_redo.specs.Entering.{IsOfPool, final_of}
use Rattle.solo_memory.specs.Runs.{Made}
use Rattle.solo_model.specs.declared.stage.Stage.TheVariants as model_stage
use Rattle.pm_objects.specs.declared.calls.Operation.TheVariants.{Commit}
use Rattle.pm_objects.specs.declared.history.TxErr.TheVariants as error
use Rattle.solo_undo.proofs.Begun.{tell_works}
use Rattle.solo_undo.proofs.Settled.{settle_lawful}
use Rattle.solo_undo.proofs.Staying.{same_settled}
use Rattle.solo_undo.proofs.Restored.{open_settled}
use Rattle.solo_undo.specs.Working.{IsSameCall, IsSettled, IsWorking}
use Rattle.solo_view.specs.Log.{Final, Log, Phase}
use Rattle.solo_view.specs.Steps.Step.{Tell}
use Rattle.solo_view.specs.View.{View}
use Rattle.solo_view.specs.Views.{after, after_all}
use Rattle.solo_world.specs.Lawful.{MayTell}
use Rattle.solo_world.specs.Opening.{Opening}
use Rattle.solo_world.specs.Sequences.{IsMade, IsStopped, Runs, in_turn, one, settles}
use Rattle.solo_world.specs.declared.lane.Lane.{Lane}
use Rattle.solo_world.specs.declared.lane.Span.{Span}
use Rattle.solo_world.specs.declared.lane.Stage.TheVariants as stage
use Rattle.solo_world.proofs.Shapes.{IsOfSamePool}
use Rattle.solo_lock.specs.Leading.{DrawEnded}
use Rattle.solo_tx.specs.AtWork.{IsAtWork, PublishesLocked}
use Rattle.solo_tx.specs.Ending.{IsEndedBy, IsStoppedIn, MayCommitCall, PublishesNoBlock, StopsDrawn}
use Rattle.solo_tx.specs.Generations.{CanPublish}
use Rattle.solo_tx.specs.Publishing.{IsWholeOnceLogged}
use Rattle.solo_tx.proofs.CommitSteps.{behind_commit, commit_drawn, commit_last, commit_lawful, deciding_of, stopped_among}
use Rattle.solo_tx.proofs.Decided.{IsDeciding, none_drawn, some_drawn}
use Rattle.solo_tx.proofs.Fronts.{among_ended}
use Rattle.solo_tx.specs.Sequences.{commits, decides_all, logs_listed}
use Rattle.solo_crash.proofs.PendingOn.{published_once_more, published_same}
use Rattle.solo_crash.specs.Pending.{published_in}
use Rattle.std.proofs.lemmas.List.{append-nil}
use Rattle.solo_tx.proofs.GoingOn.{listed_locked, lists_on, locked_on}
use Rattle.solo_tx.proofs.NoneMade.{keeps_made_none, made_none_before}
use Rattle.solo_view.proofs.SameLane.{same_lane-after}

-- what entries make final that stand for actions
pub finals_for : (actions : List Action) → map final_of (map entry_of actions) ≡ map entry_for actions
finals_for [] = refl
finals_for (SetWord id off value ∷ actions) = ap (λ (fs : List Final). entry_for (SetWord id off value) ∷ fs) (finals_for actions)

-- a call that logged what it published is whole once its commit is told, where it publishes no change of a block
whole_once_logged : (v : View) → IsUnderWay v 1 model_stage.Work error.None → PublishesNoBlock v → (entries : List Redo) → entries ≡ map entry_of (published_in v) → IsWholeOnceLogged v entries Commit
whole_once_logged v under_way no_block entries listed next t = ⊎_elim
    (λ (keeps : KeepsBlocks v). inl (commit_is_whole v next (record { under_way = under_way; keeps = keeps }) (record { tells = t.tells; records = t.records; words = t.words; entries = logged })))
    (λ (borne : ((blocks_in v).made ≡ []) × ((blocks_in v).freed ≡ []) × IsBorneOut v × PublishesLocked v).
    let blocks : blocks_in next ≡ blocks_in v = blocks_once_more v next Commit None t.tells.keeps.entries t.tells.call in
    inr (
      commit_makes_its_step next (commit_is_told v next under_way t.tells t.records t.words) (ap (λ (b : CallBlocks). b.made) blocks ∙ borne.0) (ap (λ (b : CallBlocks). b.freed) blocks ∙ borne.1)
          (logged ∙ ap (map entry_for) (sym (published_once_more v next Commit None t.tells.keeps.entries t.tells.call ∙ append-nil (published_in v)))),
      borne_on v next (same_heads_outside v next under_way.in_lanes t.tells.keeps.lanes t.tells.keeps.zones t.reserved t.words.words) Commit None t.tells.keeps.entries t.tells.call (refl, refl) (λ root. tt) borne.2,
    ))
    no_block where
      logged : pool_entries next ≡ map entry_for (published_in v)
      logged = t.logged ∙ (ap (map final_of) listed ∙ finals_for (published_in v))

module _ (v m : View) (working : IsWorking v) (settled : IsSettled v m) where
  call : IsSameCall v m
  call = same_settled v m settled

  log : m.log ≡ v.log
  log = ap (λ (u : View). u.log) settled ∙ open_settled v.changes v [] [] working.is_open

  -- the call is under way as it was, and publishes no more
  still_under_way : IsUnderWay v 1 model_stage.Work error.None → IsUnderWay m 1 model_stage.Work error.None
  still_under_way under_way =
      let lane = call.lane in
      goes_on_quietly v m 1 model_stage.Work error.None under_way
      (record { keeps = record { lanes = lane.lanes; zones = lane.zones; pool = lane.pool; lane = lane.lane; entries = call.entries; known = call.remembers }; locks = call.locks; call = call.call })
      (record { records = ap (λ (l : Log). l.records) log; entries = ap (λ (l : Log). l.entries) log }) (record { words = λ i outside. ap (λ (u : View). slice_index u.words i) settled })

  still_no_block : v.lane < v.lanes → PublishesNoBlock v → PublishesNoBlock m
  still_no_block inside no_block =
      let blocks : blocks_in m ≡ blocks_in v = same_blocks v m call.entries call.call in
      ⊎_elim (λ (keeps : KeepsBlocks v). inl (keeps_still v m call.entries call.call keeps))
      (λ (borne : ((blocks_in v).made ≡ []) × ((blocks_in v).freed ≡ []) × IsBorneOut v × PublishesLocked v).
      inr (
        ap (λ (b : CallBlocks). b.made) blocks ∙ borne.0,
        ap (λ (b : CallBlocks). b.freed) blocks ∙ borne.1,
        borne_still v m (same_heads_outside v m inside call.lane.lanes call.lane.zones call.reserved (λ i outside. ap (λ (u : View). slice_index u.words i) settled)) call.entries call.call borne.2,
        locked_on v m call.lane call.locks (published_same v m call.entries call.call) borne.3,
      ))
      no_block

module _ {M : Type 0} (at : M → View → Type 0) (lane : Lane M) (o : Opening) (v : View) (is : IsAtWork o at lane v) where
  abbrev pub records : List Span
  records = lane.records.items

  abbrev pub listed : List Redo
  listed = lane.entries.items

  abbrev settled_view : View
  settled_view = after_all v (settles v)

  -- nothing was published where nothing is listed
  nothing_published : lane.entries.items ≡ [] → published_in v ≡ []
  nothing_published none = no_entries (published_in v) (sym is.published.listed ∙ none) where
    no_entries : (actions : List Action) → map entry_of actions ≡ [] → actions ≡ []
    no_entries [] none = refl
    no_entries (a ∷ actions) none = absurd (let many = ap length none in omega (arith, many))

  -- the entries of what it published may be published
  can_publish : CanPublish v lane.entries.items
  can_publish = record {
    unentered = is.no_entries;
    few = is.published.few;
    each = is.published.may_enter;
    may_come = is.may_come;
  }

  pub may_commit : MayCommitCall at lane
  may_commit = (v, (is.seen, is.working, can_publish))

  module _ (no_block : PublishesNoBlock v) (outer : lane.level ≡ 1) (n : ℕ) where
    at_one : IsUnderWay v 1 model_stage.Work error.None
    at_one = subst (λ level. IsUnderWay v level model_stage.Work error.None) outer is.under_way

    -- what it lists is of words under locks
    listed_own : All (IsOfPool v) lane.entries.items
    listed_own = listed_locked lane v is.published
        (⊎_elim (λ (keeps : KeepsBlocks v). is.published.locked (keeps_made_none v keeps)) (λ (borne : ((blocks_in v).made ≡ []) × ((blocks_in v).freed ≡ []) × IsBorneOut v × PublishesLocked v). borne.3) no_block)

    -- what it draws is an ended call's
    deciding_drawn : DrawEnded settled_view (decides_all records listed n settled_view)
    deciding_drawn = at_entries lane.entries.items refl where
      at_entries : (entries : List Redo) → lane.entries.items ≡ entries → DrawEnded settled_view (decides_all records entries n settled_view)
      at_entries [] are =
          subst (λ (spans : List Span). DrawEnded settled_view (decides_all spans [] n settled_view)) (sym is.seen.records)
          (none_drawn v settled_view is.working is.no_entries is.may_come (settle_lawful v).1 (whole_once_logged v at_one no_block [] (sym (ap (map entry_of) (nothing_published are)))) n)
      at_entries (e ∷ entries) are =
          let same = same_settled v settled_view (settle_lawful v).1 in
          some_drawn v settled_view is.working is.no_entries is.may_come (settle_lawful v).1 records e entries
          (subst (λ (es : List Redo). length es ≤ 63) are is.published.few) (subst (All (IsOfPool v)) are listed_own)
          (whole_once_logged settled_view (still_under_way v settled_view is.working (settle_lawful v).1 at_one) (still_no_block v settled_view is.working (settle_lawful v).1 at_one.in_lanes no_block) (e ∷ entries)
          (sym are ∙ is.published.listed ∙ ap (map entry_of) (sym (published_same v settled_view same.entries same.call))))
          n

  -- a commit may be told
  pub may_tell : MayTell v.log.phase
  may_tell = subst (λ (phase : Phase). MayTell phase) (sym is.working.is_open) tt

  -- the commit of an inner level leaves the lane at work, once that level has ended
  pub inner_stays : 2 ≤ lane.level → (memory : M) → at memory (after v (Tell Commit None)) → IsAtWork o at (record lane { memory = memory; level = lane.level - 1; stage = stage.Work }) (after v (Tell Commit None))
  inner_stays inner memory there = record {
    seen = record { memory = there; locks = is.seen.locks; records = is.seen.records; drawn = is.seen.drawn; last = is.seen.last; pool = is.seen.pool; shape = (let s = is.seen.shape in record { lanes = s.lanes; zones = s.zones; size = s.size }) };
    level = omega (arith, inner);
    works = refl;
    unharmed = is.unharmed;
    unstopped = is.unstopped;
    spans = is.spans;
    sound = is.sound;
    opening = (let f = is.opening in record { lane = f.lane; lanes = f.lanes; size = f.size; descriptors = f.descriptors; locks = f.locks });
    working = tell_works v Commit None is.working;
    no_entries = is.no_entries;
    published = lists_on lane (record lane { memory = memory; level = lane.level - 1; stage = stage.Work }) v (after v (Tell Commit None)) refl (same_lane-after v (Tell Commit None)) refl (published_once_more v (after v (Tell Commit None)) Commit None refl refl ∙ append-nil (published_in v))
        (made_none_before v (after v (Tell Commit None)) Commit None refl refl tt) is.published;
    under_way =
        inner_commit_goes_on v (after v (Tell Commit None)) (lane.level - 1) (omega (arith, inner)) (subst (λ level. IsUnderWay v level model_stage.Work error.None) (let e : lane.level ≡ lane.level - 1 + 1 = omega (arith, inner) in e) is.under_way)
        (record { keeps = record { lanes = refl; zones = refl; pool = refl; lane = refl; entries = refl; known = λ i there. there }; locks = refl; call = refl })
        (record { records = refl; entries = refl }) (record { words = λ i outside. refl });
    may_come = (let m = is.may_come in record { found = m.found; seen = m.seen; below = m.below });
    lines = (let l = is.lines in record { inside = l.inside; once = l.once });
    objects = λ l held. let f = is.objects l held in record { lines = f.lines; block = f.block; known = f.known; fits = f.fits };
    zones = is.zones;
  }

  module _ (no_block : PublishesNoBlock v) (outer : lane.level ≡ 1) (new : Lane M) where
    abbrev decides_so : IsDeciding v settled_view records listed new.last
    decides_so = deciding_of v is.working records listed is.seen.records can_publish new.last

    draws_so : DrawEnded v (commits records listed new.last v)
    draws_so = commit_drawn v is.working records listed new.last decides_so (deciding_drawn no_block outer new.last)

    -- it was committed
    pub committed : Runs {T = Unit {0}} (at lane.memory) (at new.memory) (commits records listed new.last) (Ok tt) → new.locks.items ≡ lane.locks.items → new.records.items ≡ [] → new.entries.items ≡ [] → new.drawn ≡ Some new.last → IsOfSamePool lane new → new.stopped ≡ lane.stopped
        → IsEndedBy at new v (commits records listed new.last) Commit None
    committed ran locks none unlisted drawn pool stops =
        let lawful = commit_lawful v is.working records listed new.last decides_so in
        let last = commit_last v is.working records listed new.last decides_so in
        record {
          ready = lawful.0;
          draws = draws_so;
          behind = behind_commit at lane v is.seen is.working can_publish new is.lines ran locks none unlisted drawn pool (stops ∙ is.unstopped);
          over = lawful.1;
          told = last.0;
          entries = last.1.entries;
        }

    -- it stopped in that
    pub stopped_committing : ((new.drawn ≡ lane.drawn) × IsStopped (at lane.memory) (at new.memory) (in_turn settles (logs_listed listed))) ⊎ ((new.drawn ≡ Some new.last) × StopsDrawn (at lane.memory) (at new.memory) records listed new.last) → new.stopped ≡ true
        → IsStoppedIn at new v (commits records listed new.last) Commit None
    stopped_committing where_ says =
        among_ended at new v (commits records listed new.last) Commit None draws_so (stopped_among at lane v is.seen is.working can_publish new where_ says)

pub made_told : (old new : View → Type 0) → Made old new (Tell Commit None) → IsMade old new (one (Tell Commit None))
unfolding Runs one after_all
made_told old new told v seen ready = (told v seen).0

-- what holds anyhow holds of an error
pub on_err : {T E : Type 0} (P : Type 0) (result : Result T E) → P → OnErr result P
on_err P (Ok answer) p = tt
on_err P (Err e) p = p

-- and what follows from what holds of an error
pub on_err_so : {T E : Type 0} (P Q : Type 0) (result : Result T E) → (P → Q) → OnErr result P → OnErr result Q
on_err_so P Q (Ok answer) so p = tt
on_err_so P Q (Err e) so p = so p
