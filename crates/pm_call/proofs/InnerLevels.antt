-- AN INNER LEVEL MAY BE COMMITTED: it is told, and the outer one is at work.
use Rattle.std.proofs.Common.{◌≡◌, ℕ, ◌-◌, ◌≤◌, nat_le, inr, false, cond, Contains, rules, [], ◌∷◌, ◌++◌, refl, sym, ap, ◌∙◌, subst, arith, None}
use Rattle.std.proofs.lemmas.Bool.{cond-false, false_from_ne_true, leb-true}
use Rattle.pm_model.specs.Inside.{Ran}
use Rattle.pm_model.specs.Transaction.{Transaction, committed, idle, is_none, is_working}
use Rattle.pm_model.specs.declared.stage.Stage.TheVariants as stage
use Rattle.pm_objects.specs.declared.calls.Operation.TheVariants.{Commit}
use Rattle.pm_objects.specs.declared.ids.Oid.{Oid}
use Rattle.pm_view.specs.View.{View, Told}
use Rattle.pm_view.specs.Views.{after_all}
use Rattle.pm_world.specs.LaneFields.{Standing, moved}
use Rattle.pm_crash.specs.Calls.{pending_of}
use Rattle.pm_crash.specs.Looked.{Enters}
use Rattle.pm_crash.specs.OpenRuns.{no_pool}
use Rattle.pm_crash.specs.Sim.{Sim, lists_of}
use Rattle.pm_crash.specs.SimCommits.{SetsWords, Setting, sets_at}
use Rattle.pm_crash.proofs.OpenRuns.{told_once_more}
use Rattle.pm_crash.proofs.SimCommits.{sim_commits}
use Rattle.pm_crash.proofs.SimFacts.{no_entries}
use Rattle.pm_crash.proofs.Telling.{no_root_is_asked, tells_grow}
use Rattle.pm_plan.specs.Plans.{Ready, one}
use Rattle.pm_call.specs.At.{At, AreLists, IsAt, MaySet}
use Rattle.pm_call.specs.Commits.{InnerLevelsMayBeCommitted, LeavesLevel}
use Rattle.pm_call.specs.Did.{IsUnrefused, unseen}
use Rattle.pm_call.proofs.Ending.{commit_unrefused}
use Rattle.pm_call.proofs.Noting.{all_map, told_at}
use Rattle.pm_call.proofs.RangeReads.{begun_more, keeps_same}
use Rattle.pm_call.proofs.Staying.{now_told, pending_told}

-- no word is set
pub sets_none : (v next : View) → ((q : Rattle.pm_view.specs.Places.Place) (b : ℕ) → Rattle.pm_crash.specs.Sim.change_so_far next [] q b ≡ Rattle.pm_crash.specs.Sim.change_so_far v [] q b) → SetsWords v [] next [] []
sets_none v next same = record {
  each = λ p among. absurd (none_among among);
  are_bytes = λ p among. absurd (none_among among);
  words = λ i. 0;
  knows = λ B i set. absurd (none_among set.among);
  small = λ B i set. absurd (none_among set.among);
  puts = λ B i b set few. absurd (none_among set.among);
  others = λ q b far. same q b;
}
  where
    none_among : {p : Setting} → Contains [] p → ⊥
    none_among among = search rules

module _ (s : Standing) (level : ℕ) (at : IsAt s level) where
  abbrev v : View
  v = s.view

  enters : Enters v []
  enters = no_entries v (λ p e. let d = at.recorded p e in (d.object.block, d.index, d.at, d.within, inr (d.found, d.object.object.inside, d.data_)))

  pub commit_unrefused_at : IsUnrefused s Commit
  commit_unrefused_at = record {
    looks = record {
      enters = enters;
      sizes = λ id write among held stays. absurd (none_of id among);
      knows_root = no_root_is_asked v None Commit refl;
    };
    none = commit_unrefused (Rattle.pm_crash.specs.Sim.tx_with v (Rattle.pm_crash.specs.Looked.pool_seen v None) (Rattle.pm_crash.specs.Looked.items_seen v)) at.lists.works (let e = at.lists.level_is in let l = at.some in omega (arith, e, l)) unseen;
  }
    where
      none_of : (id : Oid) → Contains [] id → ⊥
      none_of id among = search rules

  abbrev pub ran_commit : Ran
  ran_commit = record { operation = Commit; seen = unseen; reply = None }

module _ (s : Standing) (at : At s) (inner : 2 ≤ s.level) where
  abbrev t : Told
  t = record { operation = Commit; reply = None }

  abbrev u : View
  u = record s.view { call = s.view.call ++ t ∷ []; actions = s.view.actions; published = s.view.published }

  abbrev lists : Transaction
  lists = lists_of s.view

  deep : nat_le lists.level 1 ≡ false
  deep = false_from_ne_true (nat_le lists.level 1) (λ e. let l = leb-true lists.level 1 e in let is = at.lists.level_is in omega (arith, l, is, inner))

  lists_after : lists_of u ≡ record (committed lists) { level = lists.level - 1; stage = cond (is_none lists.error) stage.Work stage.OnAbort }
  lists_after = told_once_more s.view.call t (idle no_pool (pending_of s.view.entries)) ∙ cond-false (nat_le lists.level 1) _ _ deep

  are_lists : AreLists (moved s u) (s.level - 1) (lists_of u)
  are_lists = subst (AreLists (moved s u) (s.level - 1)) (sym lists_after) (record {
    level_is = ap (λ n. n - 1) at.lists.level_is;
    works = ap (λ e. is_working (cond (is_none e) stage.Work stage.OnAbort)) at.lists.error_is;
    locks = at.lists.locks;
    count = at.lists.count;
    recorded = at.lists.recorded;
    records = at.lists.records;
    blocks = at.lists.blocks;
    pending = at.lists.pending ∙ sym (now_told s.view Commit None (λ p. refl));
    sets = at.lists.sets;
    may_set = all_map (MaySet s) (MaySet (moved s u)) lists.sets (λ a m. record { locked = m.locked; aligned = m.aligned; size = m.size; sized = m.sized; inside = m.inside; small = m.small }) at.lists.may_set;
    error_is = at.lists.error_is;
  })

  no_sets : [] ≡ sets_at lists.level lists.sets
  no_sets = sym (cond-false (nat_le lists.level 1) lists.sets [] deep)

  sim : Sim u []
  sim = sim_commits s.view u [] [] None (ran_commit s s.level at) at.sim
      (record { keeps = record { fixed = refl; entries = refl }; call = refl })
      (inr at.lists.works)
      (λ kept. tells_grow s.view Commit None kept)
      (record {
        commits = refl;
        replied = refl;
        looks = (commit_unrefused_at s s.level at).looks;
        unrefused = (commit_unrefused_at s s.level at).none;
        settings = [];
        are = no_sets;
        sets = sets_none s.view u (λ q b. refl);
      })

  stands : IsAt (moved s u) (s.level - 1)
  stands = told_at s s.level at [] s.view.changes s.view.calls s.view.log (keeps_same s s.level at) u.call u.actions u.published (s.level - 1) (omega (arith, inner)) (let m = at.most in omega (arith, m))
      (begun_more s.view.call t at.begun) are_lists (pending_told s.view Commit None (λ p. refl) refl at.pending) sim

  leaves_level : LeavesLevel s
  unfolding Ready one after_all
  leaves_level = record { unrefused = commit_unrefused_at s s.level at; ready = (at.working.is_open, tt, tt); stands = stands }

pub inner_levels_may_be_committed : InnerLevelsMayBeCommitted
inner_levels_may_be_committed s at inner = leaves_level s at inner
