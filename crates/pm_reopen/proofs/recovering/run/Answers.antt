use Rattle.std.proofs.Common.{◌∷◌, [], ℕ, List, sym, ◌∙◌, ap, subst}
use Rattle.pm_image.proofs.Meanings.{no_meaning_and_fault}
use Rattle.pm_memory.specs.Keep.{IsKeptImage}
use Rattle.pm_memory.specs.Solo.{Solo, opened}
use Rattle.pm_reopen.specs.Plan.{plan}
use Rattle.pm_reopen.specs.Running.{Halts, Makes}
use Rattle.pm_reopen.proofs.recovering.run.Goals as goal

pub returns-in-Ok-clause-leaves : goal.returns-in-Ok-clause-leaves
returns-in-Ok-clause-leaves c = λ pool is.
    let items = c.in_ok-words.ensures.same in
    let first = c.in_ok-mem.ensures ∙ ap (λ (ws : List ℕ). opened ws c.args.stop) items in
    let lanes = sym ((c.in_ok-lanes.ensures).lanes pool is) in
    record {
      memory = c.recover_lanes-ran.new.mem;
      ran = (
        subst (λ (n : ℕ). Makes (opened c.args.image.now c.args.stop) c.recover_lanes-ran.new.mem (plan c.args.image.now n)) lanes
            (subst (λ (m : Solo). Makes m c.recover_lanes-ran.new.mem (plan c.args.image.now c.in_ok-lanes.lanes)) first c.in-Ok.ensures.made),
        c.calls.ensures.made,
        c.in-Ok.ensures.drained,
      );
      is = subst (λ (ws : List ℕ). IsKeptImage c.args.keep c.recover_lanes-ran.new.mem.words (c.recover_lanes-ran.new.mem.changes ∷ []) ws) (sym (c.in_ok-image.ensures ∙ c.deref.ensures.value)) c.in_ok-left.ensures.kept;
    }

pub returns-clause-leaves : goal.returns-clause-leaves
returns-clause-leaves c = λ pool is.
    let items = c.in_ok-words.ensures.same in
    let first = c.in_ok-mem.ensures ∙ ap (λ (ws : List ℕ). opened ws c.args.stop) items in
    let lanes = sym ((c.in_ok-lanes.ensures).lanes pool is) in
    record {
      memory = c.recover_lanes-ran.new.mem;
      ran = (
        subst (λ (n : ℕ). Halts (opened c.args.image.now c.args.stop) c.recover_lanes-ran.new.mem (plan c.args.image.now n)) lanes
            (subst (λ (m : Solo). Halts m c.recover_lanes-ran.new.mem (plan c.args.image.now c.in_ok-lanes.lanes)) first c.in-Err.ensures.made),
        c.calls-in-Err.ensures.made,
      );
      is = subst (λ (ws : List ℕ). IsKeptImage c.args.keep c.recover_lanes-ran.new.mem.words (c.recover_lanes-ran.new.mem.changes ∷ []) ws) (sym (c.in_ok-image.ensures ∙ c.deref.ensures.value)) c.in_ok-left.ensures.kept;
    }

pub returns-in-Ok-clause-refused : goal.returns-in-Ok-clause-refused
returns-in-Ok-clause-refused c = λ found fault. let means = c.in_ok-lanes.ensures.done in no_meaning_and_fault c.args.image.now means.0 found means.1 fault

pub returns-clause-refused : goal.returns-clause-refused
returns-clause-refused c = λ found fault. let means = c.in_ok-lanes.ensures.done in no_meaning_and_fault c.args.image.now means.0 found means.1 fault
