use Rattle.std.proofs.Common.{◌≡◌, ◌&&◌, ◌/◌, ◌%◌, true, false, eqb, nat_lt, sym, ◌∙◌, ap}
use Rattle.std.proofs.lemmas.Bool.{ne_eqb}
use Rattle.pm_layout.specs.Sizes.{blocks_of}
use Rattle.pm_info.proofs.Runs.{run_class}
use Rattle.pm_info.proofs.counts.is_run.Goals as goal

pub returns-then-is_of_run : goal.returns-then-is_of_run
returns-then-is_of_run c =
    let test : eqb (c.args.descriptor % 256) 1 ≡ true = ap (λ n. eqb n 1) c.if-is_of_run.true in
    ap (nat_lt 0) c.blocks_of.ensures.value ∙ sym (run_class c.args.descriptor ∙ (λ i. test i && nat_lt 0 (blocks_of (c.args.descriptor / 256))))

pub returns-else-is_of_run : goal.returns-else-is_of_run
returns-else-is_of_run c =
    let test : eqb (c.args.descriptor % 256) 1 ≡ false = ne_eqb (c.args.descriptor % 256) 1 c.if-is_of_run.false in
    test ∙ sym (run_class c.args.descriptor ∙ (λ i. test i && nat_lt 0 (blocks_of (c.args.descriptor / 256))))
