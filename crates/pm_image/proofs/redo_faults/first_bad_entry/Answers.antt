use Rattle.std.proofs.Common.{◌*◌, ◌/◌, ◌%◌, refl, sym, ◌∙◌, arith}
use Rattle.pm_image.specs.LogFaults.{bad_entry}
use Rattle.pm_image.proofs.Firsts.{none_more, first_there, none_at_end}
use Rattle.pm_image.proofs.redo_faults.first_bad_entry.Goals as goal

pub loop-n-init : goal.loop-n-init
loop-n-init c = refl

pub loop-n-preserved : goal.loop-n-preserved
loop-n-preserved c =
    none_more ((λ n. bad_entry c.args.image.now c.args.shape.lanes c.args.shape.zones (n / 64) (n % 64))) c.loop-n.n c.loop-n.invariant (sym c.is_bad_entry.ensures ∙ c.if-is_bad_entry.false)

pub returns-then-is_bad_entry : goal.returns-then-is_bad_entry
returns-then-is_bad_entry c = sym (first_there ((λ n. bad_entry c.args.image.now c.args.shape.lanes c.args.shape.zones (n / 64) (n % 64))) (64 * c.args.shape.lanes) c.loop-n.n (omega arith) c.loop-n.invariant (sym c.is_bad_entry.ensures ∙ c.if-is_bad_entry.true))

pub returns : goal.returns
returns c = sym (none_at_end ((λ n. bad_entry c.args.image.now c.args.shape.lanes c.args.shape.zones (n / 64) (n % 64))) (64 * c.args.shape.lanes) c.loop-n.n (omega arith) c.loop-n.invariant)
