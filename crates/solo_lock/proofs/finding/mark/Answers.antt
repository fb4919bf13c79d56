use Rattle.std.proofs.Common.{◌∙◌, ap, get_or, set, rules}
use Rattle.std.proofs.lemmas.List.{get_or_default}
use Rattle.std.proofs.lemmas.List.Edits.{map_over_more}
use Rattle.solo_lock.specs.Finding.{marked}
use Rattle.solo_lock.specs.Locking.{no_lock}
use Rattle.solo_lock.proofs.finding.mark.Goals as goal

pub loop-held-preserved : goal.loop-held-preserved
loop-held-preserved c =
    ap (set c.loop-held.locks c.loop-held.held-index) c.marked.ensures
    ∙ map_over_more (marked c.args.page c.args.descriptor c.args.bitmap) c.args.locks.now c.loop-held.locks c.loop-held.held-index (get_or c.loop-held.locks c.loop-held.held-index no_lock) (search rules) c.loop-held.invariant (get_or_default c.loop-held.locks c.loop-held.held-index no_lock _ (search rules))
