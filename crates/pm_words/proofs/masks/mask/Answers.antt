use Rattle.std.proofs.Common.{sym, subst, ℕ}
use Rattle.pm_words.specs.Masks.{HasBits}
use Rattle.pm_words.proofs.Bits.{ones_moved, HasBits-ones}
use Rattle.pm_words.proofs.masks.mask.Goals as goal

pub returns-clause-value : goal.returns-clause-value
returns-clause-value c = ones_moved c.args.from c.args.count c.requires

pub returns-clause-bits : goal.returns-clause-bits
returns-clause-bits c = subst (λ (n : ℕ). HasBits n c.args.from c.args.count) (sym (ones_moved c.args.from c.args.count c.requires)) (HasBits-ones c.args.from c.args.count)
