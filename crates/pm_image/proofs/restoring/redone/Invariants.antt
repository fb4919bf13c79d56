use Rattle.std.proofs.Common.{◌≡◌, eqb, None, take}
use Rattle.std.specs.List.{filter}
use Rattle.pm_image.specs.Steps.{made}
use Rattle.pm_image.proofs.restoring.redone.Given as goal

abbrev pub invariant-loop-one : goal.invariant-loop-one
invariant-loop-one l = l.so_far ≡ made None (filter (λ e. eqb e.place l.place) (take l.one-index l.found)) l.word
