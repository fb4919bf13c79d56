use Rattle.std.proofs.Common.{◌≡◌, ◌-◌, ◌≤◌, ◌++◌, get_or, vec_len}
use Rattle.pm_image.specs.Contents.{walk}
use Rattle.pm_image.proofs.objects.members_from.Given as goal

abbrev pub invariant-loop-off : goal.invariant-loop-off
invariant-loop-off l = record {
  fits : vec_len l.members ≤ l.count;
  rest : l.members.items ++ walk (λ i. get_or l.words i 0) (l.count - vec_len l.members) l.off ≡ walk (λ i. get_or l.words i 0) l.count l.first;
}

abbrev pub decreases-loop-off : goal.decreases-loop-off
decreases-loop-off l = l.count - vec_len l.members
