use Rattle.std.proofs.Common.{refl, subst, sym, List}
use Rattle.pm_view.specs.Views.{after_all}
use Rattle.pm_world.specs.declared.lane.HeldLock.{HeldLock}
use Rattle.pm_lock.specs.Holding.{MayGiveAll}
use Rattle.pm_lock.specs.Locking.{GivenBack}
use Rattle.pm_lock.specs.Steps.{gives}
use Rattle.pm_lock.proofs.giving.give_back.Goals as goal

pub give_all-requires : goal.give_all-requires
give_all-requires g c = let s = c.requires in (s.0, s.1, subst (λ (ls : List HeldLock). MayGiveAll s.0 ls) (sym c.as_slice.ensures.value) s.2)

pub returns : goal.returns
unfolding GivenBack
returns g c v seen may = (
  subst (λ (ls : List HeldLock). g.M.LaneMem.at c.give_all.new.mem (after_all v (gives ls))) c.as_slice.ensures.value (c.give_all.ensures v seen (subst (λ (ls : List HeldLock). MayGiveAll v ls) (sym c.as_slice.ensures.value) may)),
  refl,
  c.clear.ensures,
)
