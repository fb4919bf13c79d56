use Rattle.std.proofs.Common.{◌≡◌, ℕ, true, List, length, length-set, refl, ap, ◌∙◌}
use Rattle.std.specs.Prelude.{slice_set}
use Rattle.std.specs.List.{refill}
use Rattle.pm_world.specs.declared.lane.HeldLock.{HeldLock}
use Rattle.pm_lock.specs.Locking.{lock_at, lock_of}
use Rattle.pm_lock.proofs.Lanes.{raise_stands, raised_lost, raised_won, refilled}
use Rattle.pm_lock.proofs.taking.raise.Goals as goal

line_so : (now items : List HeldLock) (i : ℕ) → now ≡ items → (lock_at now i).line ≡ (lock_at items i).line
line_so now items i e = ap (λ (ls : List HeldLock). (lock_at ls i).line) e

list_so : (now items new : List HeldLock) (i : ℕ) → now ≡ items → new ≡ slice_set now i (lock_of (lock_at now i).line true) → new ≡ slice_set items i (lock_of (lock_at items i).line true)
list_so now items new i e f = f ∙ ap (λ (ls : List HeldLock). slice_set ls i (lock_of (lock_at ls i).line true)) e

pub raise_line-won-requires : goal.raise_line-won-requires
raise_line-won-requires g c = raise_stands g.M.LaneMem.at c.args.lane.now c.args.i (lock_at c.deref.result.now c.args.i).line (line_so c.deref.result.now c.args.lane.now.locks.items c.args.i c.deref.ensures.0) c.args.lane.now.memory c.requires.stands

pub returns-then-won : goal.returns-then-won
returns-then-won g c =
    let is = list_so c.as_mut_slice.result.now c.args.lane.now.locks.items c.mark.new.locks c.args.i c.as_mut_slice.ensures.value c.mark.ensures in
    raised_won g.M.LaneMem.at c.args.lane.now c.args.i (lock_at c.deref.result.now c.args.i).line (line_so c.deref.result.now c.args.lane.now.locks.items c.args.i c.deref.ensures.0) c.raise_line-won.new.mem
    (record c.args.lane.now { memory = c.raise_line-won.new.mem; locks = record { items = refill (length c.args.lane.now.locks.items) c.args.lane.now.locks.items c.mark.new.locks } }) c.raise_line-won.result c.if-won.true c.raise_line-won.ensures refl
    (refilled c.args.lane.now.locks.items c.mark.new.locks (ap length is ∙ length-set c.args.lane.now.locks.items c.args.i (lock_of (lock_at c.args.lane.now.locks.items c.args.i).line true)) ∙ is)

pub returns-else-won : goal.returns-else-won
returns-else-won g c = raised_lost g.M.LaneMem.at c.args.lane.now c.args.i (lock_at c.deref.result.now c.args.i).line (line_so c.deref.result.now c.args.lane.now.locks.items c.args.i c.deref.ensures.0) c.raise_line-won.new.mem c.raise_line-won.result c.if-won.false c.raise_line-won.ensures
