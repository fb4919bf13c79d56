use Rattle.std.proofs.Common.{ℕ, ◌/◌, sym, subst, Ok}
use Rattle.pm_plan.specs.Plans.{IsReady, Plan, Runs, ands, ors, stores}
use Rattle.pm_redo.specs.Plans.{applies_entry}
use Rattle.pm_redo.proofs.Finds.{and_is, finding_none, finding_same, or_is, runs_any, set_is}
use Rattle.pm_redo.proofs.effects.apply.Goals as goal

pub store-requires : goal.store-requires
store-requires g c = subst (IsReady (g.M.LaneMem.at c.args.mem.now))
    (set_is c.args.entry 0 c.in-Set.is) (c.requires 0)

pub returns-in_err-store-in-Set : goal.returns-in_err-store-in-Set
returns-in_err-store-in-Set g c = finding_none (Unit {0}) (g.M.LaneMem.at c.args.mem.now)
    (g.M.LaneMem.at c.store.new.mem) (applies_entry c.args.entry)
    (stores (c.args.entry.place / 8) c.args.entry.value) c.in_err-store-in-Set.field-0.0
    c.from_residual.result (λ found. set_is c.args.entry found c.in-Set.is)
    c.from_residual.ensures.0 c.in_err-store-in-Set.ensures

pub returns-in_ok-store-in-Set : goal.returns-in_ok-store-in-Set
returns-in_ok-store-in-Set g c = subst (λ (s : Plan). Runs {T = ℕ} (g.M.LaneMem.at c.args.mem.now)
    (g.M.LaneMem.at c.store.new.mem) s (Ok 0)) (sym (set_is c.args.entry 0 c.in-Set.is))
    (runs_any (Unit {0}) ℕ (g.M.LaneMem.at c.args.mem.now) (g.M.LaneMem.at c.store.new.mem)
    (stores (c.args.entry.place / 8) c.args.entry.value) tt 0 c.in_ok-store-in-Set.ensures)

pub or-requires : goal.or-requires
or-requires g c found = subst (IsReady (g.M.LaneMem.at c.args.mem.now))
    (or_is c.args.entry found c.in-Or.is) (c.requires found)

pub returns-in-Or : goal.returns-in-Or
returns-in-Or g c = finding_same (g.M.LaneMem.at c.args.mem.now) (g.M.LaneMem.at c.or.new.mem)
    (applies_entry c.args.entry) (ors (c.args.entry.place / 8) c.args.entry.value) c.or.result
    (λ found. or_is c.args.entry found c.in-Or.is) c.or.ensures

pub and-requires : goal.and-requires
and-requires g c found = subst (IsReady (g.M.LaneMem.at c.args.mem.now))
    (and_is c.args.entry found c.in-And.is) (c.requires found)

pub returns-in-And : goal.returns-in-And
returns-in-And g c = finding_same (g.M.LaneMem.at c.args.mem.now) (g.M.LaneMem.at c.and.new.mem)
    (applies_entry c.args.entry) (ands (c.args.entry.place / 8) c.args.entry.value) c.and.result
    (λ found. and_is c.args.entry found c.in-And.is) c.and.ensures
