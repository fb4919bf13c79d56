use Rattle.std.proofs.Common.{◌≡◌, ◌<◌, ◌∷◌, [], Bool, cond, eqb, eq-eqb, ne_eqb, length, sym, subst, arith, rules}
use Rattle.pm_reopen.specs.Plan.MemoryCall.{Drain}
use Rattle.pm_reopen.specs.Running.{Halts, Makes}
use Rattle.pm_reopen.proofs.Making.{halts_at, makes_none, makes_one, ran_error}
use Rattle.pm_reopen.proofs.clearing.drain_changes.Goals as goal

pub returns-then-undrained-eq0 : goal.returns-then-undrained-eq0
returns-then-undrained-eq0 c =
    let none : length c.args.mem.now.changes ≡ 0 = search rules in
    subst (λ (b : Bool). Makes c.args.mem.now c.args.mem.now (cond b [] (Drain ∷ []))) (sym (eq-eqb (length c.args.mem.now.changes) 0 none)) (makes_none c.args.mem.now)

pub drain-requires : goal.drain-requires
drain-requires c = search rules

pub returns-in_err-drain : goal.returns-in_err-drain
returns-in_err-drain c =
    let some : 0 < length c.args.mem.now.changes = search rules in
    ran_error c.args.mem.now c.drain.new.self (cond (eqb (length c.args.mem.now.changes) 0) [] (Drain ∷ [])) c.from_residual.result c.from_residual.ensures.0
    (subst (λ (b : Bool). Halts c.args.mem.now c.drain.new.self (cond b [] (Drain ∷ []))) (sym (ne_eqb (length c.args.mem.now.changes) 0 (λ none. omega (arith, none, some))))
    (halts_at c.args.mem.now c.drain.new.self Drain c.in_err-drain.ensures.stop c.in_err-drain.ensures.said))

pub returns-in_ok-drain : goal.returns-in_ok-drain
returns-in_ok-drain c =
    let some : 0 < length c.args.mem.now.changes = search rules in
    subst (λ (b : Bool). Makes c.args.mem.now c.drain.new.self (cond b [] (Drain ∷ []))) (sym (ne_eqb (length c.args.mem.now.changes) 0 (λ none. omega (arith, none, some))))
    (makes_one c.args.mem.now c.drain.new.self Drain c.in_ok-drain.ensures.due c.in_ok-drain.ensures.done)
