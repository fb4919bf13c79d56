use Rattle.std.proofs.Common.{◌≡◌, ℕ, map, sym, subst, arith}
use Rattle.std.specs.List.{flat_map, range_with_len}
use Rattle.pm_reopen.specs.Plan.{restores}
use Rattle.pm_reopen.specs.Plan.MemoryCall.{Change}
use Rattle.pm_reopen.specs.Running.{Halts, Makes}
use Rattle.pm_reopen.proofs.Counting.{changes_in, makes_long, makes_many, parts_many}
use Rattle.pm_reopen.proofs.Making.{makes_none, parts_halt, parts_made, ran_error}
use Rattle.pm_reopen.proofs.Parts.{restore_call, restores_by_number}
use Rattle.pm_reopen.proofs.writing.restore.Goals as goal

pub loop-k-init : goal.loop-k-init
loop-k-init c = makes_none c.args.mem.now

pub put-requires-clause-word : goal.put-requires-clause-word
put-requires-clause-word c =
    let long = makes_long c.args.mem.now c.loop-k.mem (flat_map (restore_call c.args.one.now) (range_with_len 0 c.loop-k.k)) c.loop-k.invariant in
    let within = c.requires.within in
    let low = c.loop-k-test.true in
    omega (arith, long, within, low)

pub put-requires-clause-small : goal.put-requires-clause-small
put-requires-clause-small c =
    let long = makes_long c.args.mem.now c.loop-k.mem (flat_map (restore_call c.args.one.now) (range_with_len 0 c.loop-k.k)) c.loop-k.invariant in
    let small = c.requires.small in
    omega (arith, long, small)

pub put-requires-clause-room : goal.put-requires-clause-room
unfolding changes_in
put-requires-clause-room c =
    let many = makes_many c.args.mem.now c.loop-k.mem (flat_map (restore_call c.args.one.now) (range_with_len 0 c.loop-k.k)) c.loop-k.invariant in
    let parts = parts_many (restore_call c.args.one.now) (λ k. k) c.loop-k.k (λ j near. omega arith) in
    let few = c.requires.few in
    let low = c.loop-k-test.true in
    let room = c.requires.room in
    omega (arith, many, parts, few, low, room)

pub returns-in_err-put : goal.returns-in_err-put
returns-in_err-put c =
    ran_error c.args.mem.now c.put.new.mem (map Change (restores c.args.one.now)) c.from_residual.result c.from_residual.ensures.0
    (subst (Halts c.args.mem.now c.put.new.mem) (sym (restores_by_number c.args.one.now))
    (parts_halt (restore_call c.args.one.now) c.args.mem.now c.loop-k.mem c.put.new.mem c.loop-k.k c.args.one.now.count c.loop-k-test.true c.loop-k.invariant c.in_err-put.ensures))

pub loop-k-preserved : goal.loop-k-preserved
loop-k-preserved c = parts_made (restore_call c.args.one.now) c.args.mem.now c.loop-k.mem c.put.new.mem c.loop-k.k c.loop-k.invariant c.in_ok-put.ensures

pub returns : goal.returns
returns c =
    let end : c.loop-k.k ≡ c.args.one.now.count = omega arith in
    subst (Makes c.args.mem.now c.loop-k.mem) (sym (restores_by_number c.args.one.now))
    (subst (λ (n : ℕ). Makes c.args.mem.now c.loop-k.mem (flat_map (restore_call c.args.one.now) (range_with_len 0 n))) end c.loop-k.invariant)
