use Rattle.std.proofs.Common.{◌<◌, ◌≤◌, inl, inr, subst, sym, arith}
use Rattle.solo_view.specs.Steps.Step.{NumberSeen}
use Rattle.solo_world.specs.Lawful.{generation_limit}
use Rattle.solo_world.specs.Records.{generation_of}
use Rattle.solo_world.specs.declared.lane.Lane.{Lane}
use Rattle.solo_tx.specs.Beginning.{IsBegunBy, IsSpent}
use Rattle.solo_tx.specs.Sequences.{starts}
use Rattle.solo_tx.proofs.Started.{has_begun, saw, spent_at_once, started_spent, u}
use Rattle.solo_tx.proofs.starting.start.Goals as goal

pub returns-then-load_generation-ge-LIMIT-clause-spent : goal.returns-then-load_generation-ge-LIMIT-clause-spent
returns-then-load_generation-ge-LIMIT-clause-spent g c v is =
    let found = c.load_generation.ensures.found v is.seen.memory in
    let high = c.if-load_generation-ge-LIMIT.true in
    let spent : generation_limit ≤ generation_of v = omega (arith, found, high) in
    subst (λ (lane : Lane g.row.M.Denot). IsSpent g.M.LaneMem.at lane v) (sym c.load_generation.ensures.else_same)
    (inl (spent, spent_at_once g.M.LaneMem.at c.args.lane.now v is c.load_generation.new.lane.memory c.load_generation.ensures.made))

pub number_seen-drawn-requires : goal.number_seen-drawn-requires
number_seen-drawn-requires g c n =
    let is = c.requires.rests in
    g.met.M.LawfulMem.meets c.load_generation.new.lane.memory (u g.M.LaneMem.at c.args.lane.now is.0 is.1) (NumberSeen n)
    (saw g.M.LaneMem.at c.args.lane.now is.0 is.1 (g.M.LaneMem.at c.load_generation.new.lane.memory) c.load_generation.ensures.made) tt

pub returns-then-drawn-ge-LIMIT-clause-spent : goal.returns-then-drawn-ge-LIMIT-clause-spent
returns-then-drawn-ge-LIMIT-clause-spent g c v is =
    let n = c.number_seen-drawn.result in
    let high = c.if-drawn-ge-LIMIT.true in
    let spent : generation_limit ≤ n = omega (arith, high) in
    subst (λ (lane : Lane g.row.M.Denot). IsSpent g.M.LaneMem.at (record lane { memory = c.number_seen-drawn.new.self }) v) (sym c.load_generation.ensures.else_same)
    (inr (
      n,
      (
        spent,
        started_spent g.M.LaneMem.at c.args.lane.now v is n (g.M.LaneMem.at c.load_generation.new.lane.memory) c.number_seen-drawn.new.self c.load_generation.ensures.made c.number_seen-drawn.ensures,
      ),
    ))

pub returns-clause-begun : goal.returns-clause-begun
returns-clause-begun g c v is =
    let n = c.number_seen-drawn.result in
    let found = c.load_generation.ensures.found v is.seen.memory in
    let low = c.if-load_generation-ge-LIMIT.false in
    let few = c.if-drawn-ge-LIMIT.false in
    let generation : generation_of v < generation_limit = omega (arith, found, low) in
    let below : n < generation_limit = omega (arith, few) in
    subst (λ (lane : Lane g.row.M.Denot). IsBegunBy g.M.LaneMem.at (record lane { memory = c.number_seen-drawn.new.self }) v (starts n)) (sym c.load_generation.ensures.else_same)
    (has_begun g.M.LaneMem.at c.args.lane.now v is n (g.M.LaneMem.at c.load_generation.new.lane.memory) c.number_seen-drawn.new.self c.load_generation.ensures.made c.number_seen-drawn.ensures generation below)
