use Rattle.std.proofs.Common.{◌≡◌, ◌+◌, ℕ, refl, subst, arith, rules}
use Rattle.solo_view.specs.Steps.Step.{Load}
use Rattle.solo_world.specs.Sequences.{IsMade, looks}
use Rattle.solo_world.proofs.Sequencing.{counted_none, counted_next, counted_more, runs_look, allowed_look}
use Rattle.solo_undo.specs.Sequences.{looks_from}
use Rattle.solo_undo.proofs.Looking.{all_looks, look_found, found_more}
use Rattle.solo_undo.proofs.record.words_of.Goals as goal

pub loop-i-init : goal.loop-i-init
loop-i-init g c = record { made = counted_none (g.M.LaneMem.at c.args.mem.now) (λ i. looks (c.args.span.word + i)); found = λ v seen r. refl }

pub load-requires : goal.load-requires
unfolding looks_from
load-requires g c found =
    let ready = counted_next (g.M.LaneMem.at c.args.mem.now) (λ i. looks (c.args.span.word + i)) c.args.span.count c.loop-i.i (g.M.LaneMem.at c.loop-i.mem) tt
    c.loop-i-test.true c.requires.ready c.loop-i.invariant.made in
    let r = allowed_look (g.M.LaneMem.at c.loop-i.mem) (c.args.span.word + c.loop-i.i) ready in
    g.met.M.LawfulMem.meets c.loop-i.mem r.0 (Load (c.args.span.word + c.loop-i.i) found) r.1.0 (r.1.1 found)

pub loop-i-preserved : goal.loop-i-preserved
loop-i-preserved g c =
    let old = g.M.LaneMem.at c.args.mem.now in
    let mid = g.M.LaneMem.at c.loop-i.mem in
    let most = c.requires.span.most in
    let within = c.loop-i-test.true in
    record {
      made = counted_more old (λ i. looks (c.args.span.word + i)) c.loop-i.i mid (g.M.LaneMem.at c.load.new.self) tt tt c.loop-i.invariant.made (runs_look mid (g.M.LaneMem.at c.load.new.self) (c.args.span.word + c.loop-i.i) c.load.result c.load.ensures);
      found = λ v seen r.
          found_more c.loop-i.words v.words c.args.span.word c.loop-i.i c.load.result (omega (arith, most, within)) (c.loop-i.invariant.found v seen r)
          (look_found old mid c.args.span.word c.loop-i.i c.args.span.count c.load.result within c.loop-i.invariant.made (λ w there. (c.load.ensures w there).1) v seen r);
    }

pub returns-clause-made : goal.returns-clause-made
unfolding looks_from
returns-clause-made g c =
    subst (λ (n : ℕ). IsMade (g.M.LaneMem.at c.args.mem.now) (g.M.LaneMem.at c.loop-i.mem) (all_looks c.args.span.word n)) (let e : c.loop-i.i ≡ c.args.span.count = search rules in e) c.loop-i.invariant.made
