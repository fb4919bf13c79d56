use Rattle.std.proofs.Common.{◌≡◌, ◌+◌, ◌-◌, ◌++◌, ℕ, replicate, sym, ap, ◌∙◌, subst, arith, rules}
use Rattle.pm_plan.specs.Plans.{IsMade, looks, repeated}
use Rattle.pm_plan.proofs.Plans.{repeated_none, repeated_next, repeated_more}
use Rattle.pm_undo.specs.Plans.{looked_words, looks_from}
use Rattle.pm_undo.proofs.Looking.{found_more, kept_as, look_found, many_looked, none_looked}
use Rattle.pm_undo.proofs.reading.read_span.Goals as goal

pub loop-i-init : goal.loop-i-init
loop-i-init g c = record { made = repeated_none (g.M.LaneMem.at c.args.mem.now) (λ i. looks (c.args.span.word + i)); found = λ v seen r. ap (λ l. l ++ replicate 4 0) (sym (none_looked c.args.span.word v)) }

pub look-requires : goal.look-requires
unfolding looks_from
look-requires g c =
    repeated_next (g.M.LaneMem.at c.args.mem.now) (λ i. looks (c.args.span.word + i)) c.args.span.count c.loop-i.i (g.M.LaneMem.at c.loop-i.mem) tt c.loop-i-test.true c.requires.ready c.loop-i.invariant.made

pub loop-i-preserved : goal.loop-i-preserved
loop-i-preserved g c =
    let old = g.M.LaneMem.at c.args.mem.now in
    let mid = g.M.LaneMem.at c.loop-i.mem in
    let most = c.requires.span.most in
    let within = c.loop-i-test.true in
    record {
      made = repeated_more old (λ i. looks (c.args.span.word + i)) c.loop-i.i mid (g.M.LaneMem.at c.look.new.mem) tt tt c.loop-i.invariant.made c.look.ensures.made;
      found = λ v seen r.
          found_more c.loop-i.old c.args.span.word c.loop-i.i c.look.result v (omega (arith, most, within)) (c.loop-i.invariant.found v seen r)
          (look_found old mid c.args.span.word c.loop-i.i c.args.span.count c.look.result within c.loop-i.invariant.made c.look.ensures.found v seen r);
    }

pub returns-clause-made : goal.returns-clause-made
unfolding looks_from
returns-clause-made g c =
    subst (λ (n : ℕ). IsMade (g.M.LaneMem.at c.args.mem.now) (g.M.LaneMem.at c.loop-i.mem) (repeated (λ i. looks (c.args.span.word + i)) n)) (let e : c.loop-i.i ≡ c.args.span.count = search rules in e) c.loop-i.invariant.made

pub returns-clause-found : goal.returns-clause-found
returns-clause-found g c v seen r =
    let up : c.loop-i.i ≡ c.args.span.count = search rules in
    let all : c.loop-i.old ≡ looked_words c.args.span.word c.args.span.count v ++ replicate (4 - c.args.span.count) 0 = c.loop-i.invariant.found v seen r ∙ ap (λ n. looked_words c.args.span.word n v ++ replicate (4 - n) 0) up in
    ap (λ old. kept_as c.args.span old) (all ∙ ap (λ n. looked_words c.args.span.word c.args.span.count v ++ replicate (4 - n) 0) (sym (many_looked c.args.span.word c.args.span.count v)))
