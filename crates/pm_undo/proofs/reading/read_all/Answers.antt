use Rattle.std.proofs.Common.{◌≡◌, ◌+◌, ℕ, ◌++◌, ◌∷◌, [], length, sym, ap, ◌∙◌, subst, rules, length-append}
use Rattle.pm_plan.specs.Plans.{IsMade, repeated}
use Rattle.pm_plan.proofs.Plans.{repeated_none, repeated_next, repeated_more}
use Rattle.pm_undo.specs.Plans.{looks_at, looks_first, looks_from}
use Rattle.pm_undo.specs.Spans.{span_at}
use Rattle.pm_undo.proofs.Looking.{none_found, span_found}
use Rattle.pm_undo.proofs.reading.read_all.Goals as goal

pub loop-span-init : goal.loop-span-init
loop-span-init g c = record { made = repeated_none (g.M.LaneMem.at c.args.mem.now) (λ i. looks_from (span_at c.args.spans.now i).word (span_at c.args.spans.now i).count); found = λ v seen r. c.new-kept.ensures ∙ sym (none_found c.args.spans.now v); many = ap length c.new-kept.ensures }

pub read_span-requires-clause-ready : goal.read_span-requires-clause-ready
unfolding looks_at looks_first
read_span-requires-clause-ready g c =
    repeated_next (g.M.LaneMem.at c.args.mem.now) (λ i. looks_from (span_at c.args.spans.now i).word (span_at c.args.spans.now i).count) (length c.args.spans.now) c.loop-span.span-index (g.M.LaneMem.at c.loop-span.mem) tt c.loop-span-test.true c.requires.ready c.loop-span.invariant.made

pub loop-span-preserved : goal.loop-span-preserved
loop-span-preserved g c =
    let old = g.M.LaneMem.at c.args.mem.now in
    let mid = g.M.LaneMem.at c.loop-span.mem in
    record {
      made = repeated_more old (λ i. looks_from (span_at c.args.spans.now i).word (span_at c.args.spans.now i).count) c.loop-span.span-index mid (g.M.LaneMem.at c.read_span.new.mem) tt tt c.loop-span.invariant.made c.read_span.ensures.made;
      found = λ v seen r. c.push.ensures.items ∙ (ap (λ l. l ++ c.read_span.result ∷ []) (c.loop-span.invariant.found v seen r) ∙ span_found old mid c.args.spans.now c.loop-span.span-index c.read_span.result c.loop-span-test.true c.loop-span.invariant.made c.read_span.ensures.found v seen r);
      many = ap length c.push.ensures.items ∙ (length-append c.loop-span.kept.items (c.read_span.result ∷ []) ∙ ap (λ n. n + 1) c.loop-span.invariant.many);
    }

pub returns-clause-made : goal.returns-clause-made
unfolding looks_at looks_first
returns-clause-made g c =
    subst (λ (n : ℕ). IsMade (g.M.LaneMem.at c.args.mem.now) (g.M.LaneMem.at c.loop-span.mem) (repeated (λ i. looks_from (span_at c.args.spans.now i).word (span_at c.args.spans.now i).count) n)) (let e : c.loop-span.span-index ≡ length c.args.spans.now = search rules in e) c.loop-span.invariant.made
