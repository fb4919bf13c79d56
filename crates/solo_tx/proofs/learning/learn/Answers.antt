use Rattle.std.proofs.Common.{◌≡◌, ◌+◌, ◌/◌, ◌<◌, length, subst, ◌∙◌, arith, rules}
use Rattle.solo_view.specs.Steps.Step.{Load}
use Rattle.solo_view.specs.Views.{after}
use Rattle.solo_tx.specs.Learning.{Learns}
use Rattle.solo_tx.proofs.Learned.{learns_more, learns_none, learns_size}
use Rattle.solo_tx.proofs.WrittenBytes.{counted_covered}
use Rattle.solo_tx.proofs.learning.learn.Goals as goal

pub loop-i-init : goal.loop-i-init
loop-i-init g c v seen = (v, (seen, learns_none (c.args.place / 8) v))

pub load-found-requires : goal.load-found-requires
load-found-requires g c found =
    let r = c.requires.inside in
    let t = c.loop-i.invariant r.0 r.1.0 in
    let size = learns_size (c.args.place / 8) c.loop-i.i r.0 t.0 t.1.1 in
    let below = subst (λ n. c.loop-i.i < n) c.count_words-i-end.ensures c.loop-i-test.true in
    let inside = r.1.1 (c.args.place / 8 + c.loop-i.i) (counted_covered c.args.place c.args.len c.loop-i.i below) in
    g.met.M.LawfulMem.meets c.loop-i.mem t.0 (Load (c.args.place / 8 + c.loop-i.i) found) t.1.0 (let e : c.args.place / 8 + c.loop-i.i < length t.0.words = omega (arith, size, inside) in e)

pub loop-i-preserved : goal.loop-i-preserved
loop-i-preserved g c v seen =
    let t = c.loop-i.invariant v seen in
    let made = c.load-found.ensures t.0 t.1.0 in
    (after t.0 (Load (c.args.place / 8 + c.loop-i.i) c.load-found.result), (made.0, learns_more (c.args.place / 8) c.loop-i.i v t.0 c.load-found.result t.1.1 (made.1, made.2)))

pub returns : goal.returns
returns g c v seen =
    let t = c.loop-i.invariant v seen in
    (t.0, (t.1.0, subst (λ n. Learns (c.args.place / 8) n v t.0) (let e : c.loop-i.i ≡ c.count_words-i-end.result = search rules in e ∙ c.count_words-i-end.ensures) t.1.1))
