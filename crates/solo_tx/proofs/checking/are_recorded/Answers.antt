use Rattle.std.proofs.Common.{◌≡◌, ◌+◌, ◌-◌, ◌/◌, ◌<◌, ◌≤◌, ⊎_elim, true, false, sym, ◌∙◌, subst, arith, rules}
use Rattle.std.proofs.Math.Nat.{eq-or-lt_of_le}
use Rattle.solo_model.specs.Bytes.{is_among}
use Rattle.solo_undo.specs.Spans.{words_in}
use Rattle.solo_tx.proofs.WrittenBytes.{counted_covered, covered_counted}
use Rattle.solo_tx.specs.Sequences.{word_count}
use Rattle.solo_tx.proofs.checking.are_recorded.Goals as goal

pub loop-i-init : goal.loop-i-init
loop-i-init c k low = absurd (omega (arith, low))

pub loop-i-preserved : goal.loop-i-preserved
loop-i-preserved c k low =
    ⊎_elim
    (λ (this : k ≡ c.loop-i.i). subst (λ j. is_among (words_in c.args.records.now) (c.args.place / 8 + j) ≡ true) (sym this) (let e : is_among (words_in c.args.records.now) (c.args.place / 8 + c.loop-i.i) ≡ true = search rules in e))
    (λ (front : k < c.loop-i.i). c.loop-i.invariant k front)
    (eq-or-lt_of_le (let e : k ≤ c.loop-i.i = omega (arith, low) in e))

pub returns-then-not-is_recorded-clause-no_ : goal.returns-then-not-is_recorded-clause-no_
returns-then-not-is_recorded-clause-no_ c e = (
  c.args.place / 8 + c.loop-i.i,
  (
    counted_covered c.args.place c.args.len c.loop-i.i (subst (λ n. c.loop-i.i < n) c.count_words-i-end.ensures c.loop-i-test.true),
    let none : is_among (words_in c.args.records.now) (c.args.place / 8 + c.loop-i.i) ≡ false = search rules in none,
  ),
)

pub returns-clause-yes : goal.returns-clause-yes
returns-clause-yes c e i there =
    let up : c.loop-i.i ≡ word_count c.args.place c.args.len = (let same : c.loop-i.i ≡ c.count_words-i-end.result = search rules in same ∙ c.count_words-i-end.ensures) in
    let t = covered_counted c.args.place c.args.len i there in
    let from = t.0 in
    subst (λ j. is_among (words_in c.args.records.now) j ≡ true) (let at : c.args.place / 8 + (i - c.args.place / 8) ≡ i = omega (arith, from) in at) (c.loop-i.invariant (i - c.args.place / 8) (subst (λ n. i - c.args.place / 8 < n) (sym up) t.1))
