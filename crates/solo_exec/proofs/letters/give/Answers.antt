use Rattle.std.proofs.Common.{◌≡◌, ◌++◌, ◌∷◌, [], ℕ, sym, rules}
use Rattle.pm_objects.specs.declared.history.Value.TheVariants.{Offset}
use Rattle.solo_exec.specs.Letters.{Offsets}
use Rattle.solo_exec.proofs.GivenLetters.{gives_none, gives_one, none_more}
use Rattle.solo_exec.proofs.letters.give.Goals as goal
use Rattle.solo_exec.proofs.letters.give.Goals.{in-Offset+in_ok-push, in_default}

pub loop-pair-init : goal.loop-pair-init
loop-pair-init c = sym (none_more c.args.given.now.items)

pub loop-pair-preserved : goal.loop-pair-preserved
loop-pair-preserved c =
    let v = c.pair-item.result in
    let given : Offsets = c.args.given.now.items in
    elim c.match-pair.branch [
      | in-Offset+in_ok-push w ↦ (
          let is_off : v.1 ≡ Offset w.in-Offset.off = search rules in
          let pushed : c.match-pair.given.items ≡ c.loop-pair.given.items ++ (v.0, w.in-Offset.off) ∷ [] = search rules in
          gives_one given c.args.values.now c.loop-pair.pair-index v c.loop-pair-test.true c.pair-item.is c.loop-pair.given.items c.match-pair.given.items c.loop-pair.invariant w.in-Offset.off is_off pushed)
      | in_default w ↦ (
          let same : c.match-pair.given.items ≡ c.loop-pair.given.items = search rules in
          let other : (off : ℕ) → v.1 ≡ Offset off → ⊥ = λ off is_off. search rules in
          gives_none given c.args.values.now c.loop-pair.pair-index v c.loop-pair-test.true c.pair-item.is c.loop-pair.given.items c.match-pair.given.items c.loop-pair.invariant other same)
    ]
