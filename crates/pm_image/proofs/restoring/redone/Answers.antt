use Rattle.std.proofs.Common.{◌≡◌, eqb, None, Some, Option, ℕ, Bool, true, false, cond, get_or, sym, ◌∙◌, ap, take, arith}
use Rattle.std.specs.List.{filter}
use Rattle.std.specs.Option.{unwrap_or}
use Rattle.std.proofs.lemmas.Bool.Decides.{nat_tests}
use Rattle.pm_record.specs.Redo.{applied}
use Rattle.pm_record.specs.declared.redo.Redo.{Redo}
use Rattle.pm_record.specs.declared.redo.Op.TheVariants.{Set}
use Rattle.pm_image.specs.Steps.{made}
use Rattle.pm_image.proofs.Redoing.{made_none}
use Rattle.pm_image.proofs.Logged.{made_more}
use Rattle.pm_image.proofs.restoring.redone.Goals as goal
use Rattle.pm_image.proofs.restoring.redone.Goals.{then-one-place, else-one-place}

pub loop-one-init : goal.loop-one-init
loop-one-init c = sym (made_none None c.args.word)

pub loop-one-preserved : goal.loop-one-preserved
loop-one-preserved c =
    let d : Redo = record { place = 0; op = Set; value = 0 } in
    let e : Redo = get_or c.args.found.now c.loop-one.one-index d in
    let before : Option ℕ = made None (filter (λ x. eqb x.place c.args.place) (take c.loop-one.one-index c.args.found.now)) c.args.word in
    let more = made_more c.args.found.now c.loop-one.one-index c.args.place c.args.word d c.loop-one-test.true in
    elim c.if-one-place.branch [
      | then-one-place w ↦
          let here : eqb e.place c.args.place ≡ true = grind (arith, nat_tests) in
          w.so_far-is ∙ ap Some (w.apply.ensures.value ∙ ap (applied e) (w.unwrap_or.ensures ∙ ap (λ (o : Option ℕ). unwrap_or o c.args.word) c.loop-one.invariant))
          ∙ sym (more ∙ ap (λ (b : Bool). cond b (Some (applied e (unwrap_or before c.args.word))) before) here)
      | else-one-place w ↦
          let here : eqb e.place c.args.place ≡ false = grind (arith, nat_tests) in
          w.so_far-is ∙ c.loop-one.invariant ∙ sym (more ∙ ap (λ (b : Bool). cond b (Some (applied e (unwrap_or before c.args.word))) before) here)
    ]
