use Rattle.std.proofs.Common.{◌≡◌, ◌≢◌, ⊎_elim, Err, ap, ◌∙◌, rules}
use Rattle.pm_objects.specs.declared.refusal.Refusal.TheVariants as refusal
use Rattle.solo_transaction.proofs.Owned.{had_owned, pool_owned}
use Rattle.solo_transaction.proofs.publish_checks.has_object.Goals as goal

pub returns-in-Ok-clause-yes : goal.returns-in-Ok-clause-yes
returns-in-Ok-clause-yes g c is o v all =
    let own = c.in-Ok.ensures.ok o v all in (
      pool_owned o g.M.LaneMem.at c.args.lane.now c.args.blocks.now v all c.args.id c.in-Ok.field-0 own,
      had_owned o g.M.LaneMem.at c.args.lane.now c.args.blocks.now v all c.args.id c.in-Ok.field-0 own,
    )

pub returns-in-Err-clause-yes : goal.returns-in-Err-clause-yes
returns-in-Err-clause-yes g c is o v all =
    let other : c.in-Err.why ≢ refusal.NotLocked = search rules in
    let lost : c.in-Err.why ≡ refusal.NoObject = ⊎_elim (λ (e : c.in-Err.why ≡ refusal.NotLocked). absurd (other e)) (λ (e : c.in-Err.why ≡ refusal.NoObject). e) c.in-Err.ensures.causes in
    let gone = c.owned_at.ensures.gone (c.in-Err.is ∙ ap Err lost) o v all in
    (gone.of_pool, gone.has)
