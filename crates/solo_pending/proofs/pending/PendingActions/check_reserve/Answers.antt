use Rattle.std.proofs.Common.{◌≡◌, ◌≢◌, ◌<◌, ◌≤◌, ◌||◌, ⊎_elim, Bool, true, false, cond, eqb, ltb, Some, sym, ◌∙◌, ap, arith}
use Rattle.std.proofs.lemmas.Bool.{eq-eqb, le-ltb, lt-ltb, ne_eqb, or_from}
use Rattle.std.proofs.Math.Bool.{or-true}
use Rattle.pm_objects.specs.declared.refusal.Refusal.TheVariants as refusal
use Rattle.solo_crash.specs.OnActions.{defer_refusal}
use Rattle.solo_pending.proofs.AllRefused.{reserve_answers}
use Rattle.solo_pending.proofs.pending.PendingActions.check_reserve.Goals as goal

pub returns-then-size-eq0-clause-answers : goal.returns-then-size-eq0-clause-answers
returns-then-size-eq0-clause-answers c = λ pool p kind lists.
    let bad : (eqb c.args.size 0 || ltb 262080 c.args.size) ≡ true = ⊎_elim
    (λ (none : c.args.size ≡ 0). ap (λ (b : Bool). b || ltb 262080 c.args.size) (eq-eqb c.args.size 0 none))
    (λ (more : (c.args.size ≢ 0) × (262080 < c.args.size)). ap (λ (b : Bool). eqb c.args.size 0 || b) (lt-ltb 262080 c.args.size more.1) ∙ or-true (eqb c.args.size 0))
    c.then-size-eq0.either in
    reserve_answers pool p c.args.size kind ∙ ap (λ (b : Bool). cond b (Some refusal.BadSize) (defer_refusal p)) bad

pub returns-clause-answers : goal.returns-clause-answers
returns-clause-answers c = λ pool p kind lists.
    let some : c.args.size ≢ 0 = omega arith in
    let most : c.args.size ≤ 262080 = omega arith in
    let fine : (eqb c.args.size 0 || ltb 262080 c.args.size) ≡ false = or_from (eqb c.args.size 0) (ltb 262080 c.args.size) (ne_eqb c.args.size 0 some) (le-ltb 262080 c.args.size most) in
    reserve_answers pool p c.args.size kind ∙ (ap (λ (b : Bool). cond b (Some refusal.BadSize) (defer_refusal p)) fine ∙ sym (c.check_room.ensures.reason p lists))
