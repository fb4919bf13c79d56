use Rattle.std.proofs.Common.{◌≡◌, ◌+◌, ◌<◌, ◌≤◌, true, false, None, Some, find, sym, ◌∙◌, arith, rules}
use Rattle.std.proofs.lemmas.Bool.{le-ltb, lt-ltb}
use Rattle.solo_pending.proofs.AllRefused.{put_answers}
use Rattle.solo_pending.proofs.AreReserved.{is_at, put_elsewhere, put_inside, put_leaves, put_nowhere, put_there}
use Rattle.solo_pending.proofs.pending.PendingActions.check_put.Goals as goal
use Rattle.solo_pending.proofs.pending.PendingActions.check_put.Goals.{then-off-one-via-then-off-one, then-off-one-via-else-off-one+then-len-one}

pub returns-then-id-pool-clause-answers : goal.returns-then-id-pool-clause-answers
returns-then-id-pool-clause-answers c = λ view p bytes of_view long lists.
    put_answers view p c.args.id c.args.off bytes c.args.pool c.args.len of_view long ∙ sym (put_elsewhere c.args.pool p c.args.id c.args.off c.args.len c.if-id-pool.true)

pub returns-in_default-clause-reason : goal.returns-in_default-clause-reason
returns-in_default-clause-reason c = λ p lists.
    let none : find (is_at c.args.id.off) c.args.self.now.reserved.items ≡ None = search rules in
    put_nowhere c.args.self.now c.args.pool p c.args.id c.args.off c.args.len lists none

pub returns-in_default-clause-answers : goal.returns-in_default-clause-answers
returns-in_default-clause-answers c = λ view p bytes of_view long lists.
    put_answers view p c.args.id c.args.off bytes c.args.pool c.args.len of_view long ∙ sym (returns-in_default-clause-reason c p lists)

pub returns-then-off-one-clause-reason : goal.returns-then-off-one-clause-reason
returns-then-off-one-clause-reason c = λ p lists.
    let found : find (is_at c.args.id.off) c.args.self.now.reserved.items ≡ Some c.in-Some.one = search rules in
    let passes : c.in-Some.one.size < c.args.off + c.args.len = elim c.then-off-one.branch [
      | then-off-one-via-then-off-one w ↦ omega arith
      | then-off-one-via-else-off-one+then-len-one w ↦ omega arith
    ] in
    put_there c.args.self.now c.args.pool p c.args.id c.args.off c.args.len c.in-Some.one true lists c.if-id-pool.false found (lt-ltb c.in-Some.one.size (c.args.off + c.args.len) passes)

pub returns-then-off-one-clause-answers : goal.returns-then-off-one-clause-answers
returns-then-off-one-clause-answers c = λ view p bytes of_view long lists.
    put_answers view p c.args.id c.args.off bytes c.args.pool c.args.len of_view long ∙ sym (returns-then-off-one-clause-reason c p lists)

pub returns-clause-reason : goal.returns-clause-reason
returns-clause-reason c = λ p lists.
    let found : find (is_at c.args.id.off) c.args.self.now.reserved.items ≡ Some c.in-Some.one = search rules in
    let inside : c.args.off + c.args.len ≤ c.in-Some.one.size = omega arith in
    put_there c.args.self.now c.args.pool p c.args.id c.args.off c.args.len c.in-Some.one false lists c.if-id-pool.false found (le-ltb c.in-Some.one.size (c.args.off + c.args.len) inside)

pub returns-clause-answers : goal.returns-clause-answers
returns-clause-answers c = λ view p bytes of_view long lists.
    put_answers view p c.args.id c.args.off bytes c.args.pool c.args.len of_view long ∙ sym (returns-clause-reason c p lists)

pub returns-clause-inside : goal.returns-clause-inside
returns-clause-inside c = λ p lists.
    let found : find (is_at c.args.id.off) c.args.self.now.reserved.items ≡ Some c.in-Some.one = search rules in
    put_inside c.args.self.now c.args.pool p c.args.id c.args.off c.args.len c.in-Some.one lists c.if-id-pool.false found (omega arith)

pub returns-clause-written : goal.returns-clause-written
returns-clause-written c = λ p bytes lists once long.
    let found : find (is_at c.args.id.off) c.args.self.now.reserved.items ≡ Some c.in-Some.one = search rules in
    put_leaves c.args.self.now p c.args.id.off c.args.off bytes c.in-Some.one lists once found (omega arith)
