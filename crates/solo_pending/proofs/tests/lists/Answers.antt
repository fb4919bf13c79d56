use Rattle.std.proofs.Common.{◌+◌, ◌^◌, ◌<◌, [], sym, subst, arith}
use Rattle.std.proofs.lemmas.List.Elements.{All-cons, All-nil}
use Rattle.solo_pending.specs.declared.actions.SetAction.{SetAction}
use Rattle.solo_pending.proofs.tests.lists.Goals as goal

pub list_entries-requires-clause-places : goal.list_entries-requires-clause-places
list_entries-requires-clause-places g c =
    All-cons (λ (a : SetAction). a.id.off + a.off < 2 ^ 64) c.root_word.result [] (subst (λ (a : SetAction). a.id.off + a.off < 2 ^ 64) (sym c.root_word.ensures) (omega arith))
    (All-nil (λ (a : SetAction). a.id.off + a.off < 2 ^ 64))
