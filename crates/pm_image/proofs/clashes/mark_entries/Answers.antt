use Rattle.std.proofs.Common.{◌≡◌, ◌*◌, ◌<◌, eqb, get_or, length, ⊎_elim, arith}
use Rattle.std.proofs.lemmas.Bool.{cases_lt}
use Rattle.std.proofs.lemmas.List.{get_or_past}
use Rattle.pm_image.proofs.Counting.{count_small}
use Rattle.pm_image.proofs.clashes.mark_entries.Goals as goal

pub mark_entry-requires-clause-room : goal.mark_entry-requires-clause-room
mark_entry-requires-clause-room c = λ i.
    ⊎_elim
    (λ (inside : i < length c.loop-one.marks). let counted = c.loop-one.invariant.counted i inside in let few = count_small (λ e. eqb e.place (8 * i)) c.args.found.now c.loop-one.one-index in omega arith)
    (λ past. let none : get_or c.loop-one.marks i 0 ≡ 0 = get_or_past c.loop-one.marks i 0 past in omega arith)
    (cases_lt i (length c.loop-one.marks))
