use Rattle.std.proofs.Common.{◌≡◌, Option, None, Some, refl, sym, ◌∙◌, find, rules, tests}
use Rattle.std.specs.Option.{option_map}
use Rattle.std.proofs.lemmas.Iterator.{YieldsList-from_slice}
use Rattle.std.proofs.lemmas.Iterator.Consumers.{YieldsList-from_copied}
use Rattle.std.proofs.lemmas.Iterator.Search.{find_from_yields_List}
use Rattle.solo_world.specs.declared.lane.HeldLock.{HeldLock}
use Rattle.solo_transaction.specs.Freeing.{writes_line}
use Rattle.solo_transaction.proofs.freeing.lock_at.Goals as goal

own : (found : Option HeldLock) → option_map (λ (l : HeldLock). l) found ≡ found
own None = refl
own (Some l) = refl

pub returns : goal.returns
returns c =
    let found : option_map (λ (l : HeldLock). l) c.find.result ≡ find (writes_line c.args.line) c.args.locks.now =
    find_from_yields_List (writes_line c.args.line) _ _ c.find.result c.find.ensures.ran (YieldsList-from_copied (YieldsList-from_slice c.args.locks.now cc)) (λ x b q k. search (rules, tests)) in
    sym (own c.find.result) ∙ found
