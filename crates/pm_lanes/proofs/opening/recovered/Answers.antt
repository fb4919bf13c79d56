use Rattle.std.proofs.Common.{ℕ, List, sym, subst}
use Rattle.pm_image.proofs.Meanings.{no_meaning_and_fault}
use Rattle.pm_recover.specs.Recovery.{IsRecovered}
use Rattle.pm_lanes.proofs.opening.recovered.Goals as goal

pub returns-in-Ok-clause-words : goal.returns-in-Ok-clause-words
returns-in-Ok-clause-words c = λ pool is.
    let before : List ℕ = c.args.image in
    subst (λ (words : List ℕ). IsRecovered before words pool.lanes)
    (sym c.words_of.ensures.same)
    ((c.in-Ok.ensures {u = tt}).recovered pool is)

pub unreachable-requires : goal.unreachable-requires
unreachable-requires c =
    let has = c.requires in
    let fault = (c.in-Err-Image.ensures {u = tt}).fault in
    no_meaning_and_fault c.args.image has.0 c.in-Err-Image.field-0-0 has.1
    (rw c.in-Err-Image.field-0-is at fault)
