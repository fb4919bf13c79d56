use Rattle.std.proofs.Common.{rules, ◌≡◌, ◌*◌, [], length, refl, sym, ◌∙◌, arith}
use Rattle.std.proofs.lemmas.List.{nil_from_length}
use Rattle.pm_image.specs.LogFaults.{clashes}
use Rattle.pm_image.proofs.Firsts.{first_there, none_more, none_passes}
use Rattle.pm_image.proofs.Masks.{no_clash_without_logs}
use Rattle.pm_image.proofs.clashes.first_clash.Goals as goal

pub loop-word-init : goal.loop-word-init
loop-word-init c = refl

pub loop-word-preserved : goal.loop-word-preserved
loop-word-preserved c = none_more (λ i. clashes c.args.image.now c.args.lanes (8 * i)) c.loop-word.word c.loop-word.invariant (sym c.is_clash.ensures ∙ c.if-is_clash.false)

pub returns-then-is_clash-clause-first : goal.returns-then-is_clash-clause-first
returns-then-is_clash-clause-first c =
    sym (first_there (λ i. clashes c.args.image.now c.args.lanes (8 * i)) (length c.args.image.now) c.loop-word.word (omega arith) c.loop-word.invariant (sym c.is_clash.ensures ∙ c.if-is_clash.true))

pub returns-then-is_empty-2-clause-first : goal.returns-then-is_empty-2-clause-first
returns-then-is_empty-2-clause-first c =
    let no_records : c.args.logs.now.records.items ≡ [] = nil_from_length c.args.logs.now.records.items (search rules) in
    let no_entries : c.args.logs.now.entries.items ≡ [] = nil_from_length c.args.logs.now.entries.items (search rules) in
    sym (none_passes (λ i. clashes c.args.image.now c.args.lanes (8 * i)) (length c.args.image.now)
    (λ i inside. no_clash_without_logs c.args.image.now c.args.lanes (8 * i) (sym c.requires.records ∙ no_records) (sym c.requires.entries ∙ no_entries)))
