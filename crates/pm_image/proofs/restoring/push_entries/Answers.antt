use Rattle.std.proofs.Common.{◌≡◌, ◌++◌, List, ℕ, sym, ◌∙◌, ap, arith}
use Rattle.std.specs.List.{flat_map, range_with_len}
use Rattle.std.proofs.lemmas.List.{append-nil}
use Rattle.pm_record.specs.declared.redo.Redo.{Redo}
use Rattle.pm_image.specs.Logs.{seal_word}
use Rattle.pm_image.proofs.Redoing.{entries_unsealed}
use Rattle.pm_image.proofs.Gathering.{entry_at, gathered_more, entries_by_number}
use Rattle.pm_image.proofs.restoring.push_entries.Goals as goal

pub returns-then-not-is_sealed : goal.returns-then-not-is_sealed
returns-then-not-is_sealed c =
    let none = entries_unsealed c.args.image.now c.args.lane (sym c.is_sealed.ensures ∙ c.if-not-is_sealed.true) in
    sym (ap (λ (es : List Redo). c.args.found.now.items ++ es) none ∙ append-nil c.args.found.now.items)

pub loop-i-preserved : goal.loop-i-preserved
loop-i-preserved c = gathered_more (entry_at c.args.image.now c.args.lane) c.args.found.now.items _ _ c.loop-i.i c.loop-i.invariant c.in_ok-push_entry.ensures

pub returns : goal.returns
returns c =
    let end : c.loop-i.i ≡ seal_word c.args.image.now c.args.lane = omega arith in
    let whole = entries_by_number c.args.image.now c.args.lane (sym c.is_sealed.ensures ∙ c.if-not-is_sealed.false) in
    c.loop-i.invariant ∙ ap (λ (n : ℕ). c.args.found.now.items ++ flat_map (entry_at c.args.image.now c.args.lane) (range_with_len 0 n)) end
    ∙ ap (λ (es : List Redo). c.args.found.now.items ++ es) (sym whole)
