use Rattle.std.proofs.Common.{◌≡◌, ◌*◌, ◌≤◌, ℕ, List, Option, eqb, slice_index, sym, ◌∙◌, ap, arith}
use Rattle.std.specs.List.{filter, filter_map, range_with_len}
use Rattle.pm_record.specs.Redo.{redo_of}
use Rattle.pm_record.specs.declared.redo.Redo.{Redo}
use Rattle.pm_image.specs.Logs.{entry_pair, seal_word}
use Rattle.pm_image.specs.Steps.{made, entry_for}
use Rattle.pm_image.proofs.Redoing.{made_none, entry_more, entries_sealed, entries_unsealed, sealed_few}
use Rattle.pm_image.proofs.recovering.redone_by.Goals as goal

pub returns-then-not-is_sealed : goal.returns-then-not-is_sealed
returns-then-not-is_sealed c =
    let word : ℕ = slice_index c.args.image.now c.args.word in
    sym (ap (λ (es : List Redo). made c.args.before (filter (λ e. eqb e.place (8 * c.args.word)) es) word) (entries_unsealed c.args.image.now c.args.lane (sym c.is_sealed.ensures ∙ c.if-not-is_sealed.true))
    ∙ made_none c.args.before word)

pub loop-i-init : goal.loop-i-init
loop-i-init c =
    let few : seal_word c.args.image.now c.args.lane ≤ 64 = sealed_few c.args.image.now c.args.lane (sym c.is_sealed.ensures ∙ c.if-not-is_sealed.false) in
    (omega (arith, few, c.seal-i-end.ensures), sym (made_none c.args.before (slice_index c.args.image.now c.args.word)))

pub loop-i-preserved : goal.loop-i-preserved
loop-i-preserved c =
    let word : ℕ = slice_index c.args.image.now c.args.word in (
      c.loop-i.invariant.0,
      c.redone_once-so_far.ensures ∙ ap (λ (o : Option ℕ). made o (entry_for c.args.image.now c.args.lane c.loop-i.i (8 * c.args.word)) word) c.loop-i.invariant.1
          ∙ sym (entry_more c.args.image.now c.args.lane c.loop-i.i (8 * c.args.word) c.args.before word),
    )

pub returns : goal.returns
returns c =
    let word : ℕ = slice_index c.args.image.now c.args.word in
    let all : c.loop-i.i ≡ seal_word c.args.image.now c.args.lane = omega (arith, c.seal-i-end.ensures) in
    c.loop-i.invariant.1
    ∙ ap (λ (n : ℕ). made c.args.before (filter (λ e. eqb e.place (8 * c.args.word)) (filter_map (λ k. redo_of (entry_pair c.args.image.now c.args.lane k)) (range_with_len 0 n))) word) all
    ∙ ap (λ (es : List Redo). made c.args.before (filter (λ e. eqb e.place (8 * c.args.word)) es) word) (entries_sealed c.args.image.now c.args.lane (sym c.is_sealed.ensures ∙ c.if-not-is_sealed.false))
