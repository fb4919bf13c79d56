use Rattle.std.proofs.Common.{◌≡◌, ◌*◌, ℕ, None, Some, Bool, cond, refl, sym, ◌∙◌, ap, arith}
use Rattle.std.specs.Option.{option_map}
use Rattle.std.specs.List.{find, flat_map, range_with_len}
use Rattle.pm_record.specs.declared.undo.Undo.{Undo}
use Rattle.pm_image.specs.Logs.{covers, old_word, records}
use Rattle.pm_image.proofs.Finding.{slot_records, records_by_slot, find_there, find_nowhere, slot_found, slot_empty}
use Rattle.pm_image.specs.Steps.{valid_record}
use Rattle.pm_image.proofs.recovering.undone_by.Goals as goal
use Rattle.pm_image.proofs.recovering.undone_by.Goals.{in-Some+else-covers, in_default}

pub loop-i-init : goal.loop-i-init
loop-i-init c = refl

pub returns-then-covers : goal.returns-then-covers
returns-then-covers c =
    let covering : Undo → Bool = λ u. covers u (8 * c.args.word) in
    let is : valid_record c.args.image.now c.args.lane c.loop-i.i ≡ Some c.in-Some.record = sym c.valid_record.ensures ∙ c.in-Some.is in
    let here : find covering (slot_records c.args.image.now c.args.lane c.loop-i.i) ≡ Some c.in-Some.record =
    slot_found covering c.args.image.now c.args.lane c.loop-i.i c.in-Some.record is
    ∙ ap (λ (b : Bool). cond b (Some c.in-Some.record) None) (sym c.covers.ensures ∙ c.if-covers.true) in
    let found : find covering (records c.args.image.now c.args.lane) ≡ Some c.in-Some.record =
    ap (find covering) (records_by_slot c.args.image.now c.args.lane)
    ∙ find_there covering (slot_records c.args.image.now c.args.lane) 64 c.loop-i.i c.in-Some.record c.loop-i-test.true c.loop-i.invariant here in
    ap Some c.old_word.ensures ∙ sym (ap (option_map (λ u. old_word u (8 * c.args.word))) found)

pub loop-i-preserved : goal.loop-i-preserved
loop-i-preserved c =
    let covering : Undo → Bool = λ u. covers u (8 * c.args.word) in
    find_nowhere covering (slot_records c.args.image.now c.args.lane) c.loop-i.i c.loop-i.invariant
    (elim c.match-valid_record.branch [
      | in-Some+else-covers w ↦
          slot_found covering c.args.image.now c.args.lane c.loop-i.i w.in-Some.record (sym c.valid_record.ensures ∙ w.in-Some.is)
          ∙ ap (λ (b : Bool). cond b (Some w.in-Some.record) None) (sym w.covers.ensures ∙ w.if-covers.false)
      | in_default w ↦ slot_empty covering c.args.image.now c.args.lane c.loop-i.i (sym c.valid_record.ensures ∙ w.in_default.is)
    ])

pub returns : goal.returns
returns c =
    let all : c.loop-i.i ≡ 64 = omega arith in
    let none : find (λ u. covers u (8 * c.args.word)) (records c.args.image.now c.args.lane) ≡ None =
    ap (find (λ u. covers u (8 * c.args.word))) (records_by_slot c.args.image.now c.args.lane)
    ∙ ap (λ (n : ℕ). find (λ u. covers u (8 * c.args.word)) (flat_map (slot_records c.args.image.now c.args.lane) (range_with_len 0 n))) (sym all) ∙ c.loop-i.invariant in
    sym (ap (option_map (λ u. old_word u (8 * c.args.word))) none)
