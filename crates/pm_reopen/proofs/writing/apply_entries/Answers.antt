use Rattle.std.proofs.Common.{◌≡◌, ◌≤◌, ◌<◌, ℕ, ◌/◌, All, true, length, map, sym, ◌∙◌, ap, subst, arith, rules}
use Rattle.std.specs.List.{flat_map, range_with_len}
use Rattle.pm_record.specs.declared.redo.Redo.{Redo}
use Rattle.pm_image.specs.Logs.{entries, is_sealed, seal_word}
use Rattle.pm_image.proofs.Gathering.{entries_by_number, entry_at}
use Rattle.pm_image.proofs.Redoing.{entries_unsealed, sealed_few}
use Rattle.pm_reopen.specs.Plan.MemoryCall.{Change}
use Rattle.pm_reopen.specs.Running.{Halts, Makes}
use Rattle.pm_reopen.proofs.Counting.{makes_long, makes_many}
use Rattle.pm_reopen.proofs.Making.{makes_none, parts_halt, parts_made, ran_error}
use Rattle.pm_reopen.proofs.Parts.{entries_by_call, entry_calls, part_inside}
use Rattle.pm_reopen.proofs.Rooms.{few_applied}
use Rattle.pm_reopen.proofs.writing.apply_entries.Goals as goal

pub returns-then-not-is_sealed : goal.returns-then-not-is_sealed
returns-then-not-is_sealed c =
    let none = entries_unsealed c.args.image.now c.args.lane (sym c.is_sealed.ensures ∙ c.if-not-is_sealed.true) in
    subst (Makes c.args.mem.now c.args.mem.now) (ap (map Change) (sym none)) (makes_none c.args.mem.now)

pub loop-i-init : goal.loop-i-init
loop-i-init c = makes_none c.args.mem.now

pub apply_entry-requires-clause-number : goal.apply_entry-requires-clause-number
apply_entry-requires-clause-number c =
    let few = sealed_few c.args.image.now c.args.lane (sym c.is_sealed.ensures ∙ c.if-not-is_sealed.false) in
    let low : c.loop-i.i < seal_word c.args.image.now c.args.lane = search rules in
    omega (arith, few, low)

pub apply_entry-requires-clause-inside : goal.apply_entry-requires-clause-inside
apply_entry-requires-clause-inside c =
    let sealed : is_sealed c.args.image.now c.args.lane ≡ true = sym c.is_sealed.ensures ∙ c.if-not-is_sealed.false in
    let long : length c.loop-i.mem.words ≡ length c.args.image.now =
    makes_long c.args.mem.now c.loop-i.mem (flat_map (entry_calls c.args.image.now c.args.lane) (range_with_len 0 c.loop-i.i)) c.loop-i.invariant ∙ c.requires.words in
    let low : c.loop-i.i < seal_word c.args.image.now c.args.lane = search rules in
    let all : All (λ (e : Redo). e.place / 8 < length c.args.image.now) (flat_map (entry_at c.args.image.now c.args.lane) (range_with_len 0 (seal_word c.args.image.now c.args.lane))) =
    subst (All (λ (e : Redo). e.place / 8 < length c.args.image.now)) (entries_by_number c.args.image.now c.args.lane sealed) (c.requires.targets.inside c.args.lane (omega arith)) in
    subst (λ (n : ℕ). All (λ (e : Redo). e.place / 8 < n) (entry_at c.args.image.now c.args.lane c.loop-i.i)) (sym long)
    (part_inside (λ (e : Redo). e.place / 8 < length c.args.image.now) (entry_at c.args.image.now c.args.lane) 0 (seal_word c.args.image.now c.args.lane) c.loop-i.i (omega arith) (omega (arith, low)) all)

pub apply_entry-requires-clause-room : goal.apply_entry-requires-clause-room
apply_entry-requires-clause-room c =
    let many = makes_many c.args.mem.now c.loop-i.mem (flat_map (entry_calls c.args.image.now c.args.lane) (range_with_len 0 c.loop-i.i)) c.loop-i.invariant in
    let parts = few_applied c.args.image.now c.args.lane c.loop-i.i in
    let few = sealed_few c.args.image.now c.args.lane (sym c.is_sealed.ensures ∙ c.if-not-is_sealed.false) in
    let low : c.loop-i.i < seal_word c.args.image.now c.args.lane = search rules in
    let before = c.requires.few in
    omega (arith, many, parts, few, low, before)

pub returns-in_err-apply_entry : goal.returns-in_err-apply_entry
returns-in_err-apply_entry c =
    let sealed : is_sealed c.args.image.now c.args.lane ≡ true = sym c.is_sealed.ensures ∙ c.if-not-is_sealed.false in
    let low : c.loop-i.i < seal_word c.args.image.now c.args.lane = search rules in
    ran_error c.args.mem.now c.apply_entry.new.mem (map Change (entries c.args.image.now c.args.lane)) c.from_residual.result c.from_residual.ensures.0
    (subst (Halts c.args.mem.now c.apply_entry.new.mem) (sym (entries_by_call c.args.image.now c.args.lane sealed))
    (parts_halt (entry_calls c.args.image.now c.args.lane) c.args.mem.now c.loop-i.mem c.apply_entry.new.mem c.loop-i.i (seal_word c.args.image.now c.args.lane) low c.loop-i.invariant c.in_err-apply_entry.ensures))

pub loop-i-preserved : goal.loop-i-preserved
loop-i-preserved c =
    parts_made (entry_calls c.args.image.now c.args.lane) c.args.mem.now c.loop-i.mem c.apply_entry.new.mem c.loop-i.i c.loop-i.invariant c.in_ok-apply_entry.ensures

pub returns : goal.returns
returns c =
    let sealed : is_sealed c.args.image.now c.args.lane ≡ true = sym c.is_sealed.ensures ∙ c.if-not-is_sealed.false in
    let end : c.loop-i.i ≡ seal_word c.args.image.now c.args.lane = (let past : seal_word c.args.image.now c.args.lane ≤ c.loop-i.i = search rules in let most : c.loop-i.i ≤ seal_word c.args.image.now c.args.lane = search rules in omega (arith, past, most)) in
    subst (Makes c.args.mem.now c.loop-i.mem) (sym (entries_by_call c.args.image.now c.args.lane sealed))
    (subst (λ (n : ℕ). Makes c.args.mem.now c.loop-i.mem (flat_map (entry_calls c.args.image.now c.args.lane) (range_with_len 0 n))) end c.loop-i.invariant)
