use Rattle.std.proofs.Common.{◌≡◌, ◌+◌, ◌∷◌, [], length, map, sym, ◌∙◌, ap, subst, arith}
use Rattle.pm_image.specs.Logs.{area_word}
use Rattle.pm_reopen.specs.Plan.{log_end, store_of}
use Rattle.pm_reopen.specs.Plan.MemoryCall.{Change}
use Rattle.pm_reopen.specs.Running.{Halts, Makes}
use Rattle.pm_reopen.proofs.LogEnds.{ends_nothing, ends_raised, ends_sealed}
use Rattle.pm_reopen.proofs.Making.{makes_none, ran_error}
use Rattle.pm_reopen.proofs.ending.end_log.Goals as goal

pub put-requires-clause-word : goal.put-requires-clause-word
put-requires-clause-word c = let areas = c.requires.lanes.areas in let same = c.requires.words in omega (arith, areas, same)

pub put-requires-clause-small : goal.put-requires-clause-small
put-requires-clause-small c = let small = c.requires.lanes.small in let same = c.requires.words in omega (arith, small, same)

pub put-requires-clause-room : goal.put-requires-clause-room
put-requires-clause-room c = let none = ap length c.requires.drained in omega (arith, none)

pub returns-in_err-put : goal.returns-in_err-put
returns-in_err-put c =
    ran_error c.args.mem.now c.put.new.mem (map Change (log_end c.args.image.now c.args.lane)) c.from_residual.result c.from_residual.ensures.0
    (subst (Halts c.args.mem.now c.put.new.mem) (ap (map Change) (sym (ends_sealed c.args.image.now c.args.lane (sym c.is_sealed.ensures ∙ c.if-is_sealed.true)))) c.in_err-put.ensures)

pub returns-in_ok-put : goal.returns-in_ok-put
returns-in_ok-put c =
    subst (Makes c.args.mem.now c.put.new.mem) (ap (map Change) (sym (ends_sealed c.args.image.now c.args.lane (sym c.is_sealed.ensures ∙ c.if-is_sealed.true)))) c.in_ok-put.ensures

pub put-requires-then-is_raised-clause-word : goal.put-requires-then-is_raised-clause-word
put-requires-then-is_raised-clause-word c = let areas = c.requires.lanes.areas in let same = c.requires.words in omega (arith, areas, same)

pub put-requires-then-is_raised-clause-small : goal.put-requires-then-is_raised-clause-small
put-requires-then-is_raised-clause-small c = let small = c.requires.lanes.small in let same = c.requires.words in omega (arith, small, same)

pub put-requires-then-is_raised-clause-room : goal.put-requires-then-is_raised-clause-room
put-requires-then-is_raised-clause-room c = let none = ap length c.requires.drained in omega (arith, none)

pub returns-in_err-put-2 : goal.returns-in_err-put-2
returns-in_err-put-2 c =
    let place : area_word c.args.lane + 0 ≡ area_word c.args.lane = omega arith in
    ran_error c.args.mem.now c.put-then-is_raised.new.mem (map Change (log_end c.args.image.now c.args.lane)) c.from_residual-in_err-put-2.result c.from_residual-in_err-put-2.ensures.0
    (subst (Halts c.args.mem.now c.put-then-is_raised.new.mem)
    ((λ j. Change (store_of (place j) (c.generation.ensures j + 1)) ∷ []) ∙ ap (map Change) (sym (ends_raised c.args.image.now c.args.lane (sym c.is_sealed.ensures ∙ c.if-is_sealed.false) (sym c.is_raised.ensures ∙ c.if-is_raised.true))))
    c.in_err-put-2.ensures)

pub returns-in_ok-put-2 : goal.returns-in_ok-put-2
returns-in_ok-put-2 c =
    let place : area_word c.args.lane + 0 ≡ area_word c.args.lane = omega arith in
    subst (Makes c.args.mem.now c.put-then-is_raised.new.mem)
    ((λ j. Change (store_of (place j) (c.generation.ensures j + 1)) ∷ []) ∙ ap (map Change) (sym (ends_raised c.args.image.now c.args.lane (sym c.is_sealed.ensures ∙ c.if-is_sealed.false) (sym c.is_raised.ensures ∙ c.if-is_raised.true))))
    c.in_ok-put-2.ensures

pub returns-else-is_raised : goal.returns-else-is_raised
returns-else-is_raised c =
    subst (Makes c.args.mem.now c.args.mem.now) (ap (map Change) (sym (ends_nothing c.args.image.now c.args.lane (sym c.is_sealed.ensures ∙ c.if-is_sealed.false) (sym c.is_raised.ensures ∙ c.if-is_raised.false)))) (makes_none c.args.mem.now)
