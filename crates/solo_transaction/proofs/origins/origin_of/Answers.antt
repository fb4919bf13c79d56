use Rattle.std.proofs.Common.{◌≡◌, ◌||◌, false, Err, Some, ap, sym, subst, ◌∙◌, rules}
use Rattle.std.specs.List.{find, list_any}
use Rattle.std.proofs.lemmas.Bool.{or_parts, or_from}
use Rattle.solo_crash.specs.CallBlocks.{is_at}
use Rattle.solo_made.specs.Made.{new_of}
use Rattle.solo_model.specs.Bytes.{is_among}
use Rattle.solo_transaction.proofs.RangeOrigins.{found_at, none_at}
use Rattle.solo_transaction.specs.AnyRanges.{Sorts}
use Rattle.solo_transaction.proofs.origins.origin_of.Goals as goal

pub returns-in_err-check_end-in-Some : goal.returns-in_err-check_end-in-Some
returns-in_err-check_end-in-Some c call lists =
    let same : c.args.id.pool ≡ c.args.pool = search rules in
    let there : find (is_at c.args.id.off) call.made ≡ Some (new_of c.in-Some.made) = sym (c.in-Some.ensures call lists) in
    let t = found_at c.args.id.off call.made (new_of c.in-Some.made) there in
    let past = c.in_err-check_end-in-Some.ensures.past in
    let e : c.from_residual.result ≡ Err c.in_err-check_end-in-Some.field-0.0 = search rules in
    subst (Sorts call c.args.pool c.args.id c.args.off c.args.len) (sym (e ∙ ap Err past.0)) (same, record { new = new_of c.in-Some.made; has = t.0; place = t.1 }, past.1)

pub returns-in_ok-check_end-in-Some : goal.returns-in_ok-check_end-in-Some
returns-in_ok-check_end-in-Some c call lists =
    let same : c.args.id.pool ≡ c.args.pool = search rules in
    let there : find (is_at c.args.id.off) call.made ≡ Some (new_of c.in-Some.made) = sym (c.in-Some.ensures call lists) in
    let t = found_at c.args.id.off call.made (new_of c.in-Some.made) there in
    (same, record { new = new_of c.in-Some.made; has = t.0; place = t.1 }, c.in_ok-check_end-in-Some.ensures.ok)

pub returns-in-None : goal.returns-in-None
returns-in-None c call lists =
    let same : c.args.id.pool ≡ c.args.pool = search rules in
    let none : list_any (is_at c.args.id.off) call.made ≡ false = none_at c.args.id.off call.made (sym (c.in-None.ensures call lists)) in
    let left : (is_among call.freed c.args.id.off || list_any (is_at c.args.id.off) call.dropped) ≡ false = sym (c.if-is_gone.ensures call lists) in
    let both = or_parts (is_among call.freed c.args.id.off) (list_any (is_at c.args.id.off) call.dropped) left in
    (same, record { found = or_from (list_any (is_at c.args.id.off) call.made) (list_any (is_at c.args.id.off) call.dropped) none both.1; kept = both.0 })
