use Rattle.std.proofs.Common.{◌&&◌, ◌≡◌, ◌<◌, ◌^◌, Bool, true, List, length, not, eqb, slice_index, sym, subst, arith, rules}
use Rattle.std.specs.List.Sorted.{IsStrictlyIncreasing}
use Rattle.std.specs.Option.{ForSome}
use Rattle.pm_objects.specs.declared.history.Entry.{Entry}
use Rattle.solo_exec.specs.Calls.{names_of}
use Rattle.solo_exec.specs.Histories.{closed_history}
use Rattle.solo_exec.specs.Letters.{AreInOrder, resolved}
use Rattle.solo_exec.specs.Openings.{first_view, opening_of}
use Rattle.solo_exec.specs.Runs.{IsHistoryOf, LeavesReplay, MakesCalls}
use Rattle.solo_exec.proofs.GivenLetters.{in_order, numbers_resolved, given_closed}
use Rattle.solo_exec.proofs.Opened.{begun_alone, words_long}
use Rattle.solo_exec.proofs.RunEnds.{run_begins, run_history, run_made, run_of, run_replay, run_size}
use Rattle.solo_exec.proofs.executing.run.Goals as goal

pub open_lane-requires-clause-begins : goal.open_lane-requires-clause-begins
open_lane-requires-clause-begins c = let r = c.requires.recovered in begun_alone r.0 c.args.pool.now r.1.0 c.args.image.now r.1.1 c.args.stop

pub run_all-requires-clause-start : goal.run_all-requires-clause-start
run_all-requires-clause-start c =
    let o = opening_of c.args.pool.now c.args.image.now in
    let first = first_view c.args.pool.now c.args.image.now c.args.stop in
    (o, (first, run_begins c.args.pool.now c.args.image.now c.args.stop c.in_ok-lane.lane c.names_of.result c.new-history.result.items (search rules) c.in_ok-lane.ensures))

pub is_decided-decided-requires : goal.is_decided-decided-requires
is_decided-decided-requires c =
    let pool = c.args.pool.now in
    let words = c.args.image.now in
    let given = c.run_all.new.given.items in
    let lines = resolved given c.args.script.now.lines in
    let rising = subst IsStrictlyIncreasing (sym (numbers_resolved given c.args.script.now.lines)) c.requires.rising in
    let o = opening_of pool words in
    let first = first_view pool words c.args.stop in
    let fits : ForSome c.args.stop (λ n. n < 2 ^ 64) = search rules in
    let came = c.in_ok-halt.ensures.made o first (run_begins pool words c.args.stop c.in_ok-lane.lane c.names_of.result c.new-history.result.items (search rules) c.in_ok-lane.ensures) in
    let run = run_of o first c.run_all.new.lane c.run_all.new.history.items c.in_ok-halt.halt c.names_of.result (names_of pool) (resolved given c.as_slice-lines.result.now) lines (search rules) (search rules) came in
    let size = run_size pool words c.args.stop lines rising fits c.run_all.new.lane c.run_all.new.history.items c.in_ok-halt.halt run true c.args.keep c.in_ok-words.words.items c.in_ok-words.ensures in
    let r = c.requires.recovered in
    let long = words_long r.0 pool r.1.0 words r.1.1 in
    let low : 513 < length c.in_ok-words.words.items = omega (arith, size, long) in
    search (rules, low)

pub returns-clause-size : goal.returns-clause-size
returns-clause-size c =
    let pool = c.args.pool.now in
    let words = c.args.image.now in
    let given = c.run_all.new.given.items in
    let lines = resolved given c.args.script.now.lines in
    let rising = subst IsStrictlyIncreasing (sym (numbers_resolved given c.args.script.now.lines)) c.requires.rising in
    let o = opening_of pool words in
    let first = first_view pool words c.args.stop in
    let fits : ForSome c.args.stop (λ n. n < 2 ^ 64) = search rules in
    let came = c.in_ok-halt.ensures.made o first (run_begins pool words c.args.stop c.in_ok-lane.lane c.names_of.result c.new-history.result.items (search rules) c.in_ok-lane.ensures) in
    let run = run_of o first c.run_all.new.lane c.run_all.new.history.items c.in_ok-halt.halt c.names_of.result (names_of pool) (resolved given c.as_slice-lines.result.now) lines (search rules) (search rules) came in
    run_size pool words c.args.stop lines rising fits c.run_all.new.lane c.run_all.new.history.items c.in_ok-halt.halt run true c.args.keep c.in_ok-words.words.items c.in_ok-words.ensures

pub returns-clause-history : goal.returns-clause-history
returns-clause-history c =
    let pool = c.args.pool.now in
    let words = c.args.image.now in
    let given = c.run_all.new.given.items in
    let lines = resolved given c.args.script.now.lines in
    let rising = subst IsStrictlyIncreasing (sym (numbers_resolved given c.args.script.now.lines)) c.requires.rising in
    let o = opening_of pool words in
    let first = first_view pool words c.args.stop in
    let fits : ForSome c.args.stop (λ n. n < 2 ^ 64) = search rules in
    let came = c.in_ok-halt.ensures.made o first (run_begins pool words c.args.stop c.in_ok-lane.lane c.names_of.result c.new-history.result.items (search rules) c.in_ok-lane.ensures) in
    let run = run_of o first c.run_all.new.lane c.run_all.new.history.items c.in_ok-halt.halt c.names_of.result (names_of pool) (resolved given c.as_slice-lines.result.now) lines (search rules) (search rules) came in
    let decided : Bool = c.is_decided-decided.result in
    let decides : decided ≡ not (eqb (slice_index c.in_ok-words.words.items 513) 0 && eqb (slice_index c.in_ok-words.words.items 512) c.in_ok-halt.halt.generation) = search rules in
    let closed : closed_history c.run_all.new.history.items c.in_ok-halt.halt.is_open decided ≡ c.close_history.new.history.items = sym c.in_ok-close_history.ensures in
    subst (λ (es : List Entry). IsHistoryOf pool lines c.args.stop es c.in_ok-halt.halt.end) closed
    (run_history pool words c.args.stop lines rising fits c.run_all.new.lane c.run_all.new.history.items c.in_ok-halt.halt run decided)

pub returns-clause-made : goal.returns-clause-made
returns-clause-made c =
    let pool = c.args.pool.now in
    let words = c.args.image.now in
    let given = c.run_all.new.given.items in
    let lines = resolved given c.args.script.now.lines in
    let rising = subst IsStrictlyIncreasing (sym (numbers_resolved given c.args.script.now.lines)) c.requires.rising in
    let o = opening_of pool words in
    let first = first_view pool words c.args.stop in
    let fits : ForSome c.args.stop (λ n. n < 2 ^ 64) = search rules in
    let came = c.in_ok-halt.ensures.made o first (run_begins pool words c.args.stop c.in_ok-lane.lane c.names_of.result c.new-history.result.items (search rules) c.in_ok-lane.ensures) in
    let run = run_of o first c.run_all.new.lane c.run_all.new.history.items c.in_ok-halt.halt c.names_of.result (names_of pool) (resolved given c.as_slice-lines.result.now) lines (search rules) (search rules) came in
    let decided : Bool = c.is_decided-decided.result in
    let decides : decided ≡ not (eqb (slice_index c.in_ok-words.words.items 513) 0 && eqb (slice_index c.in_ok-words.words.items 512) c.in_ok-halt.halt.generation) = search rules in
    let closed : closed_history c.run_all.new.history.items c.in_ok-halt.halt.is_open decided ≡ c.close_history.new.history.items = sym c.in_ok-close_history.ensures in
    subst (λ (es : List Entry). MakesCalls words pool lines c.args.stop c.args.keep es c.in_ok-halt.halt.end c.in_ok-words.words.items) closed
    (run_made pool words c.args.stop lines rising fits c.run_all.new.lane c.run_all.new.history.items c.in_ok-halt.halt run decided c.args.keep c.in_ok-words.words.items c.in_ok-words.ensures decides)

pub returns-clause-replay : goal.returns-clause-replay
returns-clause-replay c before means recovered none =
    let pool = c.args.pool.now in
    let words = c.args.image.now in
    let given = c.run_all.new.given.items in
    let lines = resolved given c.args.script.now.lines in
    let rising = subst IsStrictlyIncreasing (sym (numbers_resolved given c.args.script.now.lines)) c.requires.rising in
    let o = opening_of pool words in
    let first = first_view pool words c.args.stop in
    let fits : ForSome c.args.stop (λ n. n < 2 ^ 64) = search rules in
    let came = c.in_ok-halt.ensures.made o first (run_begins pool words c.args.stop c.in_ok-lane.lane c.names_of.result c.new-history.result.items (search rules) c.in_ok-lane.ensures) in
    let run = run_of o first c.run_all.new.lane c.run_all.new.history.items c.in_ok-halt.halt c.names_of.result (names_of pool) (resolved given c.as_slice-lines.result.now) lines (search rules) (search rules) came in
    let decided : Bool = c.is_decided-decided.result in
    let decides : decided ≡ not (eqb (slice_index c.in_ok-words.words.items 513) 0 && eqb (slice_index c.in_ok-words.words.items 512) c.in_ok-halt.halt.generation) = search rules in
    let closed : closed_history c.run_all.new.history.items c.in_ok-halt.halt.is_open decided ≡ c.close_history.new.history.items = sym c.in_ok-close_history.ensures in
    subst (λ (es : List Entry). LeavesReplay before pool es c.in_ok-words.words.items) closed
    (run_replay pool words c.args.stop lines rising fits c.run_all.new.lane c.run_all.new.history.items c.in_ok-halt.halt run decided c.args.keep c.in_ok-words.words.items c.in_ok-words.ensures decides before means recovered none)

pub run_all-requires-clause-ordered : goal.run_all-requires-clause-ordered
run_all-requires-clause-ordered c = subst AreInOrder (search rules) (in_order c.args.script.now.lines c.requires.rising c.requires.bound)

pub returns-clause-given : goal.returns-clause-given
returns-clause-given c = given_closed c.run_all.new.history.items c.in_ok-halt.halt c.is_decided-decided.result c.run_all.new.given.items c.close_history.new.history.items (sym c.in_ok-close_history.ensures) c.in_ok-halt.ensures.gave c.in_ok-halt.ensures.told
