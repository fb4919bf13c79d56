use Rattle.std.proofs.Common.{◌≡◌, sym, ap, ◌∙◌, subst, true, eqb, slice_index, arith}
use Rattle.std.specs.List.{list_any}
use Rattle.std.proofs.lemmas.Bool.{or_left}
use Rattle.solo_view.specs.Area.{area_word, is_in_area}
use Rattle.solo_view.specs.Held.{is_known}
use Rattle.solo_view.specs.Steps.Step.{Load}
use Rattle.solo_view.specs.View.{View}
use Rattle.solo_world.specs.Sequences.{IsReady, Runs, with_word}
use Rattle.solo_world.proofs.Sequencing.{word_allowed, word_ready, word_runs}
use Rattle.solo_undo.specs.Sequences.{ends_generation}
use Rattle.solo_undo.proofs.Areas.{generation_in_area}
use Rattle.solo_undo.proofs.retiring.retire_lane.Goals as goal

pub load-generation-requires : goal.load-generation-requires
load-generation-requires g c found =
    let r = word_allowed (g.M.LaneMem.at c.args.mem.now) c.area_word.result (ends_generation c.args.lane) (subst (λ w. IsReady (g.M.LaneMem.at c.args.mem.now) (with_word w (ends_generation c.args.lane))) (sym c.area_word.ensures) c.requires.ready) in
    g.met.M.LawfulMem.meets c.args.mem.now r.0 (Load c.area_word.result found) r.1.0 (r.1.1 found)

pub end_generation-requires-clause-ready : goal.end_generation-requires-clause-ready
end_generation-requires-clause-ready g c =
    word_ready (g.M.LaneMem.at c.args.mem.now) c.area_word.result (ends_generation c.args.lane) (g.M.LaneMem.at c.load-generation.new.self) c.load-generation.result c.load-generation.ensures
    (subst (λ w. IsReady (g.M.LaneMem.at c.args.mem.now) (with_word w (ends_generation c.args.lane))) (sym c.area_word.ensures) c.requires.ready)

pub returns : goal.returns
returns g c =
    subst (λ w. Runs (g.M.LaneMem.at c.args.mem.now) (g.M.LaneMem.at c.end_generation.new.mem) (with_word w (ends_generation c.args.lane)) c.end_generation.result) (sym (sym c.area_word.ensures))
    (word_runs (g.M.LaneMem.at c.args.mem.now) c.area_word.result (ends_generation c.args.lane) (g.M.LaneMem.at c.load-generation.new.self) c.load-generation.result c.load-generation.ensures (g.M.LaneMem.at c.end_generation.new.mem) c.end_generation.result c.end_generation.ensures)

pub end_generation-requires-clause-more : goal.end_generation-requires-clause-more
end_generation-requires-clause-more g c =
    let seen = c.requires.area in
    let v : View = seen.0 in
    let word : c.area_word.result ≡ area_word v.lane = c.area_word.ensures ∙ ap area_word seen.1.1.1 in
    let known : is_known v c.area_word.result ≡ true = subst (λ w. is_known v w ≡ true) (sym word) (or_left (is_in_area v.lane (area_word v.lane)) (list_any (λ other. eqb other (area_word v.lane)) v.known) (generation_in_area v.lane)) in
    let is = (c.load-generation.ensures v seen.1.0).1 known in
    let below = seen.1.1.0.below in
    let same : c.load-generation.result ≡ slice_index v.words (area_word v.lane) = is ∙ ap (slice_index v.words) word in
    omega (arith, below, same)
