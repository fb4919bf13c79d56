use Rattle.std.proofs.Common.{◌≡◌, ℕ, get_or, take_all, subst, rules}
use Rattle.std.specs.List.{All}
use Rattle.std.proofs.lemmas.List.Elements.{All-more}
use Rattle.solo_made.specs.declared.objects.Made.{Made}
use Rattle.solo_made.specs.Entries.{AllocatesBlockOf, entry_making}
use Rattle.solo_made.proofs.EachEntry.{Performs, all_perform, all_words, allocates_each, listed_more}
use Rattle.solo_made.proofs.entries.list_made.Goals as goal

abbrev performs : ℕ → Made → Type 0
performs lanes = Performs lanes (AllocatesBlockOf lanes) (entry_making lanes)

pub loop-object-preserved : goal.loop-object-preserved
loop-object-preserved g c =
    let same : c.loop-object.lane.shape.lanes ≡ c.args.lane.now.shape.lanes = (λ j. (c.loop-object.invariant.0 j).shape.lanes) in
    let object : Made = get_or c.args.made.now c.loop-object.object-index (record { off = 0; kind = 0; size = 0 }) in
    let here : performs c.args.lane.now.shape.lanes object =
    subst (λ (lanes : ℕ). performs lanes object) same
    (allocates_each c.loop-object.lane.shape.lanes object c.entry.result c.entry.ensures.value c.entry.ensures.word c.entry.ensures.in_run c.entry.ensures.whole) in (
      search rules,
      listed_more (entry_making c.args.lane.now.shape.lanes) c.args.made.now c.loop-object.object-index (record { off = 0; kind = 0; size = 0 }) c.args.lane.now.entries.items c.loop-object.lane.entries.items c.push.new.self.items c.entry.result
          c.loop-object-test.true c.loop-object.invariant.1 c.push.ensures.items (subst (λ (lanes : ℕ). c.entry.result ≡ entry_making lanes object) same c.entry.ensures.value),
      All-more (performs c.args.lane.now.shape.lanes) c.args.made.now c.loop-object.object-index (record { off = 0; kind = 0; size = 0 }) c.loop-object-test.true c.loop-object.invariant.2 here,
    )

pub returns-clause-perform : goal.returns-clause-perform
returns-clause-perform g c = λ changes zip.
    all_perform c.args.lane.now.shape.lanes (AllocatesBlockOf c.args.lane.now.shape.lanes) (entry_making c.args.lane.now.shape.lanes) changes c.args.made.now
    (subst (All (performs c.args.lane.now.shape.lanes)) (take_all c.loop-object.object-index c.args.made.now c.loop-object-test.false) c.loop-object.invariant.2) zip

pub returns-clause-words : goal.returns-clause-words
returns-clause-words g c =
    all_words c.args.lane.now.shape.lanes (AllocatesBlockOf c.args.lane.now.shape.lanes) (entry_making c.args.lane.now.shape.lanes) c.args.made.now
    (subst (All (performs c.args.lane.now.shape.lanes)) (take_all c.loop-object.object-index c.args.made.now c.loop-object-test.false) c.loop-object.invariant.2)
