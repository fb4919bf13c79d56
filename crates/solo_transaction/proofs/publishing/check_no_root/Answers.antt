use Rattle.std.proofs.Common.{◌≡◌, ◌≢◌, ◌≤◌, length, slice_index, sym, ◌∙◌, rules}
use Rattle.pm_objects.specs.declared.ids.Oid.{Oid}
use Rattle.solo_tx.proofs.EachAction.{all_further, all_of_front, some_at}
use Rattle.solo_transaction.proofs.PublishAllChecks.{no_id}
use Rattle.solo_transaction.proofs.publishing.check_no_root.Goals as goal

pub returns-then-id-root-clause-root : goal.returns-then-id-root-clause-root
returns-then-id-root-clause-root g c o v all =
    let t = c.load_root-root.ensures.looked c.args.blocks.now o v all in
    record {
      loads = t.loads;
      view = t.view;
      looks = t.looks;
      works = t.works;
      holds = some_at (λ (id : Oid). slice_index t.view.words 64 ≡ id.off) c.args.ids.now c.loop-id.id-index no_id c.loop-id-test.true (t.holds ∙ sym c.if-id-root.true);
    }

pub returns-then-id-root-clause-still : goal.returns-then-id-root-clause-still
returns-then-id-root-clause-still g c = let r = c.requires.work in let t = c.load_root-root.ensures.looked c.args.blocks.now r.0 r.1.0 r.1.1 in (r.0, (t.view, t.works))

pub loop-id-preserved : goal.loop-id-preserved
loop-id-preserved g c = all_further (λ (id : Oid). c.load_root-root.result ≢ id.off) c.args.ids.now c.loop-id.id-index no_id c.loop-id-test.true c.loop-id.invariant (λ same. c.if-id-root.false (sym same))

pub returns-clause-ok : goal.returns-clause-ok
returns-clause-ok g c o v all =
    let up : length c.args.ids.now ≤ c.loop-id.id-index = search rules in
    let t = c.load_root-root.ensures.looked c.args.blocks.now o v all in
    record {
      loads = t.loads;
      view = t.view;
      looks = t.looks;
      works = t.works;
      holds = λ n d low same. all_of_front (λ (id : Oid). c.load_root-root.result ≢ id.off) c.args.ids.now c.loop-id.id-index up c.loop-id.invariant n d low (sym t.holds ∙ same);
    }

pub returns-clause-still : goal.returns-clause-still
returns-clause-still g c = let r = c.requires.work in let t = c.load_root-root.ensures.looked c.args.blocks.now r.0 r.1.0 r.1.1 in (r.0, (t.view, t.works))
