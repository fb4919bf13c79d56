use Rattle.solo_crash.proofs.Raises.{raises_first}
use Rattle.solo_tx.proofs.Unraised.{added_outside, adds_work, all_work_raises, ends_work, gives_work, looks_lead, reads_work, starts_work, takes_work, tells_work, writes_work}
use Rattle.solo_tx.proofs.generations.a_generation_lasts_while_a_call_works.Goals as goal

pub returns : goal.returns
returns c = record {
  starts = λ v n lane. all_work_raises _ (starts_work n v lane);
  takes = takes_work;
  tells = tells_work;
  looks = λ n v w looks. let t = looks_lead n v w looks in (t.0, (t.1.0, all_work_raises t.0 t.1.1));
  adds = λ v spans id off len lane. all_work_raises _ (adds_work spans id off len v lane);
  writes = λ v id off bytes lane working can. all_work_raises _ (writes_work id off bytes (added_outside v _ _ lane working can.added) v lane);
  reads = λ v id off len bytes lane. all_work_raises _ (reads_work id off len bytes v lane);
  ends = λ v operation reply n lane. all_work_raises _ (ends_work operation reply n v lane);
  gives = λ v locks lane. all_work_raises _ (gives_work locks v lane);
  first_ones = λ steps k none. raises_first k steps none;
}
