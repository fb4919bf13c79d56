use Rattle.std.proofs.Common.{◌≤◌, ◌-◌, length}
use Rattle.std.specs.List.{range_with_len}
use Rattle.pm_model.specs.Transaction.{new_words}
use Rattle.pm_undo.specs.Spans.{words_in, AreSpansOf}
use Rattle.pm_undo.proofs.spans.plan_words.Given as goal

-- the records of the words looked at, no more of them than are free
abbrev pub invariant-loop-word : goal.invariant-loop-word
invariant-loop-word l = record {
  are : AreSpansOf l.planned.items (new_words (words_in l.records) (range_with_len l.first (l.word - l.first)));
  few : length l.planned.items ≤ l.free;
}
