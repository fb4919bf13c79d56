use Rattle.std.proofs.Common.{◌≡◌, None, ap, sym, ◌∙◌, rules}
use Rattle.solo_memory.specs.LockWords.{writer_bit}
use Rattle.solo_memory.specs.Solo.{Solo, opened, with_lock}
use Rattle.solo_redo.proofs.tests.lane_with.Goals as goal

pub returns-clause-held : goal.returns-clause-held
returns-clause-held c =
    let first : c.in_ok-memory.memory ≡ opened c.in_ok-memory.memory.words None = search rules in
    let made : c.take_write.new.self ≡ with_lock c.in_ok-memory.memory 193 (writer_bit 0) = search rules in
    let is = c.memory.view_is ∙ made in
    is ∙ ap (λ (m : Solo). with_lock m 193 (writer_bit 0)) (first ∙ ap (λ (m : Solo). opened m.words None) (sym is))
