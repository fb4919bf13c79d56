use Rattle.std.proofs.Common.{false}
use Rattle.solo_view.specs.Steps.Step.{TakeWrite, TakeRead, Raise, ZoneTry}
use Rattle.solo_memory.proofs.Alone.{granted_last, never}
use Rattle.solo_memory.proofs.laws.alone_no_lock_is_refused.Goals as goal

pub returns : goal.returns
returns c = record {
  write = λ m v line seen. never (granted_last v.seen (TakeWrite line false) seen.alone);
  read = λ m v line seen. never (granted_last v.seen (TakeRead line false) seen.alone);
  raise = λ m v line seen. never (granted_last v.seen (Raise line false) seen.alone);
  zone = λ m v zone seen. never (granted_last v.seen (ZoneTry zone false) seen.alone);
}
