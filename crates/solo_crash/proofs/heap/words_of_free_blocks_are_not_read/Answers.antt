use Rattle.std.proofs.Common.{sym}
use Rattle.solo_crash.proofs.HeldAlike.{held_by_reads}
use Rattle.solo_crash.proofs.FreeWords.{bit_not_read, free_not_read, reserved_is_free}
use Rattle.solo_crash.proofs.UnreadNow.{unread_now}
use Rattle.solo_crash.proofs.heap.words_of_free_blocks_are_not_read.Goals as goal

pub returns-clause-bit : goal.returns-clause-bit
returns-clause-bit c = bit_not_read

pub returns-clause-free : goal.returns-clause-free
returns-clause-free c = free_not_read

pub returns-clause-reserved : goal.returns-clause-reserved
returns-clause-reserved c = reserved_is_free

pub returns-clause-unread : goal.returns-clause-unread
returns-clause-unread c = unread_now

pub returns-clause-pool : goal.returns-clause-pool
returns-clause-pool c = λ w v lanes zones header pool holds same.
    held_by_reads w v lanes zones header pool holds (record { same = λ i read. sym (same i (λ idle. free_not_read w lanes zones i holds.no_fault idle read)) })
