use Rattle.pm_memory.proofs.Meeting.{word_inside, room_for, flushes_some, drains_some, line_inside, lock_free, lock_read, zone_free, page_inside, number_below}
use Rattle.pm_memory.proofs.laws.seen_memory_can.Goals as goal

pub returns-clause-word : goal.returns-clause-word
returns-clause-word c = word_inside

pub returns-clause-room : goal.returns-clause-room
returns-clause-room c = room_for

pub returns-clause-flush : goal.returns-clause-flush
returns-clause-flush c = flushes_some

pub returns-clause-drain : goal.returns-clause-drain
returns-clause-drain c = drains_some

pub returns-clause-line : goal.returns-clause-line
returns-clause-line c = line_inside

pub returns-clause-free : goal.returns-clause-free
returns-clause-free c = lock_free

pub returns-clause-read : goal.returns-clause-read
returns-clause-read c = lock_read

pub returns-clause-zone : goal.returns-clause-zone
returns-clause-zone c = zone_free

pub returns-clause-page : goal.returns-clause-page
returns-clause-page c = page_inside

pub returns-clause-number : goal.returns-clause-number
returns-clause-number c = number_below
