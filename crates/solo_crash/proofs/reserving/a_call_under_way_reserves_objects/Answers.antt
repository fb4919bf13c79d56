use Rattle.solo_crash.proofs.PutOn.{refused_put_goes_on, refused_put_keeps, reserved_write_goes_on}
use Rattle.solo_crash.proofs.ReserveOn.{refused_reserve_goes_on, reserve_goes_on}
use Rattle.solo_crash.proofs.ReservedMore.{keeps_reserved, refused_keeps}
use Rattle.solo_crash.proofs.ReservedWritten.{reserved_write_keeps}
use Rattle.solo_crash.proofs.reserving.a_call_under_way_reserves_objects.Goals as goal

pub returns-clause-reserves : goal.returns-clause-reserves
returns-clause-reserves c = reserve_goes_on

pub returns-clause-keeps_reserved : goal.returns-clause-keeps_reserved
returns-clause-keeps_reserved c = keeps_reserved

pub returns-clause-refuses : goal.returns-clause-refuses
returns-clause-refuses c = refused_reserve_goes_on

pub returns-clause-refused_keeps : goal.returns-clause-refused_keeps
returns-clause-refused_keeps c = refused_keeps

pub returns-clause-writes : goal.returns-clause-writes
returns-clause-writes c = reserved_write_goes_on

pub returns-clause-writes_reserved : goal.returns-clause-writes_reserved
returns-clause-writes_reserved c = reserved_write_keeps

pub returns-clause-put_refused : goal.returns-clause-put_refused
returns-clause-put_refused c = refused_put_goes_on

pub returns-clause-put_refused_keeps : goal.returns-clause-put_refused_keeps
returns-clause-put_refused_keeps c = refused_put_keeps
