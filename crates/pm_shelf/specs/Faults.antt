-- What the faults of a shelf and of a sink say of themselves.
use Rattle.std.specs.Prelude.{ℕ, List, codes}
use Rattle.pm_shelf.specs.declared.shelf.ShelfFault.{ShelfFault}
use Rattle.pm_shelf.specs.declared.shelf.ShelfFault.TheVariants as shelf
use Rattle.pm_shelf.specs.declared.sink.SinkFault.{SinkFault}
use Rattle.pm_shelf.specs.declared.sink.SinkFault.TheVariants as sink

abbrev pub shelf_fault_text : ShelfFault → List ℕ
shelf_fault_text shelf.Failed = codes "the shelf failed"
shelf_fault_text shelf.Missing = codes "there is no such name on the shelf"
shelf_fault_text shelf.Exists = codes "the name is on the shelf already"
shelf_fault_text shelf.TooLong = codes "there are more bytes than the limit"
shelf_fault_text shelf.Memory = codes "out of memory"

abbrev pub sink_fault_text : SinkFault → List ℕ
sink_fault_text sink.Failed = codes "the output failed"
sink_fault_text sink.Memory = codes "out of memory"
