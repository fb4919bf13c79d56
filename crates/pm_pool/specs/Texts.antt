-- Why a pool is not made, as people read it.
use Rattle.std.specs.Prelude.{ℕ, List, codes}
use Rattle.pm_pool.specs.declared.creating.CreateFault.{CreateFault}
use Rattle.pm_pool.specs.declared.creating.CreateFault.TheVariants.{BadId, BadLayout, BadSize, Memory}

abbrev pub create_fault_text : CreateFault → List ℕ
create_fault_text BadId = codes "BadId"
create_fault_text BadLayout = codes "BadLayout"
create_fault_text BadSize = codes "BadSize"
create_fault_text Memory = codes "out of memory"
