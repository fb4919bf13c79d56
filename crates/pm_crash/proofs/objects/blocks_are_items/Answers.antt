use Rattle.pm_crash.proofs.ItemsOfBits as items
use Rattle.pm_crash.proofs.objects.blocks_are_items.Goals as goal

pub returns-clause-blocks : goal.returns-clause-blocks
returns-clause-blocks _ = items.blocks_have_items

pub returns-clause-items : goal.returns-clause-items
returns-clause-items _ = items.items_have_blocks

pub returns-clause-offsets : goal.returns-clause-offsets
returns-clause-offsets _ = items.offsets_tell

pub returns-clause-root : goal.returns-clause-root
returns-clause-root _ = items.root_is_told
