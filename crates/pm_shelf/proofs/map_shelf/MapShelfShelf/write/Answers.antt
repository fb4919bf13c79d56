use Rattle.std.proofs.Common.{arith}
use Rattle.std.proofs.lemmas.Map.Text.{text_keys}
use Rattle.pm_shelf.proofs.map_shelf.MapShelfShelf.write.Goals as goal

pub returns-clause-added : goal.returns-clause-added
returns-clause-added c = record {
  absent = grind (arith, text_keys);
  added = grind (arith, text_keys);
  others = λ other differs. grind (arith, text_keys);
}

pub returns-clause-counted : goal.returns-clause-counted
returns-clause-counted c = grind (arith, text_keys)
