use Rattle.std.proofs.Common.{refl, sym, subst}
use Rattle.std.proofs.lemmas.List.{append-nil}
use Rattle.solo_script.specs.Reading.{Takes}
use Rattle.solo_script.proofs.reader.Reader.take.Goals as goal

pub returns-in-Lane-clause-ok : goal.returns-in-Lane-clause-ok
returns-in-Lane-clause-ok c = subst (Takes c.args.self.now _ c.args.number) (sym c.in-Lane.is) (record { in_place = refl; context = c.enter.ensures c.args.number; said = sym (append-nil c.args.self.now.lines.items) })
