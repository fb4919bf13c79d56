use Rattle.solo_exec.proofs.FewStores.{led_stores}
use Rattle.solo_exec.proofs.LineStores.{adds_few, commits_few, refused_few}
use Rattle.solo_exec.specs.Calls.{id_of}
use Rattle.solo_tx.proofs.LineStores.{write_stores}
use Rattle.solo_exec.proofs.bounds.a_line_makes_few_stores.Goals as goal

pub returns : goal.returns
returns c = record { adds = adds_few; writes = λ names id off bytes v. write_stores (id_of names id) off bytes v; commits = commits_few; free = λ v w free. led_stores v w free.led; refused = refused_few }
