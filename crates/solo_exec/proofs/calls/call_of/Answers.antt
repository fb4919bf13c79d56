use Rattle.std.proofs.Common.{rules}
use Rattle.solo_exec.proofs.GivenLetters.{call_resolved}
use Rattle.solo_exec.proofs.calls.call_of.Goals as goal

pub returns : goal.returns
returns c = call_resolved c.args.names c.args.given.now c.args.lines.now c.index-lines-0.result c.index-lines-lines.result c.requires c.root_in.result c.root_in.ensures c.from_vec.result (search rules)
