use Rattle.solo_fresh.proofs.MadeFinds.{made_finds}
use Rattle.solo_fresh.proofs.laws.a_made_run_changes_nothing_found.Goals as goal

pub returns : goal.returns
returns c o v w page lines finds pool free can made = made_finds o v w page lines finds pool free can made
