use Rattle.std.proofs.Common.{◌≡◌, List, sym, subst, rules}
use Rattle.solo_memory.specs.Solo.{Sees}
use Rattle.pm_record.specs.declared.redo.Redo.{Redo}
use Rattle.solo_world.specs.Sequences.{IsReady}
use Rattle.solo_redo.specs.Sequences.{applies}
use Rattle.solo_redo.proofs.OneLane.{both, may_apply}
use Rattle.solo_redo.proofs.tests.applies.Goals as goal

pub apply_all-requires : goal.apply_all-requires
apply_all-requires g c =
    let items : c.push-2.new.self.items ≡ both = search rules in
    record {
      ready =
          subst (λ (es : List Redo). IsReady (Sees c.in_ok-lane.lane.memory) (applies es)) (sym items) (may_apply c.in_ok-lane.lane.memory c.in_ok-lane.ensures.held c.in_ok-lane.ensures.whole c.in_ok-lane.ensures.generation);
    }
