use Rattle.std.proofs.Common.{◌<◌, ap, ◌∙◌, subst, sym}
use Rattle.std.specs.Mem.Slots.{slots_items}
use Rattle.pm_layout.specs.Chunks.{words_of}
use Rattle.pm_shared.proofs.Ends.{closes}
use Rattle.pm_shared.proofs.mem.SharedMem.close.Goals as goal

pub returns : goal.returns
returns c = closes c.args.self.table.shared.key c.args.pool.id c.args.pool.me (slots_items c.close_with-closed.result.words) c.copy.new.words.items (slots_items c.close_with-closed.result.slots)
    c.close_with-closed.ensures.values.2 (c.copy.ensures.length ∙ (c.args.self.roomy ∙ ap words_of (sym c.args.self.shaped))) (λ w l. c.copy.ensures.each w (subst (λ n. w < n) c.copy.ensures.length l))
