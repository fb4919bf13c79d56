use Rattle.std.proofs.Common.{codes, ap, ◌∙◌, ◌++◌}
use Rattle.std.specs.List.{flat_map}
use Rattle.pm_text.specs.Report.{entry_head, entry_line, fate_text, root_part, value_part}
use Rattle.pm_text.proofs.Ends.{five}
use Rattle.pm_text.proofs.report.push_entry.Goals as goal

pub returns : goal.returns
unfolding entry_line
returns c =
    let e = c.args.entry.now in
    five c.args.out.now.items (entry_head e) (fate_text e.fate e.reply.at) (root_part e.fate e.call.root) (flat_map value_part e.reply.values) (codes "\n") _ _ _ _ _
    c.in_ok-push_head.ensures c.in_ok-push_fate.ensures c.in_ok-push_root.ensures (c.in_ok-push_values.ensures ∙ ap (λ vs. c.push_root.new.out.items ++ flat_map value_part vs) c.as_slice.ensures) c.in_ok-push.ensures.items
