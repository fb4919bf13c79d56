use Rattle.std.proofs.Common.{◌∙◌, ◌*◌, ◌/◌, refl}
use Rattle.pm_view.specs.Steps.Step.{Load}
use Rattle.pm_view.specs.Views.{after}
use Rattle.pm_lock.specs.Objects.{Looked}
use Rattle.pm_lock.proofs.Looking.{bitmap_allowed, descriptor_allowed, empty_run, lines_there, no_lines_there, one_seen, shows_huge, shows_none, shows_run, two_seen}
use Rattle.pm_lock.proofs.finding.find_object.Goals as goal

pub returns-then-descriptor-ne-RUN : goal.returns-then-descriptor-ne-RUN
unfolding Looked
returns-then-descriptor-ne-RUN g c v seen can =
    let d = c.see-descriptor.result in
    let w = c.descriptor_word.result in
    let may = g.met.M.LawfulMem.grants v (Load w d) (descriptor_allowed v c.args.shape c.args.line w can c.descriptor_word.ensures) in
    one_seen (g.M.LaneMem.at c.see-descriptor.new.self) v c.args.shape c.args.line d can w c.descriptor_word.ensures (c.see-descriptor.ensures.world v seen may) (c.see-descriptor.ensures.made v seen may).0
    (no_lines_there d c.if-descriptor-ne-RUN.true) _ (shows_huge d 0 _ c.if-descriptor-ne-RUN.true)

pub returns-then-lines-eq0 : goal.returns-then-lines-eq0
unfolding Looked
returns-then-lines-eq0 g c v seen can =
    let d = c.see-descriptor.result in
    let w = c.descriptor_word.result in
    let may = g.met.M.LawfulMem.grants v (Load w d) (descriptor_allowed v c.args.shape c.args.line w can c.descriptor_word.ensures) in
    one_seen (g.M.LaneMem.at c.see-descriptor.new.self) v c.args.shape c.args.line d can w c.descriptor_word.ensures (c.see-descriptor.ensures.world v seen may) (c.see-descriptor.ensures.made v seen may).0
    (empty_run d c.if-lines-eq0.true) _ (shows_none d 0 _ c.if-descriptor-ne-RUN.false c.if-lines-eq0.true)

pub returns : goal.returns
unfolding Looked
returns g c v seen can =
    let d = c.see-descriptor.result in
    let b = c.see-bitmap.result in
    let w = c.descriptor_word.result in
    let may = g.met.M.LawfulMem.grants v (Load w d) (descriptor_allowed v c.args.shape c.args.line w can c.descriptor_word.ensures) in
    let u = after v (Load w d) in
    let there = (c.see-descriptor.ensures.made v seen may).0 in
    let also = g.met.M.LawfulMem.grants u (Load _ b) (bitmap_allowed v c.args.shape c.args.line _ can refl) in
    two_seen (g.M.LaneMem.at c.see-bitmap.new.self) v c.args.shape c.args.line d can w c.descriptor_word.ensures (c.see-descriptor.ensures.world v seen may) (512 * (c.args.line / 64)) b refl
    (c.see-bitmap.ensures.made u there also).0 (c.see-bitmap.ensures.world u there also) (lines_there d c.if-descriptor-ne-RUN.false c.if-lines-eq0.false) _
    (c.shows_small.ensures ∙ shows_run d b _ c.if-descriptor-ne-RUN.false)
