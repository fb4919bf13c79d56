use Rattle.std.proofs.Common.{◌≡◌, ◌+◌, ◌*◌, ◌%◌, Some, false, length, refl, sym, subst, arith}
use Rattle.pm_objects.specs.declared.calls.Operation.TheVariants.{Read}
use Rattle.pm_objects.specs.declared.history.Value.TheVariants.{Bytes}
use Rattle.solo_memory.specs.Runs.{Made}
use Rattle.solo_view.specs.Steps.Step.{Tell}
use Rattle.solo_world.specs.Sequences.{one}
use Rattle.solo_world.proofs.Sequencing.{allowed_one, ready_then, runs_then}
use Rattle.solo_tx.proofs.Objects.{range_is_low}
use Rattle.solo_tx.proofs.ReadsAtWork.{read_is_made, read_may_be_made, reads_first, told_is_seen}
use Rattle.solo_tx.proofs.Telling.{is_ready, runs_made, was_made}
use Rattle.solo_tx.specs.Ranges.{reads_range}
use Rattle.solo_tx.specs.Sequences.{reads}
use Rattle.solo_tx.proofs.reading.do_read.Goals as goal

pub overflow_add-id : goal.overflow_add-id
overflow_add-id g c = let r = c.requires.may in let e = range_is_low r.1 r.2.objects c.args.id c.args.off (length c.args.into.now) false r.3.range r.0 r.2.sound r.2.opening r.2.zones in omega (arith, e)

pub read_words-requires-clause-range : goal.read_words-requires-clause-range
read_words-requires-clause-range g c = let r = c.requires.may in range_is_low r.1 r.2.objects c.args.id c.args.off (length c.args.into.now) false r.3.range r.0 r.2.sound r.2.opening r.2.zones

pub read_words-requires-clause-ready : goal.read_words-requires-clause-ready
read_words-requires-clause-ready g c =
    let r = c.requires.may in
    is_ready (g.M.LaneMem.at c.args.lane.now.memory) (reads (c.args.id.off + c.args.off) (length c.args.into.now)) r.1 r.2.seen.memory (reads_first r.0 g.M.LaneMem.at c.args.lane.now r.1 r.2 c.args.id c.args.off (length c.args.into.now) r.3)

pub tell_read-requires : goal.tell_read-requires
unfolding reads_range
tell_read-requires g c =
    let r = c.requires.may in
    let told = c.read_words.new.into in
    let step = Tell (Read c.args.id c.args.off (length c.args.into.now)) (Some (Bytes c.read_words.new.into)) in
    let ready = ready_then (g.M.LaneMem.at c.args.lane.now.memory) (g.M.LaneMem.at c.read_words.new.mem) (reads (c.args.id.off + c.args.off) (length c.args.into.now)) (one step) tt
    (is_ready (g.M.LaneMem.at c.args.lane.now.memory) (reads_range c.args.id c.args.off (length c.args.into.now) told) r.1 r.2.seen.memory
    (read_may_be_made r.0 g.M.LaneMem.at c.args.lane.now r.1 r.2 c.args.id c.args.off (length c.args.into.now) r.3 told)) c.read_words.ensures.made in
    let t = allowed_one (g.M.LaneMem.at c.read_words.new.mem) step ready in
    subst (λ n. g.M.LaneMem.can c.read_words.new.mem (Tell (Read c.args.id c.args.off n) (Some (Bytes c.read_words.new.into)))) (sym c.read_words.ensures.as_long)
    (g.met.M.LawfulMem.meets c.read_words.new.mem t.0 step t.1.0 t.1.1)

pub returns-clause-made : goal.returns-clause-made
unfolding reads_range
returns-clause-made g c =
    let mid = g.M.LaneMem.at c.read_words.new.mem in
    let new = g.M.LaneMem.at c.tell_read.new.self in
    let step = Tell (Read c.args.id c.args.off (length c.args.into.now)) (Some (Bytes c.read_words.new.into)) in
    runs_then (g.M.LaneMem.at c.args.lane.now.memory) mid new (reads (c.args.id.off + c.args.off) (length c.args.into.now)) (one step) tt _ c.read_words.ensures.made
    (runs_made mid new step (subst (λ n. Made (g.M.LaneMem.at c.read_words.new.mem) (g.M.LaneMem.at c.tell_read.new.self) (Tell (Read c.args.id c.args.off n) (Some (Bytes c.read_words.new.into)))) c.read_words.ensures.as_long c.tell_read.ensures))

pub returns-clause-done : goal.returns-clause-done
returns-clause-done g c o v work old can =
    let first = reads_first o g.M.LaneMem.at c.args.lane.now v work c.args.id c.args.off (length c.args.into.now) can in
    let place : c.args.id.off ≡ 64 * can.range.object.lock.line + 64 = can.range.object.place in
    let even : c.args.id.off % 8 ≡ 0 = omega (arith, place) in
    read_is_made o g.M.LaneMem.at c.args.lane.now v work c.args.id c.args.off (length c.args.into.now) can c.read_words.new.into old
    (told_is_seen v c.args.id c.args.off (length c.args.into.now) c.read_words.new.into even c.read_words.ensures.as_long (c.read_words.ensures.found v work.seen.memory first)) _
    (record { pool = refl; shape = refl; locks = refl; entries = refl; level = refl; stage = refl; error = refl; drawn = refl; last = refl; stopped = refl }) refl
    (subst (λ n. Made (g.M.LaneMem.at c.read_words.new.mem) (g.M.LaneMem.at c.tell_read.new.self) (Tell (Read c.args.id c.args.off n) (Some (Bytes c.read_words.new.into)))) c.read_words.ensures.as_long c.tell_read.ensures _
    (was_made (g.M.LaneMem.at c.args.lane.now.memory) (g.M.LaneMem.at c.read_words.new.mem) (reads (c.args.id.off + c.args.off) (length c.args.into.now)) tt c.read_words.ensures.made v work.seen.memory first)).0
