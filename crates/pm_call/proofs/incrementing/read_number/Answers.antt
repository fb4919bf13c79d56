use Rattle.pm_call.proofs.Increments.{number_read, readable}
use Rattle.pm_call.proofs.incrementing.read_number.Goals as goal

pub read_words-requires : goal.read_words-requires
read_words-requires g c = let r = c.requires in
    record { standing = r.standing; works = r.works; stands = r.stands; holds = readable r.standing r.stands c.args.id c.args.off 8 r.holds.range }

pub returns : goal.returns
returns g c s works is can =
    number_read g.M.LaneMem.at c.read_words.new.lane c.args.id c.args.off c.from_le_bytes.result c.read_words.new.into s can c.read_words.ensures.as_long c.from_le_bytes.ensures
    (c.read_words.ensures.read s works is (readable s is c.args.id c.args.off 8 can.range))
