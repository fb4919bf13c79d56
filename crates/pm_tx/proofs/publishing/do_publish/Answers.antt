use Rattle.pm_world.specs.LaneFields.{fields_of}
use Rattle.pm_tx.proofs.PublishedLanes.{publish_places, words_published}
use Rattle.pm_tx.proofs.publishing.do_publish.Goals as goal

pub enter_words-requires-clause-places : goal.enter_words-requires-clause-places
enter_words-requires-clause-places g c = publish_places g.M.LaneMem.at c.args.lane.now c.requires

pub returns : goal.returns
returns g c =
    words_published g.M.LaneMem.at c.args.lane.now g.M.LaneMem.may g.met.M.LawfulMem.grants
    (record c.args.lane.now {
      memory = c.tell.new.self;
      entries = c.enter_words.new.entries;
      pending = c.enter_words.new.pending;
    }) c.tell.ensures (λ i. record (fields_of c.args.lane.now) {
      entries = c.enter_words.ensures.entries i;
      pending = c.enter_words.ensures.pending i;
    })
