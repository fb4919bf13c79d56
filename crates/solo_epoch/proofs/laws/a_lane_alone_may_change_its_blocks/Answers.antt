use Rattle.solo_crash.proofs.ReservedBlocks.{block_free, chunks_free, found_freed}
use Rattle.solo_epoch.proofs.laws.a_lane_alone_may_change_its_blocks.Goals as goal

pub returns : goal.returns
returns c = record {
  run = λ o mem views log decided k c lines index world inside sees. block_free o mem views log decided k world inside sees c lines index;
  chunks = λ o mem views log decided k zone first count world inside sees. chunks_free o mem views log decided k world inside sees zone first count;
  freed = λ o mem views log decided k lines l world inside sees none there is. found_freed o mem views log decided k world inside sees none l lines there is;
}
