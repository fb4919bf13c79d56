use Rattle.solo_crash.proofs.FoundBlocks.{block_is_found, found_is_block, found_of_words, found_within}
use Rattle.solo_crash.proofs.laws.a_lane_finds_the_blocks.Goals as goal

pub returns-clause-found : goal.returns-clause-found
returns-clause-found c = found_is_block

pub returns-clause-there : goal.returns-clause-there
returns-clause-there c = block_is_found

pub returns-clause-whole : goal.returns-clause-whole
returns-clause-whole c = found_of_words

pub returns-clause-within : goal.returns-clause-within
returns-clause-within c = found_within
