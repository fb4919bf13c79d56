use Rattle.pm_image.proofs.Pools.{meaning_is_pool}
use Rattle.pm_info.proofs.Sizes.{lanes_there, objects_few}
use Rattle.pm_info.proofs.facts.text_of.Goals as goal

pub push_pool_lines-requires : goal.push_pool_lines-requires
push_pool_lines-requires c = record { lanes = lanes_there c.args.image.now c.args.pool.now c.requires }

pub push_object_lines-requires-clause-sizes : goal.push_object_lines-requires-clause-sizes
push_object_lines-requires-clause-sizes c = (meaning_is_pool c.args.image.now c.args.pool.now c.requires).sizes

pub push_object_lines-requires-clause-few : goal.push_object_lines-requires-clause-few
push_object_lines-requires-clause-few c = objects_few c.args.image.now c.args.pool.now c.requires

pub push_count_lines-requires-clause-lanes : goal.push_count_lines-requires-clause-lanes
push_count_lines-requires-clause-lanes c = lanes_there c.args.image.now c.args.pool.now c.requires
