use Rattle.std.proofs.Common.{rules, arith, nat_lt}
use Rattle.std.proofs.lemmas.List.Sorted.{IsPartitionPoint-from_clause}
use Rattle.dots_core.proofs.CloudBits.{before_low, below_none}
use Rattle.dots_core.proofs.clock_bits.place_from.Goals as goal

pub returns-clause-below : goal.returns-clause-below
returns-clause-below c =
    let point = IsPartitionPoint-from_clause (λ x. nat_lt x c.args.low) c.args.cloud.now c.partition_point.result c.partition_point.ensures.partitioned
    (before_low c.args.low 0 c.args.cloud.now c.requires) (λ a r f h. search rules) in
    below_none c.args.low c.args.cloud.now c.partition_point.result c.partition_point.ensures.bound (λ j x less. point.0 j x (omega arith) less)
