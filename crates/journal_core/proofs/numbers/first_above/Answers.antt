use Rattle.std.proofs.Common.{rules, arith, nat_le, sym}
use Rattle.std.proofs.lemmas.Bool.{leb-false}
use Rattle.std.proofs.lemmas.List.Sorted.{IsPartitionPoint-from_clause}
use Rattle.journal_core.proofs.NumberLists.{parted_le, above_is, above_none}
use Rattle.journal_core.proofs.numbers.first_above.Goals as goal

pub returns-then-place-numbers : goal.returns-then-place-numbers
returns-then-place-numbers c =
    let parts = IsPartitionPoint-from_clause
    (λ m. nat_le m c.args.number) c.args.numbers.now c.partition_point-place.result c.partition_point-place.ensures.partitioned
    (parted_le c.args.number c.args.numbers.now c.requires) (λ a r g k. search rules) in
    sym (above_is c.args.number c.args.numbers.now c.partition_point-place.result c.if-place-numbers.true parts.0
    (leb-false _ _ (parts.1 c.partition_point-place.result 0 (omega arith) c.if-place-numbers.true)))

pub returns-else-place-numbers : goal.returns-else-place-numbers
returns-else-place-numbers c =
    let parts = IsPartitionPoint-from_clause
    (λ m. nat_le m c.args.number) c.args.numbers.now c.partition_point-place.result c.partition_point-place.ensures.partitioned
    (parted_le c.args.number c.args.numbers.now c.requires) (λ a r g k. search rules) in
    sym (above_none c.args.number c.args.numbers.now c.partition_point-place.result (omega arith) parts.0)
