use Rattle.std.proofs.Common.{rules, arith, nat_lt, sym}
use Rattle.std.proofs.lemmas.Bool.{ltb-false}
use Rattle.std.proofs.lemmas.List.Sorted.{IsPartitionPoint-from_clause}
use Rattle.journal_core.proofs.NumberLists.{parted_lt, place_at, place_none}
use Rattle.journal_core.proofs.numbers.place.Goals as goal

pub returns-then-place-numbers : goal.returns-then-place-numbers
returns-then-place-numbers c =
    let parts = IsPartitionPoint-from_clause
    (λ m. nat_lt m c.args.number) c.args.numbers.now c.partition_point-place.result c.partition_point-place.ensures.partitioned
    (parted_lt c.args.number c.args.numbers.now c.requires) (λ a r g k. search rules) in
    sym (place_none 0 c.args.number c.args.numbers.now c.partition_point-place.result c.requires c.partition_point-place.ensures.bound parts.0
    (λ within. let past = c.if-place-numbers.true in absurd (omega arith)))

pub returns-then-numbers-place : goal.returns-then-numbers-place
returns-then-numbers-place c =
    let parts = IsPartitionPoint-from_clause
    (λ m. nat_lt m c.args.number) c.args.numbers.now c.partition_point-place.result c.partition_point-place.ensures.partitioned
    (parted_lt c.args.number c.args.numbers.now c.requires) (λ a r g k. search rules) in
    let high = ltb-false _ _ (parts.1 c.partition_point-place.result 0 (omega arith) c.if-place-numbers.false) in
    let other = c.if-numbers-place.true in
    sym (place_none 0 c.args.number c.args.numbers.now c.partition_point-place.result c.requires c.partition_point-place.ensures.bound parts.0
    (λ within. omega arith))

pub returns : goal.returns
returns c =
    let parts = IsPartitionPoint-from_clause
    (λ m. nat_lt m c.args.number) c.args.numbers.now c.partition_point-place.result c.partition_point-place.ensures.partitioned
    (parted_lt c.args.number c.args.numbers.now c.requires) (λ a r g k. search rules) in
    sym (place_at c.args.number c.args.numbers.now c.partition_point-place.result c.if-place-numbers.false parts.0 c.if-numbers-place.false)
