use Rattle.std.proofs.Common.{◌≡◌, ◌+◌, length, true, sym, ap, subst, arith}
use Rattle.dots_core.specs.Clocks.{is_among}
use Rattle.dots_core.specs.Unions.{without_first}
use Rattle.dots_core.proofs.Clocks.{rises_within}
use Rattle.dots_core.proofs.Unions.{Merges, merges_start, next_valid, rest_shorter, merges_more}
use Rattle.dots_core.proofs.union.grown.Goals as goal

pub has_each-requires : goal.has_each-requires
has_each-requires g c = λ k t.
    let r = rises_within (c.other.inside.clock + 1) c.other.inside.cloud.items k c.other.invariant.rises
    (subst (λ xs. is_among k xs ≡ true) c.deref.ensures.value t) in omega arith

pub loop-next-init : goal.loop-next-init
loop-next-init g c =
    merges_start (record { clock = c.own.inside.clock; cloud = c.own.inside.cloud.items })
    (record { clock = c.other.inside.clock; cloud = c.other.inside.cloud.items }) c.args.own.now c.args.other.now
    c.max.result c.new.result.items c.as_slice-left.result.now c.as_slice-right.result.now
    c.own.view_is c.other.view_is c.own.invariant c.other.invariant c.max.ensures c.new.ensures.items c.as_slice-left.ensures.value
    c.as_slice-right.ensures.value

pub add_last-requires-clause-positive : goal.add_last-requires-clause-positive
add_last-requires-clause-positive g c =
    (next_valid c.args.own.now c.args.other.now c.loop-next.union c.loop-next.left.now c.loop-next.right.now c.in-Some.next
    c.loop-next.invariant c.in-Some.ensures).0

pub add_last-requires-clause-last : goal.add_last-requires-clause-last
add_last-requires-clause-last g c =
    (next_valid c.args.own.now c.args.other.now c.loop-next.union c.loop-next.left.now c.loop-next.right.now c.in-Some.next
    c.loop-next.invariant c.in-Some.ensures).1

pub add_last-requires-clause-above : goal.add_last-requires-clause-above
add_last-requires-clause-above g c =
    (next_valid c.args.own.now c.args.other.now c.loop-next.union c.loop-next.left.now c.loop-next.right.now c.in-Some.next
    c.loop-next.invariant c.in-Some.ensures).2

pub loop-next-smaller : goal.loop-next-smaller
loop-next-smaller g c =
    let shorter = rest_shorter c.loop-next.left.now c.loop-next.right.now c.in-Some.next c.loop-next.invariant.left
    c.loop-next.invariant.right c.in-Some.ensures in
    let left = ap length c.after-left.ensures in
    let right = ap length c.after-right.ensures in
    omega (arith, shorter, left, right)

pub loop-next-preserved : goal.loop-next-preserved
loop-next-preserved g c =
    let next = c.in-Some.next in
    let more = merges_more c.args.own.now c.args.other.now c.loop-next.union c.add_last.new.part c.loop-next.left.now c.loop-next.right.now
    next c.loop-next.invariant c.in-Some.ensures c.add_last.ensures.canonical c.in_ok-add_last.ensures.ok c.in_ok-add_last.ensures.cloud
    in
    subst (λ xs. Merges c.args.own.now c.args.other.now c.add_last.new.part xs c.after-right.result.now) (sym c.after-left.ensures)
    (subst (λ ys. Merges c.args.own.now c.args.other.now c.add_last.new.part (without_first next c.loop-next.left.now) ys)
    (sym c.after-right.ensures) more)
