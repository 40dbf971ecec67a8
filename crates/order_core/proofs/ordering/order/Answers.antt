use Rattle.std.proofs.Common.{◌≡◌, ◌<◌, ◌+◌, ◌-◌, [], ◌∙◌, suc, cond, List, Some, None, length, set, slice_get, sym, ap, subst, arith}
use Rattle.std.specs.Prelude.{vec_len}
use Rattle.std.specs.Option.{option_copied}
use mir.Val.{bool_byte}
use Rattle.std.proofs.lemmas.Option.{slice_get_within}
use Rattle.bench_core.proofs.OneStep.{get_at}
use Rattle.bench_core.proofs.Places.{looked_up}
use Rattle.order_core.specs.declared.mark.Mark.{Mark}
use Rattle.order_core.specs.declared.ordering.Stand.{Stand}
use Rattle.order_core.specs.Turns.{order_after, order_of}
use Rattle.order_core.specs.Marks.{of_mark}
use Rattle.order_core.specs.Stands.{left, next_at, AreStands, IsFirstReady}
use Rattle.order_core.proofs.Stands.{at_most_one, comes, goes_on, one_more, placed, sent_of, stands_then, stops, stuck}
use Rattle.order_core.proofs.ordering.order.Goals as goal

pub loop-stands-init : goal.loop-stands-init
unfolding order_of
loop-stands-init g c =
    let long = c.in_ok-order.ensures.len in
    let room = c.in_ok-order.ensures.capacity in
    let none : length c.args.marks.now ≡ length c.args.marks.now - vec_len c.in_ok-order.order = omega (arith, long) in
    record {
      ends = ap (λ n. order_after of_mark n [] c.args.marks.now) none
          ∙ ap (λ (l : List Mark). order_after of_mark (length c.args.marks.now - vec_len c.in_ok-order.order) l c.args.marks.now) (sym c.in_ok-order.ensures.items)
          ∙ ap (λ (l : List Mark). order_after of_mark (length c.args.marks.now - vec_len c.in_ok-order.order) c.in_ok-order.order.items l)
          (sym c.in_ok-stands.ensures.all_left);
      stand = subst (λ (l : List Mark). AreStands c.args.marks.now l c.in_ok-stands.stands.items) (sym c.in_ok-order.ensures.items) c.in_ok-stands.ensures.begins;
      room = omega (arith, room);
    }

pub returns-in_default : goal.returns-in_default
returns-in_default g c =
    let is = subst (λ (ss : List Stand). IsFirstReady c.args.marks.now ss c.next_place-place.result) c.as_slice.ensures.value c.next_place-place.ensures in
    let got = looked_up c.get.result c.args.marks.now c.next_place-place.result c.get.ensures.lookup.0 c.get.ensures.lookup.1 in
    let none : slice_get c.args.marks.now c.next_place-place.result ≡ None = sym got ∙ ap option_copied c.in_default.is in
    let some : 0 < length c.args.marks.now - vec_len c.loop-stands.order = omega arith in
    sym (c.loop-stands.invariant.ends
    ∙ stops (length c.args.marks.now - vec_len c.loop-stands.order) c.loop-stands.order.items (left (next_at c.args.marks.now c.loop-stands.stands.items) 0 c.args.marks.now) some
    (stuck c.args.marks.now c.loop-stands.order.items c.loop-stands.stands.items c.next_place-place.result c.loop-stands.invariant.stand is none))

pub index-stand-requires : goal.index-stand-requires
index-stand-requires g c =
    let is = subst (λ (ss : List Stand). IsFirstReady c.args.marks.now ss c.next_place-place.result) c.as_slice.ensures.value c.next_place-place.ensures in
    let got = looked_up c.get.result c.args.marks.now c.next_place-place.result c.get.ensures.lookup.0 c.get.ensures.lookup.1 in
    let at : slice_get c.args.marks.now c.next_place-place.result ≡ Some c.in-Some.mark.now = sym got ∙ ap option_copied c.in-Some.is in
    let its = placed c.args.marks.now c.loop-stands.order.items c.loop-stands.stands.items c.next_place-place.result c.loop-stands.invariant.stand is c.in-Some.mark.now at in
    subst (λ n. c.in-Some.mark.now.node < n) (sym c.loop-stands.stands.ok.0)
    (slice_get_within c.loop-stands.stands.items c.in-Some.mark.now.node its.0 its.1)

pub overflow_add-stand : goal.overflow_add-stand
overflow_add-stand g c =
    let is = subst (λ (ss : List Stand). IsFirstReady c.args.marks.now ss c.next_place-place.result) c.as_slice.ensures.value c.next_place-place.ensures in
    let got = looked_up c.get.result c.args.marks.now c.next_place-place.result c.get.ensures.lookup.0 c.get.ensures.lookup.1 in
    let at : slice_get c.args.marks.now c.next_place-place.result ≡ Some c.in-Some.mark.now = sym got ∙ ap option_copied c.in-Some.is in
    let its = placed c.args.marks.now c.loop-stands.order.items c.loop-stands.stands.items c.next_place-place.result c.loop-stands.invariant.stand is c.in-Some.mark.now at in
    let stood : slice_get c.loop-stands.stands.items c.in-Some.mark.now.node ≡ Some c.index-stand.result.now =
    get_at c.loop-stands.stands.items c.in-Some.mark.now.node c.index-stand.result.now
    (slice_get_within c.loop-stands.stands.items c.in-Some.mark.now.node its.0 its.1) c.index-stand.ensures in
    let few = sent_of c.args.marks.now c.loop-stands.order.items c.loop-stands.stands.items c.in-Some.mark.now.node c.index-stand.result.now
    c.loop-stands.invariant.stand stood in
    let one = at_most_one c.in-Some.mark.now.sends in
    omega (arith, few, one)

pub index_mut-requires : goal.index_mut-requires
index_mut-requires g c =
    let is = subst (λ (ss : List Stand). IsFirstReady c.args.marks.now ss c.next_place-place.result) c.as_slice.ensures.value c.next_place-place.ensures in
    let got = looked_up c.get.result c.args.marks.now c.next_place-place.result c.get.ensures.lookup.0 c.get.ensures.lookup.1 in
    let at : slice_get c.args.marks.now c.next_place-place.result ≡ Some c.in-Some.mark.now = sym got ∙ ap option_copied c.in-Some.is in
    let its = placed c.args.marks.now c.loop-stands.order.items c.loop-stands.stands.items c.next_place-place.result c.loop-stands.invariant.stand is c.in-Some.mark.now at in
    subst (λ n. c.in-Some.mark.now.node < n) (sym c.loop-stands.stands.ok.0)
    (slice_get_within c.loop-stands.stands.items c.in-Some.mark.now.node its.0 its.1)

pub loop-stands-preserved : goal.loop-stands-preserved
loop-stands-preserved g c =
    let is = subst (λ (ss : List Stand). IsFirstReady c.args.marks.now ss c.next_place-place.result) c.as_slice.ensures.value c.next_place-place.ensures in
    let got = looked_up c.get.result c.args.marks.now c.next_place-place.result c.get.ensures.lookup.0 c.get.ensures.lookup.1 in
    let at : slice_get c.args.marks.now c.next_place-place.result ≡ Some c.in-Some.mark.now = sym got ∙ ap option_copied c.in-Some.is in
    let its = placed c.args.marks.now c.loop-stands.order.items c.loop-stands.stands.items c.next_place-place.result c.loop-stands.invariant.stand is c.in-Some.mark.now at in
    let stood : slice_get c.loop-stands.stands.items c.in-Some.mark.now.node ≡ Some c.index-stand.result.now =
    get_at c.loop-stands.stands.items c.in-Some.mark.now.node c.index-stand.result.now
    (slice_get_within c.loop-stands.stands.items c.in-Some.mark.now.node its.0 its.1) c.index-stand.ensures in
    let then : Stand = record { next = c.place_from.result; sent = c.index-stand.result.now.sent + bool_byte c.in-Some.mark.now.sends } in
    let sent : then.sent ≡ c.index-stand.result.now.sent + cond c.in-Some.mark.now.sends 1 0 =
    ap (λ n. c.index-stand.result.now.sent + n) (one_more c.in-Some.mark.now.sends) in
    let less : length c.args.marks.now - vec_len c.loop-stands.order ≡ suc (length c.args.marks.now - vec_len c.push_reserved.new.self) = omega arith in
    let rest = left (next_at c.args.marks.now c.loop-stands.stands.items) 0 c.args.marks.now in
    let later = left (next_at c.args.marks.now (set c.loop-stands.stands.items c.in-Some.mark.now.node then)) 0 c.args.marks.now in
    record {
      ends = c.loop-stands.invariant.ends
          ∙ goes_on (length c.args.marks.now - vec_len c.loop-stands.order) (length c.args.marks.now - vec_len c.push_reserved.new.self)
          c.loop-stands.order.items rest later c.in-Some.mark.now less
          (comes c.args.marks.now c.loop-stands.order.items c.loop-stands.stands.items c.next_place-place.result c.loop-stands.invariant.stand is
          c.in-Some.mark.now c.index-stand.result.now then at stood c.place_from.ensures sent)
          ∙ ap (λ (l : List Mark). order_after of_mark (length c.args.marks.now - vec_len c.push_reserved.new.self) l later) (sym c.push_reserved.ensures.items);
      stand =
          subst (λ (l : List Mark). AreStands c.args.marks.now l (set c.loop-stands.stands.items c.in-Some.mark.now.node then)) (sym c.push_reserved.ensures.items)
          (stands_then c.args.marks.now c.loop-stands.order.items c.loop-stands.stands.items c.next_place-place.result c.loop-stands.invariant.stand is
          c.in-Some.mark.now c.index-stand.result.now then at stood c.place_from.ensures sent);
      room = omega arith;
    }
