use Rattle.std.proofs.Common.{◌≡◌, ◌<◌, ◌+◌, ◌∙◌, false, true, None, Some, get_or, slice_get, sym, ap, subst, arith, length-set}
use mir.Val.{bool_byte}
use Rattle.std.proofs.lemmas.Option.{slice_get-get_or}
use Rattle.bench_core.proofs.OneStep.{get_at}
use Rattle.order_core.specs.declared.mark.Mark.{Mark}
use Rattle.order_core.specs.declared.ordering.Stand.{Stand}
use Rattle.order_core.specs.Stands.{was_sent}
use Rattle.order_core.proofs.AsTheyStand.{all_came, none_came, one_came, sent_before_of, sent_on, was_there}
use Rattle.order_core.proofs.Stands.{at_most_one, one_more}
use Rattle.order_core.proofs.ordering.is_behind.Goals as goal

pub loop-mark-init : goal.loop-mark-init
loop-mark-init g c = record {
  came = none_came c.args.marks.now;
  sent = c.in_ok-stands.ensures.begins.sent;
  known = c.in_ok-stands.ensures.known;
}

pub index-stand-requires : goal.index-stand-requires
index-stand-requires g c =
    let m : Mark = (get_or c.args.marks.now c.loop-mark.mark-index (record { place = 0; node = 0; delivers = None; sends = false })) in
    subst (λ n. m.node < n) (sym c.loop-mark.stands.ok.0)
    (c.loop-mark.invariant.known c.loop-mark.mark-index m (slice_get-get_or c.args.marks.now c.loop-mark.mark-index _ c.loop-mark-test.true))

pub index_mut-requires : goal.index_mut-requires
index_mut-requires g c =
    let m : Mark = (get_or c.args.marks.now c.loop-mark.mark-index (record { place = 0; node = 0; delivers = None; sends = false })) in
    subst (λ n. m.node < n) (sym c.loop-mark.stands.ok.0)
    (c.loop-mark.invariant.known c.loop-mark.mark-index m (slice_get-get_or c.args.marks.now c.loop-mark.mark-index _ c.loop-mark-test.true))

pub overflow_add-stand : goal.overflow_add-stand
overflow_add-stand g c =
    let m : Mark = (get_or c.args.marks.now c.loop-mark.mark-index (record { place = 0; node = 0; delivers = None; sends = false })) in
    let at : slice_get c.args.marks.now c.loop-mark.mark-index ≡ Some m = slice_get-get_or c.args.marks.now c.loop-mark.mark-index _ c.loop-mark-test.true in
    let within = c.loop-mark.invariant.known c.loop-mark.mark-index m at in
    let stood : slice_get c.loop-mark.stands.items m.node ≡ Some c.index-stand.result.now =
    get_at c.loop-mark.stands.items m.node c.index-stand.result.now within c.index-stand.ensures in
    let few = sent_before_of c.args.marks.now c.loop-mark.stands.items c.loop-mark.mark-index m.node c.index-stand.result.now c.loop-mark.invariant.sent stood in
    let one = at_most_one m.sends in
    omega (arith, few, one)

pub loop-mark-preserved : goal.loop-mark-preserved
loop-mark-preserved g c =
    let m : Mark = (get_or c.args.marks.now c.loop-mark.mark-index (record { place = 0; node = 0; delivers = None; sends = false })) in
    let at : slice_get c.args.marks.now c.loop-mark.mark-index ≡ Some m = slice_get-get_or c.args.marks.now c.loop-mark.mark-index _ c.loop-mark-test.true in
    let within = c.loop-mark.invariant.known c.loop-mark.mark-index m at in
    let stood : slice_get c.loop-mark.stands.items m.node ≡ Some c.index-stand.result.now =
    get_at c.loop-mark.stands.items m.node c.index-stand.result.now within c.index-stand.ensures in
    let was : was_sent c.loop-mark.stands.items m.delivers ≡ true =
    ap (λ ss. was_sent ss m.delivers) (sym c.as_slice.ensures.value) ∙ sym c.was_sent.ensures ∙ c.if-not-was_sent.false in
    let now : Stand = record { next = c.index-stand.result.now.next; sent = c.index-stand.result.now.sent + bool_byte m.sends } in
    record {
      came = one_came c.args.marks.now c.loop-mark.mark-index m at
          (was_there c.args.marks.now c.loop-mark.stands.items c.loop-mark.mark-index m.delivers c.loop-mark.invariant.sent was) c.loop-mark.invariant.came;
      sent = sent_on c.args.marks.now c.loop-mark.stands.items c.loop-mark.mark-index m c.index-stand.result.now now at stood
          (ap (λ n. c.index-stand.result.now.sent + n) (one_more m.sends)) c.loop-mark.invariant.sent;
      known = λ i x at. subst (λ n. x.node < n) (sym (length-set c.loop-mark.stands.items m.node now)) (c.loop-mark.invariant.known i x at);
    }

pub returns : goal.returns
returns g c = λ behind. all_came c.args.marks.now c.loop-mark.mark-index c.loop-mark-test.false c.loop-mark.invariant.came
