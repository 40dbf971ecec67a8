use Rattle.std.proofs.Common.{◌≡◌, ◌∙◌, ◌∷◌, ◌++◌, List, ap, append-nil, arith, is_some, length, sym}
use Rattle.std.specs.FinMap as fin
use Rattle.std.specs.Vec.Iter.{into_iter_items}
use Rattle.store_core.specs.LeavesTogether.{still_there, without_found}
use Rattle.store_core.specs.LeftEntries.{Left}
use Rattle.store_core.proofs.LeftTogether.{found_first, lost_first}
use Rattle.store_core.proofs.Told.{none_left}
use Rattle.store_core.proofs.leaves_together.take_lefts.Goals as goal

pub push_reserved-requires : goal.push_reserved-requires
push_reserved-requires g c =
    let one_less = ap length c.in-Some.ensures.steps.0 in
    omega (arith, one_less, c.loop-left.invariant.room)

pub loop-left-preserved : goal.loop-left-preserved
loop-left-preserved g c =
    let items = into_iter_items c.loop-left.left-iterator in
    let rest = into_iter_items c.next.new.self in
    let m = c.loop-left.entries.map in
    let at : items ≡ c.in-Some.left ∷ rest = c.in-Some.ensures.steps.0 in
    let dot_is = c.dot.ensures ∙ ap (λ (l : Left). l.entry.dot) c.left.view_is in
    let after = c.discard.ensures.map ∙ ap (fin.remove m) dot_is in
    let one_less = ap length at in
    record {
      entries = found_first items rest c.in-Some.left at m _ after ∙ c.loop-left.invariant.entries;
      left =
          lost_first items rest c.in-Some.left at m _ after c.discard.result (c.discard.ensures.was ∙ ap (λ d. is_some (fin.get m d)) dot_is)
          c.loop-left.lefts.items _ c.loop-left.invariant.left c.if-discard.false;
      room = omega (arith, one_less, c.loop-left.invariant.room);
    }

pub returns-clause-entries : goal.returns-clause-entries
returns-clause-entries g c =
    sym (none_left (λ (ls : List Left). without_found ls c.loop-left.entries.map) _ _ c.in-None.ensures.steps.0 c.loop-left.left-iterator.rest.ok.0)
    ∙ c.loop-left.invariant.entries

pub returns-clause-left : goal.returns-clause-left
returns-clause-left g c =
    sym (append-nil c.loop-left.lefts.items)
    ∙ sym (none_left (λ (ls : List Left). c.loop-left.lefts.items ++ still_there ls c.loop-left.entries.map) _ _ c.in-None.ensures.steps.0
    c.loop-left.left-iterator.rest.ok.0)
    ∙ c.loop-left.invariant.left
