use Rattle.std.proofs.Common.{◌≡◌, ◌∙◌, ◌+◌, ◌∷◌, List, ap, drop, refl, subst, sym}
use Rattle.std.proofs.lemmas.List.{at_drop_all}
use Rattle.entry_core.specs.EntryLists.{pairs}
use Rattle.store_core.specs.EntryMoves.{AreNew, dots_of_pairs, with_each, without_each}
use Rattle.store_core.specs.LeavesTogether.{entries_left, unsent_left}
use Rattle.store_core.specs.LeftEntries.{Left}
use Rattle.store_core.proofs.LeftTogether.{entry_first, entry_with, left_next, unsent_first, unsent_with}
use Rattle.store_core.proofs.MovedEntries.{out_new}
use Rattle.store_core.proofs.PutSome.{entry_out, unsent_out}
use Rattle.store_core.proofs.Refused.{on_err}
use Rattle.store_core.proofs.leaves_together.put_lefts.Goals as goal

pub loop-left-init : goal.loop-left-init
loop-left-init g c = record {
  new = c.requires.new;
  new_in_delta = c.requires.new_in_delta;
  rest = refl;
  delta_rest = refl;
  back = out_new (pairs (entries_left c.args.lefts.now)) c.args.entries.now.map c.requires.new;
  delta_back = out_new (pairs (unsent_left c.args.lefts.now)) c.args.delta_entries.now.map c.requires.new_in_delta;
}

pub put_shared-requires : goal.put_shared-requires
put_shared-requires g c =
    let ls = c.args.lefts.now in
    let i = c.loop-left.left-index in
    let left : Left = record { entry = c.left.inside.entry; unsent = c.left.inside.unsent; in_delta = c.left.inside.in_delta } in
    (entry_first (drop i ls) (drop (i + 1) ls) left
    (left_next ls i c.left-item.result left c.loop-left-test.true c.left-item.is c.left.view_is) _ c.loop-left.invariant.new).0

pub put_back-requires : goal.put_back-requires
put_back-requires g c =
    let ls = c.args.lefts.now in
    let i = c.loop-left.left-index in
    let left : Left = record { entry = c.left.inside.entry; unsent = c.left.inside.unsent; in_delta = c.left.inside.in_delta } in
    (unsent_first (drop i ls) (drop (i + 1) ls) left
    (left_next ls i c.left-item.result left c.loop-left-test.true c.left-item.is c.left.view_is) _ c.loop-left.invariant.new_in_delta).0

pub returns-in_err-put_shared-clause-back : goal.returns-in_err-put_shared-clause-back
returns-in_err-put_shared-clause-back g c =
    on_err c.from_residual.result
    (ap (without_each (dots_of_pairs (pairs (entries_left c.args.lefts.now)))) c.in_err-put_shared.ensures.err ∙ c.loop-left.invariant.back)

pub returns-in_err-put_back-clause-back : goal.returns-in_err-put_back-clause-back
returns-in_err-put_back-clause-back g c =
    let ls = c.args.lefts.now in
    let i = c.loop-left.left-index in
    let left : Left = record { entry = c.left.inside.entry; unsent = c.left.inside.unsent; in_delta = c.left.inside.in_delta } in
    let at : drop i ls ≡ left ∷ drop (i + 1) ls = left_next ls i c.left-item.result left c.loop-left-test.true c.left-item.is c.left.view_is in
    on_err c.from_residual-in_err-put_back.result
    (ap (without_each (dots_of_pairs (pairs (entries_left ls)))) c.in_ok-put_shared.ensures.ok
    ∙ entry_out ls i left (drop (i + 1) ls) at c.loop-left.entries.map ∙ c.loop-left.invariant.back)

pub loop-left-preserved : goal.loop-left-preserved
loop-left-preserved g c =
    let ls = c.args.lefts.now in
    let i = c.loop-left.left-index in
    let rest = drop (i + 1) ls in
    let left : Left = record { entry = c.left.inside.entry; unsent = c.left.inside.unsent; in_delta = c.left.inside.in_delta } in
    let at : drop i ls ≡ left ∷ rest = left_next ls i c.left-item.result left c.loop-left-test.true c.left-item.is c.left.view_is in
    record {
      new = subst (AreNew (pairs (entries_left rest))) (sym c.in_ok-put_shared.ensures.ok) (entry_first (drop i ls) rest left at _ c.loop-left.invariant.new).1;
      new_in_delta =
          subst (AreNew (pairs (unsent_left rest))) (sym c.in_ok-put_back.ensures.ok)
          (unsent_first (drop i ls) rest left at _ c.loop-left.invariant.new_in_delta).1;
      rest =
          ap (with_each (pairs (entries_left rest))) c.in_ok-put_shared.ensures.ok
          ∙ sym (entry_with (drop i ls) rest left at c.loop-left.entries.map) ∙ c.loop-left.invariant.rest;
      delta_rest =
          ap (with_each (pairs (unsent_left rest))) c.in_ok-put_back.ensures.ok
          ∙ sym (unsent_with (drop i ls) rest left at c.loop-left.delta_entries.map) ∙ c.loop-left.invariant.delta_rest;
      back =
          ap (without_each (dots_of_pairs (pairs (entries_left ls)))) c.in_ok-put_shared.ensures.ok
          ∙ entry_out ls i left rest at c.loop-left.entries.map ∙ c.loop-left.invariant.back;
      delta_back =
          ap (without_each (dots_of_pairs (pairs (unsent_left ls)))) c.in_ok-put_back.ensures.ok
          ∙ unsent_out ls i left rest at c.loop-left.delta_entries.map ∙ c.loop-left.invariant.delta_back;
    }

pub returns-clause-entries : goal.returns-clause-entries
returns-clause-entries g c =
    sym (at_drop_all (λ (ls : List Left). with_each (pairs (entries_left ls)) c.loop-left.entries.map) c.args.lefts.now
    c.loop-left.left-index c.loop-left-test.false)
    ∙ c.loop-left.invariant.rest

pub returns-clause-delta_entries : goal.returns-clause-delta_entries
returns-clause-delta_entries g c =
    sym (at_drop_all (λ (ls : List Left). with_each (pairs (unsent_left ls)) c.loop-left.delta_entries.map) c.args.lefts.now
    c.loop-left.left-index c.loop-left-test.false)
    ∙ c.loop-left.invariant.delta_rest
