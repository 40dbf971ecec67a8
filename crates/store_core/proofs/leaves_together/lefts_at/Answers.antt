use Rattle.std.proofs.Common.{◌∙◌, ◌++◌, List, append-nil, refl, sym}
use Rattle.std.proofs.lemmas.List.{at_drop_all, at_drop_more}
use Rattle.dots_core.specs.declared.dot.Dot.{Dot}
use Rattle.store_core.specs.LeavesTogether.{found_lefts}
use Rattle.store_core.proofs.LeftTogether.{found_none, found_some}
use Rattle.store_core.proofs.leaves_together.lefts_at.Goals as goal
use Rattle.store_core.proofs.leaves_together.lefts_at.Goals.{in-Some+in_ok-unsent+in_ok-push, in_default}

pub loop-dot-preserved : goal.loop-dot-preserved
loop-dot-preserved g c =
    let ds = c.args.dots.now in
    let i = c.loop-dot.dot-index in
    let at = at_drop_more (λ (ds : List Dot). ds) ds i _ c.loop-dot-test.true in
    elim c.match-branch-3.branch [
      | in-Some+in_ok-unsent+in_ok-push w ↦ rw w.found-is (
          found_some ds i _ _ _ _ _ _ at _ c.in_ok-entry.ensures c.loop-dot.invariant _ _ _ _ _ w.in-Some.is
          w.in_ok-unsent.ensures w.contains-in_delta.ensures refl w.in_ok-push.ensures.items)
      | in_default w ↦ rw w.found-is (found_none ds i _ _ _ _ _ _ at _ c.in_ok-entry.ensures c.loop-dot.invariant w.in_default.is)
    ]

pub returns : goal.returns
returns g c =
    sym (append-nil c.loop-dot.found.items)
    ∙ sym (at_drop_all (λ (ds : List Dot). c.loop-dot.found.items ++ found_lefts ds c.args.entries.now.map c.args.delta_entries.now.map c.args.delta_seen.now)
    c.args.dots.now c.loop-dot.dot-index c.loop-dot-test.false)
    ∙ c.loop-dot.invariant
