use Rattle.std.proofs.Common.{◌≡◌, ◌<◌, [], ◌∷◌, ◌++◌, true, false, length, ap, sym, ◌∙◌, arith}
use Rattle.diff_core.specs.Rows.{Row}
use Rattle.diff_core.specs.Diffs.{alone, not_below, begins_with}
use Rattle.diff_core.specs.Online.{AreInOrder}
use Rattle.diff_core.proofs.Alone.{not_below_in_order, walked_alone, walked_by}
use Rattle.diff_core.proofs.comparing.rows_alone.Goals as goal
use Rattle.diff_core.proofs.comparing.rows_alone.Goals.{then-not-begins_with+in_ok-try_copy+in_ok-push, else-not-begins_with}

pub loop-row-preserved : goal.loop-row-preserved
loop-row-preserved g c =
    let rows = c.args.rows.now in
    let rest = c.loop-row.rest.now in
    let row = c.row-item.result in
    let there : c.loop-row.row-index < length rows = omega arith in
    let ordered : AreInOrder c.not_below-rest.result.now =
    rw c.not_below-rest.ensures (not_below_in_order row rest c.loop-row.invariant.1) in
    elim c.if-not-begins_with.branch [
      | then-not-begins_with+in_ok-try_copy+in_ok-push w ↦
          let apart : begins_with row (not_below row rest) ≡ false = cc in (
            rw (w.found-is, c.not_below-rest.ensures)
                (walked_alone rows rest c.loop-row.row-index row c.requires.rows c.loop-row.invariant.1 there (sym c.row-item.is)
                c.loop-row.found.items w.push.new.self.items (alone rows c.args.others.now) apart c.loop-row.invariant.0
                (w.in_ok-push.ensures.items ∙ ap (λ (r : Row). c.loop-row.found.items ++ r ∷ []) w.in_ok-try_copy.ensures)),
            ordered,
          )
      | else-not-begins_with w ↦
          let same : begins_with row (not_below row rest) ≡ true = cc in (
            rw (w.found-is, c.not_below-rest.ensures)
                (walked_by rows rest c.loop-row.row-index row c.requires.rows c.loop-row.invariant.1 there (sym c.row-item.is)
                c.loop-row.found.items (alone rows c.args.others.now) same c.loop-row.invariant.0),
            ordered,
          )
    ]
