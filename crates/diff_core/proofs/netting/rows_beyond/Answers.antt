use Rattle.std.proofs.Common.{◌≡◌, ◌<◌, [], ◌∷◌, ◌++◌, true, false, length, ap, sym, ◌∙◌, arith}
use Rattle.diff_core.specs.Rows.{Row}
use Rattle.diff_core.specs.Diffs.{not_below, begins_with}
use Rattle.diff_core.specs.NetChanges.{beyond}
use Rattle.diff_core.proofs.NetChanges.{takes_one, is_beyond}
use Rattle.diff_core.proofs.netting.rows_beyond.Goals as goal
use Rattle.diff_core.proofs.netting.rows_beyond.Goals.{then-begins_with, else-begins_with+in_ok-try_copy+in_ok-push}

pub loop-row-preserved : goal.loop-row-preserved
loop-row-preserved g c =
    let rows = c.args.rows.now in
    let rest = c.loop-row.rest.now in
    let row = c.row-item.result in
    let there : c.loop-row.row-index < length rows = omega arith in
    elim c.if-begins_with.branch [
      | then-begins_with w ↦
          let same : begins_with row (not_below row rest) ≡ true = cc in
          rw (w.found-is, w.rest-is, w.behind_first-rest.ensures, c.not_below-rest.ensures)
          (takes_one rows rest c.loop-row.row-index row c.loop-row.found.items (beyond rows c.args.others.now) there (sym c.row-item.is)
          c.loop-row.invariant same)
      | else-begins_with+in_ok-try_copy+in_ok-push w ↦
          let other : begins_with row (not_below row rest) ≡ false = cc in
          rw (w.found-is, w.rest-is, c.not_below-rest.ensures)
          (is_beyond rows rest c.loop-row.row-index row c.loop-row.found.items (beyond rows c.args.others.now) there (sym c.row-item.is)
          c.loop-row.invariant w.push.new.self.items other
          (w.in_ok-push.ensures.items ∙ ap (λ (r : Row). c.loop-row.found.items ++ r ∷ []) w.in_ok-try_copy.ensures))
    ]
