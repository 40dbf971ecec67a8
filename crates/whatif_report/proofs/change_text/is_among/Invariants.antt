use Rattle.std.proofs.Common.{◌≡◌, drop}
use Rattle.diff_core.specs.Rows.{is_among}
use Rattle.whatif_report.proofs.change_text.is_among.Given as goal

-- none so far: what is left decides
abbrev pub invariant-loop-other : goal.invariant-loop-other
invariant-loop-other g l = is_among l.rows l.row ≡ is_among (drop l.other-index l.rows) l.row
