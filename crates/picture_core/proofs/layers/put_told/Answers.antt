use Rattle.std.proofs.Common.{◌∙◌, sym, string_bytes}
use Rattle.picture_core.proofs.Changed.{undrawn}
use Rattle.picture_core.proofs.layers.put_told.Goals as goal

pub returns-then-not-draws-clause-rows : goal.returns-then-not-draws-clause-rows
returns-then-not-draws-clause-rows g c =
    undrawn _ _ c.args.sheet.now.range _ c.args.call.now.row _ _ _ (string_bytes c.args.layers.now.rows) (sym c.draws.ensures ∙ c.if-not-draws.true)
