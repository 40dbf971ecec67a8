use Rattle.program_core.proofs.Told.{behind, beside}
use Rattle.program_core.proofs.status.carry_out_announced.Goals as goal

-- what was told first, and what behind it
pub returns-clause-aside : goal.returns-clause-aside
returns-clause-aside g c =
    beside c.args.setting.now.terminal c.args.setting.now.limits c.args.choice.command c.args.choice.form (g.R.Read.remaining c.args.reader.now) (g.E.Write.contents c.args.errors.now)
    (g.E.Write.contents c.announce.new.errors) (g.E.Write.contents c.carry_out.new.errors) c.announce.ensures c.carry_out.ensures.aside

pub returns-clause-told : goal.returns-clause-told
returns-clause-told g c =
    behind c.args.setting.now.terminal c.args.setting.now.limits c.args.choice.command c.args.choice.form (g.R.Read.remaining c.args.reader.now) (g.E.Write.contents c.args.errors.now)
    (g.E.Write.contents c.announce.new.errors) (g.E.Write.contents c.carry_out.new.errors) c.carry_out.new.notes.lost c.carry_out.result c.announce.ensures c.carry_out.ensures.told
