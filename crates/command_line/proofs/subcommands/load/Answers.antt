use Rattle.command_line.proofs.subcommands.load.Goals as goal

pub returns : goal.returns
returns c = c.with_end.ensures _ c.strict_subcommand-strict.ensures
