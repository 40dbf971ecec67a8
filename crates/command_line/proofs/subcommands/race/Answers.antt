use Rattle.command_line.proofs.subcommands.race.Goals as goal

pub returns : goal.returns
returns c = c.with_arg.ensures _ _ c.bare_subcommand-bare.ensures c.form_option.ensures
