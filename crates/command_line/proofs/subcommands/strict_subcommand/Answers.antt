use Rattle.command_line.proofs.subcommands.strict_subcommand.Goals as goal

pub returns : goal.returns
returns c = c.with_arg.ensures _ _ (c.with_arg-formed.ensures _ _ c.bare_subcommand-bare.ensures c.form_option.ensures) c.flag_option.ensures
