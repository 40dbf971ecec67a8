use Rattle.command_line.proofs.subcommands.draw.Goals as goal

pub returns : goal.returns
returns c =
    c.with_arg.ensures _ _ (c.with_arg-from.ensures _ _ (c.with_arg-why.ensures _ _ c.about_subcommand-about.ensures c.number_option.ensures) c.number_option-2.ensures) c.number_option-3.ensures
