use Rattle.command_line.proofs.subcommands.explore.Goals as goal

pub returns : goal.returns
returns c =
    c.with_arg.ensures _ _ (c.with_arg-states.ensures _ _ (c.with_arg-again.ensures _ _ (c.with_arg-lost.ensures _ _ c.about_subcommand-about.ensures c.number_option.ensures) c.number_option-2.ensures) c.number_option-3.ensures) c.number_option-4.ensures
