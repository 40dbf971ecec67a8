use Rattle.command_line.proofs.subcommands.import.Goals as goal

pub returns : goal.returns
returns c =
    c.with_end.ensures _ (c.with_arg-lenient.ensures _ _ (c.with_arg-numbered.ensures _ _ (c.with_arg-checked.ensures _ _ (c.with_arg-formed.ensures _ _ c.bare_subcommand-bare.ensures c.form_option.ensures) c.flag_option.ensures) c.flag_option-2.ensures) c.flag_option-3.ensures)
