use Rattle.command_line.proofs.subcommands.whatif.Goals as goal

pub returns : goal.returns
returns c = c.with_arg.ensures _ _ c.question_subcommand-question.ensures c.number_option.ensures
