use Rattle.command_line.proofs.subcommands.question_subcommand.Goals as goal

pub returns : goal.returns
returns c =
    c.with_arg.ensures _ _ (c.with_arg-topic.ensures _ _ (c.with_arg-node.ensures _ _ c.bare_subcommand-bare.ensures c.word_place.ensures) c.word_place-2.ensures) c.word_place-3.ensures
