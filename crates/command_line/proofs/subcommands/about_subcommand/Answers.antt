use Rattle.command_line.proofs.subcommands.about_subcommand.Goals as goal

pub returns : goal.returns
returns c =
    c.with_arg.ensures _ _ (c.with_arg-topic.ensures _ _ (c.with_arg-node.ensures _ _ c.bare_subcommand-bare.ensures c.optional_place.ensures) c.optional_place-2.ensures) c.optional_place-3.ensures
