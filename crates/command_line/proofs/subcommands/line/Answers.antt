use Rattle.command_line.proofs.subcommands.line.Goals as goal

pub returns : goal.returns
returns c =
    c.with_command.ensures _ _ (c.with_command-line-9.ensures _ _ (c.with_command-line-8.ensures _ _ (c.with_command-line-7.ensures _ _ (c.with_command-line-6.ensures _ _ (c.with_command-line-5.ensures _ _ (c.with_command-line-4.ensures _ _ (c.with_command-line-3.ensures _ _ (c.with_command-line-2.ensures _ _ (c.with_command-line.ensures _ _ c.bare_line.ensures c.play.ensures) c.race.ensures) c.load.ensures) c.explore.ensures) c.step.ensures) c.draw.ensures) c.page.ensures) c.explain.ensures) c.whatif.ensures) c.import.ensures
