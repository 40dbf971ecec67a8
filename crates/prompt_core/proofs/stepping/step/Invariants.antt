use Rattle.prompt_core.proofs.stepping.step.Given as goal

-- the ledger of the count that is let go
abbrev pub ghosts-step_from : goal.ghosts-step_from
ghosts-step_from g a = record { name = a.blank.name; parts = a.blank.parts }
