use Rattle.program_core.proofs.status.program_within.Given as goal

-- the ledger of the count that is let go
abbrev pub ghosts-program_from : goal.ghosts-program_from
ghosts-program_from g a = record { name = a.blank.name; parts = a.blank.parts }
