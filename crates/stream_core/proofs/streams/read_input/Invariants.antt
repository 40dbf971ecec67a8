use Rattle.stream_core.proofs.streams.read_input.Given as goal

-- the ledger of the count that is let go
abbrev pub ghosts-read_from : goal.ghosts-read_from
ghosts-read_from g a = record { name = a.blank.name; parts = a.blank.parts }
