use Rattle.script_core.proofs.playing.play.Given as goal

-- the ledger of the count that is let go
abbrev pub ghosts-play_from : goal.ghosts-play_from
ghosts-play_from g a = record { name = a.blank.name; parts = a.blank.parts }
