-- What makes a step the sender of a message.
use Rattle.std.specs.Prelude.{ℕ, Bool, ◌==◌, ◌&&◌}
use Rattle.node_core.specs.Operations.{sends}
use Rattle.journal_core.specs.Journals.{Kept}

-- whether a step is a sending step of the node
abbrev pub is_sent : Kept → ℕ → Bool
is_sent k node = (k.node == node) && sends k.step
