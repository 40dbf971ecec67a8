-- What clauses see of the words of a join or an update.
use Rattle.payload_core.specs.Presences.{Presence}
use Rattle.grammar_core.specs.declared.steps.Presence.{Presence as DeclaredPresence}

abbrev pub plain_presence : {X : Type 0} → DeclaredPresence X → Presence
plain_presence p = record { pid = p.pid; topic = p.topic; key = p.key; metadata = p.metadata }
