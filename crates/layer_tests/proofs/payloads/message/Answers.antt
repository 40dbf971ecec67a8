use Rattle.std.proofs.Common.{sym, subst, lit<}
use Rattle.payload_core.specs.Messages.{AreSeen}
use Rattle.payload_core.specs.Presences.{Entries}
use Rattle.payload_core.proofs.SeenEntries.{seen_none}
use Rattle.layer_tests.proofs.payloads.message.Goals as goal

pub new-requires-2 : goal.new-requires-2
new-requires-2 g c =
    (lit< tt, (lit< tt, subst (λ (es : Entries). AreSeen c.seen_of-seen.result es) (sym c.new.ensures) (seen_none c.seen_of-seen.result)))
