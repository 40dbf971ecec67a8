use Rattle.std.proofs.Common.{sym, subst, lit<}
use Rattle.payload_core.specs.Messages.{AreSeen}
use Rattle.payload_core.specs.Presences.{Entries}
use Rattle.payload_core.proofs.SeenEntries.{seen_none}
use Rattle.layer_tests.proofs.payloads.is_told.Goals as goal

pub new-none-requires : goal.new-none-requires
new-none-requires c =
    (lit< tt, (lit< tt, subst (λ (es : Entries). AreSeen c.new.result es) (sym c.new-2.ensures) (seen_none c.new.result)))
