use Rattle.std.proofs.Common.{◌≡◌, Some, refl, sym, subst}
use Rattle.std.specs.FinSet as set
use Rattle.payload_core.specs.Messages.{IsMessage, Message, request_message}
use Rattle.payload_core.proofs.SeenEntries.{seen_none}
use Rattle.payload_core.proofs.payload.Payload.request.Goals as goal

pub invariant_of-result : goal.invariant_of-result
invariant_of-result g c =
    let message : Message = record { sender = c.args.sender; seen = c.new.result; entries = c.new-2.result.map; asked = Some c.args.names } in
    let is : message ≡ request_message c.args.sender c.args.names = cc in
    subst IsMessage (sym is) (record { live = seen_none set.empty; bare = refl })
