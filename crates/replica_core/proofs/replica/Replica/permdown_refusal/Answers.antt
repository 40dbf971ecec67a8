use Rattle.std.proofs.Common.{false, true, ◌∙◌, sym}
use Rattle.replica_core.proofs.Calls.{permdown_none, permdown_some}
use Rattle.replica_core.proofs.replica.Replica.permdown_refusal.Goals as goal

-- the requirements of the calls are its own
pub down_refusal-requires : goal.down_refusal-requires
down_refusal-requires g c = search tt

pub online-requires : goal.online-requires
online-requires g c = search tt

pub returns-in-Some : goal.returns-in-Some
returns-in-Some g c =
    sym (permdown_some c.args.self.now c.args.name c.in-Some.fault (sym c.down_refusal.ensures ∙ c.in-Some.is))

pub returns-then-online : goal.returns-then-online
returns-then-online g c =
    permdown_none c.args.self.now c.args.name true (sym c.down_refusal.ensures ∙ c.in_default.is) (sym c.online.ensures ∙ c.if-online.true)

pub returns : goal.returns
returns g c =
    permdown_none c.args.self.now c.args.name false (sym c.down_refusal.ensures ∙ c.in_default.is) (sym c.online.ensures ∙ c.if-online.false)
