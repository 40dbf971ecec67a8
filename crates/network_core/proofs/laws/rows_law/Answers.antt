use Rattle.network_core.proofs.OnlineRows.{online_rows_hold}
use Rattle.network_core.proofs.Rows.{rows_hold}
use Rattle.network_core.proofs.laws.rows_law.Goals as goal

pub returns-clause-shown : goal.returns-clause-shown
returns-clause-shown c = rows_hold

pub returns-clause-online : goal.returns-clause-online
returns-clause-online c = online_rows_hold
