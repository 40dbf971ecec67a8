use Rattle.std.proofs.lemmas.Grind.{common_steps}
use Rattle.std.proofs.Common.{arith}
use Rattle.diff_core.proofs.changing.taken.Goals as goal

pub returns-in-Some : goal.returns-in-Some
returns-in-Some g c = grind (arith, common_steps)

pub returns-in-None : goal.returns-in-None
returns-in-None g c = grind arith

pub rows_of_name-requires : goal.rows_of_name-requires
rows_of_name-requires g c = grind (arith, common_steps)

pub rows_left-requires : goal.rows_left-requires
rows_left-requires g c = grind (arith, common_steps)
