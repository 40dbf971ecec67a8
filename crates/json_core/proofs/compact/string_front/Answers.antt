use Rattle.json_core.proofs.Fronts.{shorter}
use Rattle.json_core.proofs.compact.string_front.Goals as goal

pub runs-smaller : goal.runs-smaller
runs-smaller c = shorter _ _ _ _ c.in_ok-rest-2.ensures
