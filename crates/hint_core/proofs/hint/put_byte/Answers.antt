use Rattle.hint_core.proofs.Lines.{two_pieces}
use Rattle.hint_core.proofs.hint.put_byte.Goals as goal

pub returns : goal.returns
returns g c = two_pieces _ _ _ _ _ _ c.in_ok-put_numbered.ensures c.put_numbered-2.ensures
