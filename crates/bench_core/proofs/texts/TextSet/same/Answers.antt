use Rattle.bench_core.proofs.TextLists.{texts_eq-Decides}
use Rattle.bench_core.proofs.texts.TextSet.same.Goals as goal

pub returns : goal.returns
returns g c =
    rw (← c.self.view_is, ← c.other.view_is)
    (texts_eq-Decides c.self.inside.texts.keys c.other.inside.texts.keys c.eq.result
    (rw (← c.as_slice.ensures.keys, ← c.as_slice-2.ensures.keys) c.eq.ensures))
