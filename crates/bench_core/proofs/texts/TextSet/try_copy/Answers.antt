use Rattle.std.specs.String.{string_bytes}
use Rattle.bench_core.proofs.TextLists.{map-AllZip}
use Rattle.bench_core.proofs.texts.TextSet.try_copy.Goals as goal

pub returns : goal.returns
returns g c =
    rw (← c.self.view_is) (map-AllZip string_bytes c.self.inside.texts.keys c.in_ok-texts.texts.keys c.in_ok-texts.ensures.cases)
