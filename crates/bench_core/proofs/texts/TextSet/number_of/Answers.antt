use Rattle.std.specs.Str.{bytes_eq}
use Rattle.std.specs.String.{string_bytes}
use Rattle.bench_core.proofs.TextLists.{position-map}
use Rattle.bench_core.proofs.texts.TextSet.number_of.Goals as goal

pub returns : goal.returns
returns g c =
    rw (← c.self.view_is, position-map (bytes_eq c.args.text.now) string_bytes c.self.inside.texts.keys) c.get_index_of.ensures.index
