use Rattle.std.proofs.Common.{◌<◌, length, ◌∙◌, arith}
use Rattle.dots_core.proofs.Names.{names_of_flags-with}
use Rattle.dots_core.proofs.name_set.NameSet.with.Goals as goal

pub returns : goal.returns
returns c =
    let within : c.from.result < length c.self.inside.has = omega (arith, c.self.invariant, c.from.ensures, c.requires) in
    names_of_flags-with c.self.inside.has c.from.result within ∙ cc (c.self.view_is, c.from.ensures)
