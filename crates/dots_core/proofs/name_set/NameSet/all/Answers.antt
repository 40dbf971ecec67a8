use Rattle.std.proofs.Common.{true, false, ◌∙◌, replicate}
use Rattle.std.proofs.lemmas.List.{get_or-replicate}
use Rattle.dots_core.specs.FlagsBack.{contains-names_of_flags}
use Rattle.dots_core.proofs.name_set.NameSet.all.Goals as goal

pub returns : goal.returns
returns c = λ n h. contains-names_of_flags (replicate 32 true) n ∙ get_or-replicate 32 n true false h
