use Rattle.std.proofs.Common.{◌≡◌, false, get_or, sym, ap, ◌∙◌, arith}
use Rattle.std.proofs.lemmas.Bool.{le-ltb}
use Rattle.std.proofs.lemmas.List.{get_or_past}
use Rattle.std.specs.FinSet as set
use Rattle.dots_core.specs.FlagsBack.{contains-names_of_flags}
use Rattle.dots_core.proofs.name_set.NameSet.has.Goals as goal

pub returns-then-name-lt-MOST_NAMES : goal.returns-then-name-lt-MOST_NAMES
returns-then-name-lt-MOST_NAMES c = sym (contains-names_of_flags c.self.inside.has c.from.result) ∙ cc (c.self.view_is, c.from.ensures)

pub returns-else-name-lt-MOST_NAMES : goal.returns-else-name-lt-MOST_NAMES
returns-else-name-lt-MOST_NAMES c =
    let past : get_or c.self.inside.has c.args.name false ≡ false =
    get_or_past c.self.inside.has c.args.name false (omega (arith, c.self.invariant, c.if-name-lt-MOST_NAMES.false)) in
    le-ltb c.args.name 32 c.if-name-lt-MOST_NAMES.false ∙ sym past ∙ sym (contains-names_of_flags c.self.inside.has c.args.name)
    ∙ ap (λ s. set.contains s c.args.name) c.self.view_is
