use Rattle.std.proofs.Common.{◌∙◌, not, nat_lt, ap, rules, tests}
use Rattle.std.specs.List.{list_all}
use Rattle.std.specs.FinSet as set
use Rattle.std.proofs.lemmas.Iterator.{YieldsList-from_slice}
use Rattle.std.proofs.lemmas.Iterator.Adapters.{YieldsList-from_skip}
use Rattle.std.proofs.lemmas.Iterator.Search.{all_from_yields_List}
use Rattle.dots_core.specs.Names.{Names}
use Rattle.dots_core.proofs.NamesBelow.{none_above}
use Rattle.dots_core.proofs.name_set.NameSet.is_below.Goals as goal

pub returns : goal.returns
returns c =
    all_from_yields_List not _ _ c.all.result c.all.ensures.ran
    (YieldsList-from_skip c.args.count (YieldsList-from_slice c.self.inside.has cc) cc) (λ x b q k. search (rules, tests))
    ∙ none_above c.self.inside.has c.args.count
    ∙ ap (λ (names : Names). list_all (λ name. nat_lt name c.args.count) (set.items names)) c.self.view_is
