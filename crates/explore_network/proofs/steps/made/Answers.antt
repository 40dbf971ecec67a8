use Rattle.std.proofs.Common.{◌∙◌, sym}
use Rattle.std.proofs.lemmas.List.Sums.{length-filter}
use Rattle.journal_core.specs.Journals.{Kept}
use Rattle.network_core.proofs.SameMade.{made_is}
use Rattle.network_core.specs.Room.{makes}
use Rattle.explore_network.proofs.steps.made.Goals as goal

pub returns : goal.returns
returns g c = c.count_made.ensures ∙ sym (length-filter (λ (k : Kept). makes k.step) c.args.steps.now) ∙ sym (made_is c.args.steps.now)
