use Rattle.std.proofs.Common.{◌∙◌, ap, ◌-◌, length, slice_get, List, None, ℕ}
use Rattle.journal_core.specs.Numbers.{last}
use Rattle.journal_core.specs.Causes.{Causes}
use Rattle.journal_core.proofs.NumberLists.{last_is}
use Rattle.journal_core.proofs.causes.Causes.last.Goals as goal

pub returns : goal.returns
returns g c =
    c.copied.ensures ∙ c.last.ensures.value ∙ ap (λ (l : List ℕ). slice_get l (length l - 1)) c.deref.ensures.value
    ∙ last_is c.self.inside.own.items ∙ ap (λ (v : Causes). last None v.own) c.self.view_is
