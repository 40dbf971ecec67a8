use Rattle.std.proofs.Common.{◌≡◌, ◌++◌, OnOk, ℕ, List, subst}
use Rattle.prompt_core.proofs.Texts.{three_changes}
use Rattle.prompt_core.proofs.own.put_changes.Goals as goal

pub returns : goal.returns
returns g c =
    subst (λ (text : List ℕ). OnOk c.put_whatif.result (c.put_whatif.new.response.items ≡ c.args.response.now.items ++ text))
    (three_changes c.args.number c.args.prompt.now.machine c.in-Some.bench.now c.args.words.now _ c.in-Some.ensures c.in-len3.len_at_least c.in-len3.len_below)
    c.put_whatif.ensures
