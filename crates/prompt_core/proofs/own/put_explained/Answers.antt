use Rattle.std.proofs.Common.{◌≡◌, ◌++◌, OnOk, ℕ, List, subst}
use Rattle.prompt_core.proofs.Texts.{three_words}
use Rattle.prompt_core.proofs.own.put_explained.Goals as goal

pub returns : goal.returns
returns g c =
    subst (λ (text : List ℕ). OnOk c.put_explanation.result (c.put_explanation.new.response.items ≡ c.args.response.now.items ++ text))
    (three_words c.args.number c.args.prompt.now.machine c.in-Some.bench.now c.args.words.now _ c.in-Some.ensures c.in-len3.len_at_least c.in-len3.len_below)
    c.put_explanation.ensures
