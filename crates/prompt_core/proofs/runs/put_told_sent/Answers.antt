use Rattle.std.proofs.Common.{◌≡◌, ◌++◌, OnOk, ℕ, List, subst}
use Rattle.prompt_core.proofs.Texts.{one_word}
use Rattle.prompt_core.proofs.runs.put_told_sent.Goals as goal

pub returns : goal.returns
returns g c =
    subst (λ (text : List ℕ). OnOk c.put_sent_at.result (c.put_sent_at.new.response.items ≡ c.args.response.now.items ++ text))
    (one_word c.args.number c.args.prompt.now.machine c.in-Some.bench.now c.args.words.now _ c.in-Some.ensures c.in-len1.len_at_least c.in-len1.len_below)
    c.put_sent_at.ensures
