use Rattle.std.proofs.Common.{◌≡◌, ◌++◌, ◌∙◌, OnOk, ℕ, List, ap, string_bytes, subst}
use Rattle.bench_core.specs.NameList.{Texts}
use Rattle.prompt_core.specs.Sent.{sent_line}
use Rattle.prompt_core.proofs.SentText.{no_node}
use Rattle.prompt_core.proofs.sent.put_sent.Goals as goal

pub returns-in-None : goal.returns-in-None
returns-in-None g c =
    subst (λ (text : List ℕ). OnOk c.put_sent_line.result (string_bytes c.put_sent_line.new.text ≡ string_bytes c.args.text.now ++ text))
    (ap (λ (names : Texts). sent_line names c.args.number 0) c.names-names.ensures ∙ no_node c.args.bench.now c.args.number c.in-None.ensures)
    c.put_sent_line.ensures
