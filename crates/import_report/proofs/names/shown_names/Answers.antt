use Rattle.std.proofs.Common.{◌≡◌, ◌∙◌, ◌≤◌, map, length, sym, ap, subst}
use Rattle.std.proofs.lemmas.List.{length-map}
use Rattle.std.proofs.lemmas.Result.{IfOk-weaker}
use Rattle.bench_core.specs.NameList.{Texts, names_of}
use Rattle.grammar_core.specs.Grammar.{unreserved}
use Rattle.import_report.specs.Names.{numbered_names}
use Rattle.import_report.proofs.NodeNames.{are_names, each_again, own_shown, numbered_shown}
use Rattle.import_report.proofs.names.shown_names.Goals as goal

pub returns-in-Ok-clause-names : goal.returns-in-Ok-clause-names
returns-in-Ok-clause-names g c =
    let nodes : Texts = c.args.nodes.now in
    let is : map (λ word. word.now) c.deref.result.now ≡ map unreserved nodes = ap (map (λ word. word.now)) c.deref.ensures.value ∙ c.in_ok-words.ensures in
    own_shown nodes c.in-Ok.names (ap names_of (sym is) ∙ c.in-Ok.ensures.gives)

pub returns-in-Ok-clause-nodes : goal.returns-in-Ok-clause-nodes
returns-in-Ok-clause-nodes g c =
    let nodes : Texts = c.args.nodes.now in
    let is : map (λ word. word.now) c.deref.result.now ≡ map unreserved nodes = ap (map (λ word. word.now)) c.deref.ensures.value ∙ c.in_ok-words.ensures in
    let same : c.in-Ok.names ≡ map unreserved nodes = c.in-Ok.ensures.texts ∙ is in
    are_names c.in-Ok.names c.names_law.ensures (subst (λ ns. map unreserved ns ≡ ns) (sym same) (each_again nodes))
    (subst (λ n. n ≤ 32) (sym (ap length same ∙ length-map nodes unreserved)) c.requires.few)

pub returns-clause-names : goal.returns-clause-names
returns-clause-names g c =
    let nodes : Texts = c.args.nodes.now in
    let is : map (λ word. word.now) c.deref.result.now ≡ map unreserved nodes = ap (map (λ word. word.now)) c.deref.ensures.value ∙ c.in_ok-words.ensures in
    IfOk-weaker c.or_numbered.result _ _
    (λ names h. h.1 ∙ ap numbered_names c.len.ensures.len ∙ numbered_shown nodes c.in-Err.fault (ap names_of (sym is) ∙ c.in-Err.ensures.gives h.0))
    c.or_numbered.ensures.names
