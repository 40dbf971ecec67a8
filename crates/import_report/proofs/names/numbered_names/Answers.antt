use Rattle.std.proofs.Common.{◌≡◌, ◌∙◌, ◌≤◌, map, take, length, sym, ap, subst}
use Rattle.std.proofs.lemmas.List.{length-map}
use Rattle.grammar_core.specs.Words.{words_of}
use Rattle.grammar_core.specs.Grammar.{unreserved}
use Rattle.import_report.specs.declared.names.TheConstants.{NUMBERED}
use Rattle.import_report.specs.Names.{numbered_names}
use Rattle.import_report.proofs.NodeNames.{are_names, numbered_kept, numbered_few, take_map, table_long}
use Rattle.import_report.proofs.names.numbered_names.Goals as goal

pub first_words-requires : goal.first_words-requires
first_words-requires g c =
    let is : map (λ word. word.now) c.deref.result.now ≡ words_of NUMBERED.now = ap (map (λ word. word.now)) c.deref.ensures.value ∙ c.in_ok-words.ensures in
    subst (λ n. c.args.count ≤ n) (sym (sym (length-map c.deref.result.now (λ word. word.now)) ∙ ap length is ∙ table_long)) c.requires.few

pub returns-in-Ok-clause-names : goal.returns-in-Ok-clause-names
returns-in-Ok-clause-names g c =
    let is : map (λ word. word.now) c.deref.result.now ≡ words_of NUMBERED.now = ap (map (λ word. word.now)) c.deref.ensures.value ∙ c.in_ok-words.ensures in
    c.in-Ok.ensures.texts ∙ ap (map (λ word. word.now)) c.first_words.ensures ∙ take_map (λ word. word.now) c.args.count c.deref.result.now
    ∙ ap (take c.args.count) is

pub returns-in-Ok-clause-nodes : goal.returns-in-Ok-clause-nodes
returns-in-Ok-clause-nodes g c =
    let all : map (λ word. word.now) c.deref.result.now ≡ words_of NUMBERED.now = ap (map (λ word. word.now)) c.deref.ensures.value ∙ c.in_ok-words.ensures in
    let is : c.in-Ok.names ≡ numbered_names c.args.count =
    c.in-Ok.ensures.texts ∙ ap (map (λ word. word.now)) c.first_words.ensures ∙ take_map (λ word. word.now) c.args.count c.deref.result.now
    ∙ ap (take c.args.count) all in
    are_names c.in-Ok.names c.names_law.ensures (subst (λ ns. map unreserved ns ≡ ns) (sym is) (numbered_kept c.args.count))
    (subst (λ ns. length ns ≤ 32) (sym is) (numbered_few c.args.count))
