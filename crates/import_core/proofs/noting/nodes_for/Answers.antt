use Rattle.std.proofs.Common.{◌≡◌, ◌+◌, ◌++◌, ◌∷◌, [], ◌<◌, length, drop, refl, sym, ap, subst, ◌∙◌, Some, None, arith}
use Rattle.std.proofs.lemmas.List.{drop_more, drop_all}
use Rattle.std.proofs.lemmas.Result.{err_from_is_err_and}
use Rattle.serde_json.specs.Find.{as_str}
use Rattle.serde_json.specs.View.{view, items_view}
use Rattle.import_core.specs.Tables.{AllTables, all_of}
use Rattle.bench_core.specs.NameList.{Texts}
use Rattle.import_core.specs.Steps.{AreNodesOf, NodeIn}
use Rattle.import_core.specs.Seen.{names_among, text_if, with_text, with_texts}
use Rattle.import_core.proofs.FirstSights.{all_longer}
use Rattle.import_core.proofs.Numbers.{keeps_both, keeps_itself}
use Rattle.import_core.proofs.Kept.{later_node}
use Rattle.import_core.proofs.Sights.{values_more}
use Rattle.import_core.proofs.noting.nodes_for.Goals as goal
use Rattle.import_core.proofs.noting.nodes_for.Goals.{in-Some+in_ok-node, in_default}

pub loop-value-preserved : goal.loop-value-preserved
loop-value-preserved g c =
    let v = c.value-item.result in
    let i = c.loop-value.value-index in
    let names = c.args.names.now in
    let old : AllTables = all_of c.loop-value.tables in
    let at : drop i names ≡ v ∷ drop (i + 1) names = drop_more names i v c.loop-value-test.true ∙ ap (λ x. x ∷ drop (i + 1) names) (sym c.value-item.is) in
    let rest : Texts = names_among (items_view (drop (i + 1) names)) in
    let left : with_texts old.nodes (text_if (as_str (view v)) ++ rest) ≡ with_texts c.args.tables.now.nodes (names_among (items_view names)) =
    ap (λ vs. with_texts old.nodes (names_among (items_view vs))) (sym at) ∙ c.loop-value.invariant.seen in
    elim c.match-as_str.branch [
      | in-Some+in_ok-node w ↦
          let new : AllTables = all_of w.node.new.self in
          rw (w.tables-is, w.nodes-is) (record {
            kept = keeps_both (all_of c.args.tables.now) old new c.loop-value.invariant.kept w.node.ensures.extends;
            values = values_more (all_of c.args.tables.now) old new [] [] [] [] c.loop-value.invariant.values w.in_ok-node.ensures.values;
            seen = ap (λ ns. with_texts ns rest) w.in_ok-node.ensures.seen ∙ ap (λ o. with_texts old.nodes (text_if o ++ rest)) w.in-Some.ensures ∙ left;
            nodes = λ t all keeps rest.
                let here : NodeIn t c.loop-value.nodes (Some w.in-Some.name.now) (λ more. AreNodesOf t more (items_view (drop (i + 1) names)) all) = (
                  w.in_ok-node.field-0,
                  later_node new t keeps w.in-Some.name.now w.in_ok-node.field-0 w.in_ok-node.ensures.node,
                  subst (λ ns. AreNodesOf t ns (items_view (drop (i + 1) names)) all) w.with-nodes.ensures rest,
                ) in
                c.loop-value.invariant.nodes t all (keeps_both old new t w.node.ensures.extends keeps)
                (subst (λ vs. AreNodesOf t c.loop-value.nodes (items_view vs) all) (sym at)
                (subst (λ o. NodeIn t c.loop-value.nodes o (λ more. AreNodesOf t more (items_view (drop (i + 1) names)) all)) w.in-Some.ensures here));
          })
      | in_default w ↦
          rw (w.tables-is, w.nodes-is) (record {
            kept = c.loop-value.invariant.kept;
            values = c.loop-value.invariant.values;
            seen = ap (λ o. with_texts old.nodes (text_if o ++ rest)) w.in_default.ensures ∙ left;
            nodes = λ t all keeps rest.
                let here : NodeIn t c.loop-value.nodes None (λ more. AreNodesOf t more (items_view (drop (i + 1) names)) all) = rest in
                c.loop-value.invariant.nodes t all keeps
                (subst (λ vs. AreNodesOf t c.loop-value.nodes (items_view vs) all) (sym at)
                (subst (λ o. NodeIn t c.loop-value.nodes o (λ more. AreNodesOf t more (items_view (drop (i + 1) names)) all)) w.in_default.ensures here));
          })
    ]

pub returns-in_err-node-clause-many : goal.returns-in_err-node-clause-many
returns-in_err-node-clause-many g c = λ e.
    let v = c.value-item.result in
    let i = c.loop-value.value-index in
    let names = c.args.names.now in
    let nodes = c.loop-value.tables.nodes in
    let at : drop i names ≡ v ∷ drop (i + 1) names = drop_more names i v c.loop-value-test.true ∙ ap (λ x. x ∷ drop (i + 1) names) (sym c.value-item.is) in
    let rest : Texts = names_among (items_view (drop (i + 1) names)) in
    let p = err_from_is_err_and c.from_residual.result c.from_residual.ensures.1 in
    let is = p.1 in
    let same = p.2 in
    let many = c.in_err-node.ensures.many (cc) in
    let more = all_longer (with_text nodes c.in-Some.name.now) rest in
    let all : with_texts (with_text nodes c.in-Some.name.now) rest ≡ with_texts c.args.tables.now.nodes (names_among (items_view names)) =
    ap (λ o. with_texts nodes (text_if o ++ rest)) c.in-Some.ensures ∙ ap (λ vs. with_texts nodes (names_among (items_view vs))) (sym at) ∙ c.loop-value.invariant.seen in
    subst (λ ns. 32 < length ns) all (omega (arith, many, more))

pub returns-clause-nodes : goal.returns-clause-nodes
returns-clause-nodes g c =
    let t : AllTables = all_of c.loop-value.tables in
    let nodes = c.loop-value.nodes in
    let past = c.loop-value-test.false in
    let none : drop c.loop-value.value-index c.args.names.now ≡ [] = drop_all c.loop-value.value-index c.args.names.now (omega (arith, past)) in
    c.loop-value.invariant.nodes t nodes (keeps_itself t) (subst (λ vs. AreNodesOf t nodes (items_view vs) nodes) (sym none) refl)
