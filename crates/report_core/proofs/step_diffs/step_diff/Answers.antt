use Rattle.std.proofs.Common.{ap, sym, ◌∙◌, ◌≡◌, List, slice_get, Some, option_map, option_copied, arith}
use Rattle.std.proofs.lemmas.Result.{IfOk-weaker}
use Rattle.node_core.specs.Inverses.{plain_inverse}
use Rattle.journal_core.specs.Journals.{Kept, find_number}
use Rattle.report_core.proofs.StepDiffs.{step_tells, leads_somewhere, has_node}
use Rattle.report_core.proofs.step_diffs.step_diff.Goals as goal

pub returns-in_default-node : goal.returns-in_default-node
returns-in_default-node g c step there =
    let found : Some c.in-Some-find.kept.now ≡ find_number c.args.bench.now.state.remaining c.args.number =
    sym (ap option_copied c.in-Some-find.is) ∙ c.find.ensures ∙ ap (λ (ks : List Kept). find_number ks c.args.number) c.remaining.ensures.steps in
    absurd (has_node c.args.bench.now c.args.number c.in-Some-find.kept.now (plain_inverse c.in-Some.inverse.now)
    c.node.ensures.value.0 c.in-Some.ensures.leads c.requires found c.node.ensures.value.1
    (sym (ap (option_map (λ n. n.now)) c.in_default-node.is) ∙ c.node.ensures.value.2
    ∙ ap (λ (k : Kept). slice_get c.node.ensures.value.0 k.node) c.kept.view_is))

pub inverse_diff-requires : goal.inverse_diff-requires
inverse_diff-requires g c =
    let found : Some c.in-Some-find.kept.now ≡ find_number c.args.bench.now.state.remaining c.args.number =
    sym (ap option_copied c.in-Some-find.is) ∙ c.find.ensures ∙ ap (λ (ks : List Kept). find_number ks c.args.number) c.remaining.ensures.steps in (
      omega arith,
      leads_somewhere c.args.bench.now c.args.number c.in-Some-find.kept.now (plain_inverse c.in-Some.inverse.now)
          c.node.ensures.value.0 c.in-Some-node.node.now c.in-Some.ensures.leads c.requires found c.node.ensures.value.1
          (sym (ap (option_map (λ n. n.now)) c.in-Some-node.is) ∙ c.node.ensures.value.2
          ∙ ap (λ (k : Kept). slice_get c.node.ensures.value.0 k.node) c.kept.view_is),
    )

pub returns : goal.returns
returns g c =
    let found : Some c.in-Some-find.kept.now ≡ find_number c.args.bench.now.state.remaining c.args.number =
    sym (ap option_copied c.in-Some-find.is) ∙ c.find.ensures ∙ ap (λ (ks : List Kept). find_number ks c.args.number) c.remaining.ensures.steps in
    IfOk-weaker c.inverse_diff.result _ _
    (λ diff. step_tells c.args.bench.now c.args.number c.in-Some-find.kept.now (plain_inverse c.in-Some.inverse.now)
    c.node.ensures.value.0 c.in-Some-node.node.now diff.left.items diff.joined.items c.in-Some.ensures.leads c.requires found
    c.node.ensures.value.1 (sym (ap (option_map (λ n. n.now)) c.in-Some-node.is) ∙ c.node.ensures.value.2
    ∙ ap (λ (k : Kept). slice_get c.node.ensures.value.0 k.node) c.kept.view_is))
    c.inverse_diff.ensures
