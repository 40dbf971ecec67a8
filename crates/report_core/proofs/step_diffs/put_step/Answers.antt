use Rattle.std.proofs.Common.{ap, sym, ◌∙◌, ◌≡◌, ◌++◌, List, None, slice_get, Some, is_some, option_map, option_copied, string_bytes, true≢false, arith}
use Rattle.std.proofs.lemmas.Result.{on_ok_weaker}
use Rattle.node_core.specs.Inverses.{plain_inverse}
use Rattle.journal_core.specs.Journals.{Kept, find_number}
use Rattle.report_core.specs.Rows.{change_lines}
use Rattle.report_core.proofs.Lines.{puts_none}
use Rattle.report_core.proofs.StepDiffs.{step_tells, leads_somewhere, has_node}
use Rattle.report_core.proofs.step_diffs.put_step.Goals as goal

pub returns-in_default : goal.returns-in_default
returns-in_default g c =
    puts_none _ _ _
    (λ step there. absurd (true≢false (sym (c.way_back.ensures.each.1 (ap is_some there)) ∙ ap is_some c.in_default.is)))

pub returns-in_default-find : goal.returns-in_default-find
returns-in_default-find g c =
    puts_none _ _ _
    (λ step there.
    let none : None ≡ Some step = sym (ap option_copied c.in_default-find.is) ∙ c.find.ensures
    ∙ ap (λ (ks : List Kept). find_number ks c.args.number) c.remaining.ensures.steps ∙ there in absurd (cc))

pub returns-in_default-node : goal.returns-in_default-node
returns-in_default-node g c =
    let found : Some c.in-Some-find.kept.now ≡ find_number c.args.bench.now.state.remaining c.args.number =
    sym (ap option_copied c.in-Some-find.is) ∙ c.find.ensures ∙ ap (λ (ks : List Kept). find_number ks c.args.number) c.remaining.ensures.steps in
    absurd (has_node c.args.bench.now c.args.number c.in-Some-find.kept.now (plain_inverse c.in-Some.inverse.now)
    c.node.ensures.value.0 c.in-Some.ensures.leads c.requires found c.node.ensures.value.1
    (sym (ap (option_map (λ n. n.now)) c.in_default-node.is) ∙ c.node.ensures.value.2
    ∙ ap (λ (k : Kept). slice_get c.node.ensures.value.0 k.node) c.kept.view_is))

pub put_inverse-requires : goal.put_inverse-requires
put_inverse-requires g c =
    let found : Some c.in-Some-find.kept.now ≡ find_number c.args.bench.now.state.remaining c.args.number =
    sym (ap option_copied c.in-Some-find.is) ∙ c.find.ensures ∙ ap (λ (ks : List Kept). find_number ks c.args.number) c.remaining.ensures.steps in (
      omega arith,
      leads_somewhere c.args.bench.now c.args.number c.in-Some-find.kept.now (plain_inverse c.in-Some.inverse.now)
          c.node.ensures.value.0 c.in-Some-node.node.now c.in-Some.ensures.leads c.requires found c.node.ensures.value.1
          (sym (ap (option_map (λ n. n.now)) c.in-Some-node.is) ∙ c.node.ensures.value.2
          ∙ ap (λ (k : Kept). slice_get c.node.ensures.value.0 k.node) c.kept.view_is),
    )

pub returns : goal.returns
returns g c =
    let found : Some c.in-Some-find.kept.now ≡ find_number c.args.bench.now.state.remaining c.args.number =
    sym (ap option_copied c.in-Some-find.is) ∙ c.find.ensures ∙ ap (λ (ks : List Kept). find_number ks c.args.number) c.remaining.ensures.steps in
    on_ok_weaker c.put_inverse.result
    (λ puts. record {
      left = puts.left;
      joined = puts.joined;
      told = step_tells c.args.bench.now c.args.number c.in-Some-find.kept.now (plain_inverse c.in-Some.inverse.now)
          c.node.ensures.value.0 c.in-Some-node.node.now puts.left puts.joined c.in-Some.ensures.leads c.requires found
          c.node.ensures.value.1 (sym (ap (option_map (λ n. n.now)) c.in-Some-node.is) ∙ c.node.ensures.value.2
          ∙ ap (λ (k : Kept). slice_get c.node.ensures.value.0 k.node) c.kept.view_is) puts.told;
      text = puts.text ∙ ap (λ names. (string_bytes c.args.text.now ++ c.args.line.now.bytes) ++ change_lines names puts.left puts.joined) c.names.ensures;
    }) c.put_inverse.ensures
