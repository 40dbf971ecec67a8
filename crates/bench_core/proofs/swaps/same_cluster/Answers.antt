use Rattle.std.proofs.Common.{◌∙◌, sym, ap, subst₂, length, drop, rules, Ok}
use Rattle.journal_core.specs.Holdings.{kepts}
use Rattle.bench_core.specs.Machine.{config_of}
use Rattle.bench_core.specs.Movables.{AreOfNodes}
use Rattle.bench_core.proofs.Noted.{written_back, of_nodes}
use Rattle.bench_core.proofs.Movables.{ends_bad, ends_away, ends_well, equal_clusters}
use Rattle.bench_core.proofs.swaps.same_cluster.Goals as goal

pub movables-requires : goal.movables-requires
movables-requires g c =
    subst₂ (λ n ks. AreOfNodes n ks) (sym (c.len.ensures.len ∙ ap length c.names.ensures)) (sym c.remaining-from.ensures.steps)
    (of_nodes (config_of c.args.one.now) c.args.one.now.state c.bench_law.ensures.reached)

pub returns-in-Some-clause-answers : goal.returns-in-Some-clause-answers
returns-in-Some-clause-answers g c =
    ends_bad c.args.one.now c.args.other.now c.args.places.now (kepts c.remaining-from.result.now.steps) (kepts c.remaining-to.result.now.steps)
    c.as_mut_slice.result.now c.first_bad.new.steps c.bench_law.ensures.reached c.remaining-from.ensures.steps c.remaining-to.ensures.steps
    (c.as_mut_slice.ensures.value ∙ c.in_ok-steps.ensures)
    c.in-Some.at (c.are_of_one_kind.ensures.0 c.if-not-are_of_one_kind.false) (c.in-Some.ensures).bad

pub returns-then-not-are_steps_of-clause-answers : goal.returns-then-not-are_steps_of-clause-answers
returns-then-not-are_steps_of-clause-answers g c =
    let swapped = c.first_bad.new.steps in
    let back = written_back c.in_ok-steps.steps.len swapped (drop (length swapped) c.in_ok-steps.steps.items)
    (sym (c.first_bad.auto.steps ∙ c.as_mut_slice.ensures.len)) in
    ends_away c.args.one.now c.args.other.now c.args.places.now (kepts c.remaining-from.result.now.steps) (kepts c.remaining-to.result.now.steps)
    c.as_mut_slice.result.now c.as_slice.result.now c.bench_law.ensures.reached c.remaining-from.ensures.steps c.remaining-to.ensures.steps
    (c.as_mut_slice.ensures.value ∙ c.in_ok-steps.ensures)
    (c.are_of_one_kind.ensures.0 c.if-not-are_of_one_kind.false) (c.first_bad.ensures.none c.in_default.is ∙ ap Ok (sym (c.as_slice.ensures.value ∙ back))) (search rules)

pub returns-clause-answers : goal.returns-clause-answers
returns-clause-answers g c =
    let swapped = c.first_bad.new.steps in
    let back = written_back c.in_ok-steps.steps.len swapped (drop (length swapped) c.in_ok-steps.steps.items)
    (sym (c.first_bad.auto.steps ∙ c.as_mut_slice.ensures.len)) in
    ends_well c.args.one.now c.args.other.now c.args.places.now (kepts c.remaining-from.result.now.steps) (kepts c.remaining-to.result.now.steps)
    c.as_mut_slice.result.now c.as_slice.result.now c.bench_law.ensures.reached c.remaining-from.ensures.steps c.remaining-to.ensures.steps
    (c.as_mut_slice.ensures.value ∙ c.in_ok-steps.ensures) tt
    (c.are_of_one_kind.ensures.0 c.if-not-are_of_one_kind.false) (c.first_bad.ensures.none c.in_default.is ∙ ap Ok (sym (c.as_slice.ensures.value ∙ back)))
    (c.are_steps_of.ensures.0 c.if-not-are_steps_of.false)

pub returns-clause-equal_clusters : goal.returns-clause-equal_clusters
returns-clause-equal_clusters g c =
    let swapped = c.first_bad.new.steps in
    let back = written_back c.in_ok-steps.steps.len swapped (drop (length swapped) c.in_ok-steps.steps.items)
    (sym (c.first_bad.auto.steps ∙ c.as_mut_slice.ensures.len)) in
    equal_clusters c.args.one.now c.args.other.now c.args.places.now (kepts c.remaining-from.result.now.steps) (kepts c.remaining-to.result.now.steps)
    c.as_mut_slice.result.now c.as_slice.result.now c.bench_law.ensures.reached c.remaining-from.ensures.steps c.remaining-to.ensures.steps
    (c.as_mut_slice.ensures.value ∙ c.in_ok-steps.ensures)
    (c.are_of_one_kind.ensures.0 c.if-not-are_of_one_kind.false) (c.first_bad.ensures.none c.in_default.is ∙ ap Ok (sym (c.as_slice.ensures.value ∙ back)))
    (c.are_steps_of.ensures.0 c.if-not-are_steps_of.false)
