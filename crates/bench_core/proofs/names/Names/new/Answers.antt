use Rattle.std.proofs.Common.{◌≡◌, ◌∙◌, ap, sym, subst, map, length, [], arith}
use Rattle.std.proofs.lemmas.Grind.{common_steps}
use Rattle.std.proofs.lemmas.Result.{err_from_is_err_and}
use Rattle.bench_core.specs.NameList.{with_names}
use Rattle.payload_core.specs.Results.{GivesUnless}
use Rattle.bench_core.specs.declared.names_fault.NamesFault.TheVariants.{OutOfMemory}
use Rattle.bench_core.proofs.TextLists.{gives_fault, in_range, ok_no_fault, names_of_again, names_of_few, with_names_ok, not_wrong_count}
use Rattle.bench_core.proofs.names.Names.new.Goals as goal

-- what was accepted is accepted again
pub invariant_of-result : goal.invariant_of-result
invariant_of-result g c =
    let texts = map (λ text. text.now) c.args.texts.now in
    names_of_again texts c.add_names.new.names (grind (arith, common_steps)) (grind (arith, common_steps)) (grind (arith, common_steps))

pub returns-clause-texts : goal.returns-clause-texts
returns-clause-texts g c =
    with_names_ok [] (map (λ text. text.now) c.args.texts.now) c.add_names.new.names (grind (arith, common_steps))

pub returns-clause-gives : goal.returns-clause-gives
returns-clause-gives g c =
    let texts = map (λ text. text.now) c.args.texts.now in
    names_of_few texts (grind (arith, common_steps)) (grind (arith, common_steps)) ∙ ap (λ before. with_names before texts) (sym c.new-names.ensures)
    ∙ c.in_ok-add_names.ensures

pub returns-in_err-add_names-clause-gives : goal.returns-in_err-add_names-clause-gives
returns-in_err-add_names-clause-gives g c =
    let texts = map (λ text. text.now) c.args.texts.now in
    let p = err_from_is_err_and c.from_residual.result c.from_residual.ensures.1 in
    let same : p.0 ≡ c.in_err-add_names.field-0.0 = p.2 in
    subst (GivesUnless OutOfMemory (λ names. names) c.from_residual.result)
    (sym (names_of_few texts (grind (arith, common_steps)) (grind (arith, common_steps))))
    (gives_fault c.from_residual.result (λ names. names) (with_names [] texts) c.in_err-add_names.field-0.0 p.0 p.1 same
    (λ other. ap (λ before. with_names before texts) (sym c.new-names.ensures) ∙ c.in_err-add_names.ensures other))

-- the count was seen before the first name
pub returns-in_err-add_names-clause-wrong_count : goal.returns-in_err-add_names-clause-wrong_count
returns-in_err-add_names-clause-wrong_count g c =
    let texts = map (λ text. text.now) c.args.texts.now in
    let p = err_from_is_err_and c.from_residual.result c.from_residual.ensures.1 in
    let same : p.0 ≡ c.in_err-add_names.field-0.0 = p.2 in
    let gives = gives_fault c.from_residual.result (λ names. names) (with_names [] texts) c.in_err-add_names.field-0.0 p.0 p.1 same
    (λ other. ap (λ before. with_names before texts) (sym c.new-names.ensures) ∙ c.in_err-add_names.ensures other) in
    (λ e. absurd (not_wrong_count c.from_residual.result (λ names. names) texts gives e), λ h. absurd (in_range (length c.args.texts.now) (grind (arith, common_steps)) (grind (arith, common_steps)) h))

pub returns-clause-wrong_count : goal.returns-clause-wrong_count
returns-clause-wrong_count g c = (
  λ e. absurd (ok_no_fault _ _ e),
  λ h. absurd (in_range (length c.args.texts.now) (grind (arith, common_steps)) (grind (arith, common_steps)) h),
)
