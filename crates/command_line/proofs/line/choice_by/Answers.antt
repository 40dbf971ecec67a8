use Rattle.std.proofs.Common.{◌≡◌, ◌∙◌, sym, subst, map, inl, inr, Some, true, refl}
use Rattle.std.proofs.lemmas.Result.{err_from_is_err_and}
use Rattle.clap.specs.Words.{App, HasKind, HasMatchesOf, fault_of, is_simple, is_simple_and_free, subcommand_rows_of, rows_of, found_of}
use Rattle.clap.proofs.OnLiterals.{clap_on_literals}
use Rattle.clap.proofs.WalkLemmas.{first_value-rows}
use Rattle.command_line.specs.declared.chosen.Choice.{Choice}
use Rattle.command_line.specs.Line.{Spells, app}
use Rattle.command_line.proofs.Rows.{both_parts, chooses_nothing, chosen_alike, refused_by}
use Rattle.command_line.proofs.line.choice_by.Goals as goal

simple : is_simple app ≡ true
unfolding clap_on_literals
simple = refl

simple_and_free : is_simple_and_free app ≡ true
unfolding clap_on_literals
simple_and_free = refl

pub returns-in_err-matches-clause-err : goal.returns-in_err-matches-clause-err
returns-in_err-matches-clause-err g c =
    let words = map g.S.AsStr.text c.args.words.now in
    let p = err_from_is_err_and c.from_residual.result c.from_residual.ensures.1 in
    rw (p.1, p.2)
    (refused_by words c.in_err-matches.field-0.0
    (subst (λ (a : App). is_simple_and_free a ≡ true → HasKind (fault_of a words) c.in_err-matches.field-0.0) c.requires c.in_err-matches.ensures.kinds
    simple_and_free))

pub returns-in-Ok-clause-ok : goal.returns-in-Ok-clause-ok
returns-in-Ok-clause-ok g c =
    let m = c.in_ok-matches.matches in
    let words = map g.S.AsStr.text c.args.words.now in
    let matched : HasMatchesOf app words m =
    subst (λ (a : App). HasMatchesOf a words m) c.requires c.in_ok-matches.ensures.ok.2 in
    let found = found_of c.in-Some.entered.now in
    let met : subcommand_rows_of m ≡ Some (c.in-Some.name.now, rows_of found) = both_parts _ _ _ _ _ c.in-Some.ensures.name c.in-Some.ensures.rows in
    record {
      name = c.in-Some.name.now;
      rows = rows_of found;
      command = sym (matched simple).1 ∙ met;
      chosen = chosen_alike _ _ _ _ (λ option. first_value-rows found option) c.in-Ok.ensures.ok;
    }

pub returns-in_ok-misspelled-in-Err-clause-err : goal.returns-in_ok-misspelled-in-Err-clause-err
returns-in_ok-misspelled-in-Err-clause-err g c =
    let m = c.in_ok-matches.matches in
    let words = map g.S.AsStr.text c.args.words.now in
    let matched : HasMatchesOf app words m =
    subst (λ (a : App). HasMatchesOf a words m) c.requires c.in_ok-matches.ensures.ok.2 in
    let found = found_of c.in-Some.entered.now in
    let met : subcommand_rows_of m ≡ Some (c.in-Some.name.now, rows_of found) = both_parts _ _ _ _ _ c.in-Some.ensures.name c.in-Some.ensures.rows in
    let nothing : (choice : Choice) → ¬ Spells words choice =
    chooses_nothing words c.in-Some.name.now (rows_of found) (sym (matched simple).1 ∙ met)
    (λ choice is. c.in-Err.ensures.err choice (chosen_alike _ _ _ _ (λ option. sym (first_value-rows found option)) is)) in
    inr (inr (inl c.in_ok-misspelled-in-Err.ensures, nothing))
