use Rattle.std.proofs.Common.{rules, ◌++◌, ◌∷◌, [], ap, sym, ◌∙◌, arith}
use Rattle.std.specs.Prelude.{string_bytes}
use Rattle.json_core.proofs.Fronts.{escaped_quote, escaped_backslash, plain_written}
use Rattle.json_core.proofs.compact.run_front.Goals as goal

pub returns-in-Some : goal.returns-in-Some
returns-in-Some c = record {
  run = 34 ∷ [];
  some = omega arith;
  text_is = c.in-Some.ensures ∙ ap (λ s. s ++ c.in-Some.rest.now) (sym escaped_quote);
  new_is = c.in_ok-push.ensures.bytes ∙ ap (λ s. string_bytes c.args.read.now ++ s) (c.in_ok-push.ensures.ascii (omega arith));
}

pub returns-in-Some-after : goal.returns-in-Some-after
returns-in-Some-after c = record {
  run = 92 ∷ [];
  some = omega arith;
  text_is = c.in-Some-after.ensures ∙ ap (λ s. s ++ c.in-Some-after.rest.now) (sym escaped_backslash);
  new_is = c.in_ok-push-2.ensures.bytes ∙ ap (λ s. string_bytes c.args.read.now ++ s) (c.in_ok-push-2.ensures.ascii (omega arith));
}

pub returns : goal.returns
returns c =
    let run = c.in-Some-plain_run.run'.now in
    record {
      run = run;
      some = search rules;
      text_is = c.in-Some-plain_run.ensures.parts ∙ ap (λ s. s ++ c.in-Some-plain_run.rest.now) (sym (plain_written run c.in-Some-plain_run.ensures.plain));
      new_is = c.in_ok-push_str.ensures.bytes;
    }
