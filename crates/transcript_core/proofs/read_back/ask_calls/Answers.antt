use Rattle.std.proofs.Common.{◌≡◌, length, eq-eqb, refl, sym, ◌∙◌, arith, true≢false}
use Rattle.std.proofs.lemmas.Bool.{eqb-true}
use Rattle.grammar_core.specs.Scripts.{plain_line, plain_lines}
use Rattle.run_core.specs.Report.{call_of, commands_of}
use Rattle.transcript_core.proofs.Asked.{asked_there, asked_on, asked_out, as_many}
use Rattle.transcript_core.proofs.read_back.ask_calls.Goals as goal

pub returns-then-not-asks_at : goal.returns-then-not-asks_at
returns-then-not-asks_at g c = (
  (λ yes. absurd (true≢false (sym yes))),
  (λ same. absurd (true≢false (sym (c.asks_at.ensures.1
      (asked_there (λ ls. commands_of (plain_lines ls)) (λ l. (plain_line l).command) refl (λ l ls. refl) call_of c.args.lines.now c.args.history.now c.loop-place.place
      c.index-lines-place.result c.loop-place-test.true c.index-lines-place.is same)) ∙ c.if-not-asks_at.true))),
)

pub loop-place-preserved : goal.loop-place-preserved
loop-place-preserved g c = λ rest. c.loop-place.invariant
    (asked_on (λ ls. commands_of (plain_lines ls)) (λ l. (plain_line l).command) refl (λ l ls. refl) call_of c.args.lines.now c.args.history.now c.loop-place.place
    c.index-lines-place.result c.loop-place-test.true c.index-lines-place.is (c.asks_at.ensures.0 c.if-not-asks_at.false) rest)

pub returns : goal.returns
returns g c = (
  (λ yes. c.loop-place.invariant
      (let count : length c.args.lines.now ≡ c.len.result = eqb-true _ _ yes in
      asked_out (λ ls. commands_of (plain_lines ls)) (λ l. (plain_line l).command) refl (λ l ls. refl) call_of c.args.lines.now c.args.history.now c.loop-place.place
      (omega (arith, c.loop-place-test.false)) (omega (arith, c.loop-place-test.false, count, c.len.ensures)))),
  (λ same. eq-eqb (length c.args.lines.now) c.len.result
      (as_many (λ ls. commands_of (plain_lines ls)) (λ l. (plain_line l).command) refl (λ l ls. refl) call_of c.args.lines.now c.args.history.now same
      ∙ sym c.len.ensures)),
)
