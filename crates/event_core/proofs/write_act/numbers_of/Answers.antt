use Rattle.std.proofs.Common.{◌≡◌, ◌≤◌, ◌++◌, ◌∷◌, [], true, false, rules}
use Rattle.std.specs.FinSet as set
use Rattle.event_core.specs.Format.{numbers_of}
use Rattle.event_core.proofs.Numbers.{number_taken, number_passed, numbers_end}
use Rattle.event_core.proofs.write_act.numbers_of.Goals.{then-has+in_ok-push, else-has}
use Rattle.event_core.proofs.write_act.numbers_of.Goals as goal

pub loop-number-preserved : goal.loop-number-preserved
loop-number-preserved c =
    let names = c.args.names in
    let k = c.loop-number.number in
    let before = c.loop-number.numbers.items in
    let after = c.if-has.numbers.items in
    let below = c.loop-number-test.true in
    elim c.if-has.branch [
      | then-has+in_ok-push w ↦
          let is : set.contains names k ≡ true = search rules in
          let more : after ≡ before ++ k ∷ [] = search rules in
          number_taken names k before after (numbers_of names) below is more c.loop-number.invariant
      | else-has w ↦
          let is : set.contains names k ≡ false = search rules in
          let same : after ≡ before = search rules in
          number_passed names k before after (numbers_of names) below is same c.loop-number.invariant
    ]

pub returns : goal.returns
returns c =
    let above : 32 ≤ c.loop-number.number = search rules in
    numbers_end c.args.names c.loop-number.number c.loop-number.numbers.items (numbers_of c.args.names) above c.loop-number.invariant
