use Rattle.std.proofs.Common.{◌≡◌, ◌≤◌, ◌-◌, ◌+◌, Bool, true, false, arith, drop, length, refl, add-one}
use Rattle.std.proofs.lemmas.List.{take_all, length-drop}
use Rattle.grammar_core.proofs.LineByLine.{lines_of-ended, lines_of-open}
use Rattle.grammar_core.proofs.words.first_line.Goals as goal

unless_true : (b : Bool) → (b ≡ true → ⊥) → b ≡ false
unless_true true h = absurd (h refl)
unless_true false h = refl

pub returns-in-Some-clause-lines : goal.returns-in-Some-clause-lines
returns-in-Some-clause-lines c =
    let end = c.in-Some.end in
    let bytes = c.args.bytes.now in
    let first = c.in-Some.ensures.0 in
    let few : length (drop (end + 1) bytes) ≤ length bytes - (end + 1) = omega (arith, length-drop (end + 1) bytes) in
    let all = take_all (length bytes - (end + 1)) (drop (end + 1) bytes) few in
    let cut = lines_of-ended bytes end first.high (λ i before. unless_true _ (first.before i (omega arith) before)) c.in-Some.ensures.1 in
    rw (all, add-one) cut

pub returns-in-None-clause-lines : goal.returns-in-None-clause-lines
returns-in-None-clause-lines c = lines_of-open c.args.bytes.now (λ i within. unless_true _ (c.in-None.ensures i (omega arith) within))
