use Rattle.std.proofs.Common.{rules, ◌≡◌, ◌≤◌, ◌++◌, ◌∷◌, [], decimal, map, true, false, refl, ap, sym, subst, ◌∙◌, arith}
use Rattle.std.specs.Prelude.{IsUtf8}
use Rattle.std.specs.FinSet as set
use Rattle.std.proofs.lemmas.Result.{IfOk-weaker}
use Rattle.serde_json.specs.View.{items_of}
use Rattle.serde_json.specs.Written.{items_text}
use Rattle.json_core.specs.Compact.{AreFirst, AreWhole}
use Rattle.json_core.proofs.Listed.{all_listed}
use Rattle.event_core.specs.Format.{whole, numbers_of}
use Rattle.event_core.proofs.Numbers.{number_taken, number_passed, numbers_end}
use Rattle.event_core.proofs.Fronts.{one_name}
use Rattle.event_core.proofs.front_step.behind_names.Goals.{then-has+in_ok-behind+in_ok-found+else-found-from, else-has}
use Rattle.event_core.proofs.front_step.behind_names.Goals as goal

pub loop-number-preserved : goal.loop-number-preserved
loop-number-preserved c =
    let names = c.args.names in
    let k = c.loop-number.number in
    let (read, left, first, utf8) = c.loop-number.invariant in
    let below = c.loop-number-test.true in
    elim c.if-has.branch [
      | then-has+in_ok-behind+in_ok-found+else-found-from w ↦
          let is : set.contains names k ≡ true = search rules in
          let more : c.loop-number.rest.now ≡ c.loop-number.comma.now ++ (decimal k ++ c.if-has.rest.now) =
          w.in_ok-behind.ensures ∙ ap (λ s. c.loop-number.comma.now ++ s) (w.in_ok-found.ensures.0
          ∙ ap (λ n. decimal n ++ w.in_ok-found.behind_number.now) (w.if-found-from.false ∙ w.from.ensures)
          ∙ ap (λ s. decimal k ++ s) (sym (ap (λ b. b.now) w.rest-is))) in
          let comma : c.if-has.comma.now ≡ 44 ∷ [] = ap (λ b. b.now) w.comma-is in
          let text : IsUtf8 c.if-has.rest.now = search rules in (
            read ++ k ∷ [],
            number_taken names k read (read ++ k ∷ []) (numbers_of names) below is refl left,
            subst (λ s. AreFirst c.in_ok-numbers.numbers.now (map whole (read ++ k ∷ [])) s c.if-has.rest.now) (sym comma)
                (one_name c.in_ok-numbers.numbers.now c.loop-number.comma.now c.loop-number.rest.now c.if-has.rest.now k read first more (omega (arith, below))),
            text,
          )
      | else-has w ↦
          let is : set.contains names k ≡ false = search rules in
          let rest : c.loop-number.rest.now ≡ c.if-has.rest.now = sym (ap (λ b. b.now) w.rest-is) in
          let comma : c.loop-number.comma.now ≡ c.if-has.comma.now = sym (ap (λ b. b.now) w.comma-is) in (
            read,
            number_passed names k read read (numbers_of names) below is refl left,
            subst (λ s. AreFirst c.in_ok-numbers.numbers.now (map whole read) c.if-has.comma.now s) rest
                (subst (λ s. AreFirst c.in_ok-numbers.numbers.now (map whole read) s c.loop-number.rest.now) comma first),
            subst IsUtf8 rest utf8,
          )
    ]

pub returns : goal.returns
returns c =
    let (read, left, first, utf8) = c.loop-number.invariant in
    let above : 32 ≤ c.loop-number.number = search rules in
    let all = numbers_end c.args.names c.loop-number.number read (numbers_of c.args.names) above left in
    IfOk-weaker c.behind-2.result _ _ (λ rest is. (
      c.in_ok-numbers.ensures ∙ ap (λ s. 91 ∷ s) (all_listed c.in_ok-numbers.numbers.now c.loop-number.comma.now c.loop-number.rest.now rest.now (map whole read) first is)
          ∙ ap (λ ns. 91 ∷ (items_text false (items_of (map whole ns)) ++ rest.now)) all,
      subst (λ ns. AreWhole (items_of (map whole ns))) all first.whole,
    )) c.behind-2.ensures
