use Rattle.std.proofs.Common.{◌≡◌, ◌≢◌, ◌<◌, ◌++◌, length, get_or, nat_lt, ap, ap₂, sym, ◌∙◌}
use Rattle.std.proofs.lemmas.Bool.{ltb-true}
use Rattle.std.proofs.lemmas.List.{take-append-drop}
use Rattle.json_core.proofs.Fronts.{whole_written, one_zero}
use Rattle.json_core.proofs.compact.whole_at.Goals as goal

pub returns : goal.returns
returns c =
    let digits = c.in_ok-digits.digits.now in
    let some : 0 < length digits = ltb-true 0 (length digits) (sym (c.in_ok-first.ensures.item.0 ∙ ap (λ l. nat_lt 0 (length l)) c.as_bytes.ensures.value)) in
    let first : get_or digits 0 0 ≡ c.in_ok-first.field-0.now = sym (c.in_ok-first.ensures.item.3.1 0 ∙ ap (λ l. get_or l 0 0) c.as_bytes.ensures.value) in
    let plus : get_or digits 0 0 ≢ 43 = λ is. c.if-first-eq43.false (sym first ∙ is) in
    let zero : get_or digits 0 0 ≡ 48 → length digits ≡ 1 = one_zero digits some first c.if-digits-gt1.either in
    let written = whole_written digits c.in_ok-whole.whole some plus zero c.parse.result c.parse.ensures.value.0 (sym c.ok.ensures.value ∙ c.in_ok-whole.was) in (
      sym (take-append-drop c.unwrap_or-end.result c.args.text.now)
          ∙ ap₂ (λ front rest. front ++ rest) (sym c.in_ok-digits.ensures.front ∙ written.0) (sym c.in_ok-digits.ensures.back),
      written.1,
    )
