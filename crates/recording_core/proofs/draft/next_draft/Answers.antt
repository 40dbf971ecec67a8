use Rattle.std.proofs.Common.{◌≡◌, [], ◌∷◌, sym, ap, refl, ◌∙◌, arith}
use Rattle.json.specs.Json.{value}
use Rattle.json.specs.Reads.{token_of}
use Rattle.json.proofs.Grammar.{value_is}
use Rattle.serde_json.specs.Read.{of_json, converted}
use Rattle.serde_json.specs.View.{view}
use Rattle.recording_core.proofs.Plain.{no_object}
use Rattle.recording_core.proofs.draft.next_draft.Goals as goal

pub returns-in_err-token-clause-err : goal.returns-in_err-token-clause-err
returns-in_err-token-clause-err g c refused =
    let empty : c.args.reader.now ≡ [] = grind arith in
    ap (converted of_json) (ap (value 127) empty ∙ value_is 127 [])

pub returns-in_ok-value_from-in_default : goal.returns-in_ok-value_from-in_default
returns-in_ok-value_from-in_default g c =
    let ts = c.next.new.self in
    let first : c.args.reader.now ≡ token_of c.in_ok-token.token ∷ ts = grind arith in
    let v = c.in_ok-value_from-in_default.field-0 in
    let done = c.in_ok-value_from-in_default.ensures in
    let plain = no_object 127 (omega arith) ts (view v) c.value_from.new.reader c.in_ok-token.token (λ is. let same = c.in_default.token-is in c.in_default.not-BeginObject (cc)) done.ok in
    record {
      ok = (view v, ap (λ us. converted of_json (value 127 us)) first ∙ done.ok, (sym plain.0, rw (plain.1, c.none.ensures.0, c.none.ensures.1) refl));
      err = λ never. absurd (let same = never in cc);
    }
