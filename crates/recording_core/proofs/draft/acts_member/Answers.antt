use Rattle.std.proofs.Common.{◌≡◌, [], ◌∷◌, length, sym, ap, refl, ◌∙◌, arith}
use Rattle.json.specs.Json.{parse_map, items, value}
use Rattle.json.specs.Reads.{token_of}
use Rattle.json.proofs.Grammar.{value_is, value-begin_array}
use Rattle.serde_json.specs.Data.{array}
use Rattle.serde_json.specs.Read.{of_json, converted}
use Rattle.serde_json.specs.View.{view, items_view}
use Rattle.serde_json.proofs.Views.{view-Array}
use Rattle.recording_core.proofs.Plain.{no_array}
use Rattle.json_core.proofs.Reading.{converted-array}
use Rattle.recording_core.proofs.draft.acts_member.Goals as goal

pub returns-in_err-token-clause-err : goal.returns-in_err-token-clause-err
returns-in_err-token-clause-err g c refused =
    let empty : c.args.reader.now ≡ [] = grind arith in
    ap (converted of_json) (ap (value 126) empty ∙ value_is 126 [])

pub returns-in_err-of_items-in-BeginArray-clause-err : goal.returns-in_err-of_items-in-BeginArray-clause-err
returns-in_err-of_items-in-BeginArray-clause-err g c refused =
    let ts = c.next.new.self in
    let first : c.args.reader.now ≡ token_of c.in_ok-token.token ∷ ts = grind arith in
    let opened = ap (converted of_json) (ap (value 126) (first ∙ ap (λ k. token_of k ∷ ts) c.in-BeginArray.is) ∙ value-begin_array 126 ts (omega arith)) ∙ converted-array (items (value 125) (length ts) ts) in
    opened ∙ ap (parse_map array) (c.of_items.ensures.err (grind arith))

pub returns-in_ok-of_items-in-BeginArray-clause-ok : goal.returns-in_ok-of_items-in-BeginArray-clause-ok
returns-in_ok-of_items-in-BeginArray-clause-ok g c =
    let ts = c.next.new.self in
    let first : c.args.reader.now ≡ token_of c.in_ok-token.token ∷ ts = grind arith in
    let opened = ap (converted of_json) (ap (value 126) (first ∙ ap (λ k. token_of k ∷ ts) c.in-BeginArray.is) ∙ value-begin_array 126 ts (omega arith)) ∙ converted-array (items (value 125) (length ts) ts) in
    let found = c.in_ok-of_items-in-BeginArray.ensures.ok in
    (array found.0, opened ∙ ap (parse_map array) found.1, view-Array c.new.result ∙ ap (λ vs. array (items_view vs)) c.new.ensures.items, found.2)

pub returns-in_ok-value_from-in_default : goal.returns-in_ok-value_from-in_default
returns-in_ok-value_from-in_default g c =
    let ts = c.next.new.self in
    let first : c.args.reader.now ≡ token_of c.in_ok-token.token ∷ ts = grind arith in
    let v = c.in_ok-value_from-in_default.field-0 in
    let done = c.in_ok-value_from-in_default.ensures in
    let plain = no_array 126 (omega arith) ts (view v) c.value_from.new.reader c.in_ok-token.token (λ is. let same = c.in_default.token-is in c.in_default.not-BeginArray (cc)) done.ok in
    record {
      ok = (view v, ap (λ us. converted of_json (value 126 us)) first ∙ done.ok, sym plain.0, rw (plain.1, c.none.ensures.0, c.none.ensures.1) refl);
      shorter = omega (arith, ap length first, done.shorter);
      err = λ never. absurd (let same = never in cc);
    }
