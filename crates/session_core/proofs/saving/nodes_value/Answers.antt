use Rattle.std.proofs.Common.{◌≡◌, ◌≤◌, ◌++◌, ◌∷◌, [], ℕ, List, Some, length, map, ap, ◌∙◌, rules}
use Rattle.std.specs.Prelude.{slice_get}
use Rattle.std.proofs.lemmas.List.{map-append}
use Rattle.serde_json.specs.Data.{string}
use Rattle.serde_json.specs.View.{view}
use Rattle.serde_json.proofs.Views.{view-Array}
use Rattle.event_core.specs.Format.{list}
use Rattle.recording_core.proofs.Loops.{front_more, front_all}
use Rattle.session_core.proofs.saving.nodes_value.Goals as goal

pub loop-number-preserved : goal.loop-number-preserved
loop-number-preserved g c =
    let names = c.args.names.now in
    let text = c.unwrap-text.result.now in
    let value = c.in_ok-try_from_str.field-0 in
    let before = c.loop-number.values.items in
    let at : slice_get names c.loop-number.number ≡ Some text = search rules in
    let pushed : c.push.new.self.items ≡ before ++ value ∷ [] = search rules in
    let is : view value ≡ string text = search rules in
    front_more (λ (text : List ℕ). string text) names c.loop-number.number text (map view before) (map view c.push.new.self.items) at c.loop-number.invariant
    (ap (map view) pushed ∙ map-append view before (value ∷ []) ∙ ap (λ d. map view before ++ d ∷ []) is)

pub returns : goal.returns
returns g c =
    let names = c.args.names.now in
    let few : length names ≤ c.loop-number.number = search rules in
    view-Array c.loop-number.values
    ∙ ap list (front_all (λ (text : List ℕ). string text) names c.loop-number.number (map view c.loop-number.values.items) few c.loop-number.invariant)
