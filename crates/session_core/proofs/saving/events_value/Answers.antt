use Rattle.std.proofs.Common.{◌≡◌, ◌≤◌, ◌++◌, ◌∷◌, [], Some, length, map, ap, ◌∙◌, rules}
use Rattle.std.specs.Prelude.{slice_get}
use Rattle.std.proofs.lemmas.List.{map-append}
use Rattle.serde_json.specs.View.{view}
use Rattle.serde_json.proofs.Views.{view-Array}
use Rattle.event_core.specs.Format.{list, event_json}
use Rattle.event_core.specs.Told.{IsEvent}
use Rattle.recording_core.proofs.Loops.{front_more, front_all, each_more, each_all}
use Rattle.session_core.proofs.saving.events_value.Goals as goal

pub loop-place-preserved : goal.loop-place-preserved
loop-place-preserved g c =
    let events = c.args.history.now in
    let event = c.unwrap-event.result.now in
    let value = c.in_ok-event_value.field-0 in
    let before = c.loop-place.values.items in
    let at : slice_get events c.loop-place.place ≡ Some event = search rules in
    let pushed : c.push.new.self.items ≡ before ++ value ∷ [] = search rules in
    let is : view value ≡ event_json event = search rules in
    let told : IsEvent event = search rules in
    record {
      json = front_more event_json events c.loop-place.place event (map view before) (map view c.push.new.self.items) at c.loop-place.invariant.json
          (ap (map view) pushed ∙ map-append view before (value ∷ []) ∙ ap (λ d. map view before ++ d ∷ []) is);
      told = each_more IsEvent events c.loop-place.place event at c.loop-place.invariant.told told;
    }

pub returns-clause-json : goal.returns-clause-json
returns-clause-json g c =
    let events = c.args.history.now in
    let few : length events ≤ c.loop-place.place = search rules in
    view-Array c.loop-place.values
    ∙ ap list (front_all event_json events c.loop-place.place (map view c.loop-place.values.items) few c.loop-place.invariant.json)

pub returns-clause-told : goal.returns-clause-told
returns-clause-told g c =
    let events = c.args.history.now in
    let few : length events ≤ c.loop-place.place = search rules in
    each_all IsEvent events c.loop-place.place few c.loop-place.invariant.told
