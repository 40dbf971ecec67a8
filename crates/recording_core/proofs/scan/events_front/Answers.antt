use Rattle.std.proofs.Common.{rules, ◌≡◌, ◌∷◌, ◌++◌, [], map, ap, sym, subst, ◌∙◌}
use Rattle.std.proofs.lemmas.List.{map-append}
use Rattle.std.specs.Prelude.{IsUtf8}
use Rattle.std.specs.List.{AllByRecursion}
use Rattle.json_core.specs.Compact.{AreFirst}
use Rattle.json_core.proofs.Listed.{all_listed}
use Rattle.event_core.specs.Format.{event_json}
use Rattle.event_core.specs.Told.{IsTold}
use Rattle.recording_core.proofs.Loops.{all_push}
use Rattle.recording_core.proofs.Scanned.{one_mapped}
use Rattle.recording_core.proofs.scan.events_front.Goals as goal

pub events-preserved : goal.events-preserved
events-preserved g c =
    let before = c.events.events.items in
    let event = c.in_ok-event.event in
    let behind = c.in_ok-event.behind_event.now in
    let (first, told, text) = c.events.invariant in
    let items : c.push.new.self.items ≡ before ++ event ∷ [] = c.in_ok-push.ensures.items in
    let rest : c.events.rest.now ≡ c.events.comma.now ++ c.in_ok-behind.field-0.now = c.in_ok-behind.ensures in
    let utf8 : IsUtf8 behind = search rules in (
      subst (λ es. AreFirst c.in_ok-rest.rest.now (map event_json es) (44 ∷ []) behind) (sym items)
          (one_mapped (map event_json) c.in_ok-rest.rest.now c.events.comma.now c.events.rest.now behind before event (event_json event)
          (map-append event_json before (event ∷ [])) first (rest ∙ ap (λ s. c.events.comma.now ++ s) c.in_ok-event.ensures.front.0) c.in_ok-event.ensures.front.1),
      subst (AllByRecursion IsTold) (sym items) (all_push IsTold before event told c.in_ok-event.ensures.told),
      utf8,
    )

pub returns-clause-front : goal.returns-clause-front
returns-clause-front g c =
    let (first, told, text) = c.events.invariant in (
      c.in_ok-rest.ensures ∙ ap (λ s. 91 ∷ s) (all_listed c.in_ok-rest.rest.now c.events.comma.now c.events.rest.now c.in_ok-rest-2.rest.now
          (map event_json c.events.events.items) first c.in_ok-rest-2.ensures),
      first.whole,
    )
