use Rattle.std.proofs.Common.{◌∷◌, []}
use Rattle.serde_json.specs.Data.{string}
use Rattle.json_core.proofs.Listed.{one_more}
use Rattle.event_core.specs.Format.{whole}
use Rattle.event_core.proofs.front_step.presence_front.Goals as goal

pub returns-clause-last : goal.returns-clause-last
returns-clause-last g c =
    let topic = string c.in_ok-topic.topic in
    let key = string c.in-Ok.found.0 in
    let metadata = string c.in-Ok-last_word.found.0 in
    let rest = c.in-Ok-last_word.found.1.now in
    one_more c.args.text.now c.in_ok-pid.behind_pid.now rest (whole c.in_ok-pid.pid) (topic ∷ key ∷ metadata ∷ []) c.in_ok-pid.ensures
    (one_more c.in_ok-pid.behind_pid.now c.in_ok-topic.behind_topic.now rest topic (key ∷ metadata ∷ []) c.in_ok-topic.ensures.next
    (one_more c.in_ok-topic.behind_topic.now c.in-Ok.found.1.now rest key (metadata ∷ []) c.in-Ok.ensures.next c.in-Ok-last_word.ensures.last))
