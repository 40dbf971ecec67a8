use Rattle.std.proofs.Common.{ap, refl, ◌∙◌}
use Rattle.serde_json.specs.View.{members_view}
use Rattle.serde_json.proofs.Views.{view-Object}
use Rattle.recording_core.proofs.draft.members_of.Goals as goal

pub read_members-requires-clause-no_member : goal.read_members-requires-clause-no_member
read_members-requires-clause-no_member g c = ap members_view c.new-found.ensures.empty

pub read_members-requires-clause-no_event : goal.read_members-requires-clause-no_event
read_members-requires-clause-no_event g c = rw (c.none-acts.ensures.0, c.none-acts.ensures.1) refl

pub returns-in-Ok-clause-ok : goal.returns-in-Ok-clause-ok
returns-in-Ok-clause-ok g c =
    let read = c.in-Ok.ensures.ok in
    (read.0, read.1, (view-Object c.read_members.new.found ∙ read.2.0, read.2.1))
