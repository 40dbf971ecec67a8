use Rattle.std.proofs.Common.{◌<◌, List, length, subst}
use Rattle.std.proofs.lemmas.List.{get_or_read}
use Rattle.journal_core.specs.Causes.{Causes, no_causes}
use Rattle.journal_core.proofs.OneEdited.{keeps_many, same_room}
use Rattle.journal_core.proofs.edits.make_room_for.Goals as goal

pub returns-clause-keeps : goal.returns-clause-keeps
returns-clause-keeps g c =
    let cs = c.args.causes.now.items in
    let b = c.index_mut.result.now in
    let there = c.has_message.ensures.0 c.if-not-has_message.false in
    let within : c.in-Some.sender < length cs = subst (λ (l : List Causes). c.in-Some.sender < length l) c.as_slice.ensures.value there.0 in
    let read = get_or_read cs c.in-Some.sender b within c.index_mut.ensures.value no_causes in
    keeps_many cs c.in-Some.sender b c.make_room_at.new.self within read c.make_room_at.ensures.room c.make_room_at.ensures.same.3
    c.make_room_at.ensures.more

pub returns-clause-room : goal.returns-clause-room
returns-clause-room g c =
    let cs = c.args.causes.now.items in
    let b = c.index_mut.result.now in
    let there = c.has_message.ensures.0 c.if-not-has_message.false in
    let within : c.in-Some.sender < length cs = subst (λ (l : List Causes). c.in-Some.sender < length l) c.as_slice.ensures.value there.0 in
    let read = get_or_read cs c.in-Some.sender b within c.index_mut.ensures.value no_causes in
    same_room cs c.in-Some.sender b c.make_room_at.new.self within read c.make_room_at.ensures.room
