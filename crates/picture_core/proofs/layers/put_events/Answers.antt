use Rattle.std.proofs.Common.{◌≡◌, ◌<◌, Some, arith, length, rules, string_bytes}
use Rattle.std.specs.Prelude.{option_copied, slice_get}
use Rattle.picture_core.proofs.Walks.{longest_all, longest_more, messages_all, messages_more, rows_all, rows_more, switches_all, switches_more}
use Rattle.picture_core.proofs.layers.put_events.Goals as goal

pub loop-place-preserved : goal.loop-place-preserved
loop-place-preserved g c =
    let m = c.loop-place.asked in
    let next = c.put_event.new.asked in
    let events = c.args.history.now in
    let i = c.loop-place.place in
    let e = c.unwrap-event.result.now in
    let steps = c.args.sheet.now.steps.now in
    let range = c.args.sheet.now.range in
    let consoles = c.args.sheet.now.consoles.now in
    let of = option_copied c.args.sheet.now.of in
    let nodes = c.args.sheet.now.nodes in
    let old = c.loop-place.layers in
    let new = c.put_event.new.layers in
    let was = c.loop-place.invariant in
    let is = c.in_ok-put_event.ensures in
    let inside : i < length events = omega arith in
    let at : slice_get events i ≡ Some e = search rules in
    record {
      messages = messages_more nodes steps range m next events i e _ (string_bytes old.messages) (string_bytes new.messages) inside was.messages at is.asked is.messages;
      rows = rows_more nodes steps range consoles m next events i e _ (string_bytes old.rows) (string_bytes new.rows) inside was.rows at is.asked is.rows;
      longest = longest_more range consoles m next events i e _ old.longest new.longest inside was.longest at is.asked is.longest;
      switches = switches_more of m next events i e _ old.switches.items new.switches.items inside was.switches at is.asked is.switches;
    }

pub returns-clause-messages : goal.returns-clause-messages
returns-clause-messages g c = messages_all _ _ _ c.loop-place.asked c.args.history.now c.loop-place.place _ _ (omega arith) c.loop-place.invariant.messages

pub returns-clause-rows : goal.returns-clause-rows
returns-clause-rows g c = rows_all _ _ _ _ c.loop-place.asked c.args.history.now c.loop-place.place _ _ (omega arith) c.loop-place.invariant.rows

pub returns-clause-longest : goal.returns-clause-longest
returns-clause-longest g c = longest_all _ _ c.loop-place.asked c.args.history.now c.loop-place.place _ _ (omega arith) c.loop-place.invariant.longest

pub returns-clause-switches : goal.returns-clause-switches
returns-clause-switches g c = switches_all _ c.loop-place.asked c.args.history.now c.loop-place.place _ _ (omega arith) c.loop-place.invariant.switches
