use Rattle.std.proofs.Common.{string_bytes}
use Rattle.std.specs.Prelude.{option_copied}
use Rattle.std.proofs.lemmas.Result.{on_ok_weaker}
use Rattle.bench_core.specs.Acts.{plain_act}
use Rattle.bench_core.specs.Machine.{Event}
use Rattle.picture_core.proofs.Changed.{told_longest, told_row, told_switch}
use Rattle.picture_core.proofs.layers.put_event.Goals as goal

pub returns-clause-rows : goal.returns-clause-rows
returns-clause-rows g c =
    let seen : Event = record { actor = c.event.inside.actor; act = plain_act c.event.inside.act; reply = c.event.inside.reply } in
    let acted = c.in_ok-acted.acted in
    let is = c.in_ok-acted.ensures in
    on_ok_weaker c.put_told-told.result
    (told_row c.args.asked.now c.ask.new.bench seen c.args.event.now c.event.view_is acted.reply acted.change.left.items acted.change.joined.items
    is.bench is.reply is.left is.joined c.node_undone-undone.result c.node_changed-changed.result c.node_undone-undone.ensures
    c.node_changed-changed.ensures c.args.sheet.now.nodes c.args.sheet.now.steps.now c.args.sheet.now.range c.args.sheet.now.consoles.now c.args.row (string_bytes c.args.layers.now.rows)
    (string_bytes c.put_told-told.new.layers.rows))
    c.put_told-told.ensures.rows

pub returns-clause-longest : goal.returns-clause-longest
returns-clause-longest g c =
    let seen : Event = record { actor = c.event.inside.actor; act = plain_act c.event.inside.act; reply = c.event.inside.reply } in
    let acted = c.in_ok-acted.acted in
    let is = c.in_ok-acted.ensures in
    on_ok_weaker c.put_told-told.result
    (told_longest c.args.asked.now c.ask.new.bench seen c.args.event.now c.event.view_is acted.reply acted.change.left.items
    acted.change.joined.items is.bench is.reply is.left is.joined c.args.sheet.now.range c.args.sheet.now.consoles.now c.args.row c.args.layers.now.longest
    c.put_told-told.new.layers.longest)
    c.put_told-told.ensures.longest

pub returns-clause-switches : goal.returns-clause-switches
returns-clause-switches g c =
    let seen : Event = record { actor = c.event.inside.actor; act = plain_act c.event.inside.act; reply = c.event.inside.reply } in
    let acted = c.in_ok-acted.acted in
    let is = c.in_ok-acted.ensures in
    on_ok_weaker c.put_told-told.result
    (told_switch c.args.asked.now c.ask.new.bench seen c.args.event.now c.event.view_is acted.reply acted.change.left.items acted.change.joined.items
    is.bench is.reply is.left is.joined c.node_undone-undone.result c.node_changed-changed.result c.node_undone-undone.ensures
    c.node_changed-changed.ensures (option_copied c.args.sheet.now.of) c.args.row c.args.layers.now.switches.items c.put_told-told.new.layers.switches.items)
    c.put_told-told.ensures.switches
