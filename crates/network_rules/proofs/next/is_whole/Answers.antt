use Rattle.std.proofs.Common.{◌≡◌, ◌∙◌, ◌&&◌, ◌+◌, false, true, drop, None, ap, sym, slice_index_or}
use Rattle.network_rules.specs.declared.turn.Turn.{Turn}
use Rattle.network_rules.specs.Turns.{count_at, is_whole, is_whole_by}
use Rattle.network_rules.proofs.CountLoops.{whole_none, whole_on}
use Rattle.network_rules.proofs.Lookups.{read_or}
use Rattle.network_rules.proofs.next.is_whole.Goals as goal

abbrev none : Turn
none = record { node = 0; delivers = None; recorded = 0 }

pub returns-then-not-is_whole_by : goal.returns-then-not-is_whole_by
returns-then-not-is_whole_by c =
    let t = slice_index_or c.args.turns.now c.loop-place.place none in
    let here : false ≡ is_whole_by t.delivers t.recorded (count_at c.args.counts.now c.loop-place.place) = c.if-not-is_whole_by.ensures ∙ ap (is_whole_by t.delivers t.recorded) c.count_at.ensures in
    ap (λ b. b && is_whole (drop (c.loop-place.place + 1) c.args.turns.now) c.args.counts.now (c.loop-place.place + 1)) here
    ∙ sym (whole_on c.args.turns.now c.args.counts.now c.loop-place.place _ (read_or c.args.turns.now c.loop-place.place none c.loop-place-test.true)) ∙ c.loop-place.invariant

pub loop-place-preserved : goal.loop-place-preserved
loop-place-preserved c =
    let t = slice_index_or c.args.turns.now c.loop-place.place none in
    let here : true ≡ is_whole_by t.delivers t.recorded (count_at c.args.counts.now c.loop-place.place) = c.if-not-is_whole_by.ensures ∙ ap (is_whole_by t.delivers t.recorded) c.count_at.ensures in
    ap (λ b. b && is_whole (drop (c.loop-place.place + 1) c.args.turns.now) c.args.counts.now (c.loop-place.place + 1)) here
    ∙ sym (whole_on c.args.turns.now c.args.counts.now c.loop-place.place _ (read_or c.args.turns.now c.loop-place.place none c.loop-place-test.true)) ∙ c.loop-place.invariant

pub returns : goal.returns
returns c = sym (whole_none c.args.turns.now c.args.counts.now c.loop-place.place c.loop-place-test.false) ∙ c.loop-place.invariant
