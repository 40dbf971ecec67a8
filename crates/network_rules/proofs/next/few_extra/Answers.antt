use Rattle.std.proofs.Common.{◌≡◌, ◌∙◌, ◌+◌, ◌-◌, None, ap, sym, drop, slice_index_or}
use Rattle.network_rules.specs.declared.turn.Turn.{Turn}
use Rattle.network_rules.specs.Turns.{count_at, extra}
use Rattle.network_rules.proofs.CountLoops.{extra_none, extra_on, nothing_left, not_too_much, too_much}
use Rattle.network_rules.proofs.Lookups.{read_or}
use Rattle.network_rules.proofs.next.few_extra.Goals as goal

abbrev none : Turn
none = record { node = 0; delivers = None; recorded = 0 }

pub returns-then-left-more : goal.returns-then-left-more
returns-then-left-more c =
    let rest = extra (drop (c.loop-place.place + 1) c.args.turns.now) c.args.counts.now (c.loop-place.place + 1) in
    let here : c.saturating_sub-more.result ≡ (count_at c.args.counts.now c.loop-place.place) - (slice_index_or c.args.turns.now c.loop-place.place none).recorded = c.saturating_sub-more.ensures ∙ ap (λ m. m - (slice_index_or c.args.turns.now c.loop-place.place none).recorded) c.count_at.ensures in
    too_much _ c.saturating_sub-more.result rest c.loop-place.left _
    (extra_on c.args.turns.now c.args.counts.now c.loop-place.place _ (read_or c.args.turns.now c.loop-place.place none c.loop-place-test.true) ∙ ap (λ n. n + rest) (sym here)) c.if-left-more.true
    c.loop-place.invariant

pub loop-place-preserved : goal.loop-place-preserved
loop-place-preserved c =
    let rest = extra (drop (c.loop-place.place + 1) c.args.turns.now) c.args.counts.now (c.loop-place.place + 1) in
    let here : c.saturating_sub-more.result ≡ (count_at c.args.counts.now c.loop-place.place) - (slice_index_or c.args.turns.now c.loop-place.place none).recorded = c.saturating_sub-more.ensures ∙ ap (λ m. m - (slice_index_or c.args.turns.now c.loop-place.place none).recorded) c.count_at.ensures in
    not_too_much _ c.saturating_sub-more.result rest c.loop-place.left _
    (extra_on c.args.turns.now c.args.counts.now c.loop-place.place _ (read_or c.args.turns.now c.loop-place.place none c.loop-place-test.true) ∙ ap (λ n. n + rest) (sym here)) c.if-left-more.false
    c.loop-place.invariant

pub returns : goal.returns
returns c = nothing_left _ c.loop-place.left _ (extra_none c.args.turns.now c.args.counts.now c.loop-place.place c.loop-place-test.false) c.loop-place.invariant
