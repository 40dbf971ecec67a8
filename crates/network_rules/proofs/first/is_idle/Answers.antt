use Rattle.std.proofs.Common.{◌≡◌, ◌<◌, ◌∙◌, sym, ap, subst}
use Rattle.std.specs.Option.{option_copied}
use Rattle.bench_core.proofs.Places.{looked_up}
use Rattle.network_rules.specs.Easy.{BringsNone}
use Rattle.network_rules.specs.Tables.{matter}
use Rattle.network_rules.specs.Turns.{count_at}
use Rattle.network_rules.proofs.first.is_idle.Goals as goal

pub returns-in-Some-message_of : goal.returns-in-Some-message_of
returns-in-Some-message_of g c = λ h.
    let t = c.args.cone.now in
    let n = c.args.node in
    let names : c.matter-names.result ≡ matter t n (count_at c.args.state.now.counts.now n) = c.matter-names.ensures ∙ ap (matter t n) c.count_at-2.ensures in
    record {
      turn = c.in-Some.found.now;
      found = sym (looked_up c.get.result c.args.turns.now c.args.turn c.get.ensures.lookup.0 c.get.ensures.lookup.1) ∙ ap option_copied c.in-Some.is;
      fewer = subst (λ n. n < c.in-Some.found.now.recorded) c.count_at.ensures c.if-count_at-found.false;
      message = c.in-Some-message_of.message.now;
      there = sym c.in-Some-message_of.ensures;
      none = subst (λ s. BringsNone t.dots s n c.in-Some-message_of.message.now) names
          (subst (λ ds. BringsNone ds c.matter-names.result n c.in-Some-message_of.message.now) c.dots.ensures (c.brings_none.ensures h));
    }
