use Rattle.std.proofs.Common.{◌∙◌, ap, eqb-true, sym}
use Rattle.std.specs.Option.{option_copied}
use Rattle.dots_core.specs.Dots.{dot}
use Rattle.block_core.proofs.Passes.{alike_at}
use Rattle.block_core.proofs.deliveries.is_alike.Goals as goal

pub returns-then-is-clause-alike : goal.returns-then-is-clause-alike
returns-then-is-clause-alike g c = λ same.
    let ours = c.in-Some.ours.now in
    alike_at c.args.message.now c.args.blocks.now c.args.at c.args.there ours c.in-Some-block_at.theirs.now c.live.result c.live-then-is.result
    c.requires (sym c.block_at.ensures ∙ ap option_copied c.in-Some.is)
    (sym c.block_at-in-Some.ensures ∙ ap option_copied c.in-Some-block_at.is)
    (c.is.ensures.0 c.if-is.true ∙ ap (λ n. dot n c.base.result) c.name.ensures ∙ ap (dot ours.name) c.base.ensures.base) c.live.ensures c.live-then-is.ensures
    (eqb-true c.live.result c.live-then-is.result same)
