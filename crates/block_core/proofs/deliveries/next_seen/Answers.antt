use Rattle.std.proofs.Common.{◌*◌, ◌∙◌, None, Some, ap, subst, sym}
use Rattle.std.specs.FinSet as set
use Rattle.std.specs.Option.{option_copied}
use Rattle.dots_core.specs.Dots.{IsFirstDot, dot}
use Rattle.block_core.proofs.Passes.{unseen_all, unseen_before}
use Rattle.block_core.proofs.deliveries.next_seen.Goals as goal

pub returns-in-Some-first_from-clause-passed : goal.returns-in-Some-first_from-clause-passed
returns-in-Some-first_from-clause-passed g c =
    unseen_before (set.contains c.args.names) c.args.seen.now c.args.blocks.now c.args.at c.in-Some.block.now c.requires.are
    (sym c.block_at.ensures ∙ ap option_copied c.in-Some.is) c.in-Some-first_from.dot c.place_behind.result
    (subst (λ q. IsFirstDot (set.contains c.args.names) c.args.seen.now q (Some c.in-Some-first_from.dot))
    (λ i. dot (c.name.ensures i) (c.base.ensures.base i * 64)) c.in-Some-first_from.ensures) c.place_behind.ensures.before

pub returns-in-None-first_from-clause-passed : goal.returns-in-None-first_from-clause-passed
returns-in-None-first_from-clause-passed g c =
    unseen_all (set.contains c.args.names) c.args.seen.now c.args.blocks.now c.args.at c.in-Some.block.now c.requires.are
    (sym c.block_at.ensures ∙ ap option_copied c.in-Some.is)
    (subst (λ q. IsFirstDot (set.contains c.args.names) c.args.seen.now q None)
    (λ i. dot (c.name.ensures i) (c.base.ensures.base i * 64)) c.in-None-first_from.ensures)
