use Rattle.std.proofs.Common.{◌≡◌, ◌∙◌, Some, None, ap, sym}
use Rattle.std.specs.Option.{option_copied}
use Rattle.dots_core.specs.Dots.{dot}
use Rattle.block_core.specs.Sets.{key}
use Rattle.block_core.proofs.SetEdits.{gap_at}
use Rattle.block_core.proofs.blocks.search_all.Goals as goal

pub returns-then-is : goal.returns-then-is
returns-then-is g c = record {
  block = c.in-Some.block.now;
  at = sym c.block_at.ensures ∙ ap option_copied c.in-Some.is;
  is = c.is.ensures.0 c.if-is.true;
}

pub returns-else-is : goal.returns-else-is
returns-else-is g c =
    gap_at (dot c.args.name c.args.base) c.args.blocks.now c.place-at.result c.requires c.place-at.ensures.within c.place-at.ensures.before
    c.place-at.ensures.at (λ b at same.
    let here : Some c.in-Some.block.now ≡ Some b = sym (sym c.block_at.ensures ∙ ap option_copied c.in-Some.is) ∙ at in
    let one : c.in-Some.block.now ≡ b = cc in
    let true_is = c.is.ensures.1 (ap key one ∙ same) in
    let false_is = c.if-is.false in
    absurd (cc))

pub returns-in-None : goal.returns-in-None
returns-in-None g c =
    gap_at (dot c.args.name c.args.base) c.args.blocks.now c.place-at.result c.requires c.place-at.ensures.within c.place-at.ensures.before
    c.place-at.ensures.at (λ b at same.
    let here : None ≡ Some b = sym (sym c.block_at.ensures ∙ ap option_copied c.in-None.is) ∙ at in
    absurd (cc))
