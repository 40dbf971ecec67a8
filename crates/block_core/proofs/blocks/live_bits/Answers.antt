use Rattle.std.proofs.Common.{◌≡◌, ◌∙◌, ap, arith, is_some, subst, sym}
use Rattle.std.specs.FinMap as fin
use Rattle.dots_core.specs.Dots.{dot}
use Rattle.block_core.specs.Blocks.{Block, IsIn}
use Rattle.block_core.specs.Sets.{IsGap, block_key}
use Rattle.block_core.proofs.LiveMaps.{bit_none}
use Rattle.block_core.proofs.SetEdits.{get_at, get_gap, get_here, read_is}
use Rattle.block_core.proofs.blocks.live_bits.Goals as goal

pub returns-in-Ok-clause-mask : goal.returns-in-Ok-clause-mask
returns-in-Ok-clause-mask g c = λ d here.
    let at = c.in-Ok.ensures in
    let was = read_is c.args.blocks.now c.in-Ok.at at.block c.index-blocks-at.result at.at c.index-blocks-at.is in
    let k : dot c.args.name c.args.base ≡ block_key d = ap (λ n. dot n c.args.base) (sym here.name) ∙ ap (dot d.name) (sym here.base) in
    let inside : IsIn c.index-blocks-at.result.name c.index-blocks-at.result.base d = record {
      name = here.name ∙ sym (ap (λ q. q.name) at.is) ∙ ap (λ (b : Block). b.name) (sym was);
      base = here.base ∙ sym (ap (λ q. q.clock) at.is) ∙ ap (λ (b : Block). b.base) (sym was);
    } in
    c.live.ensures d inside ∙ ap (λ (b : Block). is_some (fin.get b.map d)) was
    ∙ ap is_some (sym (get_at c.args.blocks.now c.in-Ok.at at.block d c.requires.rises c.requires.within at.at (at.is ∙ k)))

pub returns-in-Err-clause-mask : goal.returns-in-Err-clause-mask
returns-in-Err-clause-mask g c = λ d here.
    let k : dot c.args.name c.args.base ≡ block_key d = ap (λ n. dot n c.args.base) (sym here.name) ∙ ap (dot d.name) (sym here.base) in
    bit_none _
    ∙ sym (ap is_some (get_gap c.args.blocks.now c.in-Err.at d c.requires.rises c.requires.within
    (subst (λ q. IsGap q c.args.blocks.now c.in-Err.at) k c.in-Err.ensures)))

pub returns-in-Ok-clause-hint : goal.returns-in-Ok-clause-hint
returns-in-Ok-clause-hint g c =
    let here = get_here c.args.blocks.now c.in-Ok.at c.in-Ok.ensures.block c.in-Ok.ensures.at in
    omega (arith, here)
