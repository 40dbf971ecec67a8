use Rattle.std.proofs.Common.{◌∙◌, ap, sym}
use Rattle.std.specs.FinMap as fin
use Rattle.std.specs.Option.{option_map}
use Rattle.entry_core.specs.Presences.{entry_of}
use Rattle.block_core.specs.Blocks.{Block}
use Rattle.block_core.proofs.SetEdits.{get_at, get_gap, read_is}
use Rattle.block_core.proofs.blocks.get.Goals as goal

pub returns-in-Ok : goal.returns-in-Ok
returns-in-Ok g c =
    let here = c.in-Ok.ensures in
    c.get.ensures
    ∙ ap (λ (b : Block). option_map (entry_of c.args.dot) (fin.get b.map c.args.dot))
    (read_is c.args.blocks.now c.in-Ok.at here.block c.index-blocks-at.result here.at c.index-blocks-at.is)
    ∙ ap (option_map (entry_of c.args.dot))
    (sym (get_at c.args.blocks.now c.in-Ok.at here.block c.args.dot c.requires.rises c.requires.within here.at here.is))

pub returns-in-Err : goal.returns-in-Err
returns-in-Err g c =
    sym (ap (option_map (entry_of c.args.dot))
    (get_gap c.args.blocks.now c.in-Err.field-0 c.args.dot c.requires.rises c.requires.within c.in-Err.ensures))
