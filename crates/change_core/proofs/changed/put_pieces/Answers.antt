use Rattle.std.proofs.Common.{◌∙◌, ◌++◌, ℕ, ap, get_or, sym, take}
use Rattle.std.specs.List.{flat_map}
use Rattle.std.proofs.lemmas.List.{flat_map_more, take_all, take_more}
use Rattle.change_core.specs.Marked.{marks_in}
use Rattle.change_core.proofs.Played.{read_or}
use Rattle.change_core.proofs.changed.put_pieces.Goals as goal

pub put_piece-requires : goal.put_piece-requires
put_piece-requires g c = c.requires c.loop-from.from-index _ (read_or c.args.pieces.now c.loop-from.from-index (0, 0) c.loop-from-test.true)

pub loop-from-preserved : goal.loop-from-preserved
loop-from-preserved g c =
    let p : ℕ × ℕ = get_or c.args.pieces.now c.loop-from.from-index (0, 0) in
    c.in_ok-put_piece.ensures
    ∙ ap (λ l. l ++ marks_in c.args.steps.now p) c.loop-from.invariant
    ∙ flat_map_more (marks_in c.args.steps.now) c.args.marks.now.items (take c.loop-from.from-index c.args.pieces.now) p
    ∙ ap (λ l. c.args.marks.now.items ++ flat_map (marks_in c.args.steps.now) l) (sym (take_more c.args.pieces.now c.loop-from.from-index (0, 0) c.loop-from-test.true))

pub returns : goal.returns
returns g c =
    c.loop-from.invariant
    ∙ ap (λ l. c.args.marks.now.items ++ flat_map (marks_in c.args.steps.now) l) (take_all c.loop-from.from-index c.args.pieces.now c.loop-from-test.false)
