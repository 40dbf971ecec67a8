use Rattle.std.proofs.Common.{◌≡◌, ◌∙◌, ◌++◌, [], ap, filter, map, subst, sym}
use Rattle.std.proofs.lemmas.List.{append-nil}
use Rattle.std.specs.FinMap as fin
use Rattle.std.specs.Result.{OnOk}
use Rattle.dots_core.specs.declared.dot.Dot.{Dot}
use Rattle.entry_core.specs.Presences.{Entry, Presence}
use Rattle.block_core.specs.Blocks.{Block}
use Rattle.entry_core.specs.Lists.{live_ones}
use Rattle.entry_core.specs.Masks.{is_live}
use Rattle.block_core.proofs.MaskedEntries.{dots_masked, none_masked}
use Rattle.block_core.proofs.block.Block.push_dots.Goals as goal

pub returns-then-both-eq0 : goal.returns-then-both-eq0
returns-then-both-eq0 g c =
    let none : [] ≡ map (λ (p : Dot × Presence). p.0) (filter (λ (p : Dot × Presence). is_live c.args.mask p.0) (fin.entries c.args.self.now.map)) =
    sym (ap (map (λ (e : Entry). e.dot)) (none_masked c.self.inside.items))
    ∙ ap (λ m. map (λ (e : Entry). e.dot) (live_ones m c.self.inside.items)) (sym c.if-both-eq0.true)
    ∙ dots_masked c.self.inside.live c.args.mask c.both-both.result c.both-both.ensures c.self.inside.items c.self.invariant.rises
    ∙ ap (λ (b : Block). map (λ (p : Dot × Presence). p.0) (filter (λ (p : Dot × Presence). is_live c.args.mask p.0) (fin.entries b.map))) c.self.view_is in
    sym (append-nil c.args.dots.now.items) ∙ ap (λ ps. c.args.dots.now.items ++ ps) none

pub returns : goal.returns
returns g c =
    let same =
    ap (λ es. map (λ (e : Entry). e.dot) (live_ones c.both-both.result es)) c.as_slice.ensures
    ∙ dots_masked c.self.inside.live c.args.mask c.both-both.result c.both-both.ensures c.self.inside.items c.self.invariant.rises
    ∙ ap (λ (b : Block). map (λ (p : Dot × Presence). p.0) (filter (λ (p : Dot × Presence). is_live c.args.mask p.0) (fin.entries b.map))) c.self.view_is in
    subst (λ ds. OnOk c.push_dots.result (c.push_dots.new.dots.items ≡ c.args.dots.now.items ++ ds)) same c.push_dots.ensures
