use Rattle.std.proofs.Common.{◌≡◌, ◌∙◌, ◌++◌, [], ap, filter, sym}
use Rattle.std.proofs.lemmas.List.{append-nil, map-append}
use Rattle.std.specs.FinMap as fin
use Rattle.dots_core.specs.declared.dot.Dot.{Dot}
use Rattle.entry_core.specs.EntryLists.{pair_of, pairs}
use Rattle.entry_core.specs.Presences.{Presence}
use Rattle.block_core.specs.Blocks.{Block}
use Rattle.entry_core.specs.Lists.{live_ones}
use Rattle.entry_core.specs.Masks.{is_live}
use Rattle.block_core.proofs.MaskedEntries.{masked, none_masked}
use Rattle.block_core.proofs.LiveMaps.{on_ok}
use Rattle.block_core.proofs.block.Block.push_copies.Goals as goal

pub returns-then-both-eq0 : goal.returns-then-both-eq0
returns-then-both-eq0 g c =
    let none : [] ≡ filter (λ (p : Dot × Presence). is_live c.args.mask p.0) (fin.entries c.args.self.now.map) =
    sym (ap pairs (none_masked c.self.inside.items)) ∙ ap (λ m. pairs (live_ones m c.self.inside.items)) (sym c.if-both-eq0.true)
    ∙ masked c.self.inside.live c.args.mask c.both-both.result c.both-both.ensures c.self.inside.items c.self.invariant.rises
    ∙ ap (λ (b : Block). filter (λ (p : Dot × Presence). is_live c.args.mask p.0) (fin.entries b.map)) c.self.view_is in
    sym (append-nil (pairs c.args.list.now.items)) ∙ ap (λ ps. pairs c.args.list.now.items ++ ps) none

pub returns : goal.returns
returns g c =
    let same : pairs (live_ones c.both-both.result c.as_slice.result.now) ≡
    filter (λ (p : Dot × Presence). is_live c.args.mask p.0) (fin.entries c.args.self.now.map) =
    ap (λ es. pairs (live_ones c.both-both.result es)) c.as_slice.ensures
    ∙ masked c.self.inside.live c.args.mask c.both-both.result c.both-both.ensures c.self.inside.items c.self.invariant.rises
    ∙ ap (λ (b : Block). filter (λ (p : Dot × Presence). is_live c.args.mask p.0) (fin.entries b.map)) c.self.view_is in
    on_ok c.push_copies.result (λ (more : c.push_copies.new.list.items ≡ c.args.list.now.items ++ live_ones c.both-both.result c.as_slice.result.now).
    ap pairs more ∙ map-append pair_of c.args.list.now.items (live_ones c.both-both.result c.as_slice.result.now)
    ∙ ap (λ ps. pairs c.args.list.now.items ++ ps) same) c.push_copies.ensures
