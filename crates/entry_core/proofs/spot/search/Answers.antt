use Rattle.std.proofs.Common.{rules}
use Rattle.std.proofs.lemmas.List.Sorted.{answers_always}
use Rattle.entry_core.specs.Presences.{Entry}
use Rattle.entry_core.proofs.EntryLists.{searched}
use Rattle.entry_core.proofs.spot.search.Goals as goal

pub returns-clause-place : goal.returns-clause-place
returns-clause-place g c =
    searched c.args.dot c.args.entries.now c.binary_search_by_key.result c.requires c.binary_search_by_key.ensures.bound
    (c.binary_search_by_key.ensures.position (λ (e : Entry). (e.dot.name, e.dot.clock)) (answers_always _ _ _ (λ f a r g k. search rules)))
