use Rattle.std.proofs.Common.{sym, subst, ap, ◌∙◌}
use Rattle.std.specs.FinMap as fin
use Rattle.payload_core.specs.TrackIndices.{Covers}
use Rattle.std.specs.Option.{option_copied, option_map}
use Rattle.block_core.specs.EntrySets.{EntrySet}
use Rattle.entry_core.proofs.EntryLists.{remove_missing}
use Rattle.entry_core.specs.Presences.{entry_of}
use Rattle.payload_core.proofs.Hashed.{covers_remove, dot_found, none_found}
use Rattle.payload_core.proofs.entry_set.EntrySet.discard.Goals as goal

pub invariant_of-self : goal.invariant_of-self
invariant_of-self g c =
    subst (Covers c.self.inside.by_hash) (sym c.discard.ensures.map)
    (covers_remove c.self.inside.by_hash c.self.inside.by_hash c.self.inside.by_dot.map c.args.dot (λ n k q other h. h) c.self.invariant)

pub invariant_of-self-2 : goal.invariant_of-self-2
invariant_of-self-2 g c =
    let dot = dot_found c.args.dot (fin.get c.self.inside.by_dot.map c.args.dot) c.in-Some.entry.now (sym (ap option_copied c.in-Some.is) ∙ c.get.ensures) in
    subst (Covers c.remove.new.self) (sym c.discard-2.ensures.map)
    (covers_remove c.self.inside.by_hash c.remove.new.self c.self.inside.by_dot.map c.args.dot
    (λ n k q other h. c.remove.ensures.others n k q (λ same. other (same ∙ dot)) h) c.self.invariant)

pub returns-in-None-clause-map : goal.returns-in-None-clause-map
returns-in-None-clause-map g c =
    sym (remove_missing c.args.dot c.args.self.now.map (none_found c.args.dot (fin.get c.args.self.now.map c.args.dot)
    (ap (λ (s : EntrySet). option_map (entry_of c.args.dot) (fin.get s.map c.args.dot)) (sym c.self.view_is) ∙ sym c.get.ensures ∙ ap option_copied c.in-None.is)))
