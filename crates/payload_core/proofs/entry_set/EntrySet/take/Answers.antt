use Rattle.std.proofs.Common.{ap, sym, subst, ◌∙◌}
use Rattle.std.specs.FinMap as fin
use Rattle.entry_core.specs.Presences.{Entry}
use Rattle.payload_core.specs.TrackIndices.{Covers}
use Rattle.payload_core.proofs.Hashed.{covers_remove, dot_found}
use Rattle.payload_core.proofs.entry_set.EntrySet.take.Goals as goal

pub invariant_of-self-in_default : goal.invariant_of-self-in_default
invariant_of-self-in_default g c =
    subst (Covers c.self.inside.by_hash) (sym c.in_ok-entry.ensures.map)
    (covers_remove c.self.inside.by_hash c.self.inside.by_hash c.self.inside.by_dot.map c.args.dot (λ n k q other h. h) c.self.invariant)

pub invariant_of-self-2 : goal.invariant_of-self-2
invariant_of-self-2 g c =
    let dot =
    ap (λ (e : Entry). e.dot) c.entry.ensures
    ∙ dot_found c.args.dot (fin.get c.self.inside.by_dot.map c.args.dot) c.in-Some.entry (sym c.in-Some.is ∙ c.in_ok-entry.ensures.entry) in
    subst (Covers c.remove.new.self) (sym c.in_ok-entry.ensures.map)
    (covers_remove c.self.inside.by_hash c.remove.new.self c.self.inside.by_dot.map c.args.dot
    (λ n k q other h. c.remove.ensures.others n k q (λ same. other (same ∙ dot)) h) c.self.invariant)
