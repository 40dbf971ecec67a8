use Rattle.std.proofs.Common.{sym, subst, ◌∙◌}
use Rattle.std.specs.FinMap as fin
use Rattle.payload_core.specs.TrackIndices.{Covers}
use Rattle.payload_core.proofs.Hashed.{covers_remove, dot_found}
use Rattle.payload_core.proofs.entry_set.EntrySet.remove.Goals as goal

pub invariant_of-self : goal.invariant_of-self
invariant_of-self g c =
    subst (Covers c.self.inside.by_hash) (sym c.remove.ensures.map)
    (covers_remove c.self.inside.by_hash c.self.inside.by_hash c.self.inside.by_dot.map c.args.dot (λ n k q other h. h) c.self.invariant)

pub invariant_of-self-2 : goal.invariant_of-self-2
invariant_of-self-2 g c =
    let dot = dot_found c.args.dot (fin.get c.self.inside.by_dot.map c.args.dot) c.in_ok-entry.entry (sym c.in_ok-entry.was ∙ c.remove.ensures.entry) in
    subst (Covers c.remove-2.new.self) (sym c.remove.ensures.map)
    (covers_remove c.self.inside.by_hash c.remove-2.new.self c.self.inside.by_dot.map c.args.dot
    (λ n k q other h. c.remove-2.ensures.others n k q (λ same. other (same ∙ dot)) h) c.self.invariant)
