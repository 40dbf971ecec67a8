use Rattle.std.proofs.Common.{subst}
use Rattle.std.proofs.lemmas.Result.{on_ok_weaker}
use Rattle.dots_core.specs.Names.{Names}
use Rattle.dots_core.specs.Unions.{IsUnionFrom}
use Rattle.dots_core.proofs.Unions.{union_dots}
use Rattle.dots_core.proofs.dot_set.DotSet.union_known.Goals as goal

pub returns-clause-ok : goal.returns-clause-ok
returns-clause-ok g c = on_ok_weaker c.union_from.result
    (λ h. union_dots c.args.known c.args.own c.self.inside.parts c.other.inside.parts c.union_from.new.parts c.args.self.now
    c.args.other.now c.self.view_is c.other.view_is
    (subst (λ (names : Names). IsUnionFrom names 0 c.self.inside.parts c.other.inside.parts c.union_from.new.parts) c.without.ensures h))
    c.union_from.ensures.ok
