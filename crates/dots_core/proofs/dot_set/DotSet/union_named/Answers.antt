use Rattle.std.proofs.lemmas.Result.{on_ok_weaker}
use Rattle.dots_core.proofs.Unions.{union_named_dots}
use Rattle.dots_core.proofs.dot_set.DotSet.union_named.Goals as goal

pub returns-clause-ok : goal.returns-clause-ok
returns-clause-ok g c = on_ok_weaker c.union_from.result
    (union_named_dots c.args.names c.self.inside.parts c.other.inside.parts c.union_from.new.parts c.args.self.now c.args.other.now
    c.self.view_is c.other.view_is)
    c.union_from.ensures.ok
