use Rattle.dots_core.proofs.Unions.{least_alone, least_turned, least_lower}
use Rattle.dots_core.proofs.union.least.Goals as goal

pub returns-in-Some-Some : goal.returns-in-Some-Some
returns-in-Some-Some c =
    least_lower c.args.left.now c.args.right.now c.in-Some-Some.a.now c.in-Some-Some.b.now c.min.result c.requires.left c.requires.right
    c.in-Some-Some.ensures.value c.in-Some-Some.ensures'.value c.min.ensures

pub returns-in-Some-None : goal.returns-in-Some-None
returns-in-Some-None c =
    least_alone c.args.left.now c.args.right.now c.in-Some-None.a.now c.requires.left c.in-Some-None.ensures.value
    c.in-Some-None.ensures'.value

pub returns-in-None-Some : goal.returns-in-None-Some
returns-in-None-Some c =
    least_turned c.args.right.now c.args.left.now c.in-None-Some.b.now
    (least_alone c.args.right.now c.args.left.now c.in-None-Some.b.now c.requires.right c.in-None-Some.ensures'.value
    c.in-None-Some.ensures.value)
