use Rattle.std.proofs.Common.{append_assoc}
use Rattle.picture_core.specs.Shapes.{path_between}
use Rattle.picture_core.proofs.shapes.path_between.Goals as goal

pub returns : goal.returns
unfolding path_between
returns g c =
    simp append_assoc
    (simp append_assoc at (rw (c.in_ok-write-2.ensures.bytes, c.in_ok-write.ensures.bytes, c.new-path.ensures.bytes) at c.in_ok-write-3.ensures.bytes))
