use Rattle.std.proofs.Common.{append_assoc}
use Rattle.picture_core.specs.Shapes.{upwards}
use Rattle.picture_core.proofs.shapes.upwards.Goals as goal

pub returns : goal.returns
unfolding upwards
returns g c = simp append_assoc (rw c.new-place.ensures.bytes at c.in_ok-write.ensures.bytes)
