use Rattle.std.proofs.Common.{refl, rules}
use Rattle.std.proofs.KnownBytes.{Keeps-refl}
use Rattle.script_core.proofs.LongInput.{ends_too_long}
use Rattle.script_core.proofs.playing.play_counted.Goals as goal

pub returns-in-Err-TooLong-clause-ends : goal.returns-in-Err-TooLong-clause-ends
returns-in-Err-TooLong-clause-ends g c = ends_too_long _ _ _ (c.in-Err-TooLong.ensures.longer (rw c.in-Err-TooLong.field-0-is refl))

-- nothing was written
pub returns-in-Err-2-clause-unwritten : goal.returns-in-Err-2-clause-unwritten
returns-in-Err-2-clause-unwritten g c = Keeps-refl _

pub returns-in-Err-2-clause-ends : goal.returns-in-Err-2-clause-ends
returns-in-Err-2-clause-ends g c = search rules
