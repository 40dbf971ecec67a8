use Rattle.std.proofs.Common.{refl}
use Rattle.program_core.proofs.Printed.{too_long}
use Rattle.program_core.proofs.texts.read_script.Goals as goal

pub returns-in-Err-TooLong-clause-cause : goal.returns-in-Err-TooLong-clause-cause
returns-in-Err-TooLong-clause-cause g c = too_long _ (c.in-Err-TooLong.ensures.longer (rw c.in-Err-TooLong.field-0-is refl))
