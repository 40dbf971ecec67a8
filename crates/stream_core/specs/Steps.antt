-- How often a reader is read.
use Rattle.std.specs.Prelude.{◌≡◌, ℕ, ◌+◌, Result, Ok, Err}
use Rattle.stream_core.specs.declared.stream_fault.InputFault.{InputFault}
use Rattle.stream_core.specs.declared.stream_fault.InputFault.TheVariants as faults

-- how many calls of `read` were made, and how many of them failed
pub record Steps : Type 0 where
  pub calls : ℕ
  pub failed : ℕ

-- one more call failed if the result is a read fault, and none if it is anything else
abbrev pub FailsAs : {X : Type 0} → Result X InputFault → Steps → Steps → Type 0
FailsAs (Ok read) old new = new.failed ≡ old.failed
FailsAs (Err faults.ReadFault) old new = new.failed ≡ old.failed + 1
FailsAs (Err faults.TooLong) old new = new.failed ≡ old.failed
FailsAs (Err faults.OutOfMemory) old new = new.failed ≡ old.failed
