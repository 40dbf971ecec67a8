-- What holds where a call was refused.
use Rattle.std.specs.Prelude.{Result, Ok, Err, OnErr}

-- what holds anyway
pub on_err : {X E P : Type 0} (r : Result X E) → P → OnErr r P
on_err (Ok x) p = tt
on_err (Err e) p = p
