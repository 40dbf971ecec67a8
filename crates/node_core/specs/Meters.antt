-- What a contract sees of a meter: how many steps were taken.
use Rattle.std.specs.Prelude.{ℕ}

pub record Meter : Type 0 where
  pub count : ℕ
