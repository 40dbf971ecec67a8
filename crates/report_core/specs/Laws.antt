-- The law of the `dots` lines.
use Rattle.std.specs.Prelude.{ℕ}
use Rattle.dots_core.specs.Contexts.{IsPartOf}
use Rattle.dots_core.specs.Dots.{AreValid, Dots}
use Rattle.report_core.specs.Dots.{clock_of, cloud_of}

-- the numbers that are printed for a name are its context clock and its cloud
abbrev pub DotsLaw : Type 0
DotsLaw = (s : Dots) (name : ℕ) → AreValid s → IsPartOf s name (record { clock = clock_of s name; cloud = cloud_of s name })
