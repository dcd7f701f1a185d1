-- Which stage means that all lines so far can stand.
use Rattle.std.specs.Prelude.{Bool, true, false}
use Rattle.lines.specs.declared.readings.Stage.{Stage}
use Rattle.lines.specs.declared.readings.Stage.TheVariants.{Start, Values, Valued, Refuted, Fault}

abbrev pub stands : Stage → Bool
stands Start = true
stands Values = true
stands Valued = true
stands Refuted = true
stands Fault = false
