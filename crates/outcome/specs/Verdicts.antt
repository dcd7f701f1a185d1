-- A verdict as a number, in an answer's file and for C.
use Rattle.std.specs.Prelude.{ℕ}
use Rattle.outcome.specs.declared.verdicts.Verdict.{Verdict}
use Rattle.outcome.specs.declared.verdicts.Verdict.TheVariants.{Possible, Impossible}

-- 1 possible, 0 impossible
abbrev pub verdict_byte : Verdict → ℕ
verdict_byte Possible = 1
verdict_byte Impossible = 0
