-- The table of values past its end: nothing is said there, and nothing is stored.
use Prim.Native.Nat.{ℕ, ◌≤◌}
use mathlib.Core.Path.{◌≡◌, ap}
use mathlib.Core.Bool.{Bool, false}
use mathlib.Core.List.{List}
use lib.ListN.{length, get_or-eq_default}
use lib.Seq.{set_out}
use Rattle.std.specs.Prelude.{Option}
use Rattle.text.specs.declared.literals.Literal.{Literal}
use Rattle.lines.specs.Values.{unsaid, value_of, is_said, with_value}

pub unsaid_past : (t : List (Option Bool)) (v : ℕ) → length t ≤ v → is_said (value_of t v) ≡ false
unsaid_past t v h = ap is_said (get_or-eq_default t unsaid h)

pub kept_past : (t : List (Option Bool)) (l : Literal) → length t ≤ l.variable → with_value t l ≡ t
kept_past t l h = set_out t l.variable _ h
