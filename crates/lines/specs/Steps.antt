-- What a line does to what was read before it, where the variables are 1 to `most`.
use Rattle.std.specs.Prelude.{ℕ, Bool, false, cond, List, [], ◌∷◌, Option, None, Some, bytes_eq, eqb}
use Rattle.text.specs.declared.literals.Literal.{Literal}
use Rattle.text.specs.Literals.{word_read}
use Rattle.text.specs.Pieces.{space, pieces}
use Rattle.lines.specs.declared.readings.Stage.{Stage}
use Rattle.lines.specs.declared.readings.Stage.TheVariants.{Start, Values, Valued, Refuted, Fault}
use Rattle.lines.specs.declared.readings.Reading.{Reading}
use Rattle.lines.specs.Values.{no_values, value_of, is_said, all_said, with_value}

-- `s SATISFIABLE`, `s UNSATISFIABLE`, `v`
abbrev pub satisfiable : List ℕ
satisfiable = 0x73 ∷ 0x20 ∷ 0x53 ∷ 0x41 ∷ 0x54 ∷ 0x49 ∷ 0x53 ∷ 0x46 ∷ 0x49 ∷ 0x41 ∷ 0x42 ∷ 0x4c ∷ 0x45 ∷ []

abbrev pub unsatisfiable : List ℕ
unsatisfiable = 0x73 ∷ 0x20 ∷ 0x55 ∷ 0x4e ∷ 0x53 ∷ 0x41 ∷ 0x54 ∷ 0x49 ∷ 0x53 ∷ 0x46 ∷ 0x49 ∷ 0x41 ∷ 0x42 ∷ 0x4c ∷ 0x45 ∷ []

abbrev pub values : List ℕ
values = 0x76 ∷ []

-- a line that starts with `c` is passed over
abbrev pub is_comment : List ℕ → Bool
is_comment [] = false
is_comment (b ∷ line) = eqb b 0x63

-- what was read, at another stage
abbrev pub at_stage : Stage → Reading → Reading
at_stage s r = record { stage = s; values = r.values }

-- nothing was read
abbrev pub start : Reading
start = record { stage = Start; values = no_values }

-- a variable's value: each stands once
abbrev pub value_step : Reading → Literal → Reading
value_step r l = cond (is_said (value_of r.values l.variable)) (at_stage Fault r) (record { stage = Values; values = with_value r.values l })

-- the first line says whether the clauses can be satisfied
abbrev pub first_line : Reading → List ℕ → Reading
first_line r line = cond (bytes_eq line satisfiable) (at_stage Values r) (cond (bytes_eq line unsatisfiable) (at_stage Refuted r) (at_stage Fault r))

module _ (most : ℕ) where
  -- the 0: every variable has stood
  abbrev pub last_step : Reading → Reading
  last_step r = cond (all_said most r.values) (at_stage Valued r) (at_stage Fault r)

  -- a number: the 0, or a variable's value
  abbrev pub number_step : Reading → Option Literal → Reading
  number_step r None = at_stage Fault r
  number_step r (Some l) = cond (eqb l.variable 0) (last_step r) (value_step r l)

  -- a word of a `v` line: nothing stands behind the 0
  abbrev pub word_step : Reading → List ℕ → Reading
  word_step r w = elim r.stage [ Start ↦ at_stage Fault r | Values ↦ number_step r (word_read most w) | Valued ↦ at_stage Fault r | Refuted ↦ at_stage Fault r | Fault ↦ at_stage Fault r ]

  unfoldable pub word_steps : Reading → List (List ℕ) → Reading
  word_steps r [] = r
  word_steps r (w ∷ ws) = word_steps (word_step r w) ws

  -- a `v` line has at least one number, with one space before each
  abbrev pub value_line : Reading → List (List ℕ) → Reading
  value_line r [] = at_stage Fault r
  value_line r (first ∷ []) = at_stage Fault r
  value_line r (first ∷ w ∷ ws) = cond (bytes_eq first values) (word_steps r (w ∷ ws)) (at_stage Fault r)

  -- a line that is no comment, by what was read before
  abbrev pub said_step : Reading → List ℕ → Reading
  said_step r line = elim r.stage [ Start ↦ first_line r line | Values ↦ value_line r (pieces space line) | Valued ↦ at_stage Fault r | Refuted ↦ at_stage Fault r | Fault ↦ at_stage Fault r ]

  -- any line
  unfoldable pub line_step : Reading → List ℕ → Reading
  line_step r line = cond (is_comment line) r (said_step r line)
