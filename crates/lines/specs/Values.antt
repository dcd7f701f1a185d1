-- The values that lines have said so far.
use Rattle.std.specs.Prelude.{ℕ, suc, Bool, false, not, List, Option, None, Some, is_some, get_or, set, replicate}
use Rattle.text.specs.declared.literals.Literal.{Literal}
use Rattle.statement.specs.Meaning.{everywhere}

-- the most variables of any question
abbrev pub most_variables : ℕ
most_variables = 259

-- a value that is not said yet, and one that is
abbrev pub unsaid : Option Bool
unsaid = None

abbrev pub told : Bool → Option Bool
told b = Some b

-- no value is said yet
abbrev pub no_values : List (Option Bool)
no_values = replicate (suc most_variables) unsaid

-- the value that the variable v is said to have
abbrev pub value_of : List (Option Bool) → ℕ → Option Bool
value_of values v = get_or values v unsaid

abbrev pub is_said : Option Bool → Bool
is_said x = is_some x

-- is it said to be true
abbrev pub is_true : Option Bool → Bool
is_true None = false
is_true (Some b) = b

-- the truth values that are said
abbrev pub truth_of : List (Option Bool) → ℕ → Bool
truth_of values v = is_true (value_of values v)

-- has every variable from 1 to `most` a value
abbrev pub all_said : ℕ → List (Option Bool) → Bool
all_said most values = everywhere most (λ i. is_said (value_of values (suc i)))

-- the values with that of one literal more: a minus if false
abbrev pub with_value : List (Option Bool) → Literal → List (Option Bool)
with_value values l = set values l.variable (told (not l.denied))
