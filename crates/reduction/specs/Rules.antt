-- The rule that a value of the code's type says, and the rows of a rule, packed.
use Rattle.std.specs.Prelude.{ℕ, List, map}
use Rattle.theory.specs.Rules as rules
use Rattle.theory.specs.Sets.{Test}
use Rattle.row.specs.Rows.{pack_row}
use Rattle.row.specs.Tests.{said}
use Rattle.reduction.specs.declared.rules.Rule.{Rule}
use Rattle.reduction.specs.declared.rules.Rule.TheVariants.{OneTerm, EachTerm, OwnWitness}

-- variant by variant
abbrev pub said_rule : Rule → rules.Rule Test
said_rule (OneTerm a t) = rules.OneTerm a (said t)
said_rule (EachTerm t) = rules.EachTerm (said t)
said_rule (OwnWitness t) = rules.OwnWitness (said t)

-- the rows of a rule, where there are so many terms and w is the next witness
abbrev pub rule_rows : ℕ → ℕ → rules.Rule Test → List ℕ
rule_rows terms w r = map pack_row (rules.rows_of_rule terms w r)

-- a row with this test for each of so many terms, terms going upward
abbrev pub each_term : Test → ℕ → List ℕ
each_term t terms = rule_rows terms 0 (rules.EachTerm t)
