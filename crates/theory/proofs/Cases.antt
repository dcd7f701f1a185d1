-- The cases A to N of document 01: each is accepted and has the answer of the table, by computing.
use Rattle.std.proofs.Common.{Ok}
use mathlib.Core.Path.{◌≡◌, refl}
use mathlib.Core.List.{map}
use mathlib.Core.Option.{Option}
use Rattle.outcome.specs.Checks.{Check}
use Rattle.question.specs.Questions.{statements, terms_of}
use Rattle.statement.specs.Statements.{witness, witnesses}
use Rattle.question.specs.Admissions.{admission}
use Rattle.question.specs.Checks.{statements_checked, checked}
use Rattle.theory.specs.Searches.{first_from, first_placing, each_from, first_passing}
use Rattle.theory.specs.Solutions.{Solution}
use Rattle.theory.specs.FirstModels.{smallest_mask, model_of, first_model}
use Rattle.theory.specs.Reduction.{row_list}
use Rattle.theory.specs.Answers.{answer}
use Rattle.theory.specs.Cases.{Case, cases}

-- what is found, and what the table says
abbrev found : Case → Check × Option Solution
found c = (checked c.asks, answer c.asks)

abbrev wanted : Case → Check × Option Solution
wanted c = ((Ok tt), c.answers)

pub cases_answered : map found cases ≡ map wanted cases
unfolding checked statements_checked admission statements witness witnesses terms_of answer row_list first_model model_of smallest_mask first_placing first_from each_from first_passing
cases_answered = refl
