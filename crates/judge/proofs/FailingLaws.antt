-- What the walk over the records before the count finds in a model is the judgement.
use Rattle.std.proofs.Common.{◌≡◌, ℕ, true, not, take, Option, Ok, sym, ap, ◌∙◌}
use Rattle.std.specs.List.{position}
use Rattle.question.specs.declared.questions.Question.{Question}
use Rattle.question.specs.Questions.{statements}
use Rattle.statement.specs.Meaning.{holds}
use Rattle.judge.specs.declared.models.Model.{Model}
use Rattle.judge.specs.Models.{assigned, is_model}
use Rattle.judge.specs.Judgements.{first_failing, model_judged}
use Rattle.judge.proofs.WalkLaws.{position-map}

pub judged_as_found : (q : Question) (m : Model) → is_model q.elements q.sets m ≡ true → (found : Option ℕ) → found ≡ position (λ r. not (holds (assigned m) r.statement)) (take q.count q.table) → Ok found ≡ model_judged q m
unfolding model_judged first_failing statements
judged_as_found q m is found there =
    let same = position-map (λ s. not (holds (assigned m) s)) (λ r. r.statement) (take q.count q.table) in
    rw is (ap Ok (there ∙ sym same))
