-- Models beside document 01's case I, by computing: the table of docs/FORMAT.md. Case I is E=1 S=2, s0={e0}, s0≠s1, e0 in s1.
use Rattle.std.proofs.Common.{Ok, Err, Some, None}
use Prim.Native.Nat.{ℕ}
use mathlib.Core.Path.{◌≡◌, refl}
use mathlib.Core.List.{List, [], ◌∷◌, map}
use Rattle.outcome.specs.Refusals.{refusal, bad_model}
use Rattle.number.specs.Numbers.{number_from}
use Rattle.question.specs.Questions.{statements}
use Rattle.statement.specs.Meaning.{everywhere}
use Rattle.theory.specs.Cases.{case_i}
use Rattle.body.specs.Bodies.{masks_in}
use Rattle.judge.specs.Models.{elements_inside, masks_inside, is_model}
use Rattle.judge.specs.Judgements.{Judgement, first_failing, model_judged}
use Rattle.model_file.specs.Reads.{has_its_length, model_in, model_read}
use Rattle.model_file.specs.Judges.{bytes_judged}

-- the bytes of a model, with the judgement that is due
pub record Row : Type 0 where
  pub model : List ℕ
  pub due : Judgement

abbrev pub row : List ℕ → Judgement → Row
row m j = record { model = m; due = j }

abbrev pub bad : Judgement
bad = Err (refusal bad_model 0)

abbrev pub table : List Row
table =
    row (2 ∷ 0 ∷ 0 ∷ 3 ∷ 0 ∷ 2 ∷ []) (Ok None)
    ∷ row (1 ∷ 0 ∷ 0 ∷ 3 ∷ []) (Ok (Some 1))
    ∷ row (2 ∷ 1 ∷ 0 ∷ 3 ∷ 0 ∷ 2 ∷ []) (Ok (Some 0))
    ∷ row (2 ∷ 0 ∷ 0 ∷ 1 ∷ 0 ∷ 2 ∷ []) (Ok (Some 2))
    ∷ row (3 ∷ 0 ∷ 0 ∷ 3 ∷ 0 ∷ 2 ∷ 0 ∷ 0 ∷ []) (Ok None)
    ∷ row [] bad
    ∷ row (0 ∷ []) bad
    ∷ row (2 ∷ 2 ∷ 0 ∷ 3 ∷ 0 ∷ 2 ∷ []) bad
    ∷ row (2 ∷ 0 ∷ 0 ∷ 3 ∷ 0 ∷ 4 ∷ []) bad
    ∷ row (2 ∷ 0 ∷ 0 ∷ 3 ∷ 0 ∷ []) bad
    ∷ row (2 ∷ 0 ∷ 0 ∷ 3 ∷ 0 ∷ 2 ∷ 0 ∷ []) bad
    ∷ []

pub models_of_I : map (λ r. bytes_judged case_i.asks r.model) table ≡ map (λ r. r.due) table
unfolding bytes_judged model_read has_its_length model_in masks_in number_from model_judged is_model elements_inside masks_inside everywhere first_failing statements
models_of_I = refl
