-- Nothing but the numbered variables counts: truth values that agree from 1 to the number of variables say one model, and satisfy the clauses together.
use Prim.Native.Nat.{ℕ, zero, suc, ◌≤◌, ◌<◌}
use mathlib.Core.Path.{◌≡◌, refl, sym, ap, subst, ◌∙◌}
use mathlib.Core.List.{[], ◌∷◌, ◌++◌}
use mathlib.Core.Option.{Option, none, some}
use native.Mathlib.Omega.{arith}
use lib.Dec.{T}
use lib.ListN.{length}
use Rattle.question.specs.declared.questions.Question.{Question}
use Rattle.question.specs.Questions.{terms_of}
use Rattle.question.specs.Checks.{IsAccepted}
use Rattle.theory.specs.Lists.{Every}
use Rattle.theory.specs.Arrangements.{classes}
use Rattle.theory.specs.Solutions.{Solution, with_masks}
use Rattle.theory.proofs.ListLaws.{all_same}
use Rattle.theory.proofs.SearchLaws.{first_passing_one}
use Rattle.clauses.specs.Variables.{pair_variable, in_variable}
use Rattle.clauses.specs.Clauses.{Clause, clauses_of}
use Rattle.clauses.specs.Meaning.{Truth, clause_true, Satisfies}
use Rattle.clauses.specs.Models.{mask_up_to, joined_to, placed_by, placed_up_to, model_said}
use Rattle.clauses.proofs.VariableLaws.{Numbered, pair_numbered, in_numbered}
use Rattle.clauses.proofs.DeclaredLaws.{Declared, every_declared}
use Rattle.clauses.proofs.PlacedLaws.{Joins, joins, placed_long, placed_next}

-- the two agree on the variables that there are
abbrev pub Agree : ℕ → ℕ → Truth → Truth → Type 0
Agree terms sets truth other = (v : ℕ) → Numbered terms sets v → truth v ≡ other v

module _ (terms sets : ℕ) (truth other : Truth) (agree : Agree terms sets truth other) where
  mask_local : (n c : ℕ) → n ≤ sets → c < terms → mask_up_to terms sets truth n c ≡ mask_up_to terms sets other n c
  unfolding mask_up_to
  mask_local zero c le ct = refl
  mask_local (suc n) c le ct = rw (mask_local n c (omega arith) ct, agree (in_variable terms sets c n) (in_numbered terms sets c n ct le))

  joined_local : (d : ℕ) → d < terms → joined_to terms sets truth d ≡ joined_to terms sets other d
  joined_local d dt = first_passing_one d (λ c. truth (pair_variable terms sets c d)) (joined_to terms sets other d) (carry (joined_to terms sets other d) (joins terms sets other d))
    where
      pair : (c : ℕ) → c < d → truth (pair_variable terms sets c d) ≡ other (pair_variable terms sets c d)
      pair c cd = agree (pair_variable terms sets c d) (pair_numbered terms sets c d cd dt)

      carry : (o : Option ℕ) → Joins terms sets other d o → Joins terms sets truth d o
      carry none h = λ c cd. pair c cd ∙ h c cd
      carry (some c) h = (h.0, pair c h.0 ∙ h.1, λ b bc. pair b (omega (arith, h.0)) ∙ h.2 b bc)

  by_local : (sol : Solution) (o : Option ℕ) → length sol.arrangement < terms → placed_by terms sets truth sol o ≡ placed_by terms sets other sol o
  by_local sol none lt = ap (λ m. with_masks (sol.arrangement ++ (classes sol.arrangement ∷ [])) (sol.masks ++ (m ∷ []))) (mask_local sets (length sol.arrangement) (omega arith) lt)
  by_local sol (some c) lt = refl

  placed_local : (d : ℕ) → d ≤ terms → placed_up_to terms sets truth d ≡ placed_up_to terms sets other d
  unfolding placed_up_to
  placed_local zero le = refl
  placed_local (suc d) le =
      placed_next terms sets truth d
      ∙ ap (λ o. placed_by terms sets truth (placed_up_to terms sets truth d) o) (joined_local d le)
      ∙ ap (λ s. placed_by terms sets truth s (joined_to terms sets other d)) (placed_local d (omega arith))
      ∙ by_local (placed_up_to terms sets other d) (joined_to terms sets other d) (omega (arith, placed_long terms sets other d))
      ∙ sym (placed_next terms sets other d)

  -- they say one model
  pub model_local : model_said terms sets truth ≡ model_said terms sets other
  model_local = placed_local terms (omega arith)

  clause_local : (c : Clause) → Every (Declared terms sets) c → clause_true truth c ≡ clause_true other c
  clause_local [] h = refl
  clause_local (l ∷ ls) h = cc (agree l.variable h.0, clause_local ls h.1)

-- and satisfy the clauses of an accepted question together
pub satisfies_local : (q : Question) → IsAccepted q → (truth other : Truth) → Agree (terms_of q) q.sets truth other → Satisfies truth (clauses_of q) → Satisfies other (clauses_of q)
satisfies_local q accepted truth other agree h =
    subst T (all_same (λ c. Every (Declared (terms_of q) q.sets) c) (clause_true truth) (clause_true other) (clause_local (terms_of q) q.sets truth other agree) (clauses_of q) (every_declared q accepted)) h
