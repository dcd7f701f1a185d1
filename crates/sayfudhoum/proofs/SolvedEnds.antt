-- A solver's lines for C, on the contract of `sayfudhoum_solved`: the ways in which a call ends, for all bytes and lines, and what its number and its buffer say whatever the solver did.
-- What lines say is document 02's sentence on them, and so is what they don't. SolvedExactly.antt has each way exactly if the file, the lines and the buffer are so.
use Rattle.std.proofs.Common.{Ok, Err, None}
use Prim.Native.Nat.{ℕ, ◌+◌, ◌*◌, ◌%◌, ◌^◌, ◌≤◌, ◌<◌}
use mathlib.Core.Path.{◌≡◌, refl, sym, ap, ap₂, subst, fun_ext, ◌∙◌}
use mathlib.Core.Bool.{Bool, true, false, cond}
use mathlib.Core.List.{List}
use mathlib.Core.Logic.{◌⊎◌, inl, inr}
use mathlib.Core.Option.{some}
use native.Mathlib.Omega.{arith}
use borrow.Author.Tests.{ltb-true, ltb-false}
use lib.Dec.{ltb}
use lib.ListN.{length, take}
use lib.Seq.{take-append_seam}
use Rattle.outcome.specs.declared.refusals.Refusal.{Refusal}
use Rattle.outcome.specs.Checks.{Check, outcome_of}
use Rattle.outcome.specs.Calls.{Call}
use Rattle.outcome.specs.Refusals.{refusal, bad_lines}
use Rattle.outcome.specs.Writes.{over, fitted, fitted_over}
use Rattle.outcome.proofs.Never.{never}
use Rattle.outcome.proofs.OverLaws.{over_length}
use Rattle.outcome.proofs.WriteLaws.{fits, too_short as not_fits}
use Rattle.text.specs.declared.literals.Literal.{Literal}
use Rattle.statement.specs.Meaning.{IsAssignment, AllHold}
use Rattle.question.specs.declared.questions.Question.{Question}
use Rattle.question.specs.Questions.{statements}
use Rattle.question.specs.Checks.{IsAccepted}
use Rattle.question_file.specs.Reads.{read_question, asked}
use Rattle.question_file.proofs.RefusalLaws.{refusal_told}
use Rattle.theory.specs.Solutions.{Solution}
use Rattle.answer.specs.Bytes.{file_of}
use Rattle.answer.proofs.AnswerLaws.{some_length}
use Rattle.judge.specs.Models.{assigned}
use Rattle.judge.specs.Judgements.{judged}
use Rattle.judge.specs.Shown.{model_shown}
use Rattle.judge.proofs.Verdicts.{yes_means, model_assigns}
use Rattle.clauses.proofs.CountLaws.{few_variables}
use Rattle.clauses.proofs.Satisfiable.{model_from}
use Rattle.lines.specs.declared.readings.Stage.TheVariants.{Valued, Refuted}
use Rattle.lines.specs.Sentences.{truth_in, SaysModel, SaysUnsatisfiable}
use Rattle.lines.specs.Values.{truth_of}
use Rattle.lines.specs.Reads.{lines_read, reading_of}
use Rattle.lines.proofs.SentenceLaws.{accepted_says, reads_unsatisfiable, reads_model}
use Rattle.solved.specs.Solved.{Solved, is_yes, as_solved, failed, variables_of, passed, model_solved, model_over, lines_solved, lines_over, file_solved, file_solved_over}
use Rattle.solved.proofs.JudgingLaws.{reading_valued, reading_not_valued}
use Rattle.solved.proofs.SolvingLaws.{lines_refused, lines_accepted, file_refused as solved_refused, file_accepted as solved_accepted}
use Rattle.solved.proofs.Solvers.{passed_yes, not_impossible}
use Rattle.sayfudhoum.specs.Numbers.{as_number, solved_number}
use Rattle.sayfudhoum.proofs.PlaceLaws.{lines_place, place_told}
use Rattle.sayfudhoum.proofs.EndToEnd.{IsImpossible, IsPossible, impossible_file, none_file, question_accepted, not_both}
use Rattle.sayfudhoum.proofs.Exactness.{Tells}
use Rattle.sayfudhoum.proofs.exports.sayfudhoum_solved.Reads as solved_call

-- how many variables the clauses of a file's question have
abbrev pub variables_in : List ℕ → ℕ
variables_in bytes = variables_of (asked (read_question bytes))

-- the file is accepted, and the lines say a model of its clauses' variables, of which this solution is made
pub record IsSaid (bytes lines : List ℕ) (sol : Solution) : Type 0 where
  pub file_accepted : outcome_of (read_question bytes) ≡ Ok tt
  pub literals : List Literal
  pub says : SaysModel (variables_in bytes) lines literals
  pub model : sol ≡ model_from (asked (read_question bytes)) (truth_in literals)

-- and the judge says yes to it: it is an assignment that meets every statement
pub record IsGood (bytes lines : List ℕ) (sol : Solution) : Type 0 where
  pub said : IsSaid bytes lines sol
  pub judged_yes : judged (asked (read_question bytes)) (model_shown sol) ≡ Ok None
  pub assignment : IsAssignment (asked (read_question bytes)).elements (assigned (model_shown sol))
  pub holding : AllHold (assigned (model_shown sol)) (statements (asked (read_question bytes)))

-- the judge doesn't
abbrev pub Fails : List ℕ → Solution → Type 0
Fails bytes sol = judged (asked (read_question bytes)) (model_shown sol) ≡ Ok None → ⊥

-- the ways in which `sayfudhoum_solved` ends: the number that it gives back, and the buffer that it leaves
pub data Takes (bytes lines old : List ℕ) (number : ℕ) (new : List ℕ) : Type 0 where
  file_refused : (r : Refusal) → outcome_of (read_question bytes) ≡ Err r → number ≡ r.place * 256 + r.number → new ≡ old → Takes bytes lines old number new
  unformed_lines : (at : ℕ) → outcome_of (read_question bytes) ≡ Ok tt → outcome_of (lines_read (variables_in bytes) lines) ≡ Err (refusal bad_lines at) → at ≤ length lines → number ≡ at % 2 ^ 56 * 256 + 13 → new ≡ old →
      Takes bytes lines old number new
  unsatisfiable : outcome_of (read_question bytes) ≡ Ok tt → SaysUnsatisfiable lines → number ≡ 0 → new ≡ old → Takes bytes lines old number new
  model_failing : (sol : Solution) → IsSaid bytes lines sol → Fails bytes sol → number ≡ 14 → new ≡ old → Takes bytes lines old number new
  too_short : (sol : Solution) → IsGood bytes lines sol → length old < length (file_of (some sol)) → number ≡ 10 → new ≡ old → Takes bytes lines old number new
  answered : (sol : Solution) → IsGood bytes lines sol → length (file_of (some sol)) ≤ length old → number ≡ length (file_of (some sol)) * 256 → new ≡ over (file_of (some sol)) old → Takes bytes lines old number new

-- a model that is said of an accepted file
module _ (bytes lines : List ℕ) (e : outcome_of (read_question bytes) ≡ Ok tt) where
  abbrev q : Question
  q = asked (read_question bytes)

  is : IsAccepted q
  is = (question_accepted bytes e).0

  -- the judge says yes to it
  pub said_good : (sol : Solution) → IsSaid bytes lines sol → judged q (model_shown sol) ≡ Ok None → IsGood bytes lines sol
  said_good sol s j =
      let sound = (yes_means q (model_shown sol)).0 j in
      record { said = s; judged_yes = j; assignment = model_assigns q.elements q.sets (model_shown sol) sound.model; holding = sound.all_hold }

  module _ (old : List ℕ) where
    -- what a call comes to, by what its definitions come to
    came : (x : Solved) (b : List ℕ) → file_solved bytes lines (length old) ≡ x → file_solved_over bytes lines old ≡ b → Takes bytes lines old (as_number x) b →
        Takes bytes lines old (solved_number bytes lines (length old)) (file_solved_over bytes lines old)
    unfolding solved_number
    came x b f g t = subst (λ y. Takes bytes lines old (as_number y) (file_solved_over bytes lines old)) (sym f) (subst (Takes bytes lines old (as_number x)) (sym g) t)

    -- the file first
    behind_file : (file_solved bytes lines (length old) ≡ lines_solved q lines (length old)) × (file_solved_over bytes lines old ≡ lines_over q lines old)
    behind_file = solved_accepted bytes lines old e

    lines_bad : (r : Refusal) → outcome_of (lines_read (variables_of q) lines) ≡ Err r → Takes bytes lines old (solved_number bytes lines (length old)) (file_solved_over bytes lines old)
    lines_bad r p =
        let l = lines_refused q lines old p in
        let at = lines_place (variables_of q) lines r p in
        came (Err r) old (behind_file.0 ∙ l.0) (behind_file.1 ∙ l.1)
        (unformed_lines r.place e (p ∙ ap (λ n. Err (refusal n r.place)) at.0) at.1 (ap (λ n. r.place % 2 ^ 56 * 256 + n) at.0) refl)

    lines_word : outcome_of (lines_read (variables_of q) lines) ≡ Ok tt → (reading_of (lines_read (variables_of q) lines)).stage ≡ Refuted → Takes bytes lines old (solved_number bytes lines (length old)) (file_solved_over bytes lines old)
    lines_word p s =
        let l = lines_accepted q lines old p in
        let w = reading_not_valued q (reading_of (lines_read (variables_of q) lines)) old (λ v. let both = sym s ∙ v in never cc) in
        came (Ok None) old (behind_file.0 ∙ l.0 ∙ w.0) (behind_file.1 ∙ l.1 ∙ w.1)
        (unsatisfiable e (reads_unsatisfiable (variables_of q) lines p s) refl refl)

    -- the model that they say
    module _ (sol : Solution) (said : IsSaid bytes lines sol) (f : file_solved bytes lines (length old) ≡ model_solved q sol (length old)) (g : file_solved_over bytes lines old ≡ model_over q sol old) where
      passing : passed q sol ≡ true → Takes bytes lines old (solved_number bytes lines (length old)) (file_solved_over bytes lines old)
      passing p = go (ltb (length old) (length (file_of (some sol)))) refl
        where
          f_passed : file_solved bytes lines (length old) ≡ as_solved (fitted (file_of (some sol)) (length old))
          f_passed = f ∙ ap (λ b. cond b (as_solved (fitted (file_of (some sol)) (length old))) failed) p

          g_passed : file_solved_over bytes lines old ≡ fitted_over (file_of (some sol)) old
          g_passed = g ∙ ap (λ b. cond b (fitted_over (file_of (some sol)) old) old) p

          ok : IsGood bytes lines sol
          ok = said_good sol said (passed_yes (judged q (model_shown sol)) p)

          go : (b : Bool) → ltb (length old) (length (file_of (some sol))) ≡ b → Takes bytes lines old (solved_number bytes lines (length old)) (file_solved_over bytes lines old)
          go true h =
              let short = ltb-true (length old) _ h in
              let w = not_fits (file_of (some sol)) old short in
              came _ old (f_passed ∙ ap as_solved w.0) (g_passed ∙ w.1) (too_short sol ok short refl refl)
          go false h =
              let room = ltb-false (length old) _ h in
              let w = fits (file_of (some sol)) old room in
              came _ _ (f_passed ∙ ap as_solved w.0) (g_passed ∙ w.1) (answered sol ok room refl refl)

      failing : passed q sol ≡ false → Takes bytes lines old (solved_number bytes lines (length old)) (file_solved_over bytes lines old)
      failing p =
          came failed old (f ∙ ap (λ b. cond b (as_solved (fitted (file_of (some sol)) (length old))) failed) p) (g ∙ ap (λ b. cond b (fitted_over (file_of (some sol)) old) old) p)
          (model_failing sol said (λ j. let both = sym p ∙ ap is_yes j in never cc) refl refl)

      by_judge : (b : Bool) → passed q sol ≡ b → Takes bytes lines old (solved_number bytes lines (length old)) (file_solved_over bytes lines old)
      by_judge true p = passing p
      by_judge false p = failing p

    lines_model : outcome_of (lines_read (variables_of q) lines) ≡ Ok tt → (reading_of (lines_read (variables_of q) lines)).stage ≡ Valued → Takes bytes lines old (solved_number bytes lines (length old)) (file_solved_over bytes lines old)
    lines_model p s =
        let l = lines_accepted q lines old p in
        let w = reading_valued q (reading_of (lines_read (variables_of q) lines)) old s in
        let m = reads_model (variables_of q) lines (few_variables q is) p s in
        let same : model_from q (truth_of (reading_of (lines_read (variables_of q) lines)).values) ≡ model_from q (truth_in m.0) = ap (model_from q) (fun_ext m.2) in
        let said : IsSaid bytes lines (model_from q (truth_in m.0)) = record { file_accepted = e; literals = m.0; says = m.1; model = refl } in
        by_judge (model_from q (truth_in m.0)) said (behind_file.0 ∙ l.0 ∙ w.0 ∙ ap (λ sol. model_solved q sol (length old)) same) (behind_file.1 ∙ l.1 ∙ w.1 ∙ ap (λ sol. model_over q sol old) same)
        (passed q (model_from q (truth_in m.0))) refl

    by_lines : (o : Check) → outcome_of (lines_read (variables_of q) lines) ≡ o → Takes bytes lines old (solved_number bytes lines (length old)) (file_solved_over bytes lines old)
    by_lines (Err r) p = lines_bad r p
    by_lines (Ok tt) p = go (accepted_says (variables_of q) lines p)
      where
        go : ((reading_of (lines_read (variables_of q) lines)).stage ≡ Valued) ⊎ ((reading_of (lines_read (variables_of q) lines)).stage ≡ Refuted) → Takes bytes lines old (solved_number bytes lines (length old)) (file_solved_over bytes lines old)
        go (inl s) = lines_model p s
        go (inr s) = lines_word p s

module _ (bytes lines old : List ℕ) where
  takes : Takes bytes lines old (solved_number bytes lines (length old)) (file_solved_over bytes lines old)
  unfolding solved_number
  takes = go (outcome_of (read_question bytes)) refl
    where
      go : (o : Check) → outcome_of (read_question bytes) ≡ o → Takes bytes lines old (as_number (file_solved bytes lines (length old))) (file_solved_over bytes lines old)
      go (Ok tt) p = by_lines bytes lines p old (outcome_of (lines_read (variables_in bytes) lines)) refl
      go (Err r) p =
          let k = solved_refused bytes lines old p in
          let small = (refusal_told bytes r p).1 in
          subst (λ y. Takes bytes lines old (as_number y) (file_solved_over bytes lines old)) (sym k.0) (file_refused r p (place_told r (omega (arith, small))) k.1)

-- a call of `sayfudhoum_solved` on a file and a solver's lines, with a buffer
module _ (c : Call solved_call.Learnt) where
  abbrev file : List ℕ
  file = c.given.0.now

  abbrev lines : List ℕ
  lines = c.given.1.0.now

  abbrev old : List ℕ
  old = c.given.1.1.0.now

  abbrev new : List ℕ
  new = c.exit.1.1.0.now

  -- it ends in one of those ways
  pub solved_ends : Takes file lines old c.result new
  solved_ends = subst (λ n. Takes file lines old n new) (sym c.fits.0) (subst (Takes file lines old (solved_number file lines (length old))) (sym c.fits.1) (takes file lines old))

  -- an answer was given: a count of bytes, which is not 0
  abbrev pub Counts : ℕ → Type 0
  Counts n = (0 < n) × (c.result ≡ n * 256)

  -- the bytes of an answer: the file of that model, with the rest of the buffer as it was
  pub solved_answer_bytes : (n : ℕ) → Counts n → (sol : Solution) × IsGood file lines sol × (n ≡ length (file_of (some sol))) × (n ≤ length old) × (new ≡ over (file_of (some sol)) old)
  solved_answer_bytes n k = go solved_ends
    where
      go : Takes file lines old c.result new → (sol : Solution) × IsGood file lines sol × (n ≡ length (file_of (some sol))) × (n ≤ length old) × (new ≡ over (file_of (some sol)) old)
      go (file_refused r p m b) = let t = (refusal_told file r p).0 in absurd (omega (arith, k.1, m, t.0, t.1))
      go (unformed_lines at p x h m b) = absurd (omega (arith, k.1, m))
      go (unsatisfiable p u m b) = absurd (omega (arith, k.1, m, k.0))
      go (model_failing sol s f m b) = absurd (omega (arith, k.1, m))
      go (too_short sol g h m b) = absurd (omega (arith, k.1, m))
      go (answered sol g h m b) = let same : n ≡ length (file_of (some sol)) = omega (arith, k.1, m) in (sol, g, same, omega (arith, h, same), b)

  -- whatever the solver did, an answer means that the file is possible, and its bytes are the file of a model in which every statement holds
  pub solved_answer_holds : (n : ℕ) → Counts n → IsPossible file × ((sol : Solution) × IsGood file lines sol × (n ≤ length new) × (take n new ≡ file_of (some sol)))
  solved_answer_holds n k = go (solved_answer_bytes n k)
    where
      go : (sol : Solution) × IsGood file lines sol × (n ≡ length (file_of (some sol))) × (n ≤ length old) × (new ≡ over (file_of (some sol)) old) →
          IsPossible file × ((sol : Solution) × IsGood file lines sol × (n ≤ length new) × (take n new ≡ file_of (some sol)))
      go (sol, g, same, room, b) = (
        record { file_accepted = g.said.file_accepted; some_assignment = record { by = assigned (model_shown sol); assignment = g.assignment; holding = g.holding } },
        (sol, g, omega (arith, room, ap length b, over_length (file_of (some sol)) old (omega (arith, room, same))), ap₂ take same b ∙ take-append_seam (file_of (some sol)) _),
      )

  -- so of an impossible file no lines are answered
  pub solved_impossible_unanswered : IsImpossible file → (n : ℕ) → Counts n → ⊥
  solved_impossible_unanswered i n k = not_both i (solved_answer_holds n k).0

  -- no call writes that the file is impossible: an answer's bytes differ from it, and without an answer the buffer is as it was
  pub solved_never_impossible : ((n : ℕ) → Counts n → take n new ≡ impossible_file → ⊥) × (((n : ℕ) → Counts n → ⊥) → new ≡ old)
  solved_never_impossible = (λ n k e. let h = (solved_answer_holds n k).1 in not_impossible h.0 (sym h.3 ∙ e ∙ sym none_file), λ k. go k solved_ends)
    where
      go : ((n : ℕ) → Counts n → ⊥) → Takes file lines old c.result new → new ≡ old
      go none_counted (file_refused r p m b) = b
      go none_counted (unformed_lines at p x h m b) = b
      go none_counted (unsatisfiable p u m b) = b
      go none_counted (model_failing sol s f m b) = b
      go none_counted (too_short sol g h m b) = b
      go none_counted (answered sol g h m b) = absurd (none_counted (length (file_of (some sol))) (omega (arith, some_length sol), m))

  -- with any number whose lowest byte is not 0 the buffer is as it was
  pub solved_refused_keeps : (r : Refusal) → Tells c.result r → new ≡ old
  solved_refused_keeps r t = solved_never_impossible.1 (λ n k. omega (arith, k.1, t.0, t.1, t.2))
