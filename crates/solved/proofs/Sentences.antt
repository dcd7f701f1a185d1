-- Document 02's sentence on a solver's lines, beside an accepted question: which text gets which outcome. 13 exactly for lines not of its form, 14 exactly for a model that the judge fails,
-- 10 and an answer exactly for one that it passes, the solver's word exactly where the text says it; and a text that says a right model is refused by 10 alone.
use Rattle.std.proofs.Common.{Ok, Err, Some, None}
use Prim.Native.Nat.{ℕ, ◌≤◌, ◌<◌}
use mathlib.Core.Path.{◌≡◌, refl, sym, ap, ◌∙◌}
use mathlib.Core.Bool.{Bool, true, false, cond}
use mathlib.Core.List.{List}
use mathlib.Core.Logic.{inl, inr, ⊎_elim, ◌↔◌}
use mathlib.Core.Option.{some}
use native.Mathlib.Omega.{arith}
use lib.ListN.{length}
use Rattle.outcome.specs.declared.refusals.Refusal.{Refusal}
use Rattle.outcome.specs.Writes.{Written}
use Rattle.outcome.specs.Refusals.{refusal, buffer_too_short, bad_lines, model_fails}
use Rattle.outcome.specs.Writes.{fitted, fitted_over}
use Rattle.outcome.proofs.Never.{never}
use Rattle.outcome.proofs.WriteLaws.{fits, too_short, counted}
use Rattle.text.specs.declared.literals.Literal.{Literal}
use Rattle.question.specs.declared.questions.Question.{Question}
use Rattle.question.specs.Questions.{terms_of}
use Rattle.question.specs.Checks.{checked, IsAccepted}
use Rattle.question.proofs.AcceptedLaws.{accepted}
use Rattle.theory.specs.Solutions.{Solution}
use Rattle.answer.specs.Bytes.{file_of}
use Rattle.judge.proofs.ShownLaws.{judge_yes}
use Rattle.lines.specs.declared.readings.Reading.{Reading}
use Rattle.lines.specs.Values.{most_variables, truth_of}
use Rattle.lines.specs.Reads.{reading_of, lines_read}
use Rattle.lines.specs.Sentences.{truth_in, SaysModel, SaysUnsatisfiable, OfForm}
use Rattle.lines.proofs.SentenceLaws.{reads_unsatisfiable, unsatisfiable_reads, model_reads}
use Rattle.lines.proofs.FormLaws.{accepted_or_bad, accepted_exactly, bad_exactly}
use Rattle.clauses.specs.Clauses.{clauses_of}
use Rattle.clauses.specs.Meaning.{Satisfies}
use Rattle.clauses.proofs.CountLaws.{few_variables}
use Rattle.clauses.proofs.LocalLaws.{model_local}
use Rattle.clauses.proofs.Satisfiable.{model_from, satisfied_solves}
use Rattle.solved.specs.Solved.{Solved, is_yes, as_solved, failed, variables_of, passed, model_solved, model_over, question_solved, question_solved_over}
use Rattle.solved.proofs.JudgingLaws.{reading_valued, reading_not_valued}
use Rattle.solved.proofs.SolvingLaws.{lines_refused, lines_accepted, table_accepted}
use Rattle.solved.proofs.Solvers.{only_ten, word_only}

refused_same : {r s : Refusal} → ◌≡◌ {A = Solved} (Err r) (Err s) → r ≡ s
refused_same e = cc

-- two refusals with different numbers
numbers_differ : {A : Type 0} {m n i j : ℕ} → (m ≡ n → ⊥) → ◌≡◌ {A = Solved} (Err (refusal m i)) (Err (refusal n j)) → A
numbers_differ h e = absurd (h (ap (λ r. r.number) (refused_same e)))

-- the text says a model of the question's variables, of which P holds
pub record SaysModelThat (q : Question) (text : List ℕ) (P : Solution → Type 0) : Type 0 where
  pub said : List Literal
  pub says : SaysModel (variables_of q) text said
  pub that : P (model_from q (truth_in said))

-- the judge passes a model, or fails it
abbrev pub Passes : Question → Solution → Type 0
Passes q sol = passed q sol ≡ true

abbrev pub Fails : Question → Solution → Type 0
Fails q sol = passed q sol ≡ false

-- what a text is beside a question
data Beside (q : Question) (text : List ℕ) : Type 0 where
  Formless : (OfForm (variables_of q) text → ⊥) → Beside q text
  Word : SaysUnsatisfiable text → Beside q text
  Failing : SaysModelThat q text (Fails q) → Beside q text
  Passing : SaysModelThat q text (Passes q) → Beside q text

module _ (q : Question) (ok : IsAccepted q) (text old : List ℕ) where
  abbrev answer : Solved
  answer = question_solved q text (length old)

  abbrev after : List ℕ
  after = question_solved_over q text old

  abbrev reading : Reading
  reading = reading_of (lines_read (variables_of q) text)

  few : variables_of q ≤ most_variables
  few = few_variables q ok

  table : checked q ≡ Ok tt
  table = (accepted q).1 ok

  -- a text that says a model: its model is judged, then written
  pub model_called : (said : List Literal) → SaysModel (variables_of q) text said →
      (question_solved q text (length old) ≡ model_solved q (model_from q (truth_in said)) (length old)) × (question_solved_over q text old ≡ model_over q (model_from q (truth_in said)) old)
  model_called said m =
      let r = model_reads (variables_of q) text few said m in
      let t = table_accepted q text old table in
      let l = lines_accepted q text old r.0 in
      let v = reading_valued q reading old r.1 in
      let same : model_from q (truth_of reading.values) ≡ model_from q (truth_in said) = model_local (terms_of q) q.sets (truth_of reading.values) (truth_in said) (λ v n. r.2 v) in
      (t.0 ∙ l.0 ∙ v.0 ∙ ap (λ s. model_solved q s (length old)) same, t.1 ∙ l.1 ∙ v.1 ∙ ap (λ s. model_over q s old) same)

  -- one that says unsatisfiable
  word_called : SaysUnsatisfiable text → (answer ≡ Ok None) × (after ≡ old)
  word_called u =
      let r = unsatisfiable_reads (variables_of q) text u in
      let t = table_accepted q text old table in
      let l = lines_accepted q text old r.0 in
      let v = reading_not_valued q reading old (λ e. let refuted = r.1 in never cc) in
      (t.0 ∙ l.0 ∙ v.0, t.1 ∙ l.1 ∙ v.1)

  -- one that says a right model: the model is answered, and refused by 10 alone, never by 13 or 14
  module _ (said : List Literal) (says : SaysModel (variables_of q) text said) (right : Satisfies (truth_in said) (clauses_of q)) where
    right_passes : passed q (model_from q (truth_in said)) ≡ true
    right_passes = ap is_yes (judge_yes q ok (model_from q (truth_in said)) (satisfied_solves q ok (truth_in said) right))

    pub model_says :
        let file = file_of (some (model_from q (truth_in said))) in (question_solved q text (length old) ≡ as_solved (fitted file (length old))) × (question_solved_over q text old ≡ fitted_over file old)
    model_says =
        let c = model_called said says in
        let file = file_of (some (model_from q (truth_in said))) in
        (c.0 ∙ ap (λ b. cond b (as_solved (fitted file (length old))) failed) right_passes, c.1 ∙ ap (λ b. cond b (fitted_over file old) old) right_passes)

    pub model_refused : (r : Refusal) → question_solved q text (length old) ≡ Err r → (length old < length (file_of (some (model_from q (truth_in said))))) × (r ≡ refusal buffer_too_short 0)
    model_refused r e = only_ten (file_of (some (model_from q (truth_in said)))) (length old) r (sym model_says.0 ∙ e)

  -- refused by a number, at some place
  abbrev pub RefusedBy : ℕ → Type 0
  RefusedBy number = (place : ℕ) × (question_solved q text (length old) ≡ Err (refusal number place))

  beside : Beside q text
  beside = ⊎_elim (λ e. by_form ((accepted_exactly (variables_of q) text few).0 e)) (λ b. Formless ((bad_exactly (variables_of q) text few).0 b)) (accepted_or_bad (variables_of q) text)
    where
      by_judge : (said : List Literal) → SaysModel (variables_of q) text said → (b : Bool) → passed q (model_from q (truth_in said)) ≡ b → Beside q text
      by_judge said m true p = Passing (record { said = said; says = m; that = p })
      by_judge said m false p = Failing (record { said = said; says = m; that = p })

      by_form : OfForm (variables_of q) text → Beside q text
      by_form (inl m) = by_judge m.0 m.1 (passed q (model_from q (truth_in m.0))) refl
      by_form (inr u) = Word u

  -- and what it gets
  formless_gets : (OfForm (variables_of q) text → ⊥) → RefusedBy bad_lines
  formless_gets h =
      let b = (bad_exactly (variables_of q) text few).1 h in
      (b.0, (table_accepted q text old table).0 ∙ (lines_refused q text old b.1).0)

  failing_gets : SaysModelThat q text (Fails q) → answer ≡ failed
  failing_gets w = (model_called w.said w.says).0 ∙ ap (λ b. cond b (as_solved (fitted (file_of (some (model_from q (truth_in w.said)))) (length old))) failed) w.that

  passing_gets : (w : SaysModelThat q text (Passes q)) → answer ≡ as_solved (fitted (file_of (some (model_from q (truth_in w.said)))) (length old))
  passing_gets w = (model_called w.said w.says).0 ∙ ap (λ b. cond b (as_solved (fitted (file_of (some (model_from q (truth_in w.said)))) (length old))) failed) w.that

  passing_ten : (w : SaysModelThat q text (Passes q)) (r : Refusal) → answer ≡ Err r → (length old < length (file_of (some (model_from q (truth_in w.said))))) × (r ≡ refusal buffer_too_short 0)
  passing_ten w r e = only_ten (file_of (some (model_from q (truth_in w.said)))) (length old) r (sym (passing_gets w) ∙ e)

  -- 13 exactly for lines that neither say a model nor say unsatisfiable
  pub thirteen_exactly : RefusedBy bad_lines ↔ (OfForm (variables_of q) text → ⊥)
  thirteen_exactly = (λ b. to b beside, formless_gets)
    where
      to : RefusedBy bad_lines → Beside q text → OfForm (variables_of q) text → ⊥
      to (place, e) (Formless h) = h
      to (place, e) (Word u) = let word = sym (word_called u).0 ∙ e in never cc
      to (place, e) (Failing w) = numbers_differ (λ n. omega (arith, n)) (sym (failing_gets w) ∙ e)
      to (place, e) (Passing w) = numbers_differ (λ n. omega (arith, n)) (ap Err (passing_ten w (refusal bad_lines place) e).1)

  -- 14 exactly for a model that the judge fails, and its place is 0
  pub fourteen_exactly : RefusedBy model_fails ↔ SaysModelThat q text (Fails q)
  fourteen_exactly = (λ b. to b beside, λ w. (0, failing_gets w))
    where
      to : RefusedBy model_fails → Beside q text → SaysModelThat q text (Fails q)
      to (place, e) (Formless h) = numbers_differ (λ n. omega (arith, n)) (sym (formless_gets h).1 ∙ e)
      to (place, e) (Word u) = let word = sym (word_called u).0 ∙ e in never cc
      to (place, e) (Failing w) = w
      to (place, e) (Passing w) = numbers_differ (λ n. omega (arith, n)) (ap Err (passing_ten w (refusal model_fails place) e).1)

  pub fourteen_place : (place : ℕ) → question_solved q text (length old) ≡ Err (refusal model_fails place) → place ≡ 0
  fourteen_place place e = ap (λ r. r.place) (refused_same (sym e ∙ failing_gets (fourteen_exactly.0 (place, e))))

  -- 10 exactly for a model that the judge passes and that the buffer is too short for
  pub ten_exactly : RefusedBy buffer_too_short ↔ SaysModelThat q text (λ sol. Passes q sol × (length old < length (file_of (some sol))))
  ten_exactly = (λ b. to b beside, from)
    where
      to : RefusedBy buffer_too_short → Beside q text → SaysModelThat q text (λ sol. Passes q sol × (length old < length (file_of (some sol))))
      to (place, e) (Formless h) = numbers_differ (λ n. omega (arith, n)) (sym (formless_gets h).1 ∙ e)
      to (place, e) (Word u) = let word = sym (word_called u).0 ∙ e in never cc
      to (place, e) (Failing w) = numbers_differ (λ n. omega (arith, n)) (sym (failing_gets w) ∙ e)
      to (place, e) (Passing w) = record { said = w.said; says = w.says; that = (w.that, (passing_ten w (refusal buffer_too_short place) e).0) }

      from : SaysModelThat q text (λ sol. Passes q sol × (length old < length (file_of (some sol)))) → RefusedBy buffer_too_short
      from w =
          let file = file_of (some (model_from q (truth_in w.said))) in
          (0, passing_gets (record { said = w.said; says = w.says; that = w.that.0 }) ∙ ap as_solved (too_short file old w.that.1).0)

  -- an answer exactly for a model that the judge passes and that fits: its file, whose length is said
  pub answered_exactly : (n : ℕ) → (question_solved q text (length old) ≡ Ok (Some n)) ↔ SaysModelThat q text (λ sol. Passes q sol × (n ≡ length (file_of (some sol))) × (n ≤ length old))
  answered_exactly n = (λ e. to e beside, from)
    where
      as_count : (w : Written) → as_solved w ≡ Ok (Some n) → w ≡ Ok n
      as_count (Ok m) e = cc
      as_count (Err r) e = never cc

      in_room : (file : List ℕ) → as_solved (fitted file (length old)) ≡ Ok (Some n) → (n ≡ length file) × (n ≤ length old)
      in_room file e = let c = counted (Ok tt) file (length old) n (as_count (fitted file (length old)) e) in (c.1, omega (arith, c.1, c.2))

      to : answer ≡ Ok (Some n) → Beside q text → SaysModelThat q text (λ sol. Passes q sol × (n ≡ length (file_of (some sol))) × (n ≤ length old))
      to e (Formless h) = let b = formless_gets h in let refused = sym b.1 ∙ e in never cc
      to e (Word u) = let word = sym (word_called u).0 ∙ e in never cc
      to e (Failing w) = let refused = sym (failing_gets w) ∙ e in never cc
      to e (Passing w) = let f = in_room (file_of (some (model_from q (truth_in w.said)))) (sym (passing_gets w) ∙ e) in record { said = w.said; says = w.says; that = (w.that, f.0, f.1) }

      from : SaysModelThat q text (λ sol. Passes q sol × (n ≡ length (file_of (some sol))) × (n ≤ length old)) → answer ≡ Ok (Some n)
      from w =
          let file = file_of (some (model_from q (truth_in w.said))) in
          passing_gets (record { said = w.said; says = w.says; that = w.that.0 })
          ∙ ap as_solved (fits file old (omega (arith, w.that.1, w.that.2))).0
          ∙ ap (λ m. Ok (Some m)) (sym w.that.1)

  -- the solver's word exactly where the text says it
  pub word_exactly : (question_solved q text (length old) ≡ Ok None) ↔ SaysUnsatisfiable text
  word_exactly = (λ e. let w = (word_only q text old e).1 in reads_unsatisfiable (variables_of q) text w.stand w.refuted, λ u. (word_called u).0)
