-- Each way in which a call of `sayfudhoum_solved` ends, exactly if the file, the lines and the buffer are so; and what a right solver gets.
use Rattle.std.proofs.Common.{Ok, Err, None}
use Prim.Native.Nat.{ℕ, ◌+◌, ◌*◌, ◌%◌, ◌^◌, ◌≤◌, ◌<◌}
use mathlib.Core.Path.{◌≡◌, refl, sym, ap, subst, fun_ext, ◌∙◌}
use mathlib.Core.List.{List}
use mathlib.Core.Logic.{◌↔◌, inl, inr}
use mathlib.Core.Option.{some}
use native.Mathlib.Omega.{arith}
use native.Mathlib.Nat.{lt_of_le_of_lt, le_trans}
use lib.ListN.{length}
use Rattle.outcome.specs.declared.refusals.Refusal.{Refusal}
use Rattle.outcome.specs.Calls.{Call}
use Rattle.outcome.specs.Refusals.{refusal, bad_lines}
use Rattle.outcome.specs.Writes.{over}
use Rattle.outcome.proofs.Never.{never}
use Rattle.text.specs.declared.literals.Literal.{Literal}
use Rattle.outcome.specs.Checks.{outcome_of}
use Rattle.question.specs.Questions.{terms_of}
use Rattle.question_file.specs.Reads.{read_question, asked}
use Rattle.question_file.proofs.RefusalLaws.{refusal_told}
use Rattle.theory.specs.Solutions.{Solution}
use Rattle.theory.specs.Answers.{mask_bound}
use Rattle.answer.specs.Answers.{IsArranged}
use Rattle.answer.specs.Bytes.{file_of, longest_answer}
use Rattle.answer.proofs.AnswerLaws.{some_length}
use Rattle.answer.proofs.MayLaws.{may_few}
use Rattle.judge.specs.Judgements.{judged}
use Rattle.judge.specs.Shown.{model_shown}
use Rattle.judge.proofs.ShownLaws.{judge_yes}
use Rattle.clauses.specs.Clauses.{clauses_of}
use Rattle.clauses.specs.Meaning.{Satisfies}
use Rattle.clauses.proofs.CountLaws.{few_variables}
use Rattle.clauses.proofs.PlacedLaws.{model_placed}
use Rattle.clauses.proofs.Satisfiable.{model_from, satisfied_solves}
use Rattle.lines.specs.declared.readings.Stage.TheVariants.{Valued}
use Rattle.lines.specs.Sentences.{truth_in, SaysModel, SaysUnsatisfiable, OfForm}
use Rattle.lines.specs.Values.{truth_of}
use Rattle.lines.specs.Reads.{lines_read, reading_of}
use Rattle.lines.proofs.SentenceLaws.{unsatisfiable_reads, model_reads}
use Rattle.sayfudhoum.proofs.PlaceLaws.{place_told}
use Rattle.sayfudhoum.proofs.EndToEnd.{question_accepted, refused_ok}
use Rattle.sayfudhoum.proofs.Exactness.{Tells, tells_one, file_tells}
use Rattle.sayfudhoum.proofs.exports.sayfudhoum_solved.Reads as solved_call
use Rattle.lines.proofs.FormLaws.{bad_exactly}
use Rattle.sayfudhoum.proofs.SolvedEnds.{variables_in, IsSaid, IsGood, Fails, Takes, file_refused, unformed_lines, unsatisfiable, model_failing, too_short, answered, said_good, solved_ends, Counts, solved_answer_bytes}

-- lines say one model at most, and not unsatisfiable beside it
module _ (bytes lines : List ℕ) where
  reads : (sol : Solution) (s : IsSaid bytes lines sol) → let read = lines_read (variables_in bytes) lines in
      (outcome_of read ≡ Ok tt) × ((reading_of read).stage ≡ Valued) × ((v : ℕ) → truth_of (reading_of read).values v ≡ truth_in s.literals v)
  reads sol s = model_reads (variables_in bytes) lines (few_variables (asked (read_question bytes)) (question_accepted bytes s.file_accepted).0) s.literals s.says

  pub said_one : (sol other : Solution) → IsSaid bytes lines sol → IsSaid bytes lines other → sol ≡ other
  said_one sol other s t =
      let a = fun_ext (reads sol s).2 in
      let b = fun_ext (reads other t).2 in
      s.model ∙ ap (model_from (asked (read_question bytes))) (sym a ∙ b) ∙ sym t.model

  not_both_said : {A : Type 0} (sol : Solution) → IsSaid bytes lines sol → SaysUnsatisfiable lines → A
  not_both_said sol s u =
      let both = sym (reads sol s).1 ∙ (unsatisfiable_reads (variables_in bytes) lines u).1 in
      never cc

  not_said_bad : {A : Type 0} {r : Refusal} (sol : Solution) → IsSaid bytes lines sol → outcome_of (lines_read (variables_in bytes) lines) ≡ Err r → A
  not_said_bad sol s p = refused_ok p (reads sol s).0

  not_word_bad : {A : Type 0} {r : Refusal} → SaysUnsatisfiable lines → outcome_of (lines_read (variables_in bytes) lines) ≡ Err r → A
  not_word_bad u p = refused_ok p (unsatisfiable_reads (variables_in bytes) lines u).0

  -- no model that is said has a longer file than the longest
  said_short : (sol : Solution) → IsSaid bytes lines sol → length (file_of (some sol)) ≤ longest_answer
  said_short sol s =
      let q = (asked (read_question bytes)) in
      let p = model_placed (terms_of q) q.sets (truth_in s.literals) in
      let w : IsArranged (terms_of q) (mask_bound q) (model_from q (truth_in s.literals)) = record { arranged = p.arranged; each_term = p.long; each_class = p.each_class; masks_below = p.masks_below } in
      let m = model_from q (truth_in s.literals) in
      let size : length (file_of (some m)) ≤ longest_answer = omega (arith, some_length m, w.each_term, w.each_class, may_few (terms_of q) (mask_bound q) m w, (question_accepted bytes s.file_accepted).0.few_terms) in
      subst (λ x. length (file_of (some x)) ≤ longest_answer) (sym s.model) size

-- a call of `sayfudhoum_solved` on a file and a solver's lines, with a buffer
module _ (c : Call solved_call.Learnt) where
  abbrev file : List ℕ
  file = c.given.0.now

  abbrev lines : List ℕ
  lines = c.given.1.0.now

  abbrev old : List ℕ
  old = c.given.1.1.0.now

  abbrev new : List ℕ
  new = c.exit.1.1.0.now

  -- 0 exactly if the file is accepted and the lines say unsatisfiable, which is the solver's word alone
  pub solved_zero_exactly : (c.result ≡ 0) ↔ ((outcome_of (read_question file) ≡ Ok tt) × SaysUnsatisfiable lines)
  solved_zero_exactly = (λ e. means e (solved_ends c), λ p. gives p.0 p.1 (solved_ends c))
    where
      means : c.result ≡ 0 → Takes file lines old c.result new → (outcome_of (read_question file) ≡ Ok tt) × SaysUnsatisfiable lines
      means e (file_refused r p n b) = let t = (refusal_told file r p).0 in absurd (omega (arith, e, n, t.0))
      means e (unformed_lines at p x h n b) = absurd (omega (arith, e, n))
      means e (unsatisfiable p u n b) = (p, u)
      means e (model_failing sol s f n b) = absurd (omega (arith, e, n))
      means e (too_short sol g h n b) = absurd (omega (arith, e, n))
      means e (answered sol g h n b) = absurd (omega (arith, e, n, some_length sol))

      gives : outcome_of (read_question file) ≡ Ok tt → SaysUnsatisfiable lines → Takes file lines old c.result new → c.result ≡ 0
      gives p u (file_refused r x n b) = refused_ok x p
      gives p u (unformed_lines at x y h n b) = not_word_bad file lines u y
      gives p u (unsatisfiable x y n b) = n
      gives p u (model_failing sol s f n b) = not_both_said file lines sol s u
      gives p u (too_short sol g h n b) = not_both_said file lines sol g.said u
      gives p u (answered sol g h n b) = not_both_said file lines sol g.said u

  -- an answer exactly if the lines say a model to which the judge says yes, and there is room for it
  pub solved_answered_exactly : ((n : ℕ) × Counts c n) ↔ ((sol : Solution) × IsGood file lines sol × (length (file_of (some sol)) ≤ length old))
  solved_answered_exactly = (λ k. means k.0 k.1.0 k.1.1 (solved_ends c), λ p. gives p.0 p.1 p.2 (solved_ends c))
    where
      means : (n : ℕ) → 0 < n → c.result ≡ n * 256 → Takes file lines old c.result new → (sol : Solution) × IsGood file lines sol × (length (file_of (some sol)) ≤ length old)
      means n any e (file_refused r p m b) = let t = (refusal_told file r p).0 in absurd (omega (arith, e, m, t.0, t.1))
      means n any e (unformed_lines at p x h m b) = absurd (omega (arith, e, m))
      means n any e (unsatisfiable p u m b) = absurd (omega (arith, e, m, any))
      means n any e (model_failing sol s f m b) = absurd (omega (arith, e, m))
      means n any e (too_short sol g h m b) = absurd (omega (arith, e, m))
      means n any e (answered sol g h m b) = (sol, g, h)

      gives : (sol : Solution) → IsGood file lines sol → length (file_of (some sol)) ≤ length old → Takes file lines old c.result new → (n : ℕ) × Counts c n
      gives sol g room (file_refused r p m b) = refused_ok p g.said.file_accepted
      gives sol g room (unformed_lines at p x h m b) = not_said_bad file lines sol g.said x
      gives sol g room (unsatisfiable p u m b) = not_both_said file lines sol g.said u
      gives sol g room (model_failing other s f m b) = absurd (f (subst (λ x. judged (asked (read_question file)) (model_shown x) ≡ Ok None) (said_one file lines sol other g.said s) g.judged_yes))
      gives sol g room (too_short other k h m b) = absurd (omega (arith, room, h, ap (λ x. length (file_of (some x))) (said_one file lines sol other g.said k.said)))
      gives sol g room (answered other k h m b) = (length (file_of (some other)), (omega (arith, some_length other), m))

  -- 13 in the lowest byte exactly if the file is accepted and the lines have neither of the two forms of document 02
  pub solved_lines_exactly : ((place : ℕ) × (c.result ≡ place * 256 + 13)) ↔ ((outcome_of (read_question file) ≡ Ok tt) × (OfForm (variables_in file) lines → ⊥))
  solved_lines_exactly = (λ k. means k.0 k.1 (solved_ends c), λ p. gives p.0 p.1 (solved_ends c))
    where
      means : (place : ℕ) → c.result ≡ place * 256 + 13 → Takes file lines old c.result new → (outcome_of (read_question file) ≡ Ok tt) × (OfForm (variables_in file) lines → ⊥)
      means place e (file_refused r p m b) = let t = (refusal_told file r p).0 in absurd (omega (arith, e, m, t.0, t.1))
      means place e (unformed_lines at p x h m b) = (p, (bad_exactly (variables_in file) lines (few_variables (asked (read_question file)) (question_accepted file p).0)).0 (at, x))
      means place e (unsatisfiable p u m b) = absurd (omega (arith, e, m))
      means place e (model_failing sol s f m b) = absurd (omega (arith, e, m))
      means place e (too_short sol g h m b) = absurd (omega (arith, e, m))
      means place e (answered sol g h m b) = absurd (omega (arith, e, m))

      gives : outcome_of (read_question file) ≡ Ok tt → (OfForm (variables_in file) lines → ⊥) → Takes file lines old c.result new → (place : ℕ) × (c.result ≡ place * 256 + 13)
      gives p unformed (file_refused r x m b) = refused_ok x p
      gives p unformed (unformed_lines at x y h m b) = (at % 2 ^ 56, m)
      gives p unformed (unsatisfiable x u m b) = absurd (unformed (inr u))
      gives p unformed (model_failing sol s f m b) = absurd (unformed (inl (s.literals, s.says)))
      gives p unformed (too_short sol g h m b) = absurd (unformed (inl (g.said.literals, g.said.says)))
      gives p unformed (answered sol g h m b) = absurd (unformed (inl (g.said.literals, g.said.says)))

  -- in lines that are shorter than 2^56 bytes its place is that of the refused line
  pub solved_place_exactly : length lines < 2 ^ 56 → (place : ℕ) →
      (c.result ≡ place * 256 + 13) ↔ ((outcome_of (read_question file) ≡ Ok tt) × (outcome_of (lines_read (variables_in file) lines) ≡ Err (refusal bad_lines place)))
  solved_place_exactly few place = (λ e. means e (solved_ends c), λ p. gives p.0 p.1 (solved_ends c))
    where
      told : (at : ℕ) → at ≤ length lines → at % 2 ^ 56 * 256 + 13 ≡ at * 256 + 13
      told at h = place_told (refusal bad_lines at) (lt_of_le_of_lt h few)

      means : c.result ≡ place * 256 + 13 → Takes file lines old c.result new → (outcome_of (read_question file) ≡ Ok tt) × (outcome_of (lines_read (variables_in file) lines) ≡ Err (refusal bad_lines place))
      means e (file_refused r p m b) = let t = (refusal_told file r p).0 in absurd (omega (arith, e, m, t.0, t.1))
      means e (unformed_lines at p x h m b) = let sum = sym e ∙ m ∙ told at h in let same : at ≡ place = omega (arith, sum) in (p, x ∙ ap (λ n. Err (refusal bad_lines n)) same)
      means e (unsatisfiable p u m b) = absurd (omega (arith, e, m))
      means e (model_failing sol s f m b) = absurd (omega (arith, e, m))
      means e (too_short sol g h m b) = absurd (omega (arith, e, m))
      means e (answered sol g h m b) = absurd (omega (arith, e, m))

      gives : outcome_of (read_question file) ≡ Ok tt → outcome_of (lines_read (variables_in file) lines) ≡ Err (refusal bad_lines place) → Takes file lines old c.result new → c.result ≡ place * 256 + 13
      gives p x (file_refused r y m b) = refused_ok y p
      gives p x (unformed_lines at y z h m b) = let both = sym z ∙ x in let same : refusal bad_lines at ≡ refusal bad_lines place = cc in m ∙ told at h ∙ ap (λ r. r.place * 256 + 13) same
      gives p x (unsatisfiable y u m b) = not_word_bad file lines u x
      gives p x (model_failing sol s f m b) = not_said_bad file lines sol s x
      gives p x (too_short sol g h m b) = not_said_bad file lines sol g.said x
      gives p x (answered sol g h m b) = not_said_bad file lines sol g.said x

  -- 14 exactly if the lines say a model to which the judge doesn't say yes
  pub solved_fails_exactly : (c.result ≡ 14) ↔ ((sol : Solution) × IsSaid file lines sol × Fails file sol)
  solved_fails_exactly = (λ e. means e (solved_ends c), λ p. gives p.0 p.1 p.2 (solved_ends c))
    where
      means : c.result ≡ 14 → Takes file lines old c.result new → (sol : Solution) × IsSaid file lines sol × Fails file sol
      means e (file_refused r p m b) = let t = (refusal_told file r p).0 in absurd (omega (arith, e, m, t.0, t.1))
      means e (unformed_lines at p x h m b) = absurd (omega (arith, e, m))
      means e (unsatisfiable p u m b) = absurd (omega (arith, e, m))
      means e (model_failing sol s f m b) = (sol, s, f)
      means e (too_short sol g h m b) = absurd (omega (arith, e, m))
      means e (answered sol g h m b) = absurd (omega (arith, e, m))

      unlike : {A : Type 0} (sol other : Solution) → IsSaid file lines sol → Fails file sol → IsGood file lines other → A
      unlike sol other s f g = absurd (f (subst (λ x. judged (asked (read_question file)) (model_shown x) ≡ Ok None) (said_one file lines other sol g.said s) g.judged_yes))

      gives : (sol : Solution) → IsSaid file lines sol → Fails file sol → Takes file lines old c.result new → c.result ≡ 14
      gives sol s f (file_refused r p m b) = refused_ok p s.file_accepted
      gives sol s f (unformed_lines at p x h m b) = not_said_bad file lines sol s x
      gives sol s f (unsatisfiable p u m b) = not_both_said file lines sol s u
      gives sol s f (model_failing other t k m b) = m
      gives sol s f (too_short other g h m b) = unlike sol other s f g
      gives sol s f (answered other g h m b) = unlike sol other s f g

  -- 10 exactly if there is no room for a model that is said and to which the judge says yes
  pub solved_short_exactly : (c.result ≡ 10) ↔ ((sol : Solution) × IsGood file lines sol × (length old < length (file_of (some sol))))
  solved_short_exactly = (λ e. means e (solved_ends c), λ p. gives p.0 p.1 p.2 (solved_ends c))
    where
      means : c.result ≡ 10 → Takes file lines old c.result new → (sol : Solution) × IsGood file lines sol × (length old < length (file_of (some sol)))
      means e (file_refused r p m b) = let t = (refusal_told file r p).0 in absurd (omega (arith, e, m, t.0, t.1))
      means e (unformed_lines at p x h m b) = absurd (omega (arith, e, m))
      means e (unsatisfiable p u m b) = absurd (omega (arith, e, m))
      means e (model_failing sol s f m b) = absurd (omega (arith, e, m))
      means e (too_short sol g h m b) = (sol, g, h)
      means e (answered sol g h m b) = absurd (omega (arith, e, m))

      gives : (sol : Solution) → IsGood file lines sol → length old < length (file_of (some sol)) → Takes file lines old c.result new → c.result ≡ 10
      gives sol g short (file_refused r p m b) = refused_ok p g.said.file_accepted
      gives sol g short (unformed_lines at p x h m b) = not_said_bad file lines sol g.said x
      gives sol g short (unsatisfiable p u m b) = not_both_said file lines sol g.said u
      gives sol g short (model_failing other s f m b) = absurd (f (subst (λ x. judged (asked (read_question file)) (model_shown x) ≡ Ok None) (said_one file lines sol other g.said s) g.judged_yes))
      gives sol g short (too_short other k h m b) = m
      gives sol g short (answered other k h m b) = absurd (omega (arith, short, h, ap (λ x. length (file_of (some x))) (said_one file lines sol other g.said k.said)))

  -- with room for the longest answer it never comes
  pub solved_bound : longest_answer ≤ length old → c.result ≡ 10 → ⊥
  solved_bound room e = let s = solved_short_exactly.0 e in absurd (omega (arith, room, s.2, said_short file lines s.0 s.1.said))

  -- another number whose lowest byte is not 0 exactly if the file is refused, with this number at this place
  pub solved_refused_exactly : (r : Refusal) → (Tells c.result r × (r.number < 10)) ↔ (outcome_of (read_question file) ≡ Err r)
  solved_refused_exactly r = (λ t. told t.0 t.1 (solved_ends c), λ p. gives p (solved_ends c))
    where
      told : Tells c.result r → r.number < 10 → Takes file lines old c.result new → outcome_of (read_question file) ≡ Err r
      told t small (file_refused s p m b) = p ∙ ap Err (tells_one c.result s r (file_tells file s c.result p m).0 t)
      told t small (unformed_lines at p x h m b) = absurd (omega (arith, t.0, t.1, small, m))
      told t small (unsatisfiable p u m b) = absurd (omega (arith, t.0, t.1, m))
      told t small (model_failing sol s f m b) = absurd (omega (arith, t.0, t.1, small, m))
      told t small (too_short sol g h m b) = absurd (omega (arith, t.0, t.1, small, m))
      told t small (answered sol g h m b) = absurd (omega (arith, t.0, t.1, t.2, m))

      gives : outcome_of (read_question file) ≡ Err r → Takes file lines old c.result new → Tells c.result r × (r.number < 10)
      gives p (file_refused s x m b) = let same : s ≡ r = cc in rw same at (file_tells file s c.result x m)
      gives p (unformed_lines at x y h m b) = refused_ok p x
      gives p (unsatisfiable x u m b) = refused_ok p x
      gives p (model_failing sol s f m b) = refused_ok p s.file_accepted
      gives p (too_short sol g h m b) = refused_ok p g.said.file_accepted
      gives p (answered sol g h m b) = refused_ok p g.said.file_accepted

  -- a right solver: the lines say truth values that satisfy the clauses
  module _ (said : List Literal) (p : outcome_of (read_question file) ≡ Ok tt) (m : SaysModel (variables_in file) lines said) (right : Satisfies (truth_in said) (clauses_of (asked (read_question file)))) where
    -- the model that they say
    abbrev pub right_model : Solution
    right_model = model_from (asked (read_question file)) (truth_in said)

    -- the judge says yes to it
    pub right_good : IsGood file lines right_model
    right_good =
        let q = (asked (read_question file)) in
        let ok = (question_accepted file p).0 in
        said_good file lines p right_model (record { file_accepted = p; literals = said; says = m; model = refl }) (judge_yes q ok right_model (satisfied_solves q ok (truth_in said) right))

    -- so no refusal but 10 comes
    pub solved_right_solver : (r : Refusal) → Tells c.result r → r ≡ refusal 10 0
    solved_right_solver r t = go (solved_ends c)
      where
        go : Takes file lines old c.result new → r ≡ refusal 10 0
        go (file_refused s x n b) = refused_ok x p
        go (unformed_lines at x y h n b) = not_said_bad file lines right_model right_good.said y
        go (unsatisfiable x u n b) = not_both_said file lines right_model right_good.said u
        go (model_failing sol s f n b) = absurd (f (subst (λ x. judged (asked (read_question file)) (model_shown x) ≡ Ok None) (said_one file lines right_model sol right_good.said s) right_good.judged_yes))
        go (too_short sol g h n b) = tells_one c.result r (refusal 10 0) t (n, omega arith, omega arith)
        go (answered sol g h n b) = absurd (omega (arith, t.0, t.1, t.2, n))

    -- and with room for the longest answer the file of this model is written
    pub solved_right_answered : longest_answer ≤ length old → (c.result ≡ length (file_of (some right_model)) * 256) × (new ≡ over (file_of (some right_model)) old)
    solved_right_answered room = go (solved_answered_exactly.1 (right_model, right_good, le_trans (said_short file lines right_model right_good.said) room))
      where
        go : ((n : ℕ) × Counts c n) → (c.result ≡ length (file_of (some right_model)) * 256) × (new ≡ over (file_of (some right_model)) old)
        go (n, k) =
            let a = solved_answer_bytes c n k in
            let same = said_one file lines a.0 right_model a.1.said right_good.said in
            (k.1 ∙ ap (λ x. x * 256) (a.2 ∙ ap (λ x. length (file_of (some x))) same), a.4 ∙ ap (λ x. over (file_of (some x)) old) same)
