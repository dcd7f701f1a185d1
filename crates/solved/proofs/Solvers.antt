-- What a call says whatever the solver did. A right solver's model is answered, and refused by 10 alone. Whatever is answered is a model in which every statement holds.
-- Only such models are written: no call writes that a question is impossible, and the solver's word that it is writes nothing.
use Rattle.std.proofs.Common.{Ok, Err, Some, None}
use Prim.Native.Nat.{ℕ, ◌≤◌, ◌<◌}
use mathlib.Core.Path.{◌≡◌, refl, sym, ap, ◌∙◌}
use mathlib.Core.Bool.{Bool, true, false, cond}
use mathlib.Core.List.{List}
use mathlib.Core.Logic.{◌⊎◌, inl, inr, ⊎_elim}
use mathlib.Core.Option.{none, some}
use native.Mathlib.Omega.{arith}
use lib.ListN.{length, take, get_or}
use Rattle.outcome.specs.declared.refusals.Refusal.{Refusal}
use Rattle.outcome.specs.Checks.{Check, outcome_of}
use Rattle.outcome.specs.Writes.{Written}
use Rattle.outcome.specs.Refusals.{refusal, buffer_too_short}
use Rattle.outcome.specs.Writes.{fitted, fitted_over}
use Rattle.outcome.proofs.Never.{never}
use Rattle.outcome.proofs.WriteLaws.{counted, not_written, refused_keeps, at_front}
use Rattle.question.specs.declared.questions.Question.{Question}
use Rattle.question.specs.Questions.{statements, terms_of}
use Rattle.question.specs.Checks.{checked, IsAccepted}
use Rattle.question.proofs.AcceptedLaws.{accepted}
use Rattle.statement.specs.Meaning.{IsAssignment, AllHold, CanHold}
use Rattle.theory.specs.Solutions.{Solution}
use Rattle.theory.specs.Answers.{mask_bound}
use Rattle.answer.specs.Bytes.{file_of, longest_answer}
use Rattle.answer.proofs.AnswerLaws.{some_length}
use Rattle.answer.proofs.MayLaws.{may_few}
use Rattle.judge.specs.Models.{assigned}
use Rattle.judge.specs.Judgements.{Judgement, judged}
use Rattle.judge.specs.Shown.{model_shown}
use Rattle.judge.proofs.Verdicts.{yes_means, model_assigns}
use Rattle.judge.proofs.ShownLaws.{judge_yes}
use Rattle.lines.specs.declared.readings.Stage.{Stage}
use Rattle.lines.specs.declared.readings.Stage.TheVariants.{Start, Values, Valued, Refuted, Fault}
use Rattle.lines.specs.declared.readings.Reading.{Reading}
use Rattle.lines.specs.Values.{truth_of}
use Rattle.lines.specs.Reads.{reading_of, lines_read}
use Rattle.lines.proofs.SentenceLaws.{accepted_says}
use Rattle.clauses.specs.Clauses.{clauses_of}
use Rattle.clauses.specs.Meaning.{Satisfies}
use Rattle.clauses.proofs.Satisfiable.{satisfied_solves}
use Rattle.solved.specs.Solved.{Solved, is_yes, as_solved, failed, variables_of, model_of, passed, model_solved, model_over, reading_solved, reading_over, question_solved, question_solved_over}
use Rattle.solved.proofs.JudgingLaws.{model_arranged, few, reading_valued, reading_not_valued}
use Rattle.solved.proofs.SolvingLaws.{lines_refused, lines_accepted, table_refused, table_accepted}

-- yes is the only judgement that passes
pub passed_yes : (j : Judgement) → is_yes j ≡ true → j ≡ Ok None
passed_yes (Ok None) e = refl
passed_yes (Ok (Some i)) e = never cc
passed_yes (Err r) e = never cc

-- a stage that is not that of lines with every value
abbrev Unvalued : Stage → Type 0
Unvalued Start = Unit {0}
Unvalued Values = Unit {0}
Unvalued Valued = ⊥
Unvalued Refuted = Unit {0}
Unvalued Fault = Unit {0}

not_valued : {s : Stage} → s ≡ Valued → Unvalued s → ⊥
not_valued {s} e h = rw e at h

-- a model's outcome is never the solver's word
model_no_word : {A : Type 0} (b : Bool) (w : Written) → cond b (as_solved w) failed ≡ Ok None → A
model_no_word true (Ok n) e = never cc
model_no_word true (Err r) e = never cc
model_no_word false (Ok n) e = never cc
model_no_word false (Err r) e = never cc

-- what is to be written is refused by 10 alone
pub only_ten : (file : List ℕ) (room : ℕ) (r : Refusal) → as_solved (fitted file room) ≡ Err r → (room < length file) × (r ≡ refusal buffer_too_short 0)
only_ten file room r e = go (Ok tt) refl (not_written (Ok tt) file room r (as_refused (fitted file room) e))
  where
    as_refused : (w : Written) → as_solved w ≡ Err r → w ≡ Err r
    as_refused (Ok n) f = never cc
    as_refused (Err s) f = cc

    go : (c : Check) → c ≡ Ok tt → (c ≡ Err r) ⊎ ((c ≡ Ok tt) × (room < length file) × (r ≡ refusal buffer_too_short 0)) → (room < length file) × (r ≡ refusal buffer_too_short 0)
    go c p (inl f) = never cc
    go c p (inr f) = (f.1, f.2)

-- the verdict byte tells a model's file from that of an impossible question
pub not_impossible : (sol : Solution) → file_of (some sol) ≡ file_of none → ⊥
unfolding file_of
not_impossible sol e = let same = ap (λ l. get_or l 3 0) e in omega (arith, same)

-- no answer was given
abbrev pub NotAnswered : Solved → Type 0
NotAnswered (Ok (Some n)) = ⊥
NotAnswered (Ok None) = Unit {0}
NotAnswered (Err r) = Unit {0}

module _ (q : Question) (lines : List ℕ) where
  abbrev pub reading_in : Reading
  reading_in = reading_of (lines_read (variables_of q) lines)

  -- the lines can stand, and give every variable a value
  pub record IsValued : Type 0 where
    pub stand : outcome_of (lines_read (variables_of q) lines) ≡ Ok tt
    pub valued : reading_in.stage ≡ Valued

  -- the lines can stand, and say unsatisfiable
  pub record IsRefuted : Type 0 where
    pub stand : outcome_of (lines_read (variables_of q) lines) ≡ Ok tt
    pub refuted : reading_in.stage ≡ Refuted

  -- the model of those values
  abbrev pub model_in : Solution
  model_in = model_of q reading_in.values

  module _ (old : List ℕ) where
    abbrev answer : Solved
    answer = question_solved q lines (length old)

    abbrev after : List ℕ
    after = question_solved_over q lines old

    -- behind the table and the lines
    stood : checked q ≡ Ok tt → outcome_of (lines_read (variables_of q) lines) ≡ Ok tt → (answer ≡ reading_solved q reading_in (length old)) × (after ≡ reading_over q reading_in old)
    stood e p =
        let t = table_accepted q lines old e in
        let l = lines_accepted q lines old p in
        (t.0 ∙ l.0, t.1 ∙ l.1)

    word : checked q ≡ Ok tt → outcome_of (lines_read (variables_of q) lines) ≡ Ok tt → (reading_in.stage ≡ Valued → ⊥) → (answer ≡ Ok None) × (after ≡ old)
    word e p h =
        let s = stood e p in
        let r = reading_not_valued q reading_in old h in
        (s.0 ∙ r.0, s.1 ∙ r.1)

    judging : checked q ≡ Ok tt → IsValued → (answer ≡ model_solved q model_in (length old)) × (after ≡ model_over q model_in old)
    judging e v =
        let s = stood e v.stand in
        let r = reading_valued q reading_in old v.valued in
        (s.0 ∙ r.0, s.1 ∙ r.1)

    passing : checked q ≡ Ok tt → IsValued → passed q model_in ≡ true → (answer ≡ as_solved (fitted (file_of (some model_in)) (length old))) × (after ≡ fitted_over (file_of (some model_in)) old)
    passing e v p =
        let j = judging e v in
        (j.0 ∙ ap (λ b. cond b (as_solved (fitted (file_of (some model_in)) (length old))) failed) p, j.1 ∙ ap (λ b. cond b (fitted_over (file_of (some model_in)) old) old) p)

    -- an answer of n bytes was given
    pub record Answers (n : ℕ) : Type 0 where
      pub table : checked q ≡ Ok tt
      pub says : IsValued
      pub passes : passed q model_in ≡ true
      pub counts : fitted (file_of (some model_in)) (length old) ≡ Ok n

    abbrev Comes : Type 0
    Comes = ((n : ℕ) × Answers n) ⊎ (NotAnswered answer × (after ≡ old))

    kept : {x : Solved} → NotAnswered x → answer ≡ x → after ≡ old → Comes
    kept {x} un e f = inr (rw e un, f)

    -- an answer, or the buffer is as it was
    outcome : Comes
    outcome = by_table (checked q) refl
      where
        by_room : checked q ≡ Ok tt → IsValued → passed q model_in ≡ true → (w : Written) → fitted (file_of (some model_in)) (length old) ≡ w → Comes
        by_room e v p (Ok n) f = inl (n, record { table = e; says = v; passes = p; counts = f })
        by_room e v p (Err r) f = let a = passing e v p in kept {x = Err r} tt (a.0 ∙ ap as_solved f) (a.1 ∙ refused_keeps (Ok tt) (file_of (some model_in)) old r f)

        by_judge : checked q ≡ Ok tt → IsValued → (b : Bool) → passed q model_in ≡ b → Comes
        by_judge e v true p = by_room e v p (fitted (file_of (some model_in)) (length old)) refl
        by_judge e v false p =
            let j = judging e v in
            kept {x = failed} tt (j.0 ∙ ap (λ b. cond b (as_solved (fitted (file_of (some model_in)) (length old))) failed) p) (j.1 ∙ ap (λ b. cond b (fitted_over (file_of (some model_in)) old) old) p)

        unsaid : checked q ≡ Ok tt → outcome_of (lines_read (variables_of q) lines) ≡ Ok tt → (reading_in.stage ≡ Valued → ⊥) → Comes
        unsaid e p h = let w = word e p h in kept {x = Ok None} tt w.0 w.1

        by_stage : checked q ≡ Ok tt → outcome_of (lines_read (variables_of q) lines) ≡ Ok tt → (s : Stage) → reading_in.stage ≡ s → Comes
        by_stage e p Start f = unsaid e p (λ v. not_valued (sym f ∙ v) tt)
        by_stage e p Values f = unsaid e p (λ v. not_valued (sym f ∙ v) tt)
        by_stage e p Valued f = by_judge e (record { stand = p; valued = f }) (passed q model_in) refl
        by_stage e p Refuted f = unsaid e p (λ v. not_valued (sym f ∙ v) tt)
        by_stage e p Fault f = unsaid e p (λ v. not_valued (sym f ∙ v) tt)

        by_lines : checked q ≡ Ok tt → (c : Check) → outcome_of (lines_read (variables_of q) lines) ≡ c → Comes
        by_lines e (Err r) p =
            let t = table_accepted q lines old e in
            let l = lines_refused q lines old p in
            kept {x = Err r} tt (t.0 ∙ l.0) (t.1 ∙ l.1)
        by_lines e (Ok tt) p = by_stage e p reading_in.stage refl

        by_table : (c : Check) → checked q ≡ c → Comes
        by_table (Err r) e = let t = table_refused q lines old e in kept {x = Err r} tt t.0 t.1
        by_table (Ok tt) e = by_lines e (outcome_of (lines_read (variables_of q) lines)) refl

    -- what an answer says was given
    answers : (n : ℕ) → answer ≡ Ok (Some n) → Answers n
    answers n e = go outcome
      where
        go : Comes → Answers n
        go (inl (m, a)) =
            let told = sym ((passing a.table a.says a.passes).0 ∙ ap as_solved a.counts) ∙ e in
            let same : m ≡ n = cc in
            record { table = a.table; says = a.says; passes = a.passes; counts = a.counts ∙ ap Ok same }
        go (inr (un, f)) = absurd (rw e at un)

    -- no answer is longer than the longest
    pub answered_short : (n : ℕ) → question_solved q lines (length old) ≡ Ok (Some n) → n ≤ longest_answer
    answered_short n e =
        let a = answers n e in
        let w = model_arranged q reading_in.values in
        let c = counted (Ok tt) (file_of (some model_in)) (length old) n a.counts in
        omega (arith, c.1, some_length model_in, w.each_term, w.each_class, may_few (terms_of q) (mask_bound q) model_in w, (few q a.table).0)

    -- whatever is answered is an assignment in which every statement holds
    pub record Holds : Type 0 where
      pub question_accepted : IsAccepted q
      pub says : IsValued
      pub assignment : IsAssignment q.elements (assigned (model_shown model_in))
      pub all_hold : AllHold (assigned (model_shown model_in)) (statements q)

    pub judged_holds : (n : ℕ) → question_solved q lines (length old) ≡ Ok (Some n) → Holds
    judged_holds n e =
        let a = answers n e in
        let s = (yes_means q (model_shown model_in)).0 (passed_yes (judged q (model_shown model_in)) a.passes) in
        record { question_accepted = s.question_accepted; says = a.says; assignment = model_assigns q.elements q.sets (model_shown model_in) s.model; all_hold = s.all_hold }

    -- so the question is possible
    pub answered_possible : (n : ℕ) → question_solved q lines (length old) ≡ Ok (Some n) → CanHold q.elements (statements q)
    answered_possible n e = let h = judged_holds n e in record { by = assigned (model_shown model_in); assignment = h.assignment; holding = h.all_hold }

    -- what is written is the file of that model, and not that of an impossible question
    pub never_impossible : (n : ℕ) → question_solved q lines (length old) ≡ Ok (Some n) →
        let new = question_solved_over q lines old in (n ≤ length new) × (take n new ≡ file_of (some model_in)) × (take n new ≡ file_of none → ⊥)
    never_impossible n e =
        let a = answers n e in
        let f = at_front (file_of (some model_in)) old (question_solved_over q lines old) n a.counts (passing a.table a.says a.passes).1 in
        (f.0, f.1, λ g. not_impossible model_in (sym f.1 ∙ g))

    -- and nothing else is written
    pub only_answers_write : NotAnswered (question_solved q lines (length old)) → question_solved_over q lines old ≡ old
    only_answers_write un = go outcome
      where
        go : Comes → after ≡ old
        go (inl (m, a)) = absurd (rw ((passing a.table a.says a.passes).0 ∙ ap as_solved a.counts) at un)
        go (inr (un, f)) = f

    pub unsatisfiable_writes_nothing : question_solved q lines (length old) ≡ Ok None → question_solved_over q lines old ≡ old
    unsatisfiable_writes_nothing e = only_answers_write (rw e tt)

    pub refused_writes_nothing : (r : Refusal) → question_solved q lines (length old) ≡ Err r → question_solved_over q lines old ≡ old
    refused_writes_nothing r e = only_answers_write (rw e tt)

    -- it is said exactly where the question is accepted and the lines are the solver's word
    pub word_only : question_solved q lines (length old) ≡ Ok None → IsAccepted q × IsRefuted
    word_only e = by_table (checked q) refl
      where
        by_lines : checked q ≡ Ok tt → (c : Check) → outcome_of (lines_read (variables_of q) lines) ≡ c → IsAccepted q × IsRefuted
        by_lines t (Err r) p =
            let told = sym ((table_accepted q lines old t).0 ∙ (lines_refused q lines old p).0) ∙ e in
            never cc
        by_lines t (Ok tt) p =
            ⊎_elim
            (λ v. model_no_word (passed q model_in) (fitted (file_of (some model_in)) (length old)) (sym (judging t (record { stand = p; valued = v })).0 ∙ e))
            (λ v. ((accepted q).0 t, record { stand = p; refuted = v }))
            (accepted_says (variables_of q) lines p)

        by_table : (c : Check) → checked q ≡ c → IsAccepted q × IsRefuted
        by_table (Err r) t =
            let told = sym (table_refused q lines old t).0 ∙ e in
            never cc
        by_table (Ok tt) t = by_lines t (outcome_of (lines_read (variables_of q) lines)) refl

    module _ (ok : IsAccepted q) where
      -- the solver's word that there is no model is passed on as its word
      pub word_passed_on : IsRefuted → question_solved q lines (length old) ≡ Ok None
      word_passed_on h = (word ((accepted q).1 ok) h.stand (λ v. not_valued (sym h.refuted ∙ v) tt)).0

      -- a right solver: its values satisfy the clauses
      module _ (says : IsValued) (right : Satisfies (truth_of reading_in.values) (clauses_of q)) where
        judge_passes : passed q model_in ≡ true
        judge_passes = ap is_yes (judge_yes q ok model_in (satisfied_solves q ok (truth_of reading_in.values) right))

        pub right_solver : (question_solved q lines (length old) ≡ as_solved (fitted (file_of (some model_in)) (length old))) × (question_solved_over q lines old ≡ fitted_over (file_of (some model_in)) old)
        right_solver = passing ((accepted q).1 ok) says judge_passes

        -- it is refused by 10 alone
        pub right_refused : (r : Refusal) → question_solved q lines (length old) ≡ Err r → (length old < length (file_of (some model_in))) × (r ≡ refusal buffer_too_short 0)
        right_refused r e = only_ten (file_of (some model_in)) (length old) r (sym right_solver.0 ∙ e)
