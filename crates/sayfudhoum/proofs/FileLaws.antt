-- What is decided and written of a question file, by whether the file is accepted; and that its numbers leave room for the lowest byte.
use Rattle.std.proofs.Common.{Ok, Err, None, Some, Result}
use Prim.Native.Nat.{ℕ, ◌+◌, ◌/◌, ◌%◌, ◌≤◌}
use mathlib.Core.Path.{◌≡◌, refl, sym, ap, ap₂, subst, ◌∙◌}
use mathlib.Core.Bool.{Bool, true, false, cond}
use mathlib.Core.List.{List, [], ◌∷◌, ◌++◌}
use native.Mathlib.Omega.{arith}
use lib.Dec.{ltb}
use lib.ListN.{length, replicate, length-replicate}
use Rattle.outcome.specs.declared.refusals.Refusal.{Refusal}
use Rattle.field.specs.declared.tags.File.TheVariants.{Report as ReportFile}
use Rattle.field.specs.Heads.{field_bytes, end_bytes}
use Rattle.number.specs.Numbers.{bytes_of}
use Rattle.field.specs.Writes.{field_length}
use Rattle.field.proofs.TagLaws.{rule, fixed}
use Rattle.field.proofs.WriteLaws.{length_written}
use Rattle.question.specs.declared.questions.Question.{Question}
use Rattle.outcome.specs.Refusals.{refusal, buffer_too_short}
use Rattle.question.specs.Checks.{checked}
use Rattle.outcome.specs.Checks.{Check, outcome_of}
use Rattle.question_file.specs.Reads.{read_question, asked}
use Rattle.question_file.proofs.RefusalLaws.{refusal_told}
use Rattle.question_file.proofs.RoundTrips.{question_checked, read_ok, read_checked}
use Rattle.outcome.specs.Writes.{fitted, fitted_over, checked_then, checked_over}
use Rattle.outcome.proofs.WriteLaws.{at_front}
use Rattle.theory.specs.Answers.{answer}
use Rattle.answer.specs.Bytes.{file_of, longest_answer}
use Rattle.outcome.specs.Checks.{accepted_then}
use Rattle.answer.specs.Answers.{as_answer}
use Rattle.answer.specs.declared.answers.Answer.{Answer}
use Rattle.outcome.proofs.CheckLaws.{refused_is, then_by_outcome}
use Rattle.question.specs.Builds.{declaring}
use Rattle.decision.specs.Decisions.{decided}
use Rattle.sayfudhoum.specs.Files.{answer_in, file_decided, answered, answered_over, report_bytes, response, responded, responded_over}
use Rattle.sayfudhoum.specs.Numbers.{IsSmall, IsShort, IsFew, IsBrief, IsIndexed}
use Rattle.question.specs.Checks.{IsAccepted}
use Rattle.question.proofs.AcceptedLaws.{accepted as is_accepted}
use Rattle.question_file.specs.Bytes.{question_bytes}
use Rattle.question_file.proofs.WriterLaws.{longest}
use Rattle.clauses.specs.Texts.{longest_clauses, clause_text}
use Rattle.dimacs.specs.Writes.{file_clauses}
use Rattle.clauses.proofs.CountLaws.{text_short}
use Rattle.solved.specs.Solved.{Solved, file_solved}
use Rattle.solved.proofs.SolvingLaws.{file_as_question, file_refused as solved_refused}
use Rattle.solved.proofs.Solvers.{answered_short as solved_short}
use Rattle.clash.specs.Clashes.{clashing, part_of}
use Rattle.clash.specs.Files.{Three, counts, any_short, three_written, clash_bytes, clash_written}
use Rattle.clash.proofs.PartLaws.{part_accepted, part_checked, part_count}
use Rattle.decision.proofs.DecisionLaws.{decided_accepted}
use Rattle.judge.specs.Judgements.{Judgement}
use Rattle.model_file.specs.Judges.{bytes_judged, file_judged}
use Rattle.model_file.proofs.JudgeLaws.{file_refused as judge_refused, file_accepted as judge_accepted}
use Rattle.model_file.proofs.Verdicts.{Judging, model_bad, fails_at, all_hold, judging, index_below}
use Rattle.decision.proofs.AnsweredLaws.{file_short}

-- what was read of some bytes
module _ (bytes : List ℕ) where
  -- a refused file
  module _ {r : Refusal} (e : read_question bytes ≡ Err r) where
    pub refused_decided : file_decided bytes ≡ Err r
    unfolding file_decided
    refused_decided = ap (λ x. accepted_then {A = Result Answer Refusal} (outcome_of x) Err (Ok (as_answer (answer (asked x))))) e

    pub refused_answered : (room : ℕ) → answered bytes room ≡ Err r
    unfolding answered
    refused_answered room = ap (λ x. checked_then (outcome_of x) (fitted (file_of (answer (asked x))) room)) e

    pub refused_over : (old : List ℕ) → answered_over bytes old ≡ old
    unfolding answered_over
    refused_over old = ap (λ x. checked_over (outcome_of x) (fitted_over (file_of (answer (asked x))) old) old) e

    pub refused_response : response bytes ≡ report_bytes r
    unfolding response
    refused_response = ap (λ x. accepted_then (outcome_of x) report_bytes (file_of (answer (asked x)))) e

  -- an accepted file: its question is an accepted table, and its answer is decided and written
  module _ {q : Question} (e : read_question bytes ≡ Ok q) where
    pub accepted_decided : file_decided bytes ≡ decided q
    unfolding file_decided
    accepted_decided = ap (λ x. accepted_then {A = Result Answer Refusal} (outcome_of x) Err (Ok (as_answer (answer (asked x))))) e ∙ sym (decided_accepted q (question_checked bytes q e))

    pub accepted_answered : (room : ℕ) → answered bytes room ≡ fitted (file_of (answer q)) room
    unfolding answered
    accepted_answered room = ap (λ x. checked_then (outcome_of x) (fitted (file_of (answer (asked x))) room)) e

    pub accepted_over : (old : List ℕ) → answered_over bytes old ≡ fitted_over (file_of (answer q)) old
    unfolding answered_over
    accepted_over old = ap (λ x. checked_over (outcome_of x) (fitted_over (file_of (answer (asked x))) old) old) e

    pub accepted_response : response bytes ≡ file_of (answer q)
    unfolding response
    accepted_response = ap (λ x. accepted_then (outcome_of x) report_bytes (file_of (answer (asked x)))) e

-- places and counts
module _ (bytes : List ℕ) where
  pub decided_small : IsSmall (file_decided bytes)
  unfolding file_decided
  decided_small = go (outcome_of (read_question bytes)) refl
    where
      go : (o : Check) → outcome_of (read_question bytes) ≡ o → IsSmall (accepted_then {A = Result Answer Refusal} o Err (Ok (as_answer (answer_in bytes))))
      go (Ok tt) p = tt
      go (Err r) p = (refusal_told bytes r p).1

  pub answered_short : (room : ℕ) → IsShort (answered bytes room)
  unfolding answered
  answered_short room = go (outcome_of (read_question bytes)) refl
    where
      fits : (b : Bool) → length (file_of (answer_in bytes)) ≤ longest_answer → IsShort (cond b (Err (refusal buffer_too_short 0)) (Ok (length (file_of (answer_in bytes)))))
      fits true h = omega arith
      fits false h = omega arith

      go : (o : Check) → outcome_of (read_question bytes) ≡ o → IsShort (checked_then o (fitted (file_of (answer_in bytes)) room))
      go (Ok tt) p = fits (ltb room (length (file_of (answer_in bytes)))) (file_short (asked (read_question bytes)) (read_checked bytes p))
      go (Err r) p = (refusal_told bytes r p).1

  pub clash_few : (old : Three) → IsFew (clash_written bytes old)
  unfolding clash_written
  clash_few old = rw (then_by_outcome (declaring 0 0) (read_question bytes) Err (λ q. three_written (clash_bytes q) old)) (go (outcome_of (read_question bytes)) refl)
    where
      q : Question
      q = asked (read_question bytes)

      three_few : (b : Bool) → IsAccepted q → length (file_of (answer q)) ≤ longest_answer → IsFew (cond b (Err (refusal buffer_too_short 0)) (Ok (counts (clash_bytes q))))
      three_few true is h = omega arith
      three_few false is h = (longest (part_of q) (part_checked q is), omega (arith, part_count q is, (part_accepted q is).few_statements), omega arith)

      go : (o : Check) → outcome_of (read_question bytes) ≡ o → IsFew (accepted_then o Err (three_written (clash_bytes q) old))
      go (Ok tt) p = three_few (any_short (clash_bytes q) old) ((is_accepted q).0 (read_checked bytes p)) (file_short q (read_checked bytes p))
      go (Err r) p = (refusal_told bytes r p).1

  -- the clauses of a file
  pub clauses_short : (room : ℕ) → IsShort (file_clauses bytes room)
  unfolding file_clauses
  clauses_short room = go (outcome_of (read_question bytes)) refl
    where
      q : Question
      q = asked (read_question bytes)

      fits : (b : Bool) → length (clause_text q) ≤ longest_clauses → IsShort (cond b (Err (refusal buffer_too_short 0)) (Ok (length (clause_text q))))
      fits true h = omega arith
      fits false h = h

      go : (o : Check) → outcome_of (read_question bytes) ≡ o → IsShort (checked_then o (fitted (clause_text q) room))
      go (Ok tt) p = fits (ltb room (length (clause_text q))) (text_short q ((is_accepted q).0 (read_checked bytes p)))
      go (Err r) p = (refusal_told bytes r p).1

  -- a solver's lines beside it
  pub solved_brief : (lines : List ℕ) (room : ℕ) → IsBrief (file_solved bytes lines room)
  solved_brief lines room = subst (λ n. IsBrief (file_solved bytes lines n)) (length-replicate room 0) (go (outcome_of (read_question bytes)) refl)
    where
      old : List ℕ
      old = replicate room 0

      brief : (w : Solved) → ((n : ℕ) → w ≡ Ok (Some n) → n ≤ longest_answer) → IsBrief w
      brief (Ok (Some n)) h = omega (arith, h n refl)
      brief (Ok None) h = tt
      brief (Err r) h = tt

      go : (o : Check) → outcome_of (read_question bytes) ≡ o → IsBrief (file_solved bytes lines (length old))
      go (Ok tt) p = brief (file_solved bytes lines (length old)) (λ n e. solved_short (asked (read_question bytes)) lines old n (sym (file_as_question bytes lines old p).0 ∙ e))
      go (Err r) p = rw (solved_refused bytes lines old p).0 tt

  -- and the bytes of a model
  pub judged_indexed : (model : List ℕ) → IsIndexed (file_judged bytes model)
  judged_indexed model = go (outcome_of (read_question bytes)) refl
    where
      q : Question
      q = asked (read_question bytes)

      indexed : (j : Judgement) → IsAccepted q → Judging q model j → IsIndexed j
      indexed (Err r) is (model_bad g) = omega arith
      indexed (Ok (Some i)) is (fails_at _ g f) = index_below q is model i f
      indexed (Ok None) is (all_hold g h) = tt

      go : (o : Check) → outcome_of (read_question bytes) ≡ o → IsIndexed (file_judged bytes model)
      go (Ok tt) p =
          let is = (is_accepted q).0 (read_checked bytes p) in
          subst IsIndexed (sym (judge_accepted bytes model (read_ok bytes p))) (indexed (bytes_judged q model) is (judging q is model))
      go (Err r) p = subst IsIndexed (sym (judge_refused bytes model (refused_is (read_question bytes) p))) (refusal_told bytes r p).1

-- the program's output lies in its buffer
pub response_within : (bytes old new : List ℕ) (n : ℕ) → responded bytes (length old) ≡ Ok n → new ≡ responded_over bytes old → n ≤ length new
unfolding responded responded_over
response_within bytes old new n e b = (at_front (response bytes) old new n e b).0

-- a report has a number and a place in two bytes, and nine bytes in all
pub report_body : (r : Refusal) → report_bytes r ≡ field_bytes 0x44 (r.number ∷ r.place / 256 % 256 ∷ r.place % 256 ∷ []) ++ end_bytes
unfolding bytes_of
report_body r = refl

pub report_length : (r : Refusal) → length (report_bytes r) ≡ 9
report_length r = ap length (report_body r)

-- its length by the table
pub report_sized : field_length ReportFile 0x44 0 + field_length ReportFile 0x7f 0 ≡ 9
report_sized = omega (arith, length_written ReportFile 0x44 0 (0 ∷ 0 ∷ 0 ∷ []) (fixed ReportFile 0x44 0 3 (rule ReportFile 0x44)) (omega arith), length_written ReportFile 0x7f 0 [] (fixed ReportFile 0x7f 0 0 (rule ReportFile 0x7f)) (omega arith))
