-- The end-to-end theorem, on the contracts of the calls sayfudhoum_answer and sayfudhoum_verdict: for all bytes, what a call gives back and writes is what document 01 says of them.
-- "Impossible" is said exactly if the file is accepted and no assignment over any finite domain meets its statements, "possible" exactly if it is accepted and some assignment does;
-- then the first model is shown, which meets every statement, and the judge says yes to it.
use Rattle.std.proofs.Common.{Ok, Err, None}
use Prim.Native.Nat.{ℕ, ◌+◌, ◌*◌, ◌≤◌, ◌<◌}
use mathlib.Core.Path.{◌≡◌, refl, ap, ◌∙◌}
use mathlib.Core.Bool.{Bool, true, false}
use mathlib.Core.List.{List, [], ◌∷◌}
use mathlib.Core.Logic.{◌↔◌}
use mathlib.Core.Option.{Option, none, some}
use native.Mathlib.Omega.{arith}
use borrow.Author.Tests.{ltb-true, ltb-false}
use lib.Dec.{ltb}
use lib.ListN.{length}
use Rattle.outcome.specs.declared.refusals.Refusal.{Refusal}
use Rattle.question.specs.declared.questions.Question.{Question}
use Rattle.question.specs.Questions.{statements}
use Rattle.question.specs.Checks.{IsAccepted}
use Rattle.statement.specs.Meaning.{IsAssignment, AllHold, CantHold, CanHold}
use Rattle.question.proofs.AcceptedLaws.{accepted}
use Rattle.outcome.specs.Checks.{Check, outcome_of}
use Rattle.question_file.specs.Bytes.{question_bytes}
use Rattle.question_file.specs.Reads.{read_question, asked}
use Rattle.question_file.proofs.RefusalLaws.{refusal_told}
use Rattle.question_file.proofs.RoundTrips.{read_checked, written_again}
use Rattle.outcome.proofs.Never.{never}
use Rattle.theory.specs.Solutions.{Solution}
use Rattle.theory.specs.Answers.{IsFirstModelOf, as_model}
use Rattle.theory.proofs.AnswerLaws.{answer_first, answer_impossible, answer_solution, answer_assignment, answer_holds}
use Rattle.clash.proofs.PartLaws.{can_or_cant}
use Rattle.judge.specs.Judgements.{judged}
use Rattle.outcome.specs.Writes.{over}
use Rattle.outcome.specs.Calls.{Call}
use Rattle.answer.specs.Bytes.{model_bytes, file_of}
use Rattle.outcome.specs.Checks.{accepted_then}
use Rattle.outcome.specs.Writes.{checked_then}
use Rattle.outcome.specs.Writes.{checked_over}
use Rattle.outcome.specs.Writes.{fitted}
use Rattle.outcome.specs.Writes.{fitted_over}
use Rattle.answer.specs.Answers.{as_answer}
use Rattle.judge.specs.Shown.{model_shown}
use Rattle.sayfudhoum.specs.Files.{answer_in, file_decided, answered, answered_over}
use Rattle.sayfudhoum.specs.Numbers.{written_number, decision_number, answer_number, verdict_number}
use Rattle.judge.proofs.ShownLaws.{judge_yes}
use Rattle.sayfudhoum.proofs.exports.sayfudhoum_answer.Reads as answer_call
use Rattle.sayfudhoum.proofs.exports.sayfudhoum_verdict.Reads as verdict_call

-- the file is accepted, and no assignment over any finite domain meets the statements of its question
pub record IsImpossible (bytes : List ℕ) : Type 0 where
  pub file_accepted : outcome_of (read_question bytes) ≡ Ok tt
  pub no_assignment : CantHold (asked (read_question bytes)).elements (statements (asked (read_question bytes)))

-- the file is accepted, and some assignment over a finite domain meets the statements of its question
pub record IsPossible (bytes : List ℕ) : Type 0 where
  pub file_accepted : outcome_of (read_question bytes) ≡ Ok tt
  pub some_assignment : CanHold (asked (read_question bytes)).elements (statements (asked (read_question bytes)))

-- the file is accepted, and a solution is the first model of its question; as a model it is an assignment that meets every statement, and the judge says yes to it
pub record IsShown (bytes : List ℕ) (sol : Solution) : Type 0 where
  pub file_accepted : outcome_of (read_question bytes) ≡ Ok tt
  pub first : IsFirstModelOf (asked (read_question bytes)) sol
  pub assignment : IsAssignment (asked (read_question bytes)).elements (as_model sol)
  pub holding : AllHold (as_model sol) (statements (asked (read_question bytes)))
  pub judged_yes : judged (asked (read_question bytes)) (model_shown sol) ≡ Ok None

-- what the answer to the question of an accepted file is worth: none means impossible, and a first model is shown
module _ (bytes : List ℕ) (e : outcome_of (read_question bytes) ≡ Ok tt) where
  abbrev q : Question
  q = asked (read_question bytes)

  -- an accepted file is the file of a question that keeps the limits and names only what it declares
  pub question_accepted : IsAccepted q × (question_bytes q ≡ bytes)
  question_accepted = ((accepted q).0 (read_checked bytes e), written_again bytes e)

  is : IsAccepted q
  is = question_accepted.0

  -- the answer is none exactly if the file is impossible
  pub none_means : (answer_in bytes ≡ none) ↔ IsImpossible bytes
  none_means = (λ n. record { file_accepted = e; no_assignment = (answer_impossible q is).0 n }, λ i. (answer_impossible q is).1 i.no_assignment)

  -- an answer is shown
  pub some_shown : (sol : Solution) → answer_in bytes ≡ some sol → IsShown bytes sol
  some_shown sol n = record {
    file_accepted = e;
    first = (answer_first q is sol).0 n;
    assignment = answer_assignment q is sol n;
    holding = answer_holds q is sol n;
    judged_yes = judge_yes q is sol (answer_solution q is sol n);
  }

  -- and a first model is the answer
  pub some_first : (sol : Solution) → IsFirstModelOf q sol → answer_in bytes ≡ some sol
  some_first sol = (answer_first q is sol).1

-- no file is refused and accepted, or impossible and possible
pub refused_ok : {A : Type 0} {o : Check} {r : Refusal} → o ≡ Err r → o ≡ Ok tt → A
refused_ok p e = never cc

pub not_both : {A : Type 0} {bytes : List ℕ} → IsImpossible bytes → IsPossible bytes → A
not_both i p = can_or_cant i.no_assignment p.some_assignment

-- a file is possible exactly if it has a first model
pub possible_shown : (bytes : List ℕ) → IsPossible bytes ↔ ((sol : Solution) × IsShown bytes sol)
possible_shown bytes = (
  λ p. go p (answer_in bytes) refl,
  λ s. record { file_accepted = s.1.file_accepted; some_assignment = record { by = as_model s.0; assignment = s.1.assignment; holding = s.1.holding } },
)
  where
    go : IsPossible bytes → (s : Option Solution) → answer_in bytes ≡ s → (sol : Solution) × IsShown bytes sol
    go p none n = not_both ((none_means bytes p.file_accepted).0 n) p
    go p (some sol) n = (sol, some_shown bytes p.file_accepted sol n)

-- the answer file of "impossible"
abbrev pub impossible_file : List ℕ
impossible_file = 0x40 ∷ 0x00 ∷ 0x01 ∷ 0x00 ∷ 0x7f ∷ 0x00 ∷ 0x00 ∷ []

-- it is what is written where the answer is none
pub none_file : file_of none ≡ impossible_file
unfolding file_of model_bytes
none_file = refl

-- the ways in which `sayfudhoum_answer` ends: the number that it gives back, and the buffer that it leaves
pub data Answers (bytes old : List ℕ) (number : ℕ) (new : List ℕ) : Type 0 where
  file_refused : (r : Refusal) → outcome_of (read_question bytes) ≡ Err r → number ≡ r.place * 256 + r.number → new ≡ old → Answers bytes old number new
  too_short : outcome_of (read_question bytes) ≡ Ok tt → length old < length (file_of (answer_in bytes)) → number ≡ 10 → new ≡ old → Answers bytes old number new
  impossible : IsImpossible bytes → 7 ≤ length old → number ≡ 7 * 256 → new ≡ over impossible_file old → Answers bytes old number new
  possible : (sol : Solution) → IsShown bytes sol → length (file_of (some sol)) ≤ length old → number ≡ length (file_of (some sol)) * 256 → new ≡ over (file_of (some sol)) old → Answers bytes old number new

module _ (bytes old : List ℕ) where
  answers : Answers bytes old (answer_number bytes (length old)) (answered_over bytes old)
  unfolding answer_number answered answered_over
  answers = go (outcome_of (read_question bytes)) (answer_in bytes) (ltb (length old) (length (file_of (answer_in bytes)))) refl refl refl
    where
      go : (o : Check) (s : Option Solution) (short : Bool) → outcome_of (read_question bytes) ≡ o → answer_in bytes ≡ s → ltb (length old) (length (file_of (answer_in bytes))) ≡ short →
          Answers bytes old (written_number (checked_then o (fitted (file_of (answer_in bytes)) (length old)))) (checked_over o (fitted_over (file_of (answer_in bytes)) old) old)
      go (Err r) s short p n h = file_refused r p refl refl
      go (Ok tt) s true p n h = rw h (too_short p (ltb-true (length old) _ h) refl refl)
      go (Ok tt) none false p n h =
          let room = ltb-false (length old) _ h in
          let same : file_of (answer_in bytes) ≡ impossible_file = ap file_of n ∙ none_file in
          rw (h, same) (impossible ((none_means bytes p).0 n) (omega (arith, room, ap length same)) refl refl)
      go (Ok tt) (some sol) false p n h =
          let room = ltb-false (length old) _ h in
          rw (h, n) (possible sol (some_shown bytes p sol n) (rw n at room) refl refl)

-- the ways in which `sayfudhoum_verdict` ends
pub data Decides (bytes : List ℕ) (number : ℕ) : Type 0 where
  file_refused : (r : Refusal) → outcome_of (read_question bytes) ≡ Err r → number ≡ r.place * 256 + r.number → Decides bytes number
  impossible : IsImpossible bytes → number ≡ 0 → Decides bytes number
  possible : (sol : Solution) → IsShown bytes sol → number ≡ 256 → Decides bytes number

module _ (bytes : List ℕ) where
  decides : Decides bytes (verdict_number bytes)
  unfolding verdict_number file_decided
  decides = go (outcome_of (read_question bytes)) (answer_in bytes) refl refl
    where
      go : (o : Check) (s : Option Solution) → outcome_of (read_question bytes) ≡ o → answer_in bytes ≡ s → Decides bytes (decision_number (accepted_then o Err (Ok (as_answer (answer_in bytes)))))
      go (Err r) s p n = file_refused r p refl
      go (Ok tt) none p n = rw n (impossible ((none_means bytes p).0 n) refl)
      go (Ok tt) (some sol) p n = rw n (possible sol (some_shown bytes p sol n) refl)

-- every call of `sayfudhoum_answer` ends in one of these ways
pub answer_ends : (c : Call answer_call.Learnt) → Answers c.given.0.now c.given.1.0.now c.result c.exit.1.0.now
answer_ends c = rw (c.fits.0, c.fits.1) (answers c.given.0.now c.given.1.0.now)

-- and every call of `sayfudhoum_verdict` in one of these
pub verdict_ends : (c : Call verdict_call.Learnt) → Decides c.given.0.now c.result
verdict_ends c = rw c.fits (decides c.given.0.now)

-- a call of `sayfudhoum_verdict` on a file
module _ (c : Call verdict_call.Learnt) where
  abbrev handed : List ℕ
  handed = c.given.0.now

  -- a verdict of 0 is never given in error: it means impossible, and a refusal is never taken for it
  pub says_impossible : c.result ≡ 0 → IsImpossible handed
  says_impossible e = go (verdict_ends c)
    where
      go : Decides handed c.result → IsImpossible handed
      go (file_refused r p n) = absurd (omega (arith, e, n, (refusal_told handed r p).0.0))
      go (impossible i n) = i
      go (possible sol s n) = absurd (omega (arith, e, n))

  -- and a verdict of 1 means possible, and that there is a first model
  pub says_possible : c.result ≡ 256 → (sol : Solution) × IsShown handed sol
  says_possible e = go (verdict_ends c)
    where
      go : Decides handed c.result → (sol : Solution) × IsShown handed sol
      go (file_refused r p n) = let t = (refusal_told handed r p).0 in absurd (omega (arith, e, n, t.0, t.1))
      go (impossible i n) = absurd (omega (arith, e, n))
      go (possible sol s n) = (sol, s)
