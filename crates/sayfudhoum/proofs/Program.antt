-- What the program rests on: a response is never longer than the longest answer, so its buffer is never too short; and a question file's first 4,096 bytes give the response to all of it.
use Rattle.std.proofs.Common.{Ok, Err}
use Prim.Native.Nat.{ℕ, ◌≤◌}
use mathlib.Core.Path.{◌≡◌, refl, sym, ap, ◌∙◌}
use mathlib.Core.Bool.{Bool, true, false}
use mathlib.Core.List.{List}
use mathlib.Core.Logic.{◌↔◌}
use mathlib.Core.Option.{Option, none, some}
use native.Mathlib.Omega.{arith}
use borrow.Author.Tests.{ltb-true, ltb-false, le-ltb}
use lib.Dec.{ltb}
use lib.ListN.{length, take, drop, take-append-drop}
use lib.Seq.{take_all, length-take-le}
use Rattle.outcome.specs.declared.refusals.Refusal.{Refusal}
use Rattle.outcome.specs.Checks.{Check, outcome_of}
use Rattle.question_file.specs.Reads.{read_question, asked}
use Rattle.question_file.proofs.FirstBytes.{later_bytes}
use Rattle.question_file.proofs.RoundTrips.{read_checked}
use Rattle.theory.specs.Solutions.{Solution}
use Rattle.theory.specs.Answers.{answer}
use Rattle.outcome.specs.Writes.{over}
use Rattle.outcome.specs.Calls.{Call}
use Rattle.answer.specs.Bytes.{file_of, longest_answer}
use Rattle.answer.proofs.AnswerLaws.{some_length}
use Rattle.outcome.specs.Checks.{accepted_then}
use Rattle.sayfudhoum.specs.Files.{answer_in, report_bytes, response, responded, responded_over}
use Rattle.decision.proofs.AnsweredLaws.{file_short}
use Rattle.sayfudhoum.proofs.FileLaws.{report_length}
use Rattle.sayfudhoum.proofs.EndToEnd.{IsImpossible, IsShown, impossible_file, none_means, some_shown, refused_ok, not_both, possible_shown, none_file}
use Rattle.sayfudhoum.proofs.files.respond.Reads as respond

module _ (bytes : List ℕ) where
  -- an answer is never longer than the longest, and a report has nine bytes
  pub response_short : length (response bytes) ≤ longest_answer
  unfolding response
  response_short = go (outcome_of (read_question bytes)) refl
    where
      go : (o : Check) → outcome_of (read_question bytes) ≡ o → length (accepted_then o report_bytes (file_of (answer_in bytes))) ≤ longest_answer
      go (Ok tt) p = file_short (asked (read_question bytes)) (read_checked bytes p)
      go (Err r) p = omega (arith, report_length r)

  -- so where there is room for the longest answer 10 never comes
  pub response_fits : (room : ℕ) → longest_answer ≤ room → responded bytes room ≡ Ok (length (response bytes))
  unfolding responded
  response_fits room h = rw (le-ltb room (length (response bytes)) (omega (arith, response_short)))

  -- and the response stands at the front of the buffer
  pub response_over : (old : List ℕ) → longest_answer ≤ length old → responded_over bytes old ≡ over (response bytes) old
  unfolding responded_over
  response_over old h = rw (le-ltb (length old) (length (response bytes)) (omega (arith, response_short)))

  -- no byte after the 395th alters what is read
  first_read : (n : ℕ) → 395 ≤ n → read_question (take n bytes) ≡ read_question bytes
  first_read n h = go (ltb (length bytes) n) refl
    where
      go : (b : Bool) → ltb (length bytes) n ≡ b → read_question (take n bytes) ≡ read_question bytes
      go true p = ap read_question (take_all n bytes (omega (arith, ltb-true (length bytes) n p)))
      go false p =
          let long = length-take-le n bytes (ltb-false (length bytes) n p) in
          sym (later_bytes (take n bytes) (drop n bytes) (omega (arith, long))) ∙ ap read_question (take-append-drop n bytes)

  -- nor the response
  pub first_response : (n : ℕ) → 395 ≤ n → response (take n bytes) ≡ response bytes
  unfolding response
  first_response n h = ap (λ x. accepted_then (outcome_of x) report_bytes (file_of (answer (asked x)))) (first_read n h)

-- what the response to a file is: the report of its refusal, or its answer
pub data Responds (bytes out : List ℕ) : Type 0 where
  file_refused : (r : Refusal) → outcome_of (read_question bytes) ≡ Err r → out ≡ report_bytes r → Responds bytes out
  impossible : IsImpossible bytes → out ≡ impossible_file → Responds bytes out
  possible : (sol : Solution) → IsShown bytes sol → out ≡ file_of (some sol) → Responds bytes out

module _ (bytes : List ℕ) where
  -- every response is one of these
  pub response_says : Responds bytes (response bytes)
  unfolding response
  response_says = go (outcome_of (read_question bytes)) (answer_in bytes) refl refl
    where
      go : (o : Check) (s : Option Solution) → outcome_of (read_question bytes) ≡ o → answer_in bytes ≡ s → Responds bytes (accepted_then o report_bytes (file_of (answer_in bytes)))
      go (Err r) s p n = file_refused r p refl
      go (Ok tt) none p n = impossible ((none_means bytes p).0 n) (ap file_of n ∙ none_file)
      go (Ok tt) (some sol) p n = possible sol (some_shown bytes p sol n) (ap file_of n)

  -- it says "impossible" exactly if the file is accepted and no assignment meets its statements
  pub response_impossible_exactly : (response bytes ≡ impossible_file) ↔ IsImpossible bytes
  response_impossible_exactly = (λ e. said e response_says, λ i. gives i response_says)
    where
      said : response bytes ≡ impossible_file → Responds bytes (response bytes) → IsImpossible bytes
      said e (file_refused r p b) = absurd (omega (arith, ap length (sym e ∙ b), report_length r))
      said e (impossible i b) = i
      said e (possible sol s b) = absurd (omega (arith, ap length (sym e ∙ b), some_length sol))

      gives : IsImpossible bytes → Responds bytes (response bytes) → response bytes ≡ impossible_file
      gives i (file_refused r p b) = refused_ok p i.file_accepted
      gives i (impossible _ b) = b
      gives i (possible sol s b) = not_both i ((possible_shown bytes).1 (sol, s))

-- so a call of `respond` on the first 4,096 bytes, with room for the longest answer, writes the response to all of them, and is not refused
pub program_responds : (bytes : List ℕ) (c : Call respond.Learnt) → c.given.0.now ≡ take 4096 bytes → longest_answer ≤ length c.given.1.0.now →
    (c.result ≡ Ok (length (response bytes))) × (c.exit.1.0.now ≡ over (response bytes) c.given.1.0.now)
program_responds bytes c e h =
    let same : response c.given.0.now ≡ response bytes = ap response e ∙ first_response bytes 4096 (omega arith) in (
      c.fits.0 ∙ response_fits c.given.0.now (length c.given.1.0.now) h ∙ ap (λ l. Ok (length l)) same,
      c.fits.1 ∙ response_over c.given.0.now c.given.1.0.now h ∙ ap (λ l. over l c.given.1.0.now) same,
    )
