-- Demand 2 for question files: a question written and read back has the same names and statements, and a file read and written again has the same bytes.
use Rattle.std.proofs.Common.{Ok, Result}
use Prim.Native.Nat.{ℕ, ◌≤◌}
use mathlib.Core.Path.{◌≡◌, refl, sym, ap, ap₂, ◌∙◌}
use mathlib.Core.List.{List}
use native.Mathlib.Omega.{arith}
use lib.ListN.{length, take}
use lib.Seq.{take-append_seam}
use Rattle.question.specs.declared.questions.Question.{Question}
use Rattle.question.specs.Limits.{max_statements}
use Rattle.question.specs.Questions.{question_of, statements}
use Rattle.question.specs.Checks.{checked}
use Rattle.question.proofs.StatementsLaws.{statements_length}
use Rattle.question.proofs.AcceptedLaws.{accepted}
use Rattle.outcome.specs.declared.refusals.Refusal.{Refusal}
use Rattle.outcome.specs.Checks.{outcome_of}
use Rattle.outcome.specs.Writes.{over}
use Rattle.outcome.proofs.CheckLaws.{answered}
use Rattle.question.specs.Builds.{declaring}
use Rattle.outcome.specs.Calls.{Call}
use Rattle.question_file.specs.Bytes.{file_bytes, question_bytes}
use Rattle.question_file.specs.Reads.{read_question, asked}
use Rattle.question_file.specs.Writes.{written, written_over}
use Rattle.question.proofs.BuildLaws.{statements_of, of_again}
use Rattle.question.proofs.SoundLaws.{checked_sound, sound_checked}
use Rattle.question_file.proofs.ReadBackLaws.{file_read_back}
use Rattle.question_file.proofs.AcceptedFileLaws.{accepted_file}
use Rattle.question_file.proofs.WriterLaws.{Writable, writable_written, written_writable, written_over_lem}
use Rattle.question_file.proofs.reads.read_question.Reads as read
use Rattle.question_file.proofs.writes.write_question.Reads as write

-- what the reader gives back of a question: the same names and statements, and "0 = 0" past the count
abbrev pub back : Question → Result Question Refusal
back q = Ok (question_of q.elements q.sets (statements q))

-- an accepted question, written and read back
pub read_back : (q : Question) → checked q ≡ Ok tt → read_question (question_bytes q) ≡ back q
read_back q e = file_read_back q.elements q.sets (statements q) (checked_sound q e)

-- the same names and statements
pub record Same (q r : Question) : Type 0 where
  pub elements : r.elements ≡ q.elements
  pub sets : r.sets ≡ q.sets
  pub count : r.count ≡ q.count
  pub stated : statements r ≡ statements q

-- (a table has 64 entries)
pub same_back : (q : Question) → checked q ≡ Ok tt → length q.table ≡ max_statements → Same q (asked (read_question (question_bytes q)))
same_back q e long =
    rw (read_back q e) (record {
      elements = refl;
      sets = refl;
      count = statements_length q ∙ omega (arith, ((accepted q).0 e).few_statements);
      stated = statements_of q.elements q.sets (statements q) (checked_sound q e).few_statements;
    })

-- an accepted file: its question is an accepted table,
module _ (bytes : List ℕ) (q : Question) (e : read_question bytes ≡ Ok q) where
  pub question_checked : checked q ≡ Ok tt
  question_checked = let f = accepted_file bytes q e in ap checked f.made ∙ sound_checked f.E f.S f.ss f.sound

  -- its unused entries are "0 = 0",
  pub question_made : read_question bytes ≡ back q
  question_made = let f = accepted_file bytes q e in e ∙ ap Ok (of_again f.E f.S f.ss f.sound.few_statements q f.made)

  -- and written again it has the same bytes
  pub question_again : question_bytes q ≡ bytes
  question_again =
      let f = accepted_file bytes q e in
      ap question_bytes f.made ∙ ap (file_bytes f.E f.S) (statements_of f.E f.S f.ss f.sound.few_statements) ∙ sym f.written

-- the same where all that is known is that the file is accepted
module _ (bytes : List ℕ) (e : outcome_of (read_question bytes) ≡ Ok tt) where
  pub read_ok : read_question bytes ≡ Ok (asked (read_question bytes))
  read_ok = answered (declaring 0 0) (read_question bytes) e

  pub read_checked : checked (asked (read_question bytes)) ≡ Ok tt
  read_checked = question_checked bytes (asked (read_question bytes)) read_ok

  pub read_made : read_question bytes ≡ back (asked (read_question bytes))
  read_made = question_made bytes (asked (read_question bytes)) read_ok

  pub written_again : question_bytes (asked (read_question bytes)) ≡ bytes
  written_again = question_again bytes (asked (read_question bytes)) read_ok

-- the same, of buffers: what is written of n bytes is read back,
back_from_buffer : (q : Question) (n : ℕ) (old new bytes : List ℕ) → written q (length old) ≡ Ok n → new ≡ written_over q old → bytes ≡ take n new → read_question bytes ≡ back q
back_from_buffer q n old new bytes w b t =
    let k = written_writable q (length old) n w in
    let same : bytes ≡ question_bytes q = t ∙ ap₂ take k.1 (b ∙ written_over_lem q old k.0) ∙ take-append_seam (question_bytes q) _ in
    ap read_question same ∙ read_back q k.0.0

-- and what is read is written again
again_in_buffer : (bytes old : List ℕ) (q : Question) → read_question bytes ≡ Ok q → length bytes ≤ length old →
    (written q (length old) ≡ Ok (length bytes)) × (written_over q old ≡ over bytes old)
again_in_buffer bytes old q e h =
    let same : question_bytes q ≡ bytes = question_again bytes q e in
    let k : Writable q (length old) = (question_checked bytes q e, omega (arith, ap length same)) in
    (writable_written q (length old) k ∙ ap (λ l. Ok (length l)) same, written_over_lem q old k ∙ ap (λ l. over l old) same)

-- what a call of `write_question` wrote, a call of `read_question` gives back
pub written_then_read : (w : Call write.Learnt) (r : Call read.Learnt) (n : ℕ) → w.result ≡ Ok n → r.given.0.now ≡ take n w.exit.1.0.now → r.result ≡ back w.given.0
written_then_read w r n e b = r.fits ∙ back_from_buffer w.given.0 n w.given.1.0.now w.exit.1.0.now r.given.0.now (sym w.fits.0 ∙ e) w.fits.1 b

-- what a call of `read_question` accepted, a call of `write_question` with enough room writes again
pub read_then_written : (r : Call read.Learnt) (w : Call write.Learnt) → r.result ≡ Ok w.given.0 → length r.given.0.now ≤ length w.given.1.0.now →
    (w.result ≡ Ok (length r.given.0.now)) × (w.exit.1.0.now ≡ over r.given.0.now w.given.1.0.now)
read_then_written r w e h =
    let k = again_in_buffer r.given.0.now w.given.1.0.now w.given.0 (sym r.fits ∙ e) h in
    (w.fits.0 ∙ k.0, w.fits.1 ∙ k.1)
