-- Demand 2 for answer files: an answer written and read back says the same, a file read and written again has the same bytes,
-- and the reader accepts exactly the impossible answer and what the writer could write for some arrangement and masks below 2 to the S.
-- (What the types say of arrays and of bytes is said here: they have twelve entries, and are below 256.)
use Prim.Native.Nat.{ℕ, ◌^◌, ◌≤◌}
use mathlib.Core.Path.{◌≡◌, refl, sym, ap, ap₂, ◌∙◌}
use mathlib.Core.List.{List}
use mathlib.Core.Option.{Option}
use mathlib.Core.Logic.{◌↔◌}
use native.Mathlib.Omega.{arith}
use lib.Pow.{pow_mono}
use lib.ListN.{length, take}
use lib.Seq.{take-append_seam}
use Rattle.question.specs.declared.questions.Question.{Question}
use Rattle.std.proofs.Common.{Result, Ok, Err}
use Rattle.outcome.specs.declared.refusals.Refusal.{Refusal}
use Rattle.outcome.specs.Checks.{Check}
use Rattle.question.specs.Limits.{max_sets, max_terms}
use Rattle.question.specs.Questions.{terms_of}
use Rattle.question.specs.Checks.{checked}
use Rattle.question.proofs.AcceptedLaws.{accepted as accepted_table}
use Rattle.theory.specs.Solutions.{Solution}
use Rattle.theory.specs.Answers.{mask_bound}
use Rattle.outcome.specs.Writes.{over}
use Rattle.outcome.specs.Calls.{Call}
use Rattle.outcome.proofs.Never.{never}
use Rattle.answer.specs.declared.answers.Answer.{Answer}
use Rattle.answer.specs.Answers.{said, as_answer, cleaned, HasTwelve, MaySay}
use Rattle.answer.specs.Bytes.{file_of, answer_bytes}
use Rattle.number.specs.Numbers.{AreBytes}
use Rattle.body.specs.Bodies.{mask_bytes}
use Rattle.answer.specs.Reads.{file_read, read_answer}
use Rattle.outcome.specs.Checks.{accepted_then}
use Rattle.answer.specs.Writes.{written, written_over}
use Rattle.answer.proofs.MayLaws.{may_good, as_said, as_twelve, good_may}
use Rattle.answer.proofs.ReadBackLaws.{file_read_back}
use Rattle.answer.proofs.AcceptedFileLaws.{WholeFile, accepted_file}
use Rattle.answer.proofs.WriterLaws.{Fits, Writable, writable_written, written_writable, written_over_lem}
use Rattle.answer.proofs.reads.read_answer.Reads as read
use Rattle.answer.proofs.writes.write_answer.Reads as write

-- what the reader gives back of an answer: the same with its ignored entries set to 0
abbrev pub back : Question → Answer → Result Answer Refusal
back q a = Ok (cleaned (terms_of q) a)

-- an accepted question has twelve terms and 16 sets at the most
module _ (q : Question) (e : checked q ≡ Ok tt) where
  few_terms : terms_of q ≤ max_terms
  few_terms = ((accepted_table q).0 e).few_terms

  small : mask_bound q ≤ 256 ^ mask_bytes
  small = pow_mono {i = q.sets} {j = max_sets} ((accepted_table q).0 e).few_sets

  read_checked : (bytes : List ℕ) → read_answer q bytes ≡ file_read (terms_of q) (mask_bound q) bytes
  unfolding read_answer
  read_checked bytes = rw e

  -- the file of what may be said
  file_back : (s : Option Solution) → MaySay (terms_of q) (mask_bound q) s → read_answer q (file_of s) ≡ Ok (as_answer s)
  file_back s w = read_checked (file_of s) ∙ file_read_back (terms_of q) (mask_bound q) s small w

-- a good answer to an accepted question, written and read back
module _ (q : Question) (a : Answer) (twelve : HasTwelve a) (f : Fits q a) where
  says : MaySay (terms_of q) (mask_bound q) (said (terms_of q) a)
  says = good_may (terms_of q) (mask_bound q) a (few_terms q f.0) twelve f.1

  pub read_back : read_answer q (answer_bytes q a) ≡ back q a
  read_back = file_back q f.0 (said (terms_of q) a) says

  -- says the same
  pub same_back : (b : Answer) × (read_answer q (answer_bytes q a) ≡ Ok b) × (said (terms_of q) b ≡ said (terms_of q) a)
  same_back = (cleaned (terms_of q) a, read_back, as_said (terms_of q) (mask_bound q) (said (terms_of q) a) says)

-- an accepted file, and its answer: its question is accepted,
module _ (q : Question) (bytes : List ℕ) (are_bytes : AreBytes bytes) (a : Answer) (e : read_answer q bytes ≡ Ok a) where
  question_accepted : checked q ≡ Ok tt
  unfolding read_answer
  question_accepted = go (checked q) e
    where
      go : (c : Check) → accepted_then c Err (file_read (terms_of q) (mask_bound q) bytes) ≡ Ok a → c ≡ Ok tt
      go (Ok tt) e = refl
      go (Err r) e = never cc

  pub read_whole : WholeFile (terms_of q) (mask_bound q) bytes a
  read_whole = accepted_file bytes are_bytes (mask_bound q) a (terms_of q) (few_terms q question_accepted) (sym (read_checked q question_accepted bytes) ∙ e)

  read_says : said (terms_of q) a ≡ read_whole.says
  read_says = ap (said (terms_of q)) read_whole.made ∙ as_said (terms_of q) (mask_bound q) read_whole.says read_whole.may

  -- its answer is good,
  pub read_fits : Fits q a
  read_fits = (question_accepted, rw read_says (may_good (terms_of q) (mask_bound q) read_whole.says read_whole.may))

  read_twelve : HasTwelve a
  read_twelve = rw read_whole.made (as_twelve (terms_of q) (mask_bound q) read_whole.says (few_terms q question_accepted) read_whole.may)

  -- its ignored entries are 0,
  pub read_made : read_answer q bytes ≡ back q a
  read_made = e ∙ ap Ok (read_whole.made ∙ ap as_answer (sym read_says))

  -- and written again it has the same bytes
  pub written_again : answer_bytes q a ≡ bytes
  written_again = ap file_of read_says ∙ sym read_whole.written

-- the reader accepts exactly the files of what may be said
pub accepts : (q : Question) (bytes : List ℕ) → checked q ≡ Ok tt → AreBytes bytes →
    ((a : Answer) × (read_answer q bytes ≡ Ok a)) ↔ ((s : Option Solution) × MaySay (terms_of q) (mask_bound q) s × (bytes ≡ file_of s))
accepts q bytes c are_bytes = (
  λ r. let f = read_whole q bytes are_bytes r.0 r.1 in (f.says, f.may, f.written),
  λ w. (as_answer w.0, ap (read_answer q) w.2 ∙ file_back q c w.0 w.1),
)

-- which are the files that the writer could write
pub accepts_written : (q : Question) (bytes : List ℕ) → AreBytes bytes →
    ((a : Answer) × (read_answer q bytes ≡ Ok a)) ↔ ((a : Answer) × HasTwelve a × Fits q a × (bytes ≡ answer_bytes q a))
accepts_written q bytes are_bytes = (
  λ r. (r.0, read_twelve q bytes are_bytes r.0 r.1, read_fits q bytes are_bytes r.0 r.1, sym (written_again q bytes are_bytes r.0 r.1)),
  λ w. (cleaned (terms_of q) w.0, ap (read_answer q) w.3 ∙ read_back q w.0 w.1 w.2),
)

-- the same, of buffers: what is written of n bytes is read back,
back_from_buffer : (q : Question) (a : Answer) (n : ℕ) (old new bytes : List ℕ) → HasTwelve a → written q a (length old) ≡ Ok n → new ≡ written_over q a old → bytes ≡ take n new → read_answer q bytes ≡ back q a
back_from_buffer q a n old new bytes twelve w b t =
    let k = written_writable q a (length old) n w in
    let same : bytes ≡ answer_bytes q a = t ∙ ap₂ take k.1 (b ∙ written_over_lem q a old k.0) ∙ take-append_seam (answer_bytes q a) _ in
    ap (read_answer q) same ∙ read_back q a twelve k.0.0

-- and what is read is written again
again_in_buffer : (q : Question) (bytes old : List ℕ) (a : Answer) → AreBytes bytes → read_answer q bytes ≡ Ok a → length bytes ≤ length old →
    (written q a (length old) ≡ Ok (length bytes)) × (written_over q a old ≡ over bytes old)
again_in_buffer q bytes old a are_bytes e h =
    let same : answer_bytes q a ≡ bytes = written_again q bytes are_bytes a e in
    let k : Writable q a (length old) = (read_fits q bytes are_bytes a e, omega (arith, ap length same)) in
    (writable_written q a (length old) k ∙ ap (λ l. Ok (length l)) same, written_over_lem q a old k ∙ ap (λ l. over l old) same)

-- what a call of `write_answer` wrote, a call of `read_answer` beside the same question gives back
pub written_then_read : (w : Call write.Learnt) (r : Call read.Learnt) (n : ℕ) → HasTwelve w.given.1.0 → w.result ≡ Ok n → r.given.0 ≡ w.given.0 → r.given.1.0.now ≡ take n w.exit.1.1.0.now →
    r.result ≡ back w.given.0 w.given.1.0
written_then_read w r n twelve e q b =
    r.fits ∙ ap (λ x. read_answer x r.given.1.0.now) q
    ∙ back_from_buffer w.given.0 w.given.1.0 n w.given.1.1.0.now w.exit.1.1.0.now r.given.1.0.now twelve (sym w.fits.0 ∙ e) w.fits.1 b

-- what a call of `read_answer` accepted, a call of `write_answer` beside the same question with enough room writes again
pub read_then_written : (r : Call read.Learnt) (w : Call write.Learnt) → AreBytes r.given.1.0.now → w.given.0 ≡ r.given.0 → r.result ≡ Ok w.given.1.0 → length r.given.1.0.now ≤ length w.given.1.1.0.now →
    (w.result ≡ Ok (length r.given.1.0.now)) × (w.exit.1.1.0.now ≡ over r.given.1.0.now w.given.1.1.0.now)
read_then_written r w are_bytes q e h =
    let same = r.fits ∙ ap (λ x. read_answer x r.given.1.0.now) (sym q) in
    let k = again_in_buffer w.given.0 r.given.1.0.now w.given.1.1.0.now w.given.1.0 are_bytes (sym same ∙ e) h in
    (w.fits.0 ∙ k.0, w.fits.1 ∙ k.1)
