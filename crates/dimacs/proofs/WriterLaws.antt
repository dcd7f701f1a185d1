-- The writer of a table's text: the first walk counts it, and where it fits the second one leaves it at the front of the buffer. Then what a question's writer answers.
use Rattle.std.proofs.Common.{Ok, Err}
use Prim.Native.Nat.{ℕ, suc, ◌+◌, ◌≤◌}
use mathlib.Core.Path.{◌≡◌, refl, sym, ap, ap₂, ◌∙◌}
use mathlib.Core.List.{List, [], ◌∷◌, map}
use mathlib.Core.Logic.{⊎_elim}
use native.Mathlib.Omega.{arith}
use lib.ListN.{length, length-append}
use Rattle.text.specs.Pieces.{space}
use Rattle.outcome.specs.declared.refusals.Refusal.{Refusal}
use Rattle.outcome.specs.Writes.{over, fitted, fitted_over, checked_then, checked_over}
use Rattle.outcome.proofs.WriteLaws.{not_written}
use Rattle.text.specs.Literals.{literal_text}
use Rattle.text.specs.Laid.{laid}
use Rattle.text.proofs.LaidLaws.{laid_front, laid_behind}
use Rattle.outcome.specs.Checks.{outcome_of}
use Rattle.question.specs.declared.questions.Question.{Question}
use Rattle.question.specs.Questions.{terms_of}
use Rattle.question.specs.Limits.{max_rows}
use Rattle.question.specs.Checks.{checked, IsAccepted}
use Rattle.question.proofs.AcceptedLaws.{accepted}
use Rattle.question.proofs.StatementsLaws.{statements_length}
use Rattle.question_file.specs.Reads.{read_question, asked}
use Rattle.question_file.proofs.RoundTrips.{question_checked}
use Rattle.row.specs.Rows.{row_of}
use Rattle.reduction.specs.Reducing.{packed_rows, reduced}
use Rattle.reduction.proofs.ReducingLaws.{packed_few}
use Rattle.reduction.proofs.ReducedRows.{rows_say}
use Rattle.dimacs.specs.declared.writers.Writer.{Writer}
use Rattle.clauses.specs.Clauses.{Clause}
use Rattle.clauses.specs.Texts.{clause_line, clause_lines, first_line, dimacs, table_text, longest_clauses, clause_text}
use Rattle.dimacs.specs.Walks.{put, Fitting, wrote_one, wrote, Room}
use Rattle.dimacs.proofs.WroteLaws.{put_at, put_clauses, put_none, put_append}
use Rattle.dimacs.specs.Writes.{clauses_written, clauses_written_over, file_clauses, file_clauses_over}

-- a line has a byte or more, so there are no more clauses than bytes
line_some : (c : Clause) → 1 ≤ length (clause_line c)
line_some [] = omega arith
line_some (l ∷ c) = omega (arith, length-append (literal_text l) (space ∷ clause_line c))

lines_many : (cs : List Clause) → length cs ≤ length (clause_lines cs)
unfolding clause_lines
lines_many [] = omega arith
lines_many (c ∷ cs) = omega (arith, lines_many cs, line_some c, length-append (clause_line c) (clause_lines cs))

-- the writer behind some clauses: their lines are put, and they are counted; and there is room for them where their lines and their number fit
pub wrote_is : (w : Writer) (cs : List Clause) → wrote w cs ≡ record (put w (clause_lines cs)) { clauses = w.clauses + length cs }
unfolding clause_lines put
wrote_is w [] =
    ap₂ (λ (k : Writer) n. record k { clauses = n }) (sym (put_none w)) (let z : w.clauses ≡ w.clauses + 0 = omega arith in z)
wrote_is w (c ∷ cs) =
    wrote_is (wrote_one w c) cs
    ∙ ap₂ (λ (k : Writer) n. record k { clauses = n }) (sym (put_append w (clause_line c) (clause_lines cs))) (let z : w.clauses + 1 + length cs ≡ w.clauses + suc (length cs) = omega arith in z)

pub room_is : (w : Writer) (cs : List Clause) → w.at + length (clause_lines cs) ≤ longest_clauses → w.clauses + length cs ≤ longest_clauses → Room w cs
unfolding clause_lines
room_is w [] h k = tt
room_is w (c ∷ cs) h k =
    let more = length-append (clause_line c) (clause_lines cs) in
    (omega (arith, more), omega arith, room_is (wrote_one w c) cs (omega (arith, more, put_at w (clause_line c))) (omega arith))

module _ (variables : ℕ) (cs : List Clause) where
  pub dimacs_length : length (dimacs variables cs) ≡ length (first_line variables (length cs)) + length (clause_lines cs)
  dimacs_length = length-append (first_line variables (length cs)) (clause_lines cs)

  module _ (w : Writer) (front : w.at ≡ 0) (none : w.clauses ≡ 0) (few : length (dimacs variables cs) ≤ longest_clauses) where
    -- from the front on there is room for the clauses, for the first line, and for the clauses behind it
    pub start_room : Room w cs
    start_room = room_is w cs (omega (arith, dimacs_length)) (omega (arith, dimacs_length, lines_many cs))

    pub head_room : Fitting w (first_line variables (length cs))
    head_room = omega (arith, dimacs_length)

    pub next_room : {u : Writer} → u ≡ put w (first_line variables (length cs)) → Room u cs
    next_room {u} e =
        let line = first_line variables (length cs) in
        room_is u cs
        (omega (arith, dimacs_length, ap (λ k. k.at) e, put_at w line))
        (omega (arith, dimacs_length, lines_many cs, ap (λ k. k.clauses) e, put_clauses w line))

  -- what the walk that counts has counted: the bytes of the clauses, and the clauses
  pub counted : (w : Writer) {v : Writer} → w.at ≡ 0 → w.clauses ≡ 0 → v ≡ wrote w cs → (v.at ≡ length (clause_lines cs)) × (v.clauses ≡ length cs)
  counted w {v} front none e =
      let is = e ∙ wrote_is w cs in
      (omega (arith, ap (λ k. k.at) is, put_at w (clause_lines cs)), omega (arith, ap (λ k. k.clauses) is))

  -- what the walk that writes leaves in a buffer that is long enough
  pub text_stands : (w : Writer) {u v : Writer} → w.at ≡ 0 → length (dimacs variables cs) ≤ length w.buf.now → u ≡ put w (first_line variables (length cs)) → v ≡ wrote u cs →
      (v.buf.now ≡ over (dimacs variables cs) w.buf.now) × (v.buf.ghost_name ≡ w.buf.ghost_name)
  unfolding put
  text_stands w {u} {v} front fits head body =
      let line = first_line variables (length cs) in
      let is = body ∙ wrote_is u cs ∙ ap (λ k. record (put k (clause_lines cs)) { clauses = k.clauses + length cs }) head in
      let all = laid_behind w.at line (clause_lines cs) w.buf.now in
      (ap (λ k. k.buf.now) is ∙ all ∙ ap (λ n. laid n (dimacs variables cs) w.buf.now) front ∙ laid_front (dimacs variables cs) w.buf.now fits, ap (λ k. k.buf.ghost_name) is)

module _ (q : Question) (old : List ℕ) where
  -- a refused question, and an accepted one
  pub refused_writes : (r : Refusal) → checked q ≡ Err r → (clauses_written q (length old) ≡ Err r) × (clauses_written_over q old ≡ old)
  unfolding clauses_written clauses_written_over
  refused_writes r e = rw e (refl, refl)

  pub accepted_writes : checked q ≡ Ok tt → (clauses_written q (length old) ≡ fitted (clause_text q) (length old)) × (clauses_written_over q old ≡ fitted_over (clause_text q) old)
  unfolding clauses_written clauses_written_over
  accepted_writes e = rw e (refl, refl)

-- a question's rows that were written make its text
pub rows_text : (q : Question) → IsAccepted q → {t : ℕ} {rows : List ℕ} → t ≡ terms_of q → rows ≡ packed_rows q → table_text t q.sets (map row_of rows) ≡ clause_text q
unfolding clause_text
rows_text q is e f = ap₂ (λ t rows. table_text t q.sets (map row_of rows)) e f ∙ ap (table_text (terms_of q) q.sets) (rows_say q is)

-- a buffer of 768 rows is never too short, so the reduction refuses what the check of the table refuses
pub rows_refused : (q : Question) (r : Refusal) → reduced q max_rows ≡ Err r → checked q ≡ Err r
unfolding reduced
rows_refused q r e =
    ⊎_elim (λ p. p) (λ s. let is = (accepted q).0 s.0 in
    absurd (omega (arith, s.1, packed_few q (omega (arith, statements_length q, is.few_statements)) is.few_terms))) (not_written (checked q) (packed_rows q) max_rows r e)

-- the clauses of a file, by whether it was read: its refusal, or those of its question
module _ (bytes old : List ℕ) where
  pub file_refused : {r : Refusal} → read_question bytes ≡ Err r → (file_clauses bytes (length old) ≡ Err r) × (file_clauses_over bytes old ≡ old)
  unfolding file_clauses file_clauses_over
  file_refused e =
      (ap (λ x. checked_then (outcome_of x) (fitted (clause_text (asked x)) (length old))) e, ap (λ x. checked_over (outcome_of x) (fitted_over (clause_text (asked x)) old) old) e)

  pub file_accepted : {q : Question} → read_question bytes ≡ Ok q → (file_clauses bytes (length old) ≡ clauses_written q (length old)) × (file_clauses_over bytes old ≡ clauses_written_over q old)
  unfolding file_clauses file_clauses_over
  file_accepted {q} e =
      let w = accepted_writes q old (question_checked bytes q e) in (
        ap (λ x. checked_then (outcome_of x) (fitted (clause_text (asked x)) (length old))) e ∙ sym w.0,
        ap (λ x. checked_over (outcome_of x) (fitted_over (clause_text (asked x)) old) old) e ∙ sym w.1,
      )
