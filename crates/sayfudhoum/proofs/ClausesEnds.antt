-- The clauses for C, on the contract of `sayfudhoum_clauses`: the ways in which a call ends, for all bytes, what its number says exactly, and what the text that it wrote is worth.
use Rattle.std.proofs.Common.{Ok, Err}
use Prim.Native.Nat.{ℕ, ◌+◌, ◌*◌, ◌≤◌, ◌<◌}
use mathlib.Core.Path.{◌≡◌, refl, sym, ap, ap₂, subst, ◌∙◌}
use mathlib.Core.Bool.{Bool, true, false}
use mathlib.Core.List.{List, [], ◌∷◌, ◌++◌, map}
use mathlib.Core.Logic.{◌↔◌}
use native.Mathlib.Omega.{arith}
use borrow.Author.Tests.{ltb-true, ltb-false}
use lib.Dec.{ltb}
use lib.ListN.{length, take}
use lib.Seq.{take-append_seam}
use Rattle.outcome.specs.declared.refusals.Refusal.{Refusal}
use Rattle.outcome.specs.Checks.{Check, outcome_of}
use Rattle.outcome.specs.Calls.{Call}
use Rattle.outcome.specs.Writes.{over, fitted, fitted_over, checked_then, checked_over}
use Rattle.outcome.proofs.OverLaws.{over_length}
use Rattle.text.specs.Pieces.{line_end, pieces}
use Rattle.question.specs.declared.questions.Question.{Question}
use Rattle.question_file.specs.Reads.{read_question, asked}
use Rattle.question_file.proofs.RefusalLaws.{refusal_told}
use Rattle.clauses.specs.Clauses.{clauses_of}
use Rattle.clauses.specs.Meaning.{Satisfiable}
use Rattle.clauses.specs.Texts.{clause_text, longest_clauses}
use Rattle.dimacs.specs.Writes.{file_clauses, file_clauses_over}
use Rattle.clauses.proofs.CountLaws.{text_short}
use Rattle.clauses.proofs.TextLaws.{line_of, head_of, text_lines}
use Rattle.clauses.proofs.Satisfiable.{possible_exactly, impossible_exactly}
use Rattle.sayfudhoum.specs.Numbers.{written_number, clauses_number}
use Rattle.sayfudhoum.proofs.EndToEnd.{IsImpossible, IsPossible, question_accepted, refused_ok}
use Rattle.sayfudhoum.proofs.Exactness.{Tells, tells_one, file_tells, possible_exactly as verdict_possible, impossible_exactly as verdict_impossible}
use Rattle.sayfudhoum.proofs.exports.sayfudhoum_clauses.Reads as clauses_call
use Rattle.sayfudhoum.proofs.exports.sayfudhoum_verdict.Reads as verdict_call

-- the text of the clauses of a file's question
abbrev pub text_in : List ℕ → List ℕ
text_in bytes = clause_text (asked (read_question bytes))

-- the ways in which `sayfudhoum_clauses` ends: the number that it gives back, and the buffer that it leaves
pub data Writes (bytes old : List ℕ) (number : ℕ) (new : List ℕ) : Type 0 where
  file_refused : (r : Refusal) → outcome_of (read_question bytes) ≡ Err r → number ≡ r.place * 256 + r.number → new ≡ old → Writes bytes old number new
  too_short : outcome_of (read_question bytes) ≡ Ok tt → length old < length (text_in bytes) → number ≡ 10 → new ≡ old → Writes bytes old number new
  written : outcome_of (read_question bytes) ≡ Ok tt → length (text_in bytes) ≤ length old → number ≡ length (text_in bytes) * 256 → new ≡ over (text_in bytes) old → Writes bytes old number new

module _ (bytes old : List ℕ) where
  writes : Writes bytes old (clauses_number bytes (length old)) (file_clauses_over bytes old)
  unfolding clauses_number file_clauses file_clauses_over
  writes = go (outcome_of (read_question bytes)) (ltb (length old) (length (text_in bytes))) refl refl
    where
      go : (o : Check) (short : Bool) → outcome_of (read_question bytes) ≡ o → ltb (length old) (length (text_in bytes)) ≡ short →
          Writes bytes old (written_number (checked_then o (fitted (text_in bytes) (length old)))) (checked_over o (fitted_over (text_in bytes) old) old)
      go (Err r) short p h = file_refused r p refl refl
      go (Ok tt) true p h = rw h (too_short p (ltb-true (length old) _ h) refl refl)
      go (Ok tt) false p h = rw h (written p (ltb-false (length old) _ h) refl refl)

-- what a text written for a file says: it is one line for each clause of the file's question, behind the first,
-- those clauses can be satisfied exactly if the file is possible, so exactly if the verdict on the same bytes is 1, and can't exactly if it is impossible, so exactly if the verdict is 0
pub record IsTextOf (bytes text : List ℕ) : Type 0 where
  pub file_accepted : outcome_of (read_question bytes) ≡ Ok tt
  pub whole : text ≡ clause_text (asked (read_question bytes))
  pub lines : pieces line_end text ≡ head_of (asked (read_question bytes)) ∷ (map line_of (clauses_of (asked (read_question bytes))) ++ ([] ∷ []))
  pub meant : Satisfiable (clauses_of (asked (read_question bytes))) ↔ IsPossible bytes
  pub not_meant : (Satisfiable (clauses_of (asked (read_question bytes))) → ⊥) ↔ IsImpossible bytes
  pub decided : (v : Call verdict_call.Learnt) → v.given.0.now ≡ bytes → Satisfiable (clauses_of (asked (read_question bytes))) ↔ (v.result ≡ 256)
  pub not_decided : (v : Call verdict_call.Learnt) → v.given.0.now ≡ bytes → (Satisfiable (clauses_of (asked (read_question bytes))) → ⊥) ↔ (v.result ≡ 0)

module _ (bytes : List ℕ) (e : outcome_of (read_question bytes) ≡ Ok tt) where
  abbrev q : Question
  q = asked (read_question bytes)

  means : Satisfiable (clauses_of q) ↔ IsPossible bytes
  means =
      let same = possible_exactly q (question_accepted bytes e).0 in
      (λ s. record { file_accepted = e; some_assignment = same.0 s }, λ p. same.1 p.some_assignment)

  means_not : (Satisfiable (clauses_of q) → ⊥) ↔ IsImpossible bytes
  means_not =
      let same = impossible_exactly q (question_accepted bytes e).0 in
      (λ s. record { file_accepted = e; no_assignment = same.0 s }, λ i. same.1 i.no_assignment)

  decides : (v : Call verdict_call.Learnt) → v.given.0.now ≡ bytes → Satisfiable (clauses_of q) ↔ (v.result ≡ 256)
  decides v is =
      let said = verdict_possible v in
      (λ s. said.1 (subst IsPossible (sym is) (means.0 s)), λ n. means.1 (subst IsPossible is (said.0 n)))

  decides_not : (v : Call verdict_call.Learnt) → v.given.0.now ≡ bytes → (Satisfiable (clauses_of q) → ⊥) ↔ (v.result ≡ 0)
  decides_not v is =
      let said = verdict_impossible v in
      (λ s. said.1 (subst IsImpossible (sym is) (means_not.0 s)), λ n. means_not.1 (subst IsImpossible is (said.0 n)))

  text_of : (text : List ℕ) → text ≡ clause_text q → IsTextOf bytes text
  text_of text is = record { file_accepted = e; whole = is; lines = ap (pieces line_end) is ∙ text_lines q; meant = means; not_meant = means_not; decided = decides; not_decided = decides_not }

-- the ways at an equal number and buffer
written_as : (file old new : List ℕ) (n m : ℕ) (buf : List ℕ) → n ≡ m → new ≡ buf → Writes file old m buf → Writes file old n new
written_as file old new n m buf p q w = rw (p, q) w

-- a call of `sayfudhoum_clauses` on a file, with a buffer
module _ (c : Call clauses_call.Learnt) where
  abbrev file : List ℕ
  file = c.given.0.now

  abbrev old : List ℕ
  old = c.given.1.0.now

  abbrev new : List ℕ
  new = c.exit.1.0.now

  -- it ends in one of those ways
  pub clauses_ends : Writes file old c.result new
  clauses_ends = written_as file old new c.result _ _ c.fits.0 c.fits.1 (writes file old)

  -- a count of bytes exactly if the file is accepted and there is room for the text of its clauses
  pub clauses_written_exactly : ((n : ℕ) × (c.result ≡ n * 256)) ↔ ((outcome_of (read_question file) ≡ Ok tt) × (length (text_in file) ≤ length old))
  clauses_written_exactly = (λ k. said k.0 k.1 clauses_ends, λ p. gives p.0 p.1 clauses_ends)
    where
      said : (n : ℕ) → c.result ≡ n * 256 → Writes file old c.result new → (outcome_of (read_question file) ≡ Ok tt) × (length (text_in file) ≤ length old)
      said n e (file_refused r p m b) = let t = (refusal_told file r p).0 in absurd (omega (arith, e, m, t.0, t.1))
      said n e (too_short p h m b) = absurd (omega (arith, e, m))
      said n e (written p h m b) = (p, h)

      gives : outcome_of (read_question file) ≡ Ok tt → length (text_in file) ≤ length old → Writes file old c.result new → (n : ℕ) × (c.result ≡ n * 256)
      gives p room (file_refused r x m b) = refused_ok x p
      gives p room (too_short x h m b) = absurd (omega (arith, room, h))
      gives p room (written x h m b) = (length (text_in file), m)

  -- and then the text stands at the front of the buffer, whose other bytes are as they were
  pub clauses_written_lem : (n : ℕ) → c.result ≡ n * 256 → (n ≡ length (text_in file)) × (new ≡ over (text_in file) old)
  clauses_written_lem n e = go clauses_ends
    where
      go : Writes file old c.result new → (n ≡ length (text_in file)) × (new ≡ over (text_in file) old)
      go (file_refused r p m b) = let t = (refusal_told file r p).0 in absurd (omega (arith, e, m, t.0, t.1))
      go (too_short p h m b) = absurd (omega (arith, e, m))
      go (written p h m b) = (omega (arith, e, m), b)

  -- 10 exactly if the file is accepted and the buffer is shorter than the text
  pub clauses_short_exactly : (c.result ≡ 10) ↔ ((outcome_of (read_question file) ≡ Ok tt) × (length old < length (text_in file)))
  clauses_short_exactly = (λ e. said e clauses_ends, λ p. gives p.0 p.1 clauses_ends)
    where
      said : c.result ≡ 10 → Writes file old c.result new → (outcome_of (read_question file) ≡ Ok tt) × (length old < length (text_in file))
      said e (file_refused r p m b) = let t = (refusal_told file r p).0 in absurd (omega (arith, e, m, t.0, t.1))
      said e (too_short p h m b) = (p, h)
      said e (written p h m b) = absurd (omega (arith, e, m))

      gives : outcome_of (read_question file) ≡ Ok tt → length old < length (text_in file) → Writes file old c.result new → c.result ≡ 10
      gives p short (file_refused r x m b) = refused_ok x p
      gives p short (too_short x h m b) = m
      gives p short (written x h m b) = absurd (omega (arith, short, h))

  -- another number whose lowest byte is not 0 exactly if the file is refused, with this number at this place
  pub clauses_refused_exactly : (r : Refusal) → (Tells c.result r × (r.number < 10)) ↔ (outcome_of (read_question file) ≡ Err r)
  clauses_refused_exactly r = (λ t. told t.0 t.1 clauses_ends, λ p. gives p clauses_ends)
    where
      told : Tells c.result r → r.number < 10 → Writes file old c.result new → outcome_of (read_question file) ≡ Err r
      told t small (file_refused s p m b) = p ∙ ap Err (tells_one c.result s r (file_tells file s c.result p m).0 t)
      told t small (too_short p h m b) = absurd (omega (arith, t.0, t.1, small, m))
      told t small (written p h m b) = absurd (omega (arith, t.0, t.1, t.2, m))

      gives : outcome_of (read_question file) ≡ Err r → Writes file old c.result new → Tells c.result r × (r.number < 10)
      gives p (file_refused s x m b) = let same : s ≡ r = cc in rw same at (file_tells file s c.result x m)
      gives p (too_short x h m b) = refused_ok p x
      gives p (written x h m b) = refused_ok p x

  -- with any number whose lowest byte is not 0 the buffer is as it was
  pub clauses_refused_keeps : (r : Refusal) → Tells c.result r → new ≡ old
  clauses_refused_keeps r t = go clauses_ends
    where
      go : Writes file old c.result new → new ≡ old
      go (file_refused s p m b) = b
      go (too_short p h m b) = b
      go (written p h m b) = absurd (omega (arith, t.0, t.1, t.2, m))

  -- n bytes that were counted are the text of the file's clauses
  pub clauses_mean : (n : ℕ) → c.result ≡ n * 256 → (n ≤ length new) × IsTextOf file (take n new)
  clauses_mean n e =
      let w = clauses_written_lem n e in
      let r = clauses_written_exactly.0 (n, e) in
      (omega (arith, w.0, ap length w.1, over_length (text_in file) old r.1, r.1), text_of file r.0 (take n new) (ap₂ take w.0 w.1 ∙ take-append_seam (text_in file) _))

  -- with room for the longest text an accepted file is never refused by 10
  pub clauses_bound : longest_clauses ≤ length old → c.result ≡ 10 → ⊥
  clauses_bound room e =
      let s = clauses_short_exactly.0 e in
      absurd (omega (arith, room, s.1, text_short (asked (read_question file)) (question_accepted file s.0).0))
