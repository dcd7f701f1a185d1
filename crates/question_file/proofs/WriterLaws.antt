-- When the writer writes and when it refuses: it refuses exactly the tables that are not accepted and too short a buffer, and a refusal leaves the buffer as it was.
use Rattle.std.proofs.Common.{Ok, Err}
use Prim.Native.Nat.{ℕ, ◌*◌, ◌≤◌}
use mathlib.Core.Path.{◌≡◌, refl, sym, ◌∙◌}
use mathlib.Core.Bool.{Bool, true, false, cond}
use mathlib.Core.List.{List, [], ◌∷◌}
use mathlib.Core.Logic.{◌↔◌}
use native.Mathlib.Omega.{arith}
use borrow.Author.Tests.{ltb-false, le-ltb}
use lib.Dec.{ltb}
use lib.ListN.{length, length-append}
use Rattle.statement.specs.declared.statements.Statement.{Statement}
use Rattle.question.specs.declared.questions.Question.{Question}
use Rattle.outcome.specs.declared.refusals.Refusal.{Refusal}
use Rattle.outcome.specs.Checks.{Check}
use Rattle.outcome.specs.Refusals.{refusal, buffer_too_short}
use Rattle.question.specs.Questions.{statements}
use Rattle.outcome.specs.Writes.{over, checked_then}
use Rattle.question.specs.Checks.{checked}
use Rattle.question_file.specs.Bytes.{statement_bytes, statements_bytes, question_bytes}
use Rattle.question_file.specs.Writes.{written, written_over}
use Rattle.question_file.proofs.BodyLaws.{field}
use Rattle.question_file.proofs.StatementBytesLaws.{question_length}
use Rattle.outcome.proofs.CheckLaws.{refused_ok}
use Rattle.outcome.proofs.WriteLaws.{counted, refused_keeps}
use Rattle.question.proofs.SoundLaws.{checked_sound}

module _ (q : Question) (room : ℕ) where
  -- may the question be written: its table is accepted, and there is room for its file
  abbrev pub Writable : Type 0
  Writable = (checked q ≡ Ok tt) × (length (question_bytes q) ≤ room)

  pub writable_written : Writable → written q room ≡ Ok (length (question_bytes q))
  unfolding written
  writable_written w = rw (w.0, le-ltb room (length (question_bytes q)) w.1)

  pub written_writable : (n : ℕ) → written q room ≡ Ok n → Writable × (n ≡ length (question_bytes q))
  unfolding written
  written_writable n e = let c = counted (checked q) (question_bytes q) room n e in ((c.0, c.2), c.1)

  -- the writer writes exactly where it may
  pub writes : (written q room ≡ Ok (length (question_bytes q))) ↔ Writable
  writes = ((λ e. (written_writable (length (question_bytes q)) e).0), writable_written)

  -- and refuses exactly where it may not
  pub refuses : ((r : Refusal) × (written q room ≡ Err r)) ↔ (Writable → ⊥)
  unfolding written
  refuses = ((λ r w. refused_ok (sym r.1 ∙ writable_written w)), λ not. go (checked q) (ltb room (length (question_bytes q))) refl refl not)
    where
      go : (c : Check) (b : Bool) → checked q ≡ c → ltb room (length (question_bytes q)) ≡ b → (Writable → ⊥) →
          (r : Refusal) × (checked_then c (cond b (Err (refusal buffer_too_short 0)) (Ok (length (question_bytes q)))) ≡ Err r)
      go (Err r) b p h not = (r, refl)
      go (Ok tt) true p h not = (refusal buffer_too_short 0, refl)
      go (Ok tt) false p h not = absurd (not (p, ltb-false room _ h))

module _ (q : Question) (old : List ℕ) where
  -- the buffer after a call that writes
  pub written_over_lem : Writable q (length old) → written_over q old ≡ over (question_bytes q) old
  unfolding written_over
  written_over_lem w = rw (w.0, le-ltb (length old) (length (question_bytes q)) w.1)

  -- and after one that refuses
  pub refused_over : (r : Refusal) → written q (length old) ≡ Err r → written_over q old ≡ old
  unfolding written written_over
  refused_over r e = refused_keeps (checked q) (question_bytes q) old r e

-- a statement's field has six bytes at the most
statements_short : (ss : List Statement) → length (statements_bytes ss) ≤ 6 * length ss
unfolding statements_bytes
statements_short [] = omega arith
statements_short (s ∷ ss) = omega (arith, statements_short ss, (field s).few, length-append (statement_bytes s) (statements_bytes ss))

-- the longest file has 392 bytes
pub longest : (q : Question) → checked q ≡ Ok tt → length (question_bytes q) ≤ 392
longest q e = omega (arith, question_length q, statements_short (statements q), (checked_sound q e).few_statements)
