-- When the writer writes and when it refuses: it writes exactly the good answers to accepted questions for which there is room, and a refusal leaves the buffer as it was.
use Rattle.std.proofs.Common.{Ok, Err}
use Prim.Native.Nat.{ℕ, ◌≤◌}
use mathlib.Core.Path.{◌≡◌, refl, sym}
use mathlib.Core.Bool.{Bool, true, false, cond}
use mathlib.Core.List.{List}
use mathlib.Core.Logic.{◌↔◌}
use borrow.Author.Tests.{ltb-false, le-ltb}
use lib.Dec.{ltb}
use lib.ListN.{length}
use Rattle.outcome.specs.declared.refusals.Refusal.{Refusal}
use Rattle.question.specs.declared.questions.Question.{Question}
use Rattle.outcome.specs.Checks.{Check}
use Rattle.outcome.specs.Refusals.{refusal, buffer_too_short, bad_model}
use Rattle.question.specs.Questions.{terms_of}
use Rattle.outcome.specs.Writes.{checked_over, over, checked_then}
use Rattle.question.specs.Checks.{checked}
use Rattle.theory.specs.Answers.{mask_bound}
use Rattle.answer.specs.declared.answers.Answer.{Answer}
use Rattle.outcome.specs.Writes.{Written}
use Rattle.answer.specs.Answers.{said}
use Rattle.answer.specs.Bytes.{answer_bytes}
use Rattle.answer.specs.Checks.{is_good}
use Rattle.answer.specs.Writes.{good_written, good_over, written, written_over}
use Rattle.outcome.proofs.CheckLaws.{refused_ok}

module _ (q : Question) (a : Answer) where
  -- is the question accepted, and the answer good for it
  abbrev pub Fits : Type 0
  Fits = (checked q ≡ Ok tt) × (is_good (mask_bound q) (said (terms_of q) a) ≡ true)

  -- may the answer be written
  abbrev pub Writable : ℕ → Type 0
  Writable room = Fits × (length (answer_bytes q a) ≤ room)

  -- what the writer answers, and the buffer after it, by the three tests
  abbrev answer_by : Check → Bool → Bool → Written
  answer_by c good short = checked_then c (cond good (cond short (Err (refusal buffer_too_short 0)) (Ok (length (answer_bytes q a)))) (Err (refusal bad_model 0)))

  abbrev buffer_by : Check → Bool → Bool → List ℕ → List ℕ
  buffer_by c good short old = checked_over c (cond good (cond short old (over (answer_bytes q a) old)) old) old

  module _ (room : ℕ) where
    pub writable_written : Writable room → written q a room ≡ Ok (length (answer_bytes q a))
    unfolding written good_written
    writable_written w = rw (w.0.0, w.0.1, le-ltb room (length (answer_bytes q a)) w.1)

    pub written_writable : (n : ℕ) → written q a room ≡ Ok n → Writable room × (n ≡ length (answer_bytes q a))
    unfolding written good_written
    written_writable n e = go (checked q) (is_good (mask_bound q) (said (terms_of q) a)) (ltb room (length (answer_bytes q a))) refl refl refl e
      where
        go : (c : Check) (g b : Bool) → checked q ≡ c → is_good (mask_bound q) (said (terms_of q) a) ≡ g → ltb room (length (answer_bytes q a)) ≡ b → answer_by c g b ≡ Ok n → Writable room × (n ≡ length (answer_bytes q a))
        go (Err r) g b p k h e = refused_ok e
        go (Ok tt) false b p k h e = refused_ok e
        go (Ok tt) true true p k h e = refused_ok e
        go (Ok tt) true false p k h e = (((p, k), ltb-false room _ h), cc)

    -- the writer writes exactly where it may
    pub writes : (written q a room ≡ Ok (length (answer_bytes q a))) ↔ Writable room
    writes = ((λ e. (written_writable (length (answer_bytes q a)) e).0), writable_written)

  module _ (old : List ℕ) where
    -- the buffer after a call that writes
    pub written_over_lem : Writable (length old) → written_over q a old ≡ over (answer_bytes q a) old
    unfolding written_over good_over
    written_over_lem w = rw (w.0.0, w.0.1, le-ltb (length old) (length (answer_bytes q a)) w.1)

    -- and after one that refuses
    pub refused_over : (r : Refusal) → written q a (length old) ≡ Err r → written_over q a old ≡ old
    unfolding written good_written written_over good_over
    refused_over r e = go (checked q) (is_good (mask_bound q) (said (terms_of q) a)) (ltb (length old) (length (answer_bytes q a))) e
      where
        go : (c : Check) (g b : Bool) → answer_by c g b ≡ Err r → buffer_by c g b old ≡ old
        go (Err r) g b e = refl
        go (Ok tt) false b e = refl
        go (Ok tt) true true e = refl
        go (Ok tt) true false e = refused_ok (sym e)
