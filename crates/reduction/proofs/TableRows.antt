-- The rows of a table as it stands: what is answered and what the buffer then holds, and what the answer tells. For an accepted question `reduce` says the same.
use Rattle.std.proofs.Common.{Ok, Err}
use Prim.Native.Nat.{ℕ, ◌≤◌, ◌<◌}
use mathlib.Core.Path.{◌≡◌, refl, sym, ap₂, ◌∙◌}
use mathlib.Core.Bool.{Bool, true, false, cond}
use mathlib.Core.List.{List}
use mathlib.Core.Logic.{⊎_elim}
use native.Mathlib.Omega.{arith}
use borrow.Author.Tests.{lt-ltb, le-ltb, ltb-true, ltb-false}
use lib.Dec.{ltb}
use lib.ListN.{length, take}
use lib.Seq.{take-append_seam}
use Rattle.outcome.specs.declared.refusals.Refusal.{Refusal}
use Rattle.outcome.specs.Refusals.{refusal, too_many_names, buffer_too_short}
use Rattle.outcome.specs.Writes.{over, fitted, fitted_over}
use Rattle.outcome.proofs.CheckLaws.{refused_ok}
use Rattle.outcome.proofs.Never.{never}
use Rattle.outcome.proofs.OverLaws.{over_length}
use Rattle.outcome.proofs.WriteLaws.{fits, too_short, counted, not_written}
use Rattle.question.specs.declared.questions.Question.{Question}
use Rattle.question.specs.Limits.{max_statements, max_terms, max_rows}
use Rattle.question.specs.Questions.{statements, terms_of}
use Rattle.question.specs.Checks.{checked}
use Rattle.question.proofs.AcceptedLaws.{accepted}
use Rattle.reduction.specs.Reducing.{packed_rows, terms_checked, rows_written, rows_written_over, reduced, reduced_over}
use Rattle.reduction.proofs.ReducingLaws.{packed_few}

-- what the check of the terms tells
module _ (q : Question) where
  pub few_terms : terms_checked q ≡ Ok tt → terms_of q ≤ max_terms
  unfolding terms_checked
  few_terms e = go (ltb max_terms (terms_of q)) refl e
    where
      go : (b : Bool) → ltb max_terms (terms_of q) ≡ b → cond b (Err (refusal too_many_names 0)) (Ok (tt {0})) ≡ Ok tt → terms_of q ≤ max_terms
      go true p e = refused_ok e
      go false p e = ltb-false max_terms (terms_of q) p

  pub many_terms : (r : Refusal) → terms_checked q ≡ Err r → max_terms < terms_of q
  unfolding terms_checked
  many_terms r e = go (ltb max_terms (terms_of q)) refl e
    where
      go : (b : Bool) → ltb max_terms (terms_of q) ≡ b → cond b (Err (refusal too_many_names 0)) (Ok (tt {0})) ≡ Err r → max_terms < terms_of q
      go true p e = ltb-true max_terms (terms_of q) p
      go false p e = never cc

-- what is answered to a table of more than 12 terms: the buffer then is as it was
module _ (q : Question) (old : List ℕ) (h : max_terms < terms_of q) where
  pub many : (rows_written q (length old) ≡ Err (refusal too_many_names 0)) × (rows_written_over q old ≡ old)
  unfolding rows_written rows_written_over terms_checked
  many = rw (lt-ltb max_terms (terms_of q) h) (refl, refl)

-- what is answered to any other, and what the buffer then holds: fits or 10
module _ (q : Question) (old : List ℕ) (few : terms_of q ≤ max_terms) where
  fitting : (rows_written q (length old) ≡ fitted (packed_rows q) (length old)) × (rows_written_over q old ≡ fitted_over (packed_rows q) old)
  unfolding rows_written rows_written_over terms_checked
  fitting = rw (le-ltb max_terms (terms_of q) few) (refl, refl)

  pub short : length old < length (packed_rows q) → (rows_written q (length old) ≡ Err (refusal buffer_too_short 0)) × (rows_written_over q old ≡ old)
  short h = let s = too_short (packed_rows q) old h in (fitting.0 ∙ s.0, fitting.1 ∙ s.1)

  pub whole : length (packed_rows q) ≤ length old → (rows_written q (length old) ≡ Ok (length (packed_rows q))) × (rows_written_over q old ≡ over (packed_rows q) old)
  whole h = let w = fits (packed_rows q) old h in (fitting.0 ∙ w.0, fitting.1 ∙ w.1)

-- rows are told where there are few enough terms, all of them, and where there is room
pub table_told : (q : Question) (room n : ℕ) → rows_written q room ≡ Ok n → (terms_of q ≤ max_terms) × (n ≡ length (packed_rows q)) × (n ≤ room)
unfolding rows_written
table_told q room n e = let c = counted (terms_checked q) (packed_rows q) room n e in (few_terms q c.0, c.1, omega (arith, c.1, c.2))

-- they stand at the front of the buffer
pub table_stands : (q : Question) (old new : List ℕ) (n : ℕ) → new ≡ rows_written_over q old → rows_written q (length old) ≡ Ok n → (n ≤ length new) × (take n new ≡ packed_rows q)
table_stands q old new n b e =
    let t = table_told q (length old) n e in
    let left : new ≡ over (packed_rows q) old = b ∙ (whole q old t.0 (omega (arith, t.1, t.2))).1 in
    (rw left (omega (arith, t.1, t.2, over_length (packed_rows q) old (omega (arith, t.1, t.2)))), ap₂ take t.1 left ∙ take-append_seam (packed_rows q) _)

-- where there is room for as many rows as any table gives, it is refused for its terms alone
pub table_refused : (q : Question) (room : ℕ) (r : Refusal) → length (statements q) ≤ max_statements → max_rows ≤ room → rows_written q room ≡ Err r → max_terms < terms_of q
unfolding rows_written
table_refused q room r stated enough e =
    ⊎_elim (many_terms q r) (λ s. let f = packed_few q stated (few_terms q s.0) in absurd (omega (arith, f, s.1))) (not_written (terms_checked q) (packed_rows q) room r e)

-- what a refused question is answered, and that the buffer then is as it was
module _ (q : Question) (old : List ℕ) (r : Refusal) (is_refused : checked q ≡ Err r) where
  pub refused : (reduced q (length old) ≡ Err r) × (reduced_over q old ≡ old)
  unfolding reduced reduced_over
  refused = rw is_refused (refl, refl)

-- what an accepted question is answered: the rows of its table
module _ (q : Question) (old : List ℕ) (is_accepted_lem : checked q ≡ Ok tt) where
  pub as_table : (reduced q (length old) ≡ rows_written q (length old)) × (reduced_over q old ≡ rows_written_over q old)
  unfolding reduced reduced_over
  as_table = let f = fitting q old ((accepted q).0 is_accepted_lem).few_terms in rw is_accepted_lem (sym f.0, sym f.1)
