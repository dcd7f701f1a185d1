-- A decision is what the search finds in the question's rows, and what the search finds there is the answer.
use Rattle.std.proofs.Common.{Option as Possibly, Result, Ok, Err}
use Prim.Native.Nat.{ℕ, ◌<◌}
use mathlib.Core.Path.{◌≡◌, refl, sym, ap, ◌∙◌}
use mathlib.Core.List.{List}
use mathlib.Core.Option.{Option, none, some}
use borrow.Author.Tests.{lt-ltb}
use Rattle.outcome.specs.declared.refusals.Refusal.{Refusal}
use Rattle.outcome.specs.Checks.{Check, accepted_then}
use Rattle.outcome.proofs.Never.{never}
use Rattle.outcome.proofs.CheckLaws.{refused_ok}
use Rattle.question.specs.declared.questions.Question.{Question}
use Rattle.question.specs.Limits.{max_terms}
use Rattle.question.specs.Questions.{terms_of}
use Rattle.question.specs.Checks.{checked}
use Rattle.question.proofs.AcceptedLaws.{accepted}
use Rattle.theory.specs.Solutions.{Solution}
use Rattle.theory.specs.FirstModels.{first_model}
use Rattle.theory.specs.Sets.{fits}
use Rattle.theory.specs.Answers.{mask_bound, answer}
use Rattle.row.specs.Checks.{rows_checked}
use Rattle.reduction.specs.Reducing.{packed_rows}
use Rattle.reduction.proofs.ReducedRows.{rows_pass, rows_say}
use Rattle.search.specs.declared.answers.Found.{Found}
use Rattle.search.specs.Answers.{shown as found_shown, answer_of, searched}
use Rattle.search.proofs.SearchedLaws.{searched_accepted}
use Rattle.answer.specs.declared.answers.Answer.{Answer}
use Rattle.answer.specs.Answers.{as_answer}
use Rattle.decision.specs.Decisions.{table_searched, decided, shown}

module _ (q : Question) where
  pub decided_accepted : checked q ≡ Ok tt → decided q ≡ Ok (as_answer (answer q))
  unfolding decided
  decided_accepted e = rw e

  pub decided_refused : (r : Refusal) → checked q ≡ Err r → decided q ≡ Err r
  unfolding decided
  decided_refused r e = rw e

  -- and the other way: what is decided tells whether the table is accepted
  pub decided_err : (r : Refusal) → decided q ≡ Err r → checked q ≡ Err r
  unfolding decided
  decided_err r e = go (checked q) refl e
    where
      go : (c : Check) → checked q ≡ c → accepted_then {A = Result Answer Refusal} c Err (Ok (as_answer (answer q))) ≡ Err r → checked q ≡ Err r
      go (Ok tt) p e = never cc
      go (Err x) p e = let same : x ≡ r = cc in p ∙ ap Err same

  pub decided_ok : (a : Answer) → decided q ≡ Ok a → (checked q ≡ Ok tt) × (a ≡ as_answer (answer q))
  unfolding decided
  decided_ok a e = go (checked q) refl e
    where
      go : (c : Check) → checked q ≡ c → accepted_then {A = Result Answer Refusal} c Err (Ok (as_answer (answer q))) ≡ Ok a → (checked q ≡ Ok tt) × (a ≡ as_answer (answer q))
      go (Ok tt) p e = (p, cc)
      go (Err x) p e = refused_ok e

  -- what the search says of the table's rows; and of too many terms it says the same whatever the rows
  pub rows_searched : (rows : List ℕ) → rows ≡ packed_rows q → searched (terms_of q) q.sets rows ≡ table_searched q
  unfolding table_searched
  rows_searched rows same = ap (searched (terms_of q) q.sets) same

  pub many_searched : (rows : List ℕ) → max_terms < terms_of q → searched (terms_of q) q.sets rows ≡ table_searched q
  unfolding table_searched searched rows_checked
  many_searched rows h = rw (lt-ltb max_terms (terms_of q) h)

  -- what is found in the rows of an accepted question is the answer
  pub table_answer : checked q ≡ Ok tt → table_searched q ≡ answer_of (answer q)
  unfolding table_searched answer
  table_answer e =
      let is = (accepted q).0 e in
      searched_accepted (terms_of q) q.sets (packed_rows q) (rows_pass q is)
      ∙ ap (λ l. answer_of (first_model fits (terms_of q) (mask_bound q) l)) (rows_say q is)

  pub shown_answer : (o : Option Solution) → shown (found_shown o) ≡ as_answer o
  unfolding shown
  shown_answer none = refl
  shown_answer (some sol) = refl

  -- the search of an accepted question is not refused, and what it finds is the decision
  pub found_decided : (r : Result (Possibly Found) Refusal) → checked q ≡ Ok tt → r ≡ table_searched q → (found : Possibly Found) → r ≡ Ok found → Ok (shown found) ≡ decided q
  found_decided r e s found f =
      let both : ◌≡◌ {A = Result (Possibly Found) Refusal} (Ok found) (Ok (found_shown (answer q))) = sym f ∙ s ∙ table_answer e in
      let same : found ≡ found_shown (answer q) = cc in
      ap (λ x. Ok (shown x)) same ∙ ap Ok (shown_answer (answer q)) ∙ sym (decided_accepted e)

  -- so the search of an accepted question finds what is decided
  pub shown_decided : checked q ≡ Ok tt → (found : Possibly Found) × (table_searched q ≡ Ok found) × (Ok (shown found) ≡ decided q)
  shown_decided e = (found_shown (answer q), table_answer e, ap Ok (shown_answer (answer q)) ∙ sym (decided_accepted e))

  pub never_refused : (r : Result (Possibly Found) Refusal) (why : Refusal) → checked q ≡ Ok tt → r ≡ table_searched q → r ≡ Err why → Err why ≡ decided q
  never_refused r why e s f = let both : ◌≡◌ {A = Result (Possibly Found) Refusal} (Err why) (answer_of (answer q)) = sym f ∙ s ∙ table_answer e in refused_ok both
