-- Where fields begin, and what refusals say: a number from 1 to 9, and a place that is 392 at the most.
use Prim.Native.Nat.{ℕ, zero, suc, ◌+◌, ◌*◌, ◌≤◌}
use mathlib.Core.Path.{◌≡◌, refl, sym, ap, subst}
use mathlib.Core.Bool.{Bool, true, false, ◌||◌, cond}
use mathlib.Core.List.{List}
use native.Mathlib.Omega.{arith}
use lib.Dec.{ltb}
use lib.ListN.{length, drop}
use Rattle.outcome.specs.declared.refusals.Refusal.{Refusal}
use Rattle.outcome.specs.Checks.{Check}
use Rattle.outcome.specs.Refusals.{refusal, bytes_after_end, too_many_names, name_not_declared, too_many_statements, too_many_terms}
use Rattle.outcome.specs.Checks.{accepted_then, outcome_of}
use Rattle.outcome.proofs.CheckLaws.{refused_is}
use Rattle.outcome.proofs.Never.{never}
use Rattle.question.specs.declared.questions.Question.{Question}
use Rattle.std.specs.Prelude.{Ok, Err, Result}
use Rattle.question.specs.declared.admissions.NotAdmitted.TheVariants.{TooManyStatements, Undeclared, TooManyTerms}
use Rattle.question.specs.Limits.{max_elements, max_sets, max_statements}
use Rattle.question.specs.Questions.{terms_of}
use Rattle.question.specs.Admissions.{Admission, addition, admitted_at}
use Rattle.question.specs.Checks.{names_checked_at}
use Rattle.question.specs.Builds.{declaring, added}
use Rattle.question_file.specs.declared.fields.Said.{Said}
use Rattle.question_file.specs.declared.fields.Said.TheVariants.{Names, Stated, Ended}
use Rattle.question_file.specs.Fields.{said, Next, More, End, Stop, put, field_step}
use Rattle.question_file.specs.Reads.{ended_file, follow, read_fields, max_fields, read_question}
use Rattle.question_file.proofs.BodyLaws.{field}
use Rattle.question_file.proofs.SaidLaws.{Says, says}
use Rattle.question_file.proofs.StepLaws.{Went, by_names, by_statement, went, ended}

-- the numbers with which a file is refused
abbrev pub IsNumber : ℕ → Type 0
IsNumber n = (1 ≤ n) × (n ≤ 9)

-- a field that is refused is refused with such a number, at its first byte
module _ (at : ℕ) (r : Refusal) where
  abbrev Here : Type 0
  Here = IsNumber r.number × (r.place ≡ at)

  here_is : (number : ℕ) → IsNumber number → refusal number at ≡ r → Here
  here_is number h same = (subst IsNumber (ap (λ x. x.number) same) h, sym (ap (λ x. x.place) same))

  here_refused : (c : Check) (next : ℕ) (q : Question) → (c ≡ Err r → Here) → accepted_then c Stop (More next q) ≡ Stop r → Here
  here_refused (Ok tt) next q h e = never cc
  here_refused (Err x) next q h e = let same : x ≡ r = cc in h (ap Err same)

  here_names : (E S : ℕ) → names_checked_at at E S ≡ Err r → Here
  here_names E S e = go (ltb max_elements E || ltb max_sets S) e
    where
      go : (b : Bool) → cond b (Err (refusal too_many_names at)) (Ok (tt {0})) ≡ Err r → Here
      go true e = let same : refusal too_many_names at ≡ r = cc in here_is too_many_names (omega arith, omega arith) same
      go false e = never cc

  here_admitted : (a : Admission) → admitted_at at a ≡ Err r → Here
  here_admitted (Ok _) e = never cc
  here_admitted (Err TooManyStatements) e = let same : refusal too_many_statements at ≡ r = cc in here_is too_many_statements (omega arith, omega arith) same
  here_admitted (Err (Undeclared i)) e = let same : refusal name_not_declared at ≡ r = cc in here_is name_not_declared (omega arith, omega arith) same
  here_admitted (Err TooManyTerms) e = let same : refusal too_many_terms at ≡ r = cc in here_is too_many_terms (omega arith, omega arith) same

  here : (rest : List ℕ) (q : Question) → field_step rest at q ≡ Stop r → Here
  unfolding field_step
  here rest q e = go (said at rest) (says rest at) e
    where
      go : (x : Result Said Refusal) → Says rest at x → put at q x ≡ Stop r → Here
      go (Ok (Names E S next)) w e = here_refused (names_checked_at at E S) next (declaring E S) (here_names E S) e
      go (Ok (Stated s next)) w e = let a = addition q.elements q.sets q.count (terms_of q) s in here_refused (admitted_at at a) next (added q s) (here_admitted a) e
      go (Ok (Ended next)) w e = never cc
      go (Err x) w e = let same : x ≡ r = cc in subst (λ y. IsNumber y.number × (y.place ≡ at)) same ((w.0, omega (arith, w.1)), w.2)

-- a place at which a field may begin, where q is the question so far: behind 01 each statement takes six bytes at the most
pub record Early (at : ℕ) (q : Question) : Type 0 where
  pub place : at ≤ 5 + 6 * q.count
  pub few : q.count ≤ max_statements

pub early_first : Early 0 (declaring 0 0)
early_first = record { place = omega arith; few = omega arith }

pub early_next : (rest : List ℕ) (at : ℕ) (q : Question) (place : ℕ) (r : Question) → Early at q → Went rest at q place r → Early place r
early_next rest at q place r h (by_names E S first a b w made) = let n : r.count ≡ 0 = ap (λ x. x.count) made in record { place = omega (arith, w.behind); few = omega arith }
early_next rest at q place r h (by_statement s later full ok w made) =
    let n : r.count ≡ q.count + 1 = ap (λ x. x.count) made in
    record { place = omega (arith, h.place, (field s).few, w.behind); few = omega arith }

-- a refusal of a file
abbrev pub Told : Refusal → Type 0
Told r = IsNumber r.number × (r.place ≤ 392)

module _ (bytes : List ℕ) (r : Refusal) where
  told : (x : Refusal) → Told x → ◌≡◌ {A = Result Question Refusal} (Err x) (Err r) → Told r
  told x h e = let same : x ≡ r = cc in subst Told same h

  told_end : (size place : ℕ) (q : Question) → place ≤ 392 → ended_file size place q ≡ Err r → Told r
  told_end size place q h e = go (ltb place size) e
    where
      go : (b : Bool) → cond b (Err (refusal bytes_after_end place)) (Ok q) ≡ Err r → Told r
      go true e = told (refusal bytes_after_end place) ((omega arith, omega arith), h) e
      go false e = never cc

  told_from : (n at : ℕ) (q : Question) → Early at q → read_fields n bytes at q ≡ Err r → Told r
  unfolding read_fields
  told_from zero at q h e = told (refusal too_many_statements at) ((omega arith, omega arith), omega (arith, h.place, h.few)) e
  told_from (suc n) at q h e = go (field_step (drop at bytes) at q) refl e (λ place x k. told_from n place x k)
    where
      go : (x : Next) → field_step (drop at bytes) at q ≡ x → follow (length bytes) (read_fields n bytes) q x ≡ Err r →
          ((place : ℕ) (x : Question) → Early place x → read_fields n bytes place x ≡ Err r → Told r) → Told r
      go (More place s) p e on = on place s (early_next (drop at bytes) at q place s h (went (drop at bytes) at q place s p)) e
      go (End place) p e on = told_end (length bytes) place q (omega (arith, h.place, h.few, (ended (drop at bytes) at q place p).1.behind)) e
      go (Stop x) p e on = let f = here at x (drop at bytes) q p in told x (f.0, omega (arith, h.place, h.few, f.1)) e

  -- what any refusal of a question file says
  pub refusal_told : outcome_of (read_question bytes) ≡ Err r → Told r
  refusal_told e = told_from max_fields 0 (declaring 0 0) early_first (refused_is (read_question bytes) e)
