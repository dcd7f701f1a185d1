-- The reader at a file that it accepts: field by field, what it has read is the file of the question that it made, and the question is accepted.
use Prim.Native.Nat.{ℕ, zero, suc, ◌+◌, ◌≤◌, ◌<◌}
use mathlib.Core.Path.{◌≡◌, refl, sym, ap, ◌∙◌}
use mathlib.Core.Bool.{Bool, true, false, cond}
use mathlib.Core.List.{List, [], ◌∷◌, ◌++◌, append-nil, append_assoc}
use native.Mathlib.Omega.{arith}
use borrow.Author.Tests.{ltb-false}
use lib.Dec.{ltb}
use lib.ListN.{length, drop, length-drop}
use Rattle.outcome.specs.Refusals.{refusal, bytes_after_end}
use Rattle.outcome.proofs.CheckLaws.{refused_ok}
use Rattle.field.specs.Heads.{end_bytes}
use Rattle.statement.specs.declared.statements.Statement.{Statement}
use Rattle.question.specs.declared.questions.Question.{Question}
use Rattle.std.specs.Prelude.{Ok, Err}
use Rattle.question.specs.Limits.{max_elements, max_sets, max_statements}
use Rattle.question.specs.Questions.{question_of, terms_of}
use Rattle.question.specs.Admissions.{admission}
use Rattle.question.specs.Builds.{declaring, added}
use Rattle.question.proofs.BuildLaws.{declaring_of, added_of, terms_of_lem}
use Rattle.question.proofs.SoundLaws.{Sound, sound_none, sound_more}
use Rattle.question_file.specs.Bytes.{names_bytes, statement_bytes, statements_bytes, file_bytes}
use Rattle.question_file.specs.Fields.{Next, More, End, Stop, field_step}
use Rattle.question_file.specs.Reads.{ended_file, follow, read_fields, read_question}
use Rattle.question_file.proofs.SaidLaws.{Wrote}
use Rattle.question_file.proofs.StepLaws.{Went, by_names, by_statement, went, ended}
use Rattle.question_file.proofs.ReadLaws.{past}

-- what has been read before the place `at`, where q is the question so far
pub record ReadTo (bytes : List ℕ) (at : ℕ) (q : Question) : Type 0 where
  pub E : ℕ
  pub S : ℕ
  pub ss : List Statement
  pub sound : Sound E S ss
  pub made : q ≡ question_of E S ss
  pub written : bytes ≡ names_bytes E S ++ (statements_bytes ss ++ drop at bytes)

-- what an accepted file is
pub record WholeFile (bytes : List ℕ) (q : Question) : Type 0 where
  pub E : ℕ
  pub S : ℕ
  pub ss : List Statement
  pub sound : Sound E S ss
  pub made : q ≡ question_of E S ss
  pub written : bytes ≡ file_bytes E S ss

statements_snoc : (ss : List Statement) (s : Statement) (rest : List ℕ) → statements_bytes (ss ++ (s ∷ [])) ++ rest ≡ statements_bytes ss ++ (statement_bytes s ++ rest)
unfolding statements_bytes
statements_snoc [] s rest = ap (λ l. l ++ rest) (append-nil (statement_bytes s))
statements_snoc (t ∷ ss) s rest = append_assoc (statement_bytes t) (statements_bytes (ss ++ (s ∷ []))) rest ∙ ap (λ l. statement_bytes t ++ l) (statements_snoc ss s rest) ∙ sym (append_assoc (statement_bytes t) (statements_bytes ss) (statement_bytes s ++ rest))

empty : (l : List ℕ) → length l ≤ 0 → l ≡ []
empty [] h = refl
empty (x ∷ l) h = absurd (omega arith)

module _ (bytes : List ℕ) where
  statement_read : (at : ℕ) (q : Question) (place : ℕ) (r : Question) (s : Statement) → ReadTo bytes at q → q.count < max_statements → admission q.elements q.sets (terms_of q) s ≡ Ok tt →
      Wrote (statement_bytes s) (drop at bytes) at place → r ≡ added q s → ReadTo bytes place r
  statement_read at q place r s k room ok w e =
      let few : length k.ss < max_statements = rw k.made at room in
      let ok' = sym (ap (λ t. admission k.E k.S t s) (terms_of_lem k.E k.S k.ss (omega arith))) ∙ rw k.made at ok in
      let bs : drop at bytes ≡ statement_bytes s ++ drop place bytes = w.as_read ∙ ap (λ l. statement_bytes s ++ l) (sym (past bytes (statement_bytes s) at place w)) in
      record {
        E = k.E;
        S = k.S;
        ss = k.ss ++ (s ∷ []);
        sound = sound_more k.E k.S k.ss s k.sound few ok';
        made = e ∙ ap (λ x. added x s) k.made ∙ added_of k.E k.S k.ss s few;
        written = k.written ∙ ap (λ l. names_bytes k.E k.S ++ l) (ap (λ l. statements_bytes k.ss ++ l) bs ∙ sym (statements_snoc k.ss s (drop place bytes)));
      }

  names_read : (place : ℕ) (r : Question) (E S : ℕ) → E ≤ max_elements → S ≤ max_sets → Wrote (names_bytes E S) bytes 0 place → r ≡ declaring E S → ReadTo bytes place r
  unfolding statements_bytes
  names_read place r E S h k w e =
      record {
        E = E;
        S = S;
        ss = [];
        sound = sound_none E S h k;
        made = e ∙ declaring_of E S;
        written = w.as_read ∙ ap (λ l. names_bytes E S ++ l) (sym (past bytes (names_bytes E S) 0 place w));
      }

  end_read : (at : ℕ) (q : Question) (place : ℕ) → ReadTo bytes at q → Wrote end_bytes (drop at bytes) at place → length bytes ≤ place → WholeFile bytes q
  unfolding file_bytes
  end_read at q place k w h =
      let size : length (drop at bytes) ≡ 3 + length w.after = ap length w.as_read ∙ omega arith in
      let none : w.after ≡ [] = empty w.after (omega (arith, rw (length-drop at bytes) at size, w.behind)) in
      record {
        E = k.E;
        S = k.S;
        ss = k.ss;
        sound = k.sound;
        made = k.made;
        written = k.written ∙ ap (λ l. names_bytes k.E k.S ++ (statements_bytes k.ss ++ l)) (w.as_read ∙ ap (λ l. end_bytes ++ l) none);
      }

  -- a field that goes on
  went_read : (at : ℕ) (q : Question) (place : ℕ) (r : Question) → (at ≡ 0 → ⊥) → ReadTo bytes at q → Went (drop at bytes) at q place r → ReadTo bytes place r × (place ≡ 0 → ⊥)
  went_read at q place r later k (by_names E S first a b w e) = absurd (later first)
  went_read at q place r later k (by_statement s l room ok w e) = (statement_read at q place r s k room ok w e, λ z. omega (arith, w.behind))

  first_read : (place : ℕ) (r : Question) → Went bytes 0 (declaring 0 0) place r → ReadTo bytes place r × (place ≡ 0 → ⊥)
  first_read place r (by_names E S first a b w e) = (names_read place r E S a b w e, λ z. omega (arith, w.behind))
  first_read place r (by_statement s later room ok w e) = absurd (later refl)

  -- after 7F nothing is left
  end_accepted : (place : ℕ) (q r : Question) → ended_file (length bytes) place q ≡ Ok r → (length bytes ≤ place) × (r ≡ q)
  end_accepted place q r e = go (ltb place (length bytes)) refl e
    where
      go : (b : Bool) → ltb place (length bytes) ≡ b → cond b (Err (refusal bytes_after_end place)) (Ok q) ≡ Ok r → (length bytes ≤ place) × (r ≡ q)
      go true h e = refused_ok e
      go false h e = (ltb-false place (length bytes) h, cc)

  -- the fields from a place on
  read_from : (n at : ℕ) (q whole : Question) → (at ≡ 0 → ⊥) → ReadTo bytes at q → read_fields n bytes at q ≡ Ok whole → WholeFile bytes whole
  unfolding read_fields
  read_from zero at q whole later k e = refused_ok e
  read_from (suc n) at q whole later k e = go (field_step (drop at bytes) at q) refl e (λ place r l. read_from n place r whole l)
    where
      go : (x : Next) → field_step (drop at bytes) at q ≡ x → follow (length bytes) (read_fields n bytes) q x ≡ Ok whole →
          ((place : ℕ) (r : Question) → (place ≡ 0 → ⊥) → ReadTo bytes place r → read_fields n bytes place r ≡ Ok whole → WholeFile bytes whole) →
          WholeFile bytes whole
      go (More place r) p e on = let w = went_read at q place r later k (went (drop at bytes) at q place r p) in on place r w.1 w.0 e
      go (End place) p e on = let a = end_accepted place q whole e in rw a.1 (end_read at q place k (ended (drop at bytes) at q place p).1 a.0)
      go (Stop r) p e on = refused_ok e

-- an accepted file is the file of the question that is read
pub accepted_file : (bytes : List ℕ) (q : Question) → read_question bytes ≡ Ok q → WholeFile bytes q
unfolding read_fields
accepted_file bytes q e = go (field_step bytes 0 (declaring 0 0)) refl e
  where
    go : (x : Next) → field_step bytes 0 (declaring 0 0) ≡ x → follow (length bytes) (read_fields 65 bytes) (declaring 0 0) x ≡ Ok q → WholeFile bytes q
    go (More place r) p e = let w = first_read bytes place r (went bytes 0 (declaring 0 0) place r p) in read_from bytes 65 place r q w.1 w.0 e
    go (End place) p e = absurd ((ended bytes 0 (declaring 0 0) place p).0 refl)
    go (Stop r) p e = refused_ok e
