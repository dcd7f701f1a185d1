-- What a judgement means: yes exactly if question and model are sound and every statement holds; no exactly at the first statement that fails.
use Rattle.std.proofs.Common.{ℕ, zero, suc, ◌<◌, ◌≤◌, ◌≡◌, ◌↔◌, Bool, true, false, not, ◌&&◌, cond, T, leb, ltb, List, [], ◌∷◌, length, get_or, Option, Some, None, Ok, Err, refl, sym, ap, ◌∙◌, arith}
use Prim.Native.Nat.{zero-le}
use lib.Dec.{ltb→lt}
use borrow.Author.Tests.{lt-ltb, le-ltb, ltb-false}
use Rattle.std.specs.List.{position_or_len}
use Rattle.std.proofs.lemmas.List.Sums.{position_or_len_is, fails_before_first}
use Rattle.std.proofs.lemmas.List.Quantifiers.{position-Some}
use Rattle.statement.specs.declared.statements.Statement.{Statement}
use Rattle.question.specs.declared.questions.Question.{Question}
use Rattle.outcome.specs.Checks.{Check}
use Rattle.outcome.specs.declared.refusals.Refusal.{Refusal}
use Rattle.question.specs.Limits.{max_terms}
use Rattle.outcome.specs.Refusals.{refusal, bad_model}
use Rattle.question.specs.Questions.{idle, statements}
use Rattle.question.specs.Checks.{checked, IsAccepted}
use Rattle.statement.specs.Meaning.{Assignment, IsAssignment, everywhere, holds, AllHold}
use Rattle.question.proofs.AcceptedLaws.{accepted}
use Rattle.statement.proofs.TestLaws.{T_true, true_T, and_left, and_right}
use Rattle.statement.proofs.EverywhereLaws.{everywhere_at}
use Rattle.judge.specs.declared.models.Model.{Model}
use Rattle.judge.specs.Models.{assigned, elements_inside, masks_inside, is_model}
use Rattle.outcome.specs.Checks.{accepted_then}
use Rattle.outcome.proofs.Never.{never}
use Rattle.judge.specs.Judgements.{first_failing, model_judged, judged}

-- the statement at the index i is the first that fails
pub record FirstToFail (A : Assignment) (ss : List Statement) (i : ℕ) : Type 0 where
  pub within : i < length ss
  pub fails : holds A (get_or ss i idle.statement) ≡ false
  pub earlier : (k : ℕ) → k < i → holds A (get_or ss k idle.statement) ≡ true

module _ (A : Assignment) where
  abbrev fails : Statement → Bool
  fails s = not (holds A s)

  -- all hold exactly if each does
  all_of : (ss : List Statement) → ((k : ℕ) → k < length ss → holds A (get_or ss k idle.statement) ≡ true) → AllHold A ss
  all_of [] h = tt
  all_of (s ∷ ss) h = (T_true (h 0 (omega arith)), all_of ss (λ k l. h (suc k) (omega arith)))

  each_of : (ss : List Statement) → AllHold A ss → (k : ℕ) → k < length ss → holds A (get_or ss k idle.statement) ≡ true
  each_of [] h k l = absurd (omega arith)
  each_of (s ∷ ss) h zero l = true_T (holds A s) h.0
  each_of (s ∷ ss) h (suc k) l = each_of ss h.1 k (omega arith)

  not_fails : (b : Bool) → not b ≡ false → b ≡ true
  not_fails true e = refl
  not_fails false e = never cc

  -- none fails exactly if all hold
  all_hold : (ss : List Statement) → first_failing (holds A) ss ≡ None → AllHold A ss
  unfolding first_failing
  all_hold ss e = all_of ss (λ k l. not_fails (holds A (get_or ss k idle.statement)) (fails_before_first fails ss k idle.statement (omega (arith, past (ltb (position_or_len fails ss) (length ss)) refl e))))
    where
      past : (b : Bool) → ltb (position_or_len fails ss) (length ss) ≡ b → cond b (Some (position_or_len fails ss)) None ≡ None → length ss ≤ position_or_len fails ss
      past true p e = never cc
      past false p e = ltb-false (position_or_len fails ss) (length ss) p

  hold_all : (ss : List Statement) → AllHold A ss → first_failing (holds A) ss ≡ None
  unfolding first_failing
  hold_all ss h =
      let past = position_or_len_is fails ss (length ss) idle.statement (omega arith) (λ k l. rw (each_of ss h k l)) (λ l. absurd (omega arith)) in
      rw (past, le-ltb (length ss) (length ss) (omega arith))

  -- and some index is that of the first that fails exactly if it is
  first_of : (ss : List Statement) (i : ℕ) → first_failing (holds A) ss ≡ Some i → FirstToFail A ss i
  unfolding first_failing
  first_of ss i e =
      let found = position-Some fails ss i idle.statement e in
      record { within = found.0; fails = not_holds (holds A (get_or ss i idle.statement)) found.1; earlier = λ k l. not_fails (holds A (get_or ss k idle.statement)) (found.2 k l) }
    where
      not_holds : (b : Bool) → not b ≡ true → b ≡ false
      not_holds true e = never cc
      not_holds false e = refl

  first_found : (ss : List Statement) (i : ℕ) → FirstToFail A ss i → first_failing (holds A) ss ≡ Some i
  unfolding first_failing
  first_found ss i f =
      let here = position_or_len_is fails ss i idle.statement (omega (arith, f.within)) (λ k l. rw (f.earlier k l)) (λ l. rw f.fails) in
      rw (here, lt-ltb i (length ss) f.within)

  -- where a statement fails not all hold, and only one is the first that fails
  pub not_all : (ss : List Statement) (i : ℕ) → FirstToFail A ss i → AllHold A ss → ⊥
  not_all ss i f h = let both = sym (first_found ss i f) ∙ hold_all ss h in never cc

  pub first_one : (ss : List Statement) (i k : ℕ) → FirstToFail A ss i → FirstToFail A ss k → i ≡ k
  first_one ss i k f g = let same = sym (first_found ss i f) ∙ first_found ss k g in cc

-- a model is an assignment
pub model_assigns : (E S : ℕ) (m : Model) → is_model E S m ≡ true → IsAssignment E (assigned m)
unfolding is_model elements_inside
model_assigns E S m h = record { large_enough = zero-le; within = λ a l. ltb→lt _ _ (everywhere_at E (λ b. ltb (get_or m.elements b 0) m.size) inside a.0 l) }
  where
    both : T (elements_inside E m.size m.elements && masks_inside S m.size m.masks)
    both = and_right (leb m.size max_terms) (elements_inside E m.size m.elements && masks_inside S m.size m.masks) (T_true h)

    inside : T (everywhere E (λ b. ltb (get_or m.elements b 0) m.size))
    inside = and_left (elements_inside E m.size m.elements) (masks_inside S m.size m.masks) both

module _ (q : Question) (m : Model) where
  -- a model for the names of the question is judged, and not refused
  not_refused : is_model q.elements q.sets m ≡ true → model_judged q m ≡ Ok (first_failing (holds (assigned m)) (statements q))
  unfolding model_judged
  not_refused model = rw model

  pub no_refusal : is_model q.elements q.sets m ≡ true → (r : Refusal) → model_judged q m ≡ Err r → ⊥
  no_refusal model r e = let both = sym (not_refused model) ∙ e in never cc

  -- the question is accepted, the model is one for its names, and every statement holds
  pub record Sound : Type 0 where
    pub question_accepted : IsAccepted q
    pub model : is_model q.elements q.sets m ≡ true
    pub all_hold : AllHold (assigned m) (statements q)

  -- what is judged is an accepted question and a model for its names
  judged_at : (o : Option ℕ) → judged q m ≡ Ok o → IsAccepted q × (is_model q.elements q.sets m ≡ true) × (first_failing (holds (assigned m)) (statements q) ≡ o)
  unfolding judged model_judged
  judged_at o e = go (checked q) (is_model q.elements q.sets m) refl refl e
    where
      go : (t : Check) (b : Bool) → checked q ≡ t → is_model q.elements q.sets m ≡ b →
          accepted_then t Err (cond b (Ok (first_failing (holds (assigned m)) (statements q))) (Err (refusal bad_model 0))) ≡ Ok o →
          IsAccepted q × (is_model q.elements q.sets m ≡ true) × (first_failing (holds (assigned m)) (statements q) ≡ o)
      go (Err r) b p g e = never cc
      go (Ok tt) false p g e = never cc
      go (Ok tt) true p g e = ((accepted q).0 p, g, cc)

  judged_as : IsAccepted q → is_model q.elements q.sets m ≡ true → judged q m ≡ Ok (first_failing (holds (assigned m)) (statements q))
  unfolding judged
  judged_as is model = rw ((accepted q).1 is) (not_refused model)

  sound : judged q m ≡ Ok None → Sound
  sound e = let at = judged_at None e in record { question_accepted = at.0; model = at.1; all_hold = all_hold (assigned m) (statements q) at.2 }

  judged_yes : Sound → judged q m ≡ Ok None
  judged_yes h = judged_as h.question_accepted h.model ∙ ap Ok (hold_all (assigned m) (statements q) h.all_hold)

  -- yes exactly if every statement holds
  pub yes_means : (judged q m ≡ Ok None) ↔ Sound
  yes_means = (sound, judged_yes)

  -- the question is accepted, the model is one for its names, and the statement at the index i is the first that fails
  pub record FailsAt (i : ℕ) : Type 0 where
    pub question_accepted : IsAccepted q
    pub model : is_model q.elements q.sets m ≡ true
    pub first : FirstToFail (assigned m) (statements q) i

  fails_at : (i : ℕ) → judged q m ≡ Ok (Some i) → FailsAt i
  fails_at i e = let at = judged_at (Some i) e in record { question_accepted = at.0; model = at.1; first = first_of (assigned m) (statements q) i at.2 }

  judged_no : (i : ℕ) → FailsAt i → judged q m ≡ Ok (Some i)
  judged_no i h = judged_as h.question_accepted h.model ∙ ap Ok (first_found (assigned m) (statements q) i h.first)

  -- no at the index i exactly if that statement is the first that fails
  pub no_means : (i : ℕ) → (judged q m ≡ Ok (Some i)) ↔ FailsAt i
  no_means i = (fails_at i, judged_no i)
