-- A question built step by step: one statement more, a run of statements less, its statements and its terms.
use Prim.Native.Nat.{ℕ, suc, ◌+◌, ◌-◌, ◌≤◌, ◌<◌}
use mathlib.Core.Path.{◌≡◌, refl, sym, ap, ap₂, ◌∙◌}
use mathlib.Core.List.{List, [], ◌∷◌, ◌++◌, map, map-append, append_assoc, append-nil}
use native.Mathlib.Omega.{arith}
use lib.ListN.{length, get_or, take, drop, replicate, set, length-append, length-map, length-take, length-drop, drop_of_length-le}
use lib.Seq.{set_at, take_at, take_all, take-nil, drop-nil, length-take-le, take-append-le, drop-append-le, take-append_seam, drop-append-add}
use Rattle.statement.specs.declared.statements.Statement.{Statement}
use Rattle.question.specs.declared.questions.Record.{Record}
use Rattle.question.specs.declared.questions.Question.{Question}
use Rattle.question.specs.Limits.{max_statements}
use Rattle.question.specs.Questions.{idle, empty_question, question_of, statements, terms_of}
use Rattle.statement.specs.Statements.{witnesses}
use Rattle.statement.specs.Among.{Among}
use Rattle.statement.proofs.AmongLaws.{among_both, among_take, among_drop}
use Rattle.question.specs.Builds.{unused_table, declaring, added, without, dropped}
use Rattle.question.proofs.StatementsLaws.{statements_length, statements_more}

-- without names and statements it is the empty question
pub declaring_none : declaring 0 0 ≡ empty_question
unfolding unused_table
declaring_none = refl

pub declaring_of : (E S : ℕ) → declaring E S ≡ question_of E S []
unfolding unused_table
declaring_of E S = refl

abbrev to_record : Statement → Record
to_record s = record { statement = s }

map_back : (ss : List Statement) → map (λ r. r.statement) (map to_record ss) ≡ ss
map_back [] = refl
map_back (s ∷ ss) = ap (λ l. s ∷ l) (map_back ss)

module _ (E S : ℕ) (ss : List Statement) where
  pub added_of : (s : Statement) → length ss < max_statements → added (question_of E S ss) s ≡ question_of E S (ss ++ (s ∷ []))
  added_of s h = ap₂ (λ n t. record { elements = E; sets = S; count = n; table = t }) size table
    where
      size : length ss + 1 ≡ length (ss ++ (s ∷ []))
      size = sym (length-append ss (s ∷ []))

      unused : replicate (max_statements - length ss) idle ≡ idle ∷ replicate (max_statements - length (ss ++ (s ∷ []))) idle
      unused = ap (λ n. replicate n idle) (let z : max_statements - length ss ≡ suc (max_statements - length (ss ++ (s ∷ []))) = omega (arith, size) in z)

      table : set (map to_record ss ++ replicate (max_statements - length ss) idle) (length ss) (to_record s) ≡ map to_record (ss ++ (s ∷ [])) ++ replicate (max_statements - length (ss ++ (s ∷ []))) idle
      table =
          ap (λ l. set (map to_record ss ++ l) (length ss) (to_record s)) unused
          ∙ set_at (map to_record ss) idle _ (to_record s) (length ss) (length-map ss to_record)
          ∙ sym (ap (λ l. l ++ replicate (max_statements - length (ss ++ (s ∷ []))) idle) (map-append to_record ss (s ∷ [])) ∙ append_assoc (map to_record ss) (to_record s ∷ []) _)

  module _ (h : length ss ≤ max_statements) where
    pub statements_of : statements (question_of E S ss) ≡ ss
    unfolding statements
    statements_of = ap (map (λ r. r.statement)) (take_at (map to_record ss) _ (length ss) (length-map ss to_record)) ∙ map_back ss

    pub of_again : (q : Question) → q ≡ question_of E S ss → q ≡ question_of q.elements q.sets (statements q)
    of_again q e = e ∙ sym (ap (λ x. question_of x.elements x.sets (statements x)) e ∙ ap (question_of E S) statements_of)

    pub terms_of_lem : terms_of (question_of E S ss) ≡ E + witnesses ss
    unfolding terms_of
    terms_of_lem = ap (λ l. E + witnesses l) statements_of

-- a list without a run of its entries
module _ {A : Type 0} where
  pub without_shorter : (i n : ℕ) (l : List A) → length (without i n l) ≤ length l
  without_shorter i n l = omega (arith, length-append (take i l) (drop (i + n) l), length-take i l, length-drop (i + n) l)

  -- where one more entry comes behind: it is left out if it stands in the run
  module _ (l : List A) (x : A) (i n : ℕ) where
    size : length (l ++ (x ∷ [])) ≡ length l + 1
    size = length-append l (x ∷ [])

    pub without_inside : i ≤ length l → length l < i + n → without i n (l ++ (x ∷ [])) ≡ without i n l
    without_inside h k = ap₂ (λ a b. a ++ b) (take-append-le i l (x ∷ []) h) (drop_of_length-le (l ++ (x ∷ [])) {i = i + n} (omega (arith, size)) ∙ sym (drop_of_length-le l {i = i + n} (omega arith)))

    pub without_before : length l < i → without i n (l ++ (x ∷ [])) ≡ without i n l ++ (x ∷ [])
    without_before h =
        ap₂ (λ a b. a ++ b) (take_all i (l ++ (x ∷ [])) (omega (arith, size))) (drop_of_length-le (l ++ (x ∷ [])) {i = i + n} (omega (arith, size)))
        ∙ append-nil (l ++ (x ∷ []))
        ∙ sym (ap (λ a. a ++ (x ∷ [])) (ap₂ (λ a b. a ++ b) (take_all i l (omega arith)) (drop_of_length-le l {i = i + n} (omega arith)) ∙ append-nil l))

    pub without_behind : i + n ≤ length l → without i n (l ++ (x ∷ [])) ≡ without i n l ++ (x ∷ [])
    without_behind h = ap₂ (λ a b. a ++ b) (take-append-le i l (x ∷ []) (omega arith)) (drop-append-le (i + n) l (x ∷ []) h) ∙ sym (append_assoc (take i l) (drop (i + n) l) (x ∷ []))

  -- a run that begins where the front ends
  pub without_after : (a b : List A) (n : ℕ) → without (length a) n (a ++ b) ≡ a ++ drop n b
  without_after a b n = ap₂ (λ x y. x ++ y) (take-append_seam a b) (drop-append-add a b n)

  pub without_among : (i n : ℕ) (l : List A) → Among (without i n l) l
  without_among i n l = among_both (take i l) (drop (i + n) l) l (among_take i l) (among_drop (i + n) l)

-- the statements of a question without a run of them
pub dropped_statements : (q : Question) (i n : ℕ) → q.count ≤ max_statements → statements (dropped q i n) ≡ without i n (statements q)
unfolding dropped
dropped_statements q i n few = statements_of q.elements q.sets (without i n (statements q)) (omega (arith, without_shorter i n (statements q), statements_length q))

-- the walk that copies all statements but n from i on: one turn, and the end
module _ (q : Question) (i n : ℕ) where
  abbrev pub kept_of : ℕ → Question
  kept_of j = question_of q.elements q.sets (without i n (take j (statements q)))

  pub kept_count : (j : ℕ) → (kept_of j).count ≤ j
  kept_count j = omega (arith, without_shorter i n (take j (statements q)), length-take j (statements q))

  module _ (j : ℕ) (s : Statement) (few : j < max_statements) (next : take (j + 1) (statements q) ≡ take j (statements q) ++ (s ∷ [])) where
    front : List Statement
    front = take j (statements q)

    upto : length front ≡ j
    unfolding front
    upto = omega (arith, ap length next, length-append (take j (statements q)) (s ∷ []), length-take j (statements q), length-take (j + 1) (statements q))

    one_more : without i n (front ++ (s ∷ [])) ≡ without i n front ++ (s ∷ []) → added (kept_of j) s ≡ kept_of (j + 1)
    unfolding front
    one_more e = added_of q.elements q.sets (without i n front) s (omega (arith, kept_count j)) ∙ ap (question_of q.elements q.sets) (sym (ap (without i n) next ∙ e))

    pub kept_before : j < i → added (kept_of j) s ≡ kept_of (j + 1)
    kept_before h = one_more (without_before front s i n (omega (arith, upto)))

    pub kept_behind : i + n ≤ j → added (kept_of j) s ≡ kept_of (j + 1)
    kept_behind h = one_more (without_behind front s i n (omega (arith, upto)))

    pub kept_inside : i ≤ j → j < i + n → kept_of j ≡ kept_of (j + 1)
    unfolding front
    kept_inside h k = ap (question_of q.elements q.sets) (sym (ap (without i n) next ∙ without_inside front s i n (omega (arith, upto)) (omega (arith, upto))))

  pub kept_none : kept_of 0 ≡ declaring q.elements q.sets
  kept_none = ap (question_of q.elements q.sets) (ap₂ (λ a b. a ++ b) (take-nil i) (drop-nil (i + n))) ∙ sym (declaring_of q.elements q.sets)

  pub kept_all : (j : ℕ) → length (statements q) ≤ j → kept_of j ≡ dropped q i n
  unfolding dropped
  kept_all j h = ap (λ l. question_of q.elements q.sets (without i n l)) (take_all j (statements q) h)
