-- What the clashing part of an accepted question is, in the words of the question's meaning: no assignment meets its statements, and without any one of them some assignment does.
-- Its statements are those of the question at the indexes, which rise; it is accepted, and its file reads back as it.
use Rattle.std.proofs.Common.{Ok}
use Prim.Native.Nat.{ℕ, ◌+◌, ◌≤◌}
use mathlib.Core.Path.{◌≡◌, refl, sym, ap, subst, ◌∙◌}
use mathlib.Core.Bool.{Bool, true, false, cond}
use mathlib.Core.List.{List, [], ◌∷◌}
use mathlib.Core.Logic.{◌↔◌, ◌⊎◌, inl, inr, ⊎_elim}
use native.Mathlib.Omega.{arith}
use lib.ListN.{length, length-map}
use Rattle.statement.specs.declared.statements.Statement.{Statement}
use Rattle.statement.specs.Statements.{witnesses}
use Rattle.statement.specs.Meaning.{CantHold, CanHold}
use Rattle.question.specs.declared.questions.Question.{Question}
use Rattle.question.specs.Limits.{max_terms}
use Rattle.question.specs.Questions.{idle, question_of, statements}
use Rattle.question.specs.Checks.{checked, IsAccepted}
use Rattle.question.specs.Builds.{declaring, dropped}
use Rattle.question.proofs.AcceptedLaws.{accepted}
use Rattle.question.proofs.BuildLaws.{declaring_of, statements_of, terms_of_lem}
use Rattle.question.proofs.DroppedLaws.{accepted_dropped}
use Rattle.question_file.specs.Bytes.{file_bytes, question_bytes}
use Rattle.question_file.specs.Reads.{read_question, asked}
use Rattle.question_file.proofs.RoundTrips.{read_back}
use Rattle.theory.specs.Answers.{answer}
use Rattle.theory.proofs.AnswerLaws.{answer_same}
use Rattle.clash.specs.Clashes.{is_none, impossible, kept_from, clashing, Rising, statements_at, part_of}
use Rattle.clash.specs.Parts.{IsClash}
use Rattle.clash.proofs.MeaningLaws.{some_none, some_empty, none_cant, some_can, Accepts, stated, impossible_cant}
use Rattle.clash.proofs.KeptLaws.{Left, walk_leaves, all_needed, kept_rise}

-- nothing both can and can't hold
pub can_or_cant : {A : Type 0} {E : ℕ} {ss : List Statement} → CantHold E ss → CanHold E ss → A
can_or_cant cant can = absurd (cant can.by can.assignment can.holding)

-- where nothing is stated, each name has an element of its own and each set is empty
none_can : (E : ℕ) → CanHold E []
none_can E = record { by = record { size = E + 1; element = λ a. a.0; part = λ x d. false }; assignment = record { large_enough = omega arith; within = λ a lt. omega arith }; holding = tt }

module _ (q : Question) (is : IsAccepted q) where
  abbrev E : ℕ
  E = q.elements

  abbrev S : ℕ
  S = q.sets

  abbrev ss : List Statement
  ss = statements q

  -- the statements of an accepted question, as a question, are accepted
  again : Accepts E S ss
  unfolding dropped
  again = accepted_dropped q 0 0 is

  again_tested : impossible E S ss ≡ is_none (answer q)
  again_tested = ap is_none (answer_same (question_of E S ss) q refl refl (stated E S ss again))

  -- an impossible question
  module _ (cant : CantHold E ss) where
    none : is_none (answer q) ≡ true
    none = (none_cant q is).1 cant

    walked : clashing q ≡ kept_from E S [] 0 ss
    unfolding clashing
    walked = ap (λ b. cond b (kept_from E S [] 0 ss) []) none

    leaves : Left E S ss idle.statement [] ss (statements_at q (clashing q))
    leaves = subst (λ is. Left E S ss idle.statement [] ss (statements_at q is)) (sym walked) (walk_leaves E S ss idle.statement [] ss 0 refl again (again_tested ∙ none))

    impossible_accepted : IsAccepted (part_of q)
    unfolding part_of
    impossible_accepted = leaves.accepts

    impossible_stated : statements (part_of q) ≡ statements_at q (clashing q)
    unfolding part_of
    impossible_stated = stated E S (statements_at q (clashing q)) leaves.accepts

    -- what is left is impossible, and leaving out any one statement of it makes it possible
    pub clash_is : IsClash E (statements (part_of q))
    clash_is = rw impossible_stated (record { cant_hold = (impossible_cant E S (statements_at q (clashing q)) leaves.accepts).0 leaves.still; none_spared = leaves.needed })

    -- it has a statement: no statements at all can hold
    pub clash_some : 1 ≤ length (clashing q)
    clash_some = go (clashing q) refl
      where
        go : (is : List ℕ) → clashing q ≡ is → 1 ≤ length is
        go [] p = can_or_cant clash_is.cant_hold (subst (CanHold E) (sym (impossible_stated ∙ ap (statements_at q) p)) (none_can E))
        go (i ∷ is) p = omega arith

    -- nothing could be spared: all statements are left
    all_left : IsClash E ss → statements_at q (clashing q) ≡ ss
    all_left c = ap (statements_at q) walked ∙ all_needed E S ss idle.statement [] ss 0 refl again c.none_spared

  -- a possible question
  module _ (can : CanHold E ss) where
    some : is_none (answer q) ≡ false
    some = go (is_none (answer q)) refl
      where
        go : (b : Bool) → is_none (answer q) ≡ b → b ≡ false
        go true p = can_or_cant ((none_cant q is).0 p) can
        go false p = refl

    -- has no clashing statement
    pub possible_none : clashing q ≡ []
    possible_none = some_none q some

    pub possible_part : part_of q ≡ declaring E S
    possible_part = some_empty q some

  -- each accepted question is the one or the other
  pub cant_or_can : CantHold E ss ⊎ CanHold E ss
  cant_or_can = go (is_none (answer q)) refl
    where
      go : (b : Bool) → is_none (answer q) ≡ b → CantHold E ss ⊎ CanHold E ss
      go true p = inl ((none_cant q is).0 p)
      go false p = inr (some_can q is p)

  -- the part is accepted
  pub part_accepted : IsAccepted (part_of q)
  unfolding witnesses
  part_accepted = ⊎_elim impossible_accepted (λ can. subst IsAccepted (sym (possible_part can)) (empty_accepted)) cant_or_can
    where
      no_more : E + witnesses [] ≤ max_terms
      no_more = omega (arith, is.few_elements)

      empty_accepted : IsAccepted (declaring E S)
      empty_accepted = rw (declaring_of E S) (record { few_elements = is.few_elements; few_sets = is.few_sets; few_statements = omega arith; all_declared = rw (statements_of E S [] (omega arith)) tt; few_terms = rw (terms_of_lem E S [] (omega arith)) (no_more) })

  pub part_checked : checked (part_of q) ≡ Ok tt
  part_checked = (accepted (part_of q)).1 part_accepted

  -- its names are the question's, and its statements those at the indexes, in their order
  pub part_names : ((part_of q).elements ≡ E) × ((part_of q).sets ≡ S)
  unfolding part_of
  part_names = (refl, refl)

  pub part_stated : statements (part_of q) ≡ statements_at q (clashing q)
  unfolding part_of
  part_stated = stated E S (statements_at q (clashing q)) (partly part_accepted)
    where
      partly : IsAccepted (part_of q) → Accepts E S (statements_at q (clashing q))
      partly x = x

  pub part_count : (part_of q).count ≡ length (clashing q)
  unfolding part_of
  part_count = length-map (clashing q) _

  -- which rise
  pub indexes_rise : Rising 0 (length ss) (clashing q)
  indexes_rise = ⊎_elim
      (λ cant. subst (Rising 0 (length ss)) (sym (walked cant)) (kept_rise E S [] ss 0 (length ss) (omega arith)))
      (λ can. subst (Rising 0 (length ss)) (sym (possible_none can)) tt)
      cant_or_can

  -- its file reads back as it
  pub part_back : read_question (question_bytes (part_of q)) ≡ Ok (part_of q)
  unfolding part_of
  part_back = read_back (part_of q) part_checked ∙ ap (λ l. Ok (question_of E S l)) part_stated

  -- and it is the question's own file exactly if nothing could be spared
  pub part_whole : CantHold E ss → (question_bytes (part_of q) ≡ question_bytes q) ↔ IsClash E ss
  unfolding part_of
  part_whole cant = (
    λ e. subst (IsClash E) (same e) (clash_is cant),
    λ c. ap (file_bytes E S) (part_stated ∙ all_left cant c),
  )
    where
      same : question_bytes (part_of q) ≡ question_bytes q → statements (part_of q) ≡ ss
      same e = sym (ap (λ r. statements (asked r)) part_back) ∙ ap (λ b. statements (asked (read_question b))) e ∙ ap (λ r. statements (asked r)) (read_back q ((accepted q).1 is)) ∙ stated E S ss again
