-- The walk of the code, turn by turn: how far it has come, and that what it has kept and what is still ahead make up the clashing part.
use Rattle.std.proofs.Common.{Option, Some, None, IfSome}
use Rattle.std.proofs.lemmas.Option.{IfSome_then}
use Prim.Native.Nat.{ℕ, ◌+◌, ◌≤◌, ◌<◌}
use mathlib.Core.Path.{◌≡◌, refl, sym, ap, ap₂, subst, ◌∙◌}
use mathlib.Core.Bool.{true, false, cond}
use mathlib.Core.List.{List, [], ◌∷◌, ◌++◌, map-append, append_assoc, append-nil}
use native.Mathlib.Omega.{arith}
use native.Mathlib.Nat.{zero-add}
use native.Mathlib.Numerals.{add-one}
use lib.ListN.{length, get_or, drop, set, length-append, length-map, drop_of_length-le}
use lib.Seq.{drop-cons, drop-drop}
use Rattle.outcome.specs.Padded.{padded}
use Rattle.outcome.proofs.PaddedLaws.{padded_snoc}
use Rattle.statement.specs.declared.statements.Statement.{Statement}
use Rattle.question.specs.declared.questions.Question.{Question}
use Rattle.question.specs.Limits.{max_statements}
use Rattle.question.specs.Questions.{idle, question_of, statements}
use Rattle.question.specs.Checks.{IsAccepted}
use Rattle.question.specs.Builds.{without, dropped}
use Rattle.question.proofs.BuildLaws.{without_after}
use Rattle.question.proofs.DroppedLaws.{accepted_dropped}
use Rattle.theory.specs.Answers.{answer}
use Rattle.theory.proofs.AnswerLaws.{answer_same}
use Rattle.clash.specs.Clashes.{is_none, impossible, kept_from, clashing, statements_at, part_of}
use Rattle.clash.specs.declared.walks.Start.{Start}
use Rattle.clash.specs.Starts.{MayStart}
use Rattle.statement.proofs.AmongLaws.{among_drop}
use Rattle.clash.proofs.MeaningLaws.{Accepts, stated, accepts_rest, more_impossible}
use Rattle.clash.proofs.KeptLaws.{kept_end, kept_needed, kept_run}

module _ (q : Question) where
  abbrev E : ℕ
  E = q.elements

  abbrev S : ℕ
  S = q.sets

  abbrev ss : List Statement
  ss = statements q

  -- the statements that remain where those at the indexes `done` were kept, and those from i on are ahead
  abbrev pub remain : List ℕ → ℕ → List Statement
  remain done i = statements_at q done ++ drop i ss

  -- how far the walk has come
  pub record Walked (part : Question) (indexes : List ℕ) (kept i : ℕ) (bound : Option ℕ) : Type 0 where
    pub done : List ℕ
    pub here : kept ≡ length done
    pub stored : indexes ≡ padded max_statements done
    pub few : kept ≤ i
    pub inside : i ≤ length ss
    pub stands : part ≡ question_of E S (remain done i)
    pub accepts : Accepts E S (remain done i)
    pub ahead : clashing q ≡ done ++ kept_from E S (statements_at q done) i (drop i ss)
    pub known : IfSome bound (λ b. impossible E S (remain done b) ≡ false)

  -- what remains without the first statements
  first_is : (n : ℕ) → dropped q 0 n ≡ question_of E S (drop n ss)
  unfolding dropped
  first_is n = ap (λ k. question_of E S (drop k ss)) (zero-add n)

  -- at the start nothing is kept, and what was dropped is dropped by the walk
  module _ (is : IsAccepted q) (start : Start) (may : MayStart q start) where
    first_accepts : (n : ℕ) → Accepts E S (drop n ss)
    first_accepts n = subst IsAccepted (first_is n) (accepted_dropped q 0 n is)

    dropped_first : impossible E S (drop start.from ss) ≡ true
    dropped_first = ap (λ p. is_none (answer p)) (sym (first_is start.from)) ∙ may.still

    pub none : is_none (answer q) ≡ true
    none =
        sym (ap is_none (answer_same (question_of E S ss) q refl refl (stated E S ss (first_accepts 0))))
        ∙ more_impossible E S (drop start.from ss) ss (first_accepts start.from) (first_accepts 0) (among_drop start.from ss) dropped_first

    all_ahead : clashing q ≡ kept_from E S [] start.from (drop start.from ss)
    unfolding clashing
    all_ahead =
        ap (λ b. cond b (kept_from E S [] 0 ss) []) none
        ∙ kept_run E S start.from [] ss 0 (first_accepts 0) dropped_first
        ∙ ap (λ k. kept_from E S [] k (drop start.from ss)) (zero-add start.from)

    pub walk_starts : length ss ≡ q.count → Walked (dropped q 0 start.from) (padded max_statements []) 0 start.from start.bound
    walk_starts full = record {
      done = [];
      here = refl;
      stored = refl;
      few = omega arith;
      inside = omega (arith, may.inside, full);
      stands = first_is start.from;
      accepts = first_accepts start.from;
      ahead = all_ahead;
      known = IfSome_then start.bound may.known (λ b e. ap (λ p. is_none (answer p)) (sym (first_is b)) ∙ e);
    }

  module _ {part : Question} {indexes : List ℕ} {kept i : ℕ} {bound : Option ℕ} (w : Walked part indexes kept i bound) where
    -- what remains without the next n statements
    rest_is : (n : ℕ) → dropped part kept n ≡ question_of E S (remain w.done (i + n))
    unfolding dropped
    rest_is n =
        let own : length (statements_at q w.done) ≡ kept = length-map w.done (λ i. get_or ss i idle.statement) ∙ sym w.here in
        ap (λ p. dropped p kept n) w.stands
        ∙ ap (λ l. question_of E S (without kept n l)) (stated E S (remain w.done i) w.accepts)
        ∙ ap (λ k. question_of E S (without k n (remain w.done i))) (sym own)
        ∙ ap (question_of E S) (without_after (statements_at q w.done) (drop i ss) n ∙ ap (λ l. statements_at q w.done ++ l) (drop-drop n i ss))

    rest_accepts : (n : ℕ) → Accepts E S (remain w.done (i + n))
    rest_accepts n = subst (λ l. Accepts E S (statements_at q w.done ++ l)) (drop-drop n i ss) (accepts_rest E S (statements_at q w.done) (drop i ss) n w.accepts)

    pub rest_accepted : (n : ℕ) → IsAccepted (dropped part kept n)
    rest_accepted n = subst IsAccepted (sym (rest_is n)) (rest_accepts n)

    rest_tested : (n : ℕ) → is_none (answer (dropped part kept n)) ≡ impossible E S (remain w.done (i + n))
    rest_tested n = ap (λ p. is_none (answer p)) (rest_is n)

    -- a run is dropped
    pub walk_drops : (n : ℕ) → i + n ≤ length ss → is_none (answer (dropped part kept n)) ≡ true → Walked (dropped part kept n) indexes kept (i + n) bound
    walk_drops n h e = record {
      done = w.done;
      here = w.here;
      stored = w.stored;
      few = omega (arith, w.few);
      inside = h;
      stands = rest_is n;
      accepts = rest_accepts n;
      ahead = w.ahead ∙ ap (λ l. w.done ++ l) (kept_run E S n (statements_at q w.done) (drop i ss) i w.accepts (subst (λ l. impossible E S (statements_at q w.done ++ l) ≡ true) (sym (drop-drop n i ss)) (sym (rest_tested n) ∙ e)) ∙ ap (kept_from E S (statements_at q w.done) (i + n)) (drop-drop n i ss));
      known = w.known;
    }

    -- or it can't be dropped
    pub walk_bounds : (n : ℕ) → is_none (answer (dropped part kept n)) ≡ false → Walked part indexes kept i (Some (i + n))
    walk_bounds n e = record {
      done = w.done;
      here = w.here;
      stored = w.stored;
      few = w.few;
      inside = w.inside;
      stands = w.stands;
      accepts = w.accepts;
      ahead = w.ahead;
      known = sym (rest_tested n) ∙ e;
    }

    -- a statement is kept, and then nothing is known of the next
    module _ (room : length ss ≤ max_statements) (lt : i < length ss) (b : bound ≡ Some (i + 1)) where
      abbrev s : Statement
      s = get_or ss i idle.statement

      more : statements_at q (w.done ++ (i ∷ [])) ≡ statements_at q w.done ++ (s ∷ [])
      more = map-append (λ i. get_or ss i idle.statement) w.done (i ∷ [])

      front : drop i ss ≡ s ∷ drop (i + 1) ss
      front = rw (add-one i) (drop-cons ss i idle.statement lt)

      same : remain (w.done ++ (i ∷ [])) (i + 1) ≡ remain w.done i
      same = ap (λ l. l ++ drop (i + 1) ss) more ∙ append_assoc (statements_at q w.done) (s ∷ []) (drop (i + 1) ss) ∙ ap (λ l. statements_at q w.done ++ l) (sym front)

      pub walk_keeps : Walked part (set indexes kept i) (kept + 1) (i + 1) None
      walk_keeps = record {
        done = w.done ++ (i ∷ []);
        here = omega (arith, w.here, length-append w.done (i ∷ []));
        stored = ap₂ (λ l k. set l k i) w.stored w.here ∙ padded_snoc max_statements w.done i (omega (arith, w.here, w.few));
        few = omega (arith, w.few);
        inside = omega arith;
        stands = w.stands ∙ ap (question_of E S) (sym same);
        accepts = subst (Accepts E S) (sym same) w.accepts;
        ahead =
            w.ahead
            ∙ ap (λ l. w.done ++ l)
            (ap (kept_from E S (statements_at q w.done) i) front
            ∙ kept_needed E S (statements_at q w.done) (drop (i + 1) ss) i s (subst (λ o. IfSome o (λ k. impossible E S (remain w.done k) ≡ false)) b w.known)
            ∙ ap₂ (λ l k. i ∷ kept_from E S l k (drop (i + 1) ss)) (sym more) (sym (add-one i)))
            ∙ sym (append_assoc w.done (i ∷ []) (kept_from E S (statements_at q (w.done ++ (i ∷ []))) (i + 1) (drop (i + 1) ss)));
        known = tt;
      }

    -- at the end what was kept is the clashing part
    module _ (over : length ss ≤ i) where
      none_left : drop i ss ≡ []
      none_left = drop_of_length-le ss {i = i} over

      all_done : clashing q ≡ w.done
      all_done = w.ahead ∙ ap (λ l. w.done ++ l) (ap (kept_from E S (statements_at q w.done) i) none_left ∙ kept_end E S (statements_at q w.done) i) ∙ append-nil w.done

      pub walk_ends : (part ≡ part_of q) × (indexes ≡ padded max_statements (clashing q))
      unfolding part_of
      walk_ends = (
        w.stands ∙ ap (question_of E S) (ap (λ l. statements_at q w.done ++ l) none_left ∙ append-nil (statements_at q w.done) ∙ ap (statements_at q) (sym all_done)),
        w.stored ∙ ap (padded max_statements) (sym all_done),
      )
