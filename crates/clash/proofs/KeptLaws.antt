-- The walk over the indexes: a run that can be dropped at once is dropped one by one; what is left is impossible, and each statement of it is needed.
use Prim.Native.Nat.{ℕ, zero, suc, ◌+◌, ◌≤◌, ◌<◌}
use mathlib.Core.Path.{◌≡◌, refl, sym, ap, ap₂, subst, ◌∙◌}
use mathlib.Core.Bool.{Bool, true, false}
use mathlib.Core.List.{List, [], ◌∷◌, ◌++◌, map, append_assoc}
use mathlib.Core.Logic.{inl, inr, ⊎_elim}
use native.Mathlib.Omega.{arith}
use lib.ListN.{length, get_or, take, drop, length-append, length-drop}
use lib.Seq.{drop-cons}
use Rattle.statement.specs.declared.statements.Statement.{Statement}
use Rattle.statement.specs.Meaning.{CanHold}
use Rattle.statement.specs.Among.{Among}
use Rattle.statement.proofs.AmongLaws.{among_behind, among_drop, among_same}
use Rattle.statement.proofs.HoldLaws.{can_among}
use Rattle.question.specs.Builds.{without}
use Rattle.question.proofs.BuildLaws.{without_after}
use Rattle.clash.specs.Clashes.{impossible, kept_from, Rising}
use Rattle.clash.proofs.MeaningLaws.{Accepts, impossible_cant, possible_can, accepts_rest, more_impossible}

abbrev head_or : Statement → List Statement → Statement
head_or d [] = d
head_or d (s ∷ l) = s

abbrev tail : List Statement → List Statement
tail [] = []
tail (s ∷ l) = l

rising_lower : (low lower high : ℕ) (l : List ℕ) → lower ≤ low → Rising low high l → Rising lower high l
rising_lower low lower high [] h r = tt
rising_lower low lower high (i ∷ l) h r = (omega (arith, r.0), r.1, r.2)

module _ (E S : ℕ) where
  -- one turn of the walk
  pub kept_end : (kept : List Statement) (i : ℕ) → kept_from E S kept i [] ≡ []
  unfolding kept_from
  kept_end kept i = refl

  pub kept_spared : (kept after : List Statement) (i : ℕ) (s : Statement) → impossible E S (kept ++ after) ≡ true → kept_from E S kept i (s ∷ after) ≡ kept_from E S kept (suc i) after
  unfolding kept_from
  kept_spared kept after i s e = rw e

  pub kept_needed : (kept after : List Statement) (i : ℕ) (s : Statement) → impossible E S (kept ++ after) ≡ false → kept_from E S kept i (s ∷ after) ≡ i ∷ kept_from E S (kept ++ (s ∷ [])) (suc i) after
  unfolding kept_from
  kept_needed kept after i s e = rw e

  snoc : (kept after : List Statement) (s : Statement) → (kept ++ (s ∷ [])) ++ after ≡ kept ++ (s ∷ after)
  snoc kept after s = append_assoc kept (s ∷ []) after

  -- where what remains without the next n is impossible, they are dropped
  pub kept_run : (n : ℕ) (kept after : List Statement) (i : ℕ) → Accepts E S (kept ++ after) → impossible E S (kept ++ drop n after) ≡ true → kept_from E S kept i after ≡ kept_from E S kept (i + n) (drop n after)
  kept_run zero kept after i is e = ap (λ k. kept_from E S kept k after) (omega arith)
  kept_run (suc n) kept [] i is e = kept_end kept i ∙ sym (kept_end kept (i + suc n))
  kept_run (suc n) kept (s ∷ after) i is e =
      let rest : Accepts E S (kept ++ after) = accepts_rest E S kept (s ∷ after) 1 is in
      let less : Accepts E S (kept ++ drop n after) = accepts_rest E S kept after n rest in
      kept_spared kept after i s (more_impossible E S (kept ++ drop n after) (kept ++ after) less rest (among_behind kept (drop n after) after (among_drop n after)) e)
      ∙ kept_run n kept after (suc i) rest e
      ∙ ap (λ k. kept_from E S kept k (drop n after)) (omega arith)

  -- what the walk over the statements ss leaves from the index i on
  module _ (ss : List Statement) (d : Statement) where
    abbrev pub at : ℕ → Statement
    at i = get_or ss i d

    abbrev pub left : List Statement → ℕ → List Statement → List Statement
    left kept i after = map at (kept_from E S kept i after)

    -- the next statement, and those after it
    next : (i : ℕ) (s : Statement) (after : List Statement) → s ∷ after ≡ drop i ss → (at i ≡ s) × (after ≡ drop (suc i) ss)
    next i s after e =
        let inside : i < length ss = omega (arith, ap length e, length-drop i ss) in
        let both : s ∷ after ≡ at i ∷ drop (suc i) ss = e ∙ drop-cons ss i d inside in
        (sym (ap (head_or d) both), ap tail both)

    -- what is left is impossible, and some assignment meets it where any one statement is left out
    pub record Left (kept after K : List Statement) : Type 0 where
      pub among : Among K after
      pub accepts : Accepts E S (kept ++ K)
      pub still : impossible E S (kept ++ K) ≡ true
      pub needed : (j : ℕ) → j < length K → CanHold E (kept ++ without j 1 K)

    pub walk_leaves : (kept after : List Statement) (i : ℕ) → after ≡ drop i ss → Accepts E S (kept ++ after) → impossible E S (kept ++ after) ≡ true → Left kept after (left kept i after)
    walk_leaves kept [] i e is h = rw (kept_end kept i) (record { among = among_same []; accepts = is; still = h; needed = λ j lt. absurd (omega arith) })
    walk_leaves kept (s ∷ after) i e is h =
        go (impossible E S (kept ++ after)) refl
        (λ p. walk_leaves kept after (suc i) (next i s after e).1 rest p)
        (walk_leaves (kept ++ (s ∷ [])) after (suc i) (next i s after e).1 (subst (Accepts E S) (sym (snoc kept after s)) is) (subst (λ l. impossible E S l ≡ true) (sym (snoc kept after s)) h))
      where
        rest : Accepts E S (kept ++ after)
        rest = accepts_rest E S kept (s ∷ after) 1 is

        K : List Statement
        K = left (kept ++ (s ∷ [])) (suc i) after

        needs : impossible E S (kept ++ after) ≡ false → Left (kept ++ (s ∷ [])) after K → (j : ℕ) → j < length (s ∷ K) → CanHold E (kept ++ without j 1 (s ∷ K))
        needs p k zero lt = can_among E (kept ++ K) (kept ++ after) (among_behind kept K after k.among) (possible_can E S (kept ++ after) rest p)
        needs p k (suc j) lt = let far : suc (j + 1) ≡ suc j + 1 = omega arith in subst (CanHold E) (snoc kept (without j 1 K) s ∙ ap (λ n. kept ++ (s ∷ take j K ++ drop n (s ∷ K))) far) (k.needed j (omega arith))

        whole : impossible E S (kept ++ after) ≡ false → Left (kept ++ (s ∷ [])) after K → Left kept (s ∷ after) (s ∷ K)
        whole p k = record {
          among = λ x o. ⊎_elim (λ same. inl same) (λ r. inr (k.among x r)) o;
          accepts = subst (Accepts E S) (snoc kept K s) k.accepts;
          still = subst (λ l. impossible E S l ≡ true) (snoc kept K s) k.still;
          needed = needs p k;
        }

        go : (b : Bool) → impossible E S (kept ++ after) ≡ b → (impossible E S (kept ++ after) ≡ true → Left kept after (left kept (suc i) after)) → Left (kept ++ (s ∷ [])) after K → Left kept (s ∷ after) (left kept i (s ∷ after))
        go true p spare keep = let k = spare p in rw (kept_spared kept after i s p) (record { among = λ x o. inr (k.among x o); accepts = k.accepts; still = k.still; needed = k.needed })
        go false p spare keep = subst (Left kept (s ∷ after)) (sym (ap (map at) (kept_needed kept after i s p) ∙ ap (λ x. x ∷ K) (next i s after e).0)) (whole p keep)

    -- where none can be spared, all are left
    pub all_needed : (kept after : List Statement) (i : ℕ) → after ≡ drop i ss → Accepts E S (kept ++ after) → ((j : ℕ) → j < length (kept ++ after) → CanHold E (without j 1 (kept ++ after))) → left kept i after ≡ after
    all_needed kept [] i e is h = ap (map at) (kept_end kept i)
    all_needed kept (s ∷ after) i e is h =
        go (impossible E S (kept ++ after)) refl
        (all_needed (kept ++ (s ∷ [])) after (suc i) (next i s after e).1 (subst (Accepts E S) (sym (snoc kept after s)) is) (subst (λ l. (j : ℕ) → j < length l → CanHold E (without j 1 l)) (sym (snoc kept after s)) h))
      where
        rest : Accepts E S (kept ++ after)
        rest = accepts_rest E S kept (s ∷ after) 1 is

        can : CanHold E (kept ++ after)
        can = subst (CanHold E) (without_after kept (s ∷ after) 1) (h (length kept) (omega (arith, length-append kept (s ∷ after))))

        go : (b : Bool) → impossible E S (kept ++ after) ≡ b → left (kept ++ (s ∷ [])) (suc i) after ≡ after → left kept i (s ∷ after) ≡ s ∷ after
        go true p ih = absurd ((impossible_cant E S (kept ++ after) rest).0 p can.by can.assignment can.holding)
        go false p ih = ap (map at) (kept_needed kept after i s p) ∙ ap₂ (λ x l. x ∷ l) (next i s after e).0 ih

  -- the indexes rise
  pub kept_rise : (kept after : List Statement) (i high : ℕ) → i + length after ≤ high → Rising i high (kept_from E S kept i after)
  kept_rise kept [] i high h = rw (kept_end kept i) tt
  kept_rise kept (s ∷ after) i high h = go (impossible E S (kept ++ after)) refl (kept_rise kept after (suc i) high (omega arith)) (kept_rise (kept ++ (s ∷ [])) after (suc i) high (omega arith))
    where
      go : (b : Bool) → impossible E S (kept ++ after) ≡ b → Rising (suc i) high (kept_from E S kept (suc i) after) → Rising (suc i) high (kept_from E S (kept ++ (s ∷ [])) (suc i) after) → Rising i high (kept_from E S kept i (s ∷ after))
      go true p spare keep = rw (kept_spared kept after i s p) (rising_lower (suc i) i high (kept_from E S kept (suc i) after) (omega arith) spare)
      go false p spare keep = rw (kept_needed kept after i s p) (omega arith, omega arith, keep)
