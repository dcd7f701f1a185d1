-- The walk over all clauses of a table: what holds of every clause holds for each triple, each pair and set, and each row, and the other way round.
use Prim.Native.Nat.{ℕ, zero, suc, ◌+◌, ◌-◌, ◌≤◌, ◌<◌}
use mathlib.Core.Path.{◌≡◌, refl, sym, ap, ◌∙◌}
use mathlib.Core.List.{List, [], ◌∷◌, ◌++◌, append_assoc}
use native.Mathlib.Omega.{arith}
use native.Mathlib.Decide.{dec_le}
use Rattle.theory.specs.Lists.{Every}
use Rattle.theory.specs.Rules.{Row, upward}
use Rattle.theory.specs.Sets.{Test}
use Rattle.theory.proofs.ListLaws.{every_front, every_back, every_append}
use Rattle.clauses.specs.Clauses.{Clause, for_each, triple_clauses, triples_of, triples_from, triples, pair_clauses, pairs_of, pairs_from, pairs, row_clauses, table_clauses}

pub for_each_append : {A : Type 0} (f : A → List Clause) (xs ys : List A) → for_each (xs ++ ys) f ≡ for_each xs f ++ for_each ys f
unfolding for_each
for_each_append f [] ys = refl
for_each_append f (x ∷ xs) ys = ap (λ r. f x ++ r) (for_each_append f xs ys) ∙ sym (append_assoc (f x) (for_each xs f) (for_each ys f))

module _ (P : Clause → Type 0) where
  module _ {A : Type 0} (f : A → List Clause) where
    pub each_entry : (xs : List A) → Every (λ x. Every P (f x)) xs → Every P (for_each xs f)
    unfolding for_each
    each_entry [] h = tt
    each_entry (x ∷ xs) h = every_append P (f x) (for_each xs f) h.0 (each_entry xs h.1)

    pub of_entry : (xs : List A) → Every P (for_each xs f) → Every (λ x. Every P (f x)) xs
    unfolding for_each
    of_entry [] h = tt
    of_entry (x ∷ xs) h = (every_front P (f x) (for_each xs f) h, of_entry xs (every_back P (f x) (for_each xs f) h))

  -- the numbers c, c + 1, .. , n of them
  module _ (f : ℕ → List Clause) where
    pub each_number : (n c : ℕ) → ((d : ℕ) → c ≤ d → d < c + n → Every P (f d)) → Every P (for_each (upward n c) f)
    unfolding for_each
    each_number zero c h = tt
    each_number (suc n) c h = every_append P (f c) (for_each (upward n (suc c)) f) (h c (omega arith) (omega arith)) (each_number n (suc c) (λ d low high. h d (omega arith) (omega arith)))

    pub of_number : (n c : ℕ) → Every P (for_each (upward n c) f) → (d : ℕ) → c ≤ d → d < c + n → Every P (f d)
    unfolding for_each
    of_number zero c h d low high = absurd (omega arith)
    of_number (suc n) c h d low high = go (dec_le d c) (of_number n (suc c) (every_back P (f c) (for_each (upward n (suc c)) f) h) d)
      where
        go : Dec (d ≤ c) → (suc c ≤ d → d < suc c + n → Every P (f d)) → Every P (f d)
        go (yes q) later = let e : d ≡ c = omega arith in rw e (every_front P (f c) (for_each (upward n (suc c)) f) h)
        go (no q) later = later (omega arith) (omega arith)

  module _ (terms sets : ℕ) where
    -- P holds of the clauses of each triple, of each pair and set, of each row
    abbrev pub EachTriple : Type 0
    EachTriple = (b c d : ℕ) → b < c → c < d → d < terms → Every P (triple_clauses terms sets b c d)

    abbrev pub EachPair : Type 0
    EachPair = (c d x : ℕ) → c < d → d < terms → x < sets → Every P (pair_clauses terms sets c d x)

    abbrev pub EachRow : List (Row Test) → Type 0
    EachRow rows = Every (λ r. Every P (row_clauses terms sets r)) rows

    of_triples : EachTriple → Every P (triples terms sets)
    of_triples h =
        each_number (triples_from terms sets) terms 0 (λ b lb hb.
        each_number (triples_of terms sets b) (terms - suc b) (suc b) (λ c lc hc.
        each_number (triple_clauses terms sets b c) (terms - suc c) (suc c) (λ d ld hd. h b c d (omega arith) (omega arith) (omega arith))))

    of_pairs : EachPair → Every P (pairs terms sets)
    of_pairs h =
        each_number (pairs_from terms sets) terms 0 (λ c lc hc.
        each_number (pairs_of terms sets c) (terms - suc c) (suc c) (λ d ld hd.
        each_number (pair_clauses terms sets c d) sets 0 (λ x lx hx. h c d x (omega arith) (omega arith) (omega arith))))

    pub every_clause : (rows : List (Row Test)) → EachTriple → EachPair → EachRow rows → Every P (table_clauses terms sets rows)
    unfolding table_clauses
    every_clause rows t p r =
        every_append P (triples terms sets) (pairs terms sets ++ for_each rows (row_clauses terms sets)) (of_triples t)
        (every_append P (pairs terms sets) (for_each rows (row_clauses terms sets)) (of_pairs p) (each_entry (row_clauses terms sets) rows r))

    module _ (rows : List (Row Test)) (h : Every P (table_clauses terms sets rows)) where
      behind : Every P (pairs terms sets ++ for_each rows (row_clauses terms sets))
      unfolding table_clauses
      behind = every_back P (triples terms sets) (pairs terms sets ++ for_each rows (row_clauses terms sets)) h

      pub each_triple : EachTriple
      unfolding table_clauses
      each_triple b c d bc cd dt =
          of_number (triple_clauses terms sets b c) (terms - suc c) (suc c)
          (of_number (triples_of terms sets b) (terms - suc b) (suc b)
          (of_number (triples_from terms sets) terms 0
          (every_front P (triples terms sets) (pairs terms sets ++ for_each rows (row_clauses terms sets)) h)
          b (omega arith) (omega arith)) c (omega arith) (omega arith)) d (omega arith) (omega arith)

      pub each_pair : EachPair
      each_pair c d x cd dt xs =
          of_number (pair_clauses terms sets c d) sets 0
          (of_number (pairs_of terms sets c) (terms - suc c) (suc c)
          (of_number (pairs_from terms sets) terms 0
          (every_front P (pairs terms sets) (for_each rows (row_clauses terms sets)) behind)
          c (omega arith) (omega arith)) d (omega arith) (omega arith)) x (omega arith) (omega arith)

      pub each_row : EachRow rows
      each_row = of_entry (row_clauses terms sets) rows (every_back P (pairs terms sets) (for_each rows (row_clauses terms sets)) behind)
