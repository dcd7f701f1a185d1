-- Where the search stands: at the start, and with one term more placed; and the array that shows it.
use Prim.Native.Nat.{ℕ, suc, ◌+◌, ◌-◌, ◌≤◌, ◌<◌, max}
use mathlib.Core.Path.{◌≡◌, sym, ap, subst, ◌∙◌}
use mathlib.Core.List.{List, [], ◌∷◌, ◌++◌}
use native.Mathlib.Omega.{arith}
use native.Mathlib.Numerals.{add-one}
use lib.ListN.{length, take, drop, set, replicate, length-set, take-append-drop}
use lib.Seq.{take-suc-set, length-take-le, drop-drop, drop-set-lt}
use Rattle.question.specs.Limits.{max_terms}
use Rattle.theory.specs.Arrangements.{classes}
use Rattle.theory.proofs.ArrangementLaws.{classes_append}
use Rattle.outcome.specs.Padded.{padded}
use Rattle.search.specs.Placings.{Placing}

-- entries past the first n are 0
abbrev pub RestZero : ℕ → List ℕ → Type 0
RestZero n l = drop n l ≡ replicate (max_terms - n) 0

-- then the array is its first n entries, padded
pub rest_padded : (l : List ℕ) (n : ℕ) → length l ≡ max_terms → n ≤ max_terms → RestZero n l → l ≡ padded max_terms (take n l)
rest_padded l n long le z = sym (take-append-drop n l) ∙ ap (λ r. take n l ++ r) (z ∙ ap (λ m. replicate (max_terms - m) 0) (sym (length-take-le n l (omega arith))))

-- one entry more
pub rest_set : (l : List ℕ) (n v : ℕ) → n < max_terms → RestZero n l → RestZero (n + 1) (set l n v)
rest_set l n v lt z = let e : max_terms - n ≡ suc (max_terms - (n + 1)) = omega arith in
    drop-set-lt (n + 1) l n v (omega arith) ∙ sym (drop-drop 1 n l) ∙ ap (drop 1) z ∙ ap (λ m. drop 1 (replicate m 0)) e

module _ {arrangement : List ℕ} {placed used : ℕ} (here : Placing arrangement placed used) where
  -- how many terms are placed
  pub placed_length : length (take placed arrangement) ≡ placed
  placed_length = length-take-le placed arrangement (omega (arith, here.long, here.few_terms))

  pub placing_padded : arrangement ≡ padded max_terms (take placed arrangement)
  placing_padded = rest_padded arrangement placed here.long here.few_terms here.rest_zero

  pub placing_counted : Placing arrangement placed (classes (take placed arrangement))
  placing_counted = subst (Placing arrangement placed) here.counted here

  -- the next term in the class c
  module _ (c : ℕ) (room : placed < max_terms) where
    pub next_taken : take (placed + 1) (set arrangement placed c) ≡ take placed arrangement ++ (c ∷ [])
    next_taken = rw add-one (take-suc-set arrangement placed c (omega (arith, here.long)))

    pub placing_next : (more : ℕ) → c ≤ used → more ≡ max used (c + 1) → Placing (set arrangement placed c) (placed + 1) more
    placing_next more le e = record {
      long = length-set arrangement placed c ∙ here.long;
      few_terms = omega arith;
      few_classes = omega (arith, here.few_classes);
      counted = e ∙ ap (max used) (add-one c) ∙ ap (λ u. max u (suc c)) here.counted ∙ sym (classes_append 0 (take placed arrangement) (c ∷ [])) ∙ ap classes (sym next_taken);
      rest_zero = rest_set arrangement placed c room here.rest_zero;
    }
