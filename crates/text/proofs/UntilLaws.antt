-- The bytes before the first separator end at its place.
use Rattle.std.proofs.Common.{◌≡◌, ℕ, ◌+◌, ◌≤◌, eqb, ltb, cond, not, Bool, true, false, List, [], ◌∷◌, length, refl, sym, ◌∙◌, arith, unwrap_or, position, Some, None}
use Rattle.std.specs.List.{position_or_len}
use Rattle.std.proofs.lemmas.Bool.Decides.{nat_tests}
use Rattle.std.proofs.lemmas.List.Recursion.{is_position_or_len}
use Rattle.std.proofs.lemmas.List.Sums.{prefix_len-le-length}
use Rattle.text.specs.Pieces.{until}

-- as a place in the bytes, or their end
place_or_end : (n m : ℕ) → n ≤ m → unwrap_or (cond (ltb n m) (Some n) None) m ≡ n
place_or_end n m h = grind (arith, nat_tests)

until_place : (sep : ℕ) (bytes : List ℕ) → length (until sep bytes) ≡ position_or_len (λ b. eqb b sep) bytes
unfolding until
until_place sep bytes = is_position_or_len (λ l. length (until sep l)) (λ b. eqb b sep) refl (λ b l. go (eqb b sep) b l) bytes
  where
    go : (t : Bool) (b : ℕ) (l : List ℕ) → length (cond t [] (b ∷ until sep l)) ≡ cond t 0 (1 + length (until sep l))
    go true b l = refl
    go false b l = omega arith

pub until_found : (sep : ℕ) (bytes : List ℕ) → unwrap_or (position (λ b. eqb b sep) bytes) (length bytes) ≡ length (until sep bytes)
until_found sep bytes = place_or_end _ _ (prefix_len-le-length (λ b. not (eqb b sep)) bytes) ∙ sym (until_place sep bytes)
