-- The rows of a rule, packed: what stands where, and how many they are.
use Prim.Native.Nat.{ℕ, ◌<◌}
use mathlib.Core.Path.{◌≡◌, refl, ap, ◌∙◌}
use mathlib.Core.List.{map, map-map}
use native.Mathlib.Nat.{zero-add}
use lib.ListN.{length, get_or}
use Rattle.theory.specs.Rules.{Rule, OneTerm, EachTerm, OwnWitness, row, upward}
use Rattle.theory.specs.Sets.{Test}
use Rattle.theory.proofs.TermLaws.{named_at, named_length}
use Rattle.row.specs.Rows.{pack_row}
use Rattle.reduction.specs.Rules.{rule_rows, each_term}

module _ (t : Test) (terms : ℕ) where
  pub each_packed : each_term t terms ≡ map (λ c. pack_row (row c t)) (upward terms 0)
  each_packed = map-map pack_row (λ c. row c t) (upward terms 0)

  pub each_length : length (each_term t terms) ≡ terms
  each_length = ap length each_packed ∙ named_length (λ c. pack_row (row c t)) terms

  pub each_at : (c : ℕ) → c < terms → get_or (each_term t terms) c 0 ≡ pack_row (row c t)
  each_at c h = ap (λ l. get_or l c 0) each_packed ∙ named_at (λ c. pack_row (row c t)) terms 0 c h ∙ ap (λ n. pack_row (row n t)) (zero-add c)

-- how many rows a rule has does not depend on the witness
pub count_same : (terms w v : ℕ) (r : Rule Test) → length (rule_rows terms w r) ≡ length (rule_rows terms v r)
count_same terms w v (OneTerm a t) = refl
count_same terms w v (EachTerm t) = refl
count_same terms w v (OwnWitness t) = refl
