-- What `smallest_mask` gives is the mask of the group, where there are at most so many sets as a question may have.
use Prim.Native.Nat.{ℕ, ◌^◌, ◌≤◌, min}
use mathlib.Core.Path.{◌≡◌, refl, sym, ap, ◌∙◌}
use mathlib.Core.List.{List}
use mathlib.Core.Option as least
use Rattle.std.specs.Prelude.{Option, Some, None}
use native.Mathlib.Omega.{arith}
use Rattle.outcome.proofs.Never.{never}
use Rattle.question.specs.Limits.{max_sets}
use Rattle.mask.specs.Entries.{rows_of_entries}
use Rattle.mask.specs.Least.{least_mask}
use Rattle.mask.specs.Masks.{smallest_of}
use Rattle.search.specs.Memos.{mask_of_group}

is_some : (o : least.Option ℕ) (m : ℕ) → Some m ≡ smallest_of o → o ≡ least.some m
is_some least.none m e = never cc
is_some (least.some n) m e = cc

is_none : (o : least.Option ℕ) → None ≡ smallest_of o → o ≡ least.none
is_none least.none e = refl
is_none (least.some n) e = never cc

module _ (entries : List ℕ) (sets group : ℕ) (few : sets ≤ max_sets) (s : Option ℕ) (found : s ≡ smallest_of (least_mask (2 ^ min sets 32) (rows_of_entries entries) group)) where
  as_wide : s ≡ smallest_of (mask_of_group entries sets group)
  as_wide = let e : min sets 32 ≡ sets = omega arith in found ∙ ap (λ w. smallest_of (least_mask (2 ^ w) (rows_of_entries entries) group)) e

  pub mask_is : (m : ℕ) → s ≡ Some m → mask_of_group entries sets group ≡ least.some m
  mask_is m e = is_some (mask_of_group entries sets group) m (sym e ∙ as_wide)

  pub mask_lacks : s ≡ None → mask_of_group entries sets group ≡ least.none
  mask_lacks e = is_none (mask_of_group entries sets group) (sym e ∙ as_wide)
