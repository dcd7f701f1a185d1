-- Where all terms are placed, the smallest mask of a class is that of its set of terms.
use Prim.Native.Nat.{ℕ, ◌<◌}
use mathlib.Core.Path.{◌≡◌, sym, ap, ◌∙◌, fun_ext}
use mathlib.Core.Bool.{not, ◌||◌}
use mathlib.Core.List.{List}
use lib.ListN.{length}
use Rattle.question.specs.Masks.{bit}
use Rattle.theory.specs.Lists.{Every}
use Rattle.theory.specs.Arrangements.{in_class}
use Rattle.theory.specs.Searches.{first_passing}
use Rattle.theory.specs.Rules.{Row}
use Rattle.theory.specs.FirstModels.{serves, smallest_mask}
use Rattle.theory.specs.Classes.{meets_row, least_mask}
use Rattle.theory.proofs.ListLaws.{every_map, all_same}
use Rattle.cut.specs.Members.{members}
use Rattle.cut.specs.Families.{Family, Within}
use Rattle.cut.proofs.MembersLaws.{bit_members}

module _ {Test : Type 0} (F : Family Test) (l : List ℕ) (k : ℕ) where
  row_whole : (m : ℕ) (r : Row Test) → Within F (length l) r → serves F.fits l k m r ≡ meets_row F.fits (members l k) m r
  row_whole m r within =
      ap (λ b. not b || F.fits m (in_class l k) r.test) (sym (bit_members k l r.term within.0))
      ∙ ap (λ b. not (bit (members l k) r.term) || b)
      (F.looks m (in_class l k) (bit (members l k)) r.test (every_map (λ d. d < length l) (λ d. in_class l k d ≡ bit (members l k) d) (λ d lt. sym (bit_members k l d lt)) (F.names r.test) within.1))

  pub mask_whole : (bound : ℕ) (rows : List (Row Test)) → Every (Within F (length l)) rows → smallest_mask F.fits bound rows l k ≡ least_mask F.fits bound rows (members l k)
  unfolding smallest_mask least_mask
  mask_whole bound rows within = ap (first_passing bound) (fun_ext (λ m. all_same (Within F (length l)) (serves F.fits l k m) (meets_row F.fits (members l k) m) (row_whole m) rows within))
