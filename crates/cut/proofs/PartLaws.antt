-- Sets of terms that are parts of classes: which parts there are with one term more, and that there is no model where one has no mask.
use Prim.Native.Nat.{ℕ, ◌^◌}
use mathlib.Core.Path.{◌≡◌, sym, subst, ◌∙◌}
use mathlib.Core.Bool.{Bool, true, false, not, ◌||◌}
use mathlib.Core.List.{List}
use mathlib.Core.Logic.{◌≢◌, ◌⊎◌, ⊎_elim}
use mathlib.Core.Option.{none}
use native.Mathlib.Decide.{ℕ_discrete}
use lib.Bits.{bit_or}
use lib.Dec.{T}
use Rattle.question.specs.Masks.{bit}
use Rattle.statement.proofs.TestLaws.{T_true, true_T, same_test}
use Rattle.theory.specs.Arrangements.{in_class}
use Rattle.theory.specs.Rules.{Row}
use Rattle.theory.specs.FirstModels.{serves, model_of}
use Rattle.theory.specs.Solutions.{all_rows, met_by}
use Rattle.theory.specs.Classes.{meets_row, least_mask}
use Rattle.theory.proofs.MaskLaws.{no_model_lem}
use Rattle.theory.proofs.ListLaws.{every_both, all_every, every_all}
use Rattle.theory.proofs.ClassLaws.{LeastIs, least_mask_is}
use Rattle.question.proofs.BitLaws.{only_bit, or_right}
use Rattle.cut.specs.Asked.{asked_known, all_asked_known}
use Rattle.cut.specs.Families.{Family}
use Rattle.cut.specs.Standings.{Part, NonePart}
use Rattle.cut.proofs.MembersLaws.{bit_joined}
use Rattle.cut.proofs.AskedLaws.{fewer_pass}

module _ {known : ℕ → Bool} {set : ℕ} {l : List ℕ} {j : ℕ} (here : Part known set l j) where
  -- as far as fewer terms are known
  pub part_known : (less : ℕ → Bool) → ((d : ℕ) → T (less d) → T (known d)) → Part less set l j
  part_known less sub = record { there = here.there; inside = here.inside; agree = λ d h. here.agree d (sub d h) }

  -- one term more, t, which may be known then
  module _ (t : ℕ) (more : ℕ → Bool) (only : (d : ℕ) → T (more d) → T (known d) ⊎ (d ≡ t)) where
    was_known : (d : ℕ) → T (more d) → d ≢ t → T (known d)
    was_known d h ne = ⊎_elim (λ k. k) (λ e. absurd (ne e)) (only d h)

    -- it is in the class
    pub part_joined : T (in_class l j t) → Part more (bit_or set (2 ^ t)) l j
    part_joined in_j = record { there = here.there; inside = λ c b. inside c b (ℕ_discrete c t); agree = λ d h. agree d h (ℕ_discrete d t) }
      where
        inside : (c : ℕ) → T (bit (bit_or set (2 ^ t)) c) → Dec (c ≡ t) → T (in_class l j c)
        inside c b (yes e) = subst (λ d. T (in_class l j d)) (sym e) in_j
        inside c b (no ne) = here.inside c (subst T (bit_joined set t c ne) b)

        agree : (d : ℕ) → T (more d) → Dec (d ≡ t) → bit (bit_or set (2 ^ t)) d ≡ in_class l j d
        agree d h (yes e) = subst (λ c. bit (bit_or set (2 ^ t)) c ≡ in_class l j c) (sym e) (or_right set (2 ^ t) t (only_bit t) ∙ sym (true_T (in_class l j t) in_j))
        agree d h (no ne) = bit_joined set t d ne ∙ here.agree d (was_known d h ne)

    -- it is not
    pub part_without : in_class l j t ≡ false → Part more set l j
    part_without out = record { there = here.there; inside = here.inside; agree = λ d h. agree d h (ℕ_discrete d t) }
      where
        agree : (d : ℕ) → T (more d) → Dec (d ≡ t) → bit set d ≡ in_class l j d
        agree d h (yes e) = subst (λ c. bit set c ≡ in_class l j c) (sym e)
            (same_test (bit set t) (in_class l j t) (λ b. true_T (in_class l j t) (here.inside t (T_true b))) (λ q. absurd (subst T (sym q ∙ out) tt)))
        agree d h (no ne) = here.agree d (was_known d h ne)

module _ {Test : Type 0} (F : Family Test) where
  module _ {known : ℕ → Bool} {set : ℕ} {l : List ℕ} {j : ℕ} (here : Part known set l j) where
    -- what serves the class meets the rows of the part
    row_meets : (m : ℕ) (r : Row Test) → T (asked_known F.asks known r.term r.test) → T (serves F.fits l j m r) → T (meets_row F.fits set m r)
    row_meets m r o h = go (bit set r.term) (λ t. t)
      where
        served : (b : Bool) → T b → T (not b || met_by F.fits l j m r) → T (met_by F.fits l j m r)
        served true t s = s
        served false t s = absurd t

        go : (b : Bool) → (T b → T (bit set r.term)) → T (not b || F.fits m (bit set) r.test)
        go false f = tt
        go true f = fewer_pass known (bit set) (in_class l j) here.inside here.agree r.term (f tt) F m r.test o (served (in_class l j r.term) (here.inside r.term (f tt)) h)

    rows_meet : (m : ℕ) (rows : List (Row Test)) → T (all_asked_known F.asks known rows) → T (all_rows (serves F.fits l j m) rows) → T (all_rows (meets_row F.fits set m) rows)
    rows_meet m rows o h =
        let f : Row Test → Bool = λ r. asked_known F.asks known r.term r.test in
        every_all (meets_row F.fits set m) rows
        (every_both (λ r. T (f r)) (λ r. T (serves F.fits l j m r)) (λ r. T (meets_row F.fits set m r)) (row_meets m) rows (all_every f rows o) (all_every (serves F.fits l j m) rows h))

    -- so where the part has no mask, the class has none
    pub part_cut : (bound : ℕ) (rows : List (Row Test)) → T (all_asked_known F.asks known rows) → least_mask F.fits bound rows set ≡ none → model_of F.fits bound rows l ≡ none
    part_cut bound rows settled lacks = no_model_lem F.fits bound rows l j here.there
        (λ m small h. subst T (subst (LeastIs F.fits bound rows set) lacks (least_mask_is F.fits bound rows set) m small) (rows_meet m rows settled h))

  pub none_part : (bound : ℕ) (rows : List (Row Test)) (known : ℕ → Bool) (set terms : ℕ) → T (all_asked_known F.asks known rows) → least_mask F.fits bound rows set ≡ none → NonePart F.fits bound rows known set terms
  none_part bound rows known set terms settled lacks l j long here = part_cut here bound rows settled lacks
