-- Sets of terms that stand for classes: how they stand at first, and with one term more.
use Prim.Native.Nat.{ℕ, zero, suc, ◌+◌, ◌^◌, ◌<◌}
use mathlib.Core.Path.{◌≡◌, refl, sym, ap, subst, ◌∙◌}
use mathlib.Core.Bool.{Bool, cond}
use mathlib.Core.List.{List, ◌++◌}
use mathlib.Core.Logic.{◌≢◌, ◌⊎◌, inl, inr, ⊎_elim}
use mathlib.Core.Option.{none}
use native.Mathlib.Omega.{arith}
use native.Mathlib.Decide.{ℕ_discrete}
use borrow.Author.Tests.{eq-eqb, ne_eqb}
use lib.Bits.{bit_or}
use lib.Dec.{T, eqb}
use lib.ListN.{length, get_or, set, length-append, get_or-append}
use lib.Seq.{get_or-set_same, get_or-set_other}
use Rattle.question.specs.Masks.{bit}
use Rattle.statement.proofs.TestLaws.{T_true, true_T}
use Rattle.theory.specs.Arrangements.{classes, class_of, in_class}
use Rattle.theory.specs.Rules.{Row}
use Rattle.theory.specs.FirstModels.{model_of}
use Rattle.question.proofs.BitLaws.{bit_alone, only_bit}
use Rattle.theory.proofs.ArrangementLaws.{class_below, classes_append, classes_grow}
use Rattle.theory.proofs.SearchLaws.{first_placing_none}
use Rattle.cut.specs.Members.{members}
use Rattle.cut.specs.Behind.{found_behind}
use Rattle.cut.specs.Standings.{Part, Stand, NoneStands}
use Rattle.cut.proofs.MembersLaws.{members_agree, members_inside}
use Rattle.cut.proofs.PartLaws.{part_known, part_joined, part_without}

-- is one of n class numbers j
pub one_is : (at : ℕ → ℕ) (j n : ℕ) → ((k : ℕ) × (k < n) × (at k ≡ j)) ⊎ ((k : ℕ) → k < n → at k ≢ j)
one_is at j zero = inr (λ k lt. absurd (omega arith))
one_is at j (suc n) = go (one_is at j n) (ℕ_discrete (at n) j)
  where
    go : ((k : ℕ) × (k < n) × (at k ≡ j)) ⊎ ((k : ℕ) → k < n → at k ≢ j) → Dec (at n ≡ j) → ((k : ℕ) × (k < suc n) × (at k ≡ j)) ⊎ ((k : ℕ) → k < suc n → at k ≢ j)
    go (inl w) d = let lt = w.1 in inl (w.0, omega arith, w.2)
    go (inr none_of) (yes e) = inl (n, omega arith, e)
    go (inr none_of) (no ne) = inr (λ k lt. other k lt (ℕ_discrete k n))
      where
        other : (k : ℕ) → k < suc n → Dec (k ≡ n) → at k ≢ j
        other k lt (yes q) = λ e. ne (ap at (sym q) ∙ e)
        other k lt (no q) = none_of k (omega arith)

module _ {known : ℕ → Bool} {groups : List ℕ} {used : ℕ} {l : List ℕ} {at : ℕ → ℕ} (here : Stand known groups used l at) where
  -- as far as fewer terms are known
  pub stand_known : (less : ℕ → Bool) → ((d : ℕ) → T (less d) → T (known d)) → Stand less groups used l at
  stand_known less sub = record { part = λ k lt. part_known (here.part k lt) less sub; apart = here.apart; covered = λ d h. here.covered d (sub d h) }

  -- one term more, t, which may be known then
  module _ (t : ℕ) (more : ℕ → Bool) (only : (d : ℕ) → T (more d) → T (known d) ⊎ (d ≡ t)) where
    -- a set that stands for another class than its own stays as it is
    elsewhere : (i : ℕ) → i < used → at i ≢ class_of l t → Part more (get_or groups i 0) l (at i)
    elsewhere i lt ne = part_without (here.part i lt) t more only (ne_eqb (at i) (class_of l t) ne)

    -- it is in the class that the set k stands for
    module _ (k : ℕ) (lt : k < used) (room : k < length groups) (is : at k ≡ class_of l t) where
      abbrev set_with : ℕ
      set_with = bit_or (get_or groups k 0) (2 ^ t)

      pub joined_part : Part more set_with l (at k)
      joined_part = part_joined (here.part k lt) t more only (T_true (eq-eqb (at k) (class_of l t) is))

      new_part : (i : ℕ) → i < used → Part more (get_or (set groups k set_with) i 0) l (at i)
      new_part i i_lt = go (ℕ_discrete i k)
        where
          go : Dec (i ≡ k) → Part more (get_or (set groups k set_with) i 0) l (at i)
          go (yes e) = rw (e, get_or-set_same groups k set_with 0 room) joined_part
          go (no ne) = rw (get_or-set_other groups k i set_with 0 ne) (elsewhere i i_lt (λ q. ne (here.apart i k i_lt lt (q ∙ sym is))))

      pub stand_joined : Stand more (set groups k set_with) used l at
      stand_joined = record { part = new_part; apart = here.apart; covered = λ d h. ⊎_elim (here.covered d) (λ e. (k, lt, is ∙ ap (class_of l) (sym e))) (only d h) }

    -- it is in none of those classes: alone it is a part of its own
    module _ (out : (k : ℕ) → k < used → at k ≢ class_of l t) (in_l : t < length l) where
      own_class : T (in_class l (class_of l t) t)
      own_class = T_true (eq-eqb (class_of l t) (class_of l t) refl)

      pub alone_part : Part more (2 ^ t) l (class_of l t)
      alone_part = record { there = class_below 0 l t in_l; inside = λ c b. inside c b (ℕ_discrete c t); agree = λ d h. agree d h (ℕ_discrete d t) }
        where
          inside : (c : ℕ) → T (bit (2 ^ t) c) → Dec (c ≡ t) → T (in_class l (class_of l t) c)
          inside c b (yes e) = subst (λ d. T (in_class l (class_of l t) d)) (sym e) own_class
          inside c b (no ne) = absurd (subst T (bit_alone t c ne) b)

          agree : (d : ℕ) → T (more d) → Dec (d ≡ t) → bit (2 ^ t) d ≡ in_class l (class_of l t) d
          agree d h (yes e) = subst (λ c. bit (2 ^ t) c ≡ in_class l (class_of l t) c) (sym e) (only_bit t ∙ sym (true_T (in_class l (class_of l t) t) own_class))
          agree d h (no ne) =
              let w = here.covered d (⊎_elim (λ k. k) (λ e. absurd (ne e)) (only d h)) in
              bit_alone t d ne ∙ sym (ne_eqb (class_of l t) (class_of l d) (λ e. out w.0 w.1 (w.2 ∙ sym e)))

      -- a new set stands for its class
      module _ (room : used < length groups) where
        abbrev at_new : ℕ → ℕ
        at_new k = cond (eqb k used) (class_of l t) (at k)

        each : (P : ℕ → ℕ → ℕ → Type 0) → ((k : ℕ) → k < used → P k (get_or groups k 0) (at k)) → P used (2 ^ t) (class_of l t) → (k : ℕ) → k < used + 1 → P k (get_or (set groups used (2 ^ t)) k 0) (at_new k)
        each P old new k lt = go (ℕ_discrete k used)
          where
            go : Dec (k ≡ used) → P k (get_or (set groups used (2 ^ t)) k 0) (at_new k)
            go (yes e) = rw (e, get_or-set_same groups used (2 ^ t) 0 room, eq-eqb used used refl) new
            go (no ne) = rw (get_or-set_other groups used k (2 ^ t) 0 ne, ne_eqb k used ne) (old k (omega arith))

        apart_new : (i : ℕ) → i < used + 1 → (k : ℕ) → k < used + 1 → at_new i ≡ at_new k → i ≡ k
        apart_new = each (λ i g j. (k : ℕ) → k < used + 1 → j ≡ at_new k → i ≡ k)
            (λ i i_lt. each (λ k g j. at i ≡ j → i ≡ k) (λ k k_lt. here.apart i k i_lt k_lt) (λ e. absurd (out i i_lt e)))
            (each (λ k g j. class_of l t ≡ j → used ≡ k) (λ k k_lt e. absurd (out k k_lt (sym e))) (λ e. refl))

        pub stand_new : Stand more (set groups used (2 ^ t)) (used + 1) l at_new
        stand_new = record {
          part = each (λ k g j. Part more g l j) (λ k lt. elsewhere k lt (out k lt)) alone_part;
          apart = λ i k i_lt k_lt. apart_new i i_lt k k_lt;
          covered = λ d h. ⊎_elim
              (λ o. let w = here.covered d o in let lt = w.1 in (w.0, omega arith, ap (λ b. cond b (class_of l t) (at w.0)) (ne_eqb w.0 used (λ e. omega arith)) ∙ w.2))
              (λ e. (used, omega arith, ap (λ b. cond b (class_of l t) (at used)) (eq-eqb used used refl) ∙ ap (class_of l) (sym e))) (only d h);
        }

-- the sets of the classes of a beginning p stand for those classes, whatever follows
module _ (p groups : List ℕ) (used : ℕ) (counted : used ≡ classes p) (are : (k : ℕ) → k < used → get_or groups k 0 ≡ members p k) (known : ℕ → Bool) (placed : (d : ℕ) → T (known d) → d < length p) where
  stand_start : (l : List ℕ) → Stand known groups used (p ++ l) (λ k. k)
  stand_start l = record {
    part = λ k lt. record {
      there = omega (arith, counted, classes_append 0 p l, classes_grow (classes p) l);
      inside = λ c b. members_inside p l k c (subst (λ g. T (bit g c)) (are k lt) b);
      agree = λ d h. ap (λ g. bit g d) (are k lt) ∙ members_agree p l k d (placed d h);
    };
    apart = λ i k i_lt k_lt e. e;
    covered = λ d h. (class_of p d, omega (arith, counted, class_below 0 p d (placed d h)), sym (get_or-append p l 0 d (placed d h)));
  }

  -- so where no arrangement has a model, nothing is found
  pub none_found : {Test : Type 0} (fits : ℕ → (ℕ → Bool) → Test → Bool) (bound : ℕ) (rows : List (Row Test)) (left : ℕ) → NoneStands fits bound rows known groups used (length p + left) → found_behind fits bound rows p left ≡ none
  unfolding found_behind
  none_found fits bound rows left none_stands = first_placing_none left (classes p) (λ l. model_of fits bound rows (p ++ l))
      (λ l f e. none_stands (p ++ l) (λ k. k) (length-append p l ∙ ap (λ n. length p + n) e) (stand_start l))
