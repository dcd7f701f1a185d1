-- Any map of terms has an arrangement with the same equal terms. A point is what a term is mapped to; classes are numbered as their points first come.
use Prim.Native.Nat.{ℕ, zero, suc, ◌≤◌, ◌<◌, max}
use mathlib.Core.Path.{◌≡◌, refl, sym, ap, subst, ◌∙◌}
use mathlib.Core.Bool.{Bool, true, false, cond}
use mathlib.Core.List.{List, [], ◌∷◌}
use native.Mathlib.Omega.{arith}
use borrow.Author.Tests.{eqb-true, eq-eqb}
use lib.Dec.{eqb}
use lib.ListN.{length, get_or}
use Rattle.theory.specs.Arrangements.{MayFollow, IsArrangement, classes_after, classes, class_of}
use Rattle.statement.proofs.TestLaws.{same_eqb}
use Rattle.theory.proofs.ArrangementLaws.{class_has_term}

-- where p first stands in rs, or the length if it does not
abbrev index_of : ℕ → List ℕ → ℕ
index_of p [] = 0
index_of p (r ∷ rs) = cond (eqb p r) 0 (suc (index_of p rs))

-- rs, with p at that place
abbrev with_point : ℕ → List ℕ → List ℕ
with_point p [] = p ∷ []
with_point p (r ∷ rs) = r ∷ cond (eqb p r) rs (with_point p rs)

-- the class of each of the points ps, where the classes so far have the points rs
abbrev numbered : List ℕ → List ℕ → List ℕ
numbered rs [] = []
numbered rs (p ∷ ps) = index_of p rs ∷ numbered (with_point p rs) ps

-- the point of each class in the end
abbrev class_points : List ℕ → List ℕ → List ℕ
class_points rs [] = rs
class_points rs (p ∷ ps) = class_points (with_point p rs) ps

-- one point more
index_le : (p : ℕ) (rs : List ℕ) → index_of p rs ≤ length rs
index_le p [] = omega arith
index_le p (r ∷ rs) = go (eqb p r) (index_le p rs)
  where
    go : (b : Bool) → index_of p rs ≤ length rs → cond b 0 (suc (index_of p rs)) ≤ suc (length rs)
    go true h = omega arith
    go false h = omega arith

with_length : (p : ℕ) (rs : List ℕ) → length (with_point p rs) ≡ max (length rs) (suc (index_of p rs))
with_length p [] = refl
with_length p (r ∷ rs) = go (eqb p r) (with_length p rs)
  where
    go : (b : Bool) → length (with_point p rs) ≡ max (length rs) (suc (index_of p rs)) → suc (length (cond b rs (with_point p rs))) ≡ max (suc (length rs)) (suc (cond b 0 (suc (index_of p rs))))
    go true h = omega arith
    go false h = omega arith

with_at : (p : ℕ) (rs : List ℕ) → get_or (with_point p rs) (index_of p rs) 0 ≡ p
with_at p [] = refl
with_at p (r ∷ rs) = go (eqb p r) refl (with_at p rs)
  where
    go : (b : Bool) → eqb p r ≡ b → get_or (with_point p rs) (index_of p rs) 0 ≡ p → get_or (r ∷ cond b rs (with_point p rs)) (cond b 0 (suc (index_of p rs))) 0 ≡ p
    go true e h = sym (eqb-true p r e)
    go false e h = h

index_with : (p : ℕ) (rs : List ℕ) → index_of p (with_point p rs) ≡ index_of p rs
index_with p [] = ap (λ b. cond b 0 1) (eq-eqb p p refl)
index_with p (r ∷ rs) = go (eqb p r) refl (index_with p rs)
  where
    go : (b : Bool) → eqb p r ≡ b → index_of p (with_point p rs) ≡ index_of p rs → cond b 0 (suc (index_of p (cond (eqb p r) rs (with_point p rs)))) ≡ cond b 0 (suc (index_of p rs))
    go true e h = refl
    go false e h = ap (λ b. suc (index_of p (cond b rs (with_point p rs)))) e ∙ ap suc h

-- the points that stand keep their places when one more comes
with_keeps : (p : ℕ) (rs : List ℕ) (i : ℕ) → i < length rs → get_or (with_point p rs) i 0 ≡ get_or rs i 0
with_keeps p [] i h = absurd (omega arith)
with_keeps p (r ∷ rs) zero h = refl
with_keeps p (r ∷ rs) (suc i) h = go (eqb p r) (with_keeps p rs i (omega arith))
  where
    go : (b : Bool) → get_or (with_point p rs) i 0 ≡ get_or rs i 0 → get_or (cond b rs (with_point p rs)) i 0 ≡ get_or rs i 0
    go true e = refl
    go false e = e

index_keeps : (p q : ℕ) (rs : List ℕ) → index_of q rs < length rs → index_of q (with_point p rs) ≡ index_of q rs
index_keeps p q [] h = absurd (omega arith)
index_keeps p q (r ∷ rs) h = go (eqb q r) (eqb p r) h (index_keeps p q rs)
  where
    go : (b c : Bool) → cond b 0 (suc (index_of q rs)) < suc (length rs) → (index_of q rs < length rs → index_of q (with_point p rs) ≡ index_of q rs) →
        cond b 0 (suc (index_of q (cond c rs (with_point p rs)))) ≡ cond b 0 (suc (index_of q rs))
    go true c h ih = refl
    go false true h ih = refl
    go false false h ih = ap suc (ih (omega arith))

-- and when all the others come
points_keep : (rs ps : List ℕ) (i : ℕ) → i < length rs → get_or (class_points rs ps) i 0 ≡ get_or rs i 0
points_keep rs [] i h = refl
points_keep rs (p ∷ ps) i h = points_keep (with_point p rs) ps i (omega (arith, with_length p rs)) ∙ with_keeps p rs i h

indexes_keep : (rs ps : List ℕ) (q : ℕ) → index_of q rs < length rs → index_of q (class_points rs ps) ≡ index_of q rs
indexes_keep rs [] q h = refl
indexes_keep rs (p ∷ ps) q h = indexes_keep (with_point p rs) ps q (rw (index_keeps p q rs h) (omega (arith, with_length p rs))) ∙ index_keeps p q rs h

-- the whole list of points, from where rs are the points of the classes so far
numbered_follow : (rs ps : List ℕ) → MayFollow (length rs) (numbered rs ps)
numbered_follow rs [] = tt
numbered_follow rs (p ∷ ps) = (index_le p rs, rw (← (with_length p rs)) (numbered_follow (with_point p rs) ps))

numbered_count : (rs ps : List ℕ) → classes_after (length rs) (numbered rs ps) ≡ length (class_points rs ps)
numbered_count rs [] = refl
numbered_count rs (p ∷ ps) = subst (λ n. classes_after n (numbered (with_point p rs) ps) ≡ length (class_points rs (p ∷ ps))) (with_length p rs) (numbered_count (with_point p rs) ps)

numbered_length : (rs ps : List ℕ) → length (numbered rs ps) ≡ length ps
numbered_length rs [] = refl
numbered_length rs (p ∷ ps) = ap suc (numbered_length (with_point p rs) ps)

point_from : (rs ps : List ℕ) (c : ℕ) → c < length ps → get_or (class_points rs ps) (class_of (numbered rs ps) c) 0 ≡ get_or ps c 0
point_from rs [] c h = absurd (omega arith)
point_from rs (p ∷ ps) zero h = points_keep (with_point p rs) ps (index_of p rs) (omega (arith, with_length p rs)) ∙ with_at p rs
point_from rs (p ∷ ps) (suc c) h = point_from (with_point p rs) ps c (omega arith)

class_from : (rs ps : List ℕ) (c : ℕ) → c < length ps → class_of (numbered rs ps) c ≡ index_of (get_or ps c 0) (class_points rs ps)
class_from rs [] c h = absurd (omega arith)
class_from rs (p ∷ ps) zero h = sym (indexes_keep (with_point p rs) ps p (rw (index_with p rs) (omega (arith, with_length p rs))) ∙ index_with p rs)
class_from rs (p ∷ ps) (suc c) h = class_from (with_point p rs) ps c (omega arith)

-- the arrangement of the points ps, and the point of each of its classes
module _ (ps : List ℕ) where
  pub arrange : List ℕ
  arrange = numbered [] ps

  pub points : List ℕ
  points = class_points [] ps

  pub arrange_is : IsArrangement arrange
  unfolding arrange
  arrange_is = numbered_follow [] ps

  pub arrange_length : length arrange ≡ length ps
  unfolding arrange
  arrange_length = numbered_length [] ps

  pub arrange_classes : classes arrange ≡ length points
  unfolding arrange points
  arrange_classes = numbered_count [] ps

  -- the point of a term's class is the term's point
  pub class_point : (c : ℕ) → c < length ps → get_or points (class_of arrange c) 0 ≡ get_or ps c 0
  unfolding arrange points
  class_point = point_from [] ps

  -- terms are the same exactly if they have one point
  pub same_class : (c d : ℕ) → c < length ps → d < length ps → eqb (class_of arrange c) (class_of arrange d) ≡ eqb (get_or ps c 0) (get_or ps d 0)
  unfolding arrange points
  same_class c d hc hd = same_eqb _ _ _ _
      (λ e. sym (class_point c hc) ∙ ap (λ k. get_or points k 0) e ∙ class_point d hd)
      (λ e. class_from [] ps c hc ∙ ap (λ p. index_of p points) e ∙ sym (class_from [] ps d hd))

  -- each class has a term, whose point is the class's
  pub term_in : (k : ℕ) → k < classes arrange → (c : ℕ) × (c < length ps) × (class_of arrange c ≡ k)
  term_in k lt = let c = class_has_term 0 arrange arrange_is k (omega arith) lt in (c.0, rw (← arrange_length) c.1, c.2)

  pub point_of_class : (k : ℕ) (lt : k < classes arrange) → get_or points k 0 ≡ get_or ps (term_in k lt).0 0
  point_of_class k lt = let c = term_in k lt in ap (λ j. get_or points j 0) (sym c.2) ∙ class_point c.0 c.1

  -- so two classes have two points
  pub points_apart : (j k : ℕ) → j < classes arrange → k < classes arrange → get_or points j 0 ≡ get_or points k 0 → j ≡ k
  points_apart j k lj lk e = let c = term_in j lj in let d = term_in k lk in
      sym c.2 ∙ eqb-true _ _ (same_class c.0 d.0 c.1 d.1 ∙ eq-eqb _ _ (sym (point_of_class j lj) ∙ e ∙ point_of_class k lk)) ∙ d.2
