-- The walks of the code in the words of the definitions: a test at each number below n, and the first entry of a list that passes.
use Rattle.std.proofs.Common.{◌≡◌, ℕ, zero, suc, ◌+◌, Bool, true, false, ◌&&◌, cond, not, List, [], ◌∷◌, map, Some, None, ltb, refl, sym, ap, ap₂, ◌∙◌, zero-add, add-one}
use Rattle.std.specs.List.{list_all, range_with_len, position, prefix_len}
use Rattle.std.proofs.lemmas.List.{length-map}
use Rattle.std.proofs.lemmas.List.Folds.{list_all-append, list_all-map}
use Rattle.std.proofs.lemmas.List.FromFn.{map-range_with_len_more}
use Rattle.statement.specs.Meaning.{everywhere}

one_more : (a b : Bool) → (a && (b && true)) ≡ (a && b)
one_more a true = refl
one_more a false = refl

pub each_below : (f : ℕ → Bool) (n : ℕ) → list_all f (range_with_len 0 n) ≡ everywhere n f
unfolding everywhere
each_below f zero = refl
each_below f (suc n) =
    sym (list_all-map (λ b. b) f (range_with_len 0 (suc n)))
    ∙ ap (λ m. list_all (λ b. b) (map f (range_with_len 0 m))) (sym (add-one n))
    ∙ ap (list_all (λ b. b)) (map-range_with_len_more f 0 n n (zero-add n))
    ∙ list_all-append (λ b. b) (map f (range_with_len 0 n)) (f n ∷ [])
    ∙ one_more (list_all (λ b. b) (map f (range_with_len 0 n))) (f n)
    ∙ ap (λ b. b && f n) (list_all-map (λ b. b) f (range_with_len 0 n) ∙ each_below f n)

module _ {X Y : Type 0} (p : X → Bool) (h : Y → X) where
  prefix_len-map : (ys : List Y) → prefix_len p (map h ys) ≡ prefix_len (λ y. p (h y)) ys
  prefix_len-map [] = refl
  prefix_len-map (y ∷ ys) = ap (λ n. cond (p (h y)) (1 + n) 0) (prefix_len-map ys)

pub position-map : {X Y : Type 0} (p : X → Bool) (h : Y → X) (ys : List Y) → position p (map h ys) ≡ position (λ y. p (h y)) ys
position-map p h ys = ap₂ (λ i n. cond (ltb i n) (Some i) None) (prefix_len-map (λ x. not (p x)) h ys) (length-map ys h)
