-- Lists of anything: what holds of every entry, and when every entry passes a test.
use Prim.Native.Nat.{ℕ, zero, suc, ◌<◌}
use mathlib.Core.Path.{◌≡◌, refl}
use mathlib.Core.Bool.{Bool, true, false, ◌&&◌}
use mathlib.Core.List.{List, [], ◌∷◌, ◌++◌, map}
use native.Mathlib.Omega.{arith}
use lib.Dec.{T}
use lib.ListN.{length, get_or}
use Rattle.statement.proofs.TestLaws.{and_left, and_right, and_both}
use Rattle.theory.specs.Lists.{all_of, Every}

module _ {A : Type 0} where
  pub every_map : (P Q : A → Type 0) → ((x : A) → P x → Q x) → (xs : List A) → Every P xs → Every Q xs
  every_map P Q f [] h = tt
  every_map P Q f (x ∷ xs) h = (f x h.0, every_map P Q f xs h.1)

  pub every_both : (P Q R : A → Type 0) → ((x : A) → P x → Q x → R x) → (xs : List A) → Every P xs → Every Q xs → Every R xs
  every_both P Q R f [] h k = tt
  every_both P Q R f (x ∷ xs) h k = (f x h.0 k.0, every_both P Q R f xs h.1 k.1)

  module _ (P : A → Type 0) where
    pub every_front : (xs ys : List A) → Every P (xs ++ ys) → Every P xs
    every_front [] ys h = tt
    every_front (x ∷ xs) ys h = (h.0, every_front xs ys h.1)

    pub every_back : (xs ys : List A) → Every P (xs ++ ys) → Every P ys
    every_back [] ys h = h
    every_back (x ∷ xs) ys h = every_back xs ys h.1

    pub every_append : (xs ys : List A) → Every P xs → Every P ys → Every P (xs ++ ys)
    every_append [] ys p q = q
    every_append (x ∷ xs) ys p q = (p.0, every_append xs ys p.1 q)

    pub every_at : (d : A) (xs : List A) (i : ℕ) → Every P xs → i < length xs → P (get_or xs i d)
    every_at d [] i h lt = absurd (omega arith)
    every_at d (x ∷ xs) zero h lt = h.0
    every_at d (x ∷ xs) (suc i) h lt = every_at d xs i h.1 (omega arith)

    -- a map that changes no entry of which P holds
    pub map_stays : (g : A → A) → ((x : A) → P x → g x ≡ x) → (xs : List A) → Every P xs → map g xs ≡ xs
    map_stays g stays [] h = refl
    map_stays g stays (x ∷ xs) h = cc (stays x h.0, map_stays g stays xs h.1)

    -- two tests that are the same where P holds
    pub all_same : (f g : A → Bool) → ((x : A) → P x → f x ≡ g x) → (xs : List A) → Every P xs → all_of f xs ≡ all_of g xs
    all_same f g same [] h = refl
    all_same f g same (x ∷ xs) h = cc (same x h.0, all_same f g same xs h.1)

  pub all_every : (f : A → Bool) (xs : List A) → T (all_of f xs) → Every (λ x. T (f x)) xs
  all_every f [] h = tt
  all_every f (x ∷ xs) h = (and_left (f x) (all_of f xs) h, all_every f xs (and_right (f x) (all_of f xs) h))

  pub every_all : (f : A → Bool) (xs : List A) → Every (λ x. T (f x)) xs → T (all_of f xs)
  every_all f [] h = tt
  every_all f (x ∷ xs) h = and_both (f x) (all_of f xs) h.0 (every_all f xs h.1)

  -- where one test passes whatever another does, so do the walks over all entries
  pub all_map : (f g : A → Bool) → ((x : A) → T (f x) → T (g x)) → (xs : List A) → T (all_of f xs) → T (all_of g xs)
  all_map f g h xs all = every_all g xs (every_map (λ x. T (f x)) (λ x. T (g x)) h xs (all_every f xs all))

  pub all_append : (f : A → Bool) (xs ys : List A) → all_of f (xs ++ ys) ≡ (all_of f xs && all_of f ys)
  all_append f [] ys = refl
  all_append f (x ∷ xs) ys = go (f x) (all_append f xs ys)
    where
      go : (b : Bool) → all_of f (xs ++ ys) ≡ (all_of f xs && all_of f ys) → (b && all_of f (xs ++ ys)) ≡ (b && all_of f xs && all_of f ys)
      go true e = e
      go false e = refl

-- what a map makes of an entry, whatever stands past the last, and a test of that
pub map_at : {A B : Type 0} (f : A → B) (xs : List A) (i : ℕ) (d : A) (e : B) → i < length xs → get_or (map f xs) i e ≡ f (get_or xs i d)
map_at f [] i d e lt = absurd (omega arith)
map_at f (x ∷ xs) zero d e lt = refl
map_at f (x ∷ xs) (suc i) d e lt = map_at f xs i d e (omega arith)

pub every_mapped : {A B : Type 0} (P : B → Type 0) (g : A → B) (xs : List A) → Every (λ x. P (g x)) xs → Every P (map g xs)
every_mapped P g [] h = tt
every_mapped P g (x ∷ xs) h = (h.0, every_mapped P g xs h.1)

pub all_mapped : {A B : Type 0} (f : B → Bool) (g : A → B) (xs : List A) → all_of f (map g xs) ≡ all_of (λ x. f (g x)) xs
all_mapped f g [] = refl
all_mapped f g (x ∷ xs) = cc (all_mapped f g xs)
