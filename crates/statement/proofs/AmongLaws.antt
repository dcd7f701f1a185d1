-- One list among another: its parts, and two lists joined.
use Prim.Native.Nat.{ℕ, zero, suc}
use mathlib.Core.List.{List, [], ◌∷◌, ◌++◌}
use mathlib.Core.Logic.{inl, inr, ⊎_elim}
use lib.ListN.{take, drop}
use Rattle.statement.specs.Among.{Among}

module _ {A : Type 0} where
  pub among_same : (l : List A) → Among l l
  among_same l x h = h

  pub among_front : (l m : List A) → Among l (l ++ m)
  among_front [] m x h = absurd h
  among_front (y ∷ l) m x h = ⊎_elim (λ e. inl e) (λ k. inr (among_front l m x k)) h

  pub among_back : (l m : List A) → Among m (l ++ m)
  among_back [] m x h = h
  among_back (y ∷ l) m x h = inr (among_back l m x h)

  pub among_both : (k l m : List A) → Among k m → Among l m → Among (k ++ l) m
  among_both [] l m f g x h = g x h
  among_both (y ∷ k) l m f g x h = ⊎_elim (λ e. f x (inl e)) (λ r. among_both k l m (λ z w. f z (inr w)) g x r) h

  -- behind the same front
  pub among_behind : (a k l : List A) → Among k l → Among (a ++ k) (a ++ l)
  among_behind a k l f = among_both a k (a ++ l) (among_front a l) (λ x h. among_back a l x (f x h))

  pub among_take : (i : ℕ) (l : List A) → Among (take i l) l
  among_take zero l x h = absurd h
  among_take (suc i) [] x h = absurd h
  among_take (suc i) (y ∷ l) x h = ⊎_elim (λ e. inl e) (λ k. inr (among_take i l x k)) h

  pub among_drop : (i : ℕ) (l : List A) → Among (drop i l) l
  among_drop zero l x h = h
  among_drop (suc i) [] x h = absurd h
  among_drop (suc i) (y ∷ l) x h = inr (among_drop i l x h)
