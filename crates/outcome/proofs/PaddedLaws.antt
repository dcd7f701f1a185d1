-- So many entries of which the first are some numbers and the rest is 0: how they are filled, and what is read off them.
use Prim.Native.Nat.{ℕ, zero, suc, ◌+◌, ◌-◌, ◌≤◌, ◌<◌}
use mathlib.Core.Path.{◌≡◌, refl, sym, ap, ◌∙◌}
use mathlib.Core.List.{List, [], ◌∷◌, ◌++◌, append_assoc}
use native.Mathlib.Omega.{arith}
use native.Mathlib.Numerals.{add-one}
use lib.ListN.{length, get_or, take, set, replicate, length-append, length-replicate}
use lib.Seq.{length-take-le, take-suc, take_all, take-append_seam, set_at}
use Rattle.outcome.specs.Padded.{padded}

-- an entry past the numbers is 0, as an entry past the array
zeros : (n i : ℕ) → ◌≡◌ {A = ℕ} (get_or (replicate n 0) i 0) 0
zeros zero i = refl
zeros (suc n) zero = refl
zeros (suc n) (suc i) = zeros n i

behind : (l : List ℕ) (n i : ℕ) → get_or (l ++ replicate n 0) i 0 ≡ get_or l i 0
behind [] n i = zeros n i
behind (x ∷ l) n zero = refl
behind (x ∷ l) n (suc i) = behind l n i

pub padded_entry : (size : ℕ) (l : List ℕ) (i : ℕ) → get_or (padded size l) i 0 ≡ get_or l i 0
padded_entry size l i = behind l (size - length l) i

pub padded_none : (size : ℕ) → replicate size 0 ≡ padded size []
padded_none size = ap (λ n. replicate n 0) (let z : size ≡ size - 0 = omega arith in z)

module _ (size : ℕ) (l : List ℕ) where
  pub padded_length : length l ≤ size → length (padded size l) ≡ size
  padded_length h = simp (length-append, length-replicate) (omega arith)

  pub take_padded : (n : ℕ) → length l ≡ n → take n (padded size l) ≡ l
  take_padded n e = ap (λ i. take i (padded size l)) (sym e) ∙ take-append_seam l _

  -- one entry behind those that stand
  pub padded_snoc : (v : ℕ) → length l < size → set (padded size l) (length l) v ≡ padded size (l ++ (v ∷ []))
  padded_snoc v h =
      let longer : length (l ++ (v ∷ [])) ≡ length l + 1 = length-append l (v ∷ []) in
      ap (λ k. set (l ++ replicate k 0) (length l) v) (let z : size - length l ≡ suc (size - length (l ++ (v ∷ []))) = omega (arith, longer) in z)
      ∙ set_at l 0 (replicate (size - length (l ++ (v ∷ []))) 0) v (length l) refl
      ∙ sym (append_assoc l (v ∷ []) (replicate (size - length (l ++ (v ∷ []))) 0))

  pub padded_all : (entries : List ℕ) (k : ℕ) → length l ≤ k → entries ≡ padded size (take k l) → entries ≡ padded size l
  padded_all entries k h e = e ∙ ap (padded size) (take_all k l h)

-- one more of some numbers
pub padded_more : (size : ℕ) (l : List ℕ) (k v : ℕ) → k < length l → length l ≤ size → v ≡ get_or l k 0 → set (padded size (take k l)) k v ≡ padded size (take (k + 1) l)
padded_more size l k v h few e =
    let so_far : length (take k l) ≡ k = length-take-le k l (omega arith) in
    ap (λ n. set (padded size (take k l)) n v) (sym so_far)
    ∙ padded_snoc size (take k l) v (omega arith)
    ∙ ap (λ x. padded size (take k l ++ (x ∷ []))) e
    ∙ ap (padded size) (sym (take-suc l k 0 h))
    ∙ ap (λ n. padded size (take n l)) (sym (add-one k))
