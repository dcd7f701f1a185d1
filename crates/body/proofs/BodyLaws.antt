-- Masks in a body, over the number of bytes of a mask: one mask more as it is written, each mask as it is read, and that reading and writing undo each other.
-- Then the arrays that are read off a body which is a part of some bytes.
use Prim.Native.Nat.{ℕ, zero, suc, ◌+◌, ◌*◌, ◌/◌, ◌^◌, ◌≤◌, ◌<◌, min}
use mathlib.Core.Path.{◌≡◌, refl, sym, ap, ap₂, ◌∙◌}
use mathlib.Core.List.{List, [], ◌∷◌, ◌++◌, append-nil, append_assoc}
use native.Mathlib.Omega.{arith}
use native.Mathlib.Nat.{suc-mul, zero-mul, add_comm}
use native.Mathlib.Numerals.{add-one}
use lib.ListN.{length, get_or, take, drop, length-append, length-take, length-drop}
use lib.Seq.{length-take-le, take-suc, take_all, take_at, drop_at, take-add, drop-drop}
use Rattle.outcome.specs.Padded.{padded}
use Rattle.question.specs.Limits.{max_terms}
use Rattle.number.specs.Numbers.{AreBytes, bytes_of, number_in}
use Rattle.number.proofs.NumberLaws.{bytes_length, number_back, bytes_back, bytes_take, bytes_drop}
use Rattle.body.specs.Bodies.{mask_bytes, masks_body, masks_in, numbers_of, masks_of}

module _ (w : ℕ) where
  pub body_none : [] ≡ masks_body w []
  unfolding masks_body
  body_none = refl

  pub body_length : (ms : List ℕ) → length (masks_body w ms) ≡ length ms * w
  unfolding masks_body
  body_length [] = sym (zero-mul w)
  body_length (m ∷ ms) =
      let all = length-append (bytes_of w m) (masks_body w ms) in
      let more = suc-mul (length ms) w in
      omega (arith, all, more, bytes_length w m, body_length ms)

  pub body_snoc : (ms : List ℕ) (m : ℕ) → masks_body w (ms ++ (m ∷ [])) ≡ masks_body w ms ++ bytes_of w m
  unfolding masks_body
  body_snoc [] m = append-nil (bytes_of w m)
  body_snoc (n ∷ ms) m = ap (λ l. bytes_of w n ++ l) (body_snoc ms m) ∙ sym (append_assoc (bytes_of w n) (masks_body w ms) (bytes_of w m))

  -- one mask more of a body that is stored mask by mask: its bytes follow those so far
  pub body_more : (masks so_far rest : List ℕ) (k : ℕ) → k < length masks → so_far ≡ masks_body w (take k masks) → take ((k + 1) * w) (so_far ++ (bytes_of w (get_or masks k 0) ++ rest)) ≡ masks_body w (take (k + 1) masks)
  body_more masks so_far rest k h e =
      let next : masks_body w (take (k + 1) masks) ≡ masks_body w (take k masks) ++ bytes_of w (get_or masks k 0) = rw (add-one k, take-suc masks k 0 h) (body_snoc (take k masks) (get_or masks k 0)) in
      let size : length (masks_body w (take k masks) ++ bytes_of w (get_or masks k 0)) ≡ (k + 1) * w =
      rw (add-one k) (omega (arith, length-append (masks_body w (take k masks)) (bytes_of w (get_or masks k 0)), body_length (take k masks), bytes_length w (get_or masks k 0), suc-mul k w, ap (λ i. i * w) (length-take-le k masks (omega arith)))) in
      rw (next, e)
      (ap (take ((k + 1) * w)) (sym (append_assoc (masks_body w (take k masks)) (bytes_of w (get_or masks k 0)) rest)) ∙ take_at (masks_body w (take k masks) ++ bytes_of w (get_or masks k 0)) rest ((k + 1) * w) size)

  -- as many masks as are asked for
  pub in_length : (n : ℕ) (bytes : List ℕ) → length (masks_in w n bytes) ≡ n
  unfolding masks_in
  in_length zero bytes = refl
  in_length (suc n) bytes = ap suc (in_length n (drop w bytes))

  -- the mask k
  pub in_at : (n k : ℕ) (bytes : List ℕ) → k < n → get_or (masks_in w n bytes) k 0 ≡ number_in (take w (drop (k * w) bytes))
  unfolding masks_in
  in_at zero k bytes h = absurd (omega arith)
  in_at (suc n) zero bytes h = rw (zero-mul w)
  in_at (suc n) (suc k) bytes h =
      in_at n k (drop w bytes) (omega arith) ∙ ap (λ l. number_in (take w l)) (drop-drop (k * w) w bytes ∙ ap (λ i. drop i bytes) (sym (suc-mul k w ∙ add_comm (k * w) w)))

  -- masks for which w bytes are enough, written and read back
  pub in_body : (ms rest : List ℕ) → ((k : ℕ) → k < length ms → get_or ms k 0 < 256 ^ w) → masks_in w (length ms) (masks_body w ms ++ rest) ≡ ms
  unfolding masks_body masks_in
  in_body [] rest h = refl
  in_body (m ∷ ms) rest h =
      let split : (bytes_of w m ++ masks_body w ms) ++ rest ≡ bytes_of w m ++ (masks_body w ms ++ rest) = append_assoc (bytes_of w m) (masks_body w ms) rest in
      let first : take w (bytes_of w m ++ (masks_body w ms ++ rest)) ≡ bytes_of w m = take_at (bytes_of w m) (masks_body w ms ++ rest) w (bytes_length w m) in
      let others : drop w (bytes_of w m ++ (masks_body w ms ++ rest)) ≡ masks_body w ms ++ rest = drop_at (bytes_of w m) (masks_body w ms ++ rest) w (bytes_length w m) in
      rw (split, first, others) (ap₂ (λ x l. x ∷ l) (number_back w m (h 0 (omega arith))) (in_body ms rest (λ k less. h (suc k) (omega arith))))

  -- bytes that are read are written again
  pub body_in : (n : ℕ) (bytes : List ℕ) → n * w ≤ length bytes → AreBytes bytes → masks_body w (masks_in w n bytes) ≡ take (n * w) bytes
  unfolding masks_body masks_in
  body_in zero bytes h are = rw (zero-mul w)
  body_in (suc n) bytes h are =
      let all : suc n * w ≡ w + n * w = suc-mul n w ∙ add_comm (n * w) w in
      let size : length (take w bytes) ≡ w = length-take-le w bytes (omega arith) in
      let first : bytes_of w (number_in (take w bytes)) ≡ take w bytes = ap (λ i. bytes_of i (number_in (take w bytes))) (sym size) ∙ bytes_back (take w bytes) (bytes_take w bytes are) in
      rw all
      (ap₂ (λ x y. x ++ y) first (body_in n (drop w bytes) (omega (arith, length-drop w bytes)) (bytes_drop w bytes are)) ∙ sym (take-add w (n * w) bytes))

  -- no other bytes than theirs are looked at
  pub in_part : (n : ℕ) (bytes : List ℕ) → n * w ≤ length bytes → masks_in w n (take (n * w) bytes) ≡ masks_in w n bytes
  unfolding masks_in
  in_part zero bytes h = refl
  in_part (suc n) bytes h =
      let all : suc n * w ≡ w + n * w = suc-mul n w ∙ add_comm (n * w) w in
      let size : length (take w bytes) ≡ w = length-take-le w bytes (omega arith) in
      let split : take (suc n * w) bytes ≡ take w bytes ++ take (n * w) (drop w bytes) = ap (λ i. take i bytes) all ∙ take-add w (n * w) bytes in
      rw (split, take_at (take w bytes) (take (n * w) (drop w bytes)) w size, drop_at (take w bytes) (take (n * w) (drop w bytes)) w size)
      (ap (λ l. number_in (take w bytes) ∷ l) (in_part n (drop w bytes) (omega (arith, length-drop w bytes))))

-- the arrays of a body that is a part of some bytes: n numbers, and n masks
module _ (n : ℕ) (bytes : List ℕ) (few : n ≤ max_terms) where
  pub numbers_part : numbers_of (take n bytes) ≡ padded max_terms (take n bytes)
  numbers_part = ap (padded max_terms) (take_all max_terms (take n bytes) (omega (arith, length-take n bytes)))

  pub masks_part : n * mask_bytes ≤ length bytes → masks_of (take (n * mask_bytes) bytes) ≡ padded max_terms (masks_in mask_bytes n bytes)
  masks_part h =
      let count : min max_terms (length (take (n * mask_bytes) bytes) / mask_bytes) ≡ n = omega (arith, length-take-le (n * mask_bytes) bytes h) in
      rw count (ap (padded max_terms) (in_part mask_bytes n bytes h))
