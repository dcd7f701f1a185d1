-- Numbers in bytes: what was written is read back, what was read is written again, and w bytes hold the numbers below 256 to the w. Then one byte more of each.
use Prim.Native.Nat.{ℕ, zero, suc, ◌+◌, ◌-◌, ◌*◌, ◌/◌, ◌%◌, ◌^◌, ◌≤◌, ◌<◌}
use mathlib.Core.Path.{◌≡◌, refl, sym, ap, ap₂, ◌∙◌}
use mathlib.Core.List.{List, [], ◌∷◌, ◌++◌, append-nil, append_assoc}
use native.Mathlib.Omega.{arith}
use native.Mathlib.Numerals.{add-one}
use lib.ListN.{length, get_or, take, drop, set, length-set, length-append, length-take, length-drop, drop_of_length-le}
use lib.Seq.{get_or-take, get_or-drop, drop-cons, drop-length, drop-set-lt, get_or-set_same}
use Rattle.number.specs.Numbers.{most_bytes, AreBytes, bytes_of, number_from, number_in}

pub bytes_length : (w n : ℕ) → length (bytes_of w n) ≡ w
unfolding bytes_of
bytes_length zero n = refl
bytes_length (suc w) n = length-append (bytes_of w (n / 256)) (n % 256 ∷ []) ∙ omega (arith, bytes_length w (n / 256))

-- one byte more, read and written
pub number_snoc : (n : ℕ) (bytes : List ℕ) (b : ℕ) → number_from n (bytes ++ (b ∷ [])) ≡ number_from n bytes * 256 + b
unfolding number_from
number_snoc n [] b = refl
number_snoc n (a ∷ bytes) b = number_snoc (n * 256 + a) bytes b

pub bytes_more : (w n b : ℕ) → b < 256 → bytes_of (suc w) (n * 256 + b) ≡ bytes_of w n ++ (b ∷ [])
unfolding bytes_of
bytes_more w n b h =
    let high : (n * 256 + b) / 256 ≡ n = omega arith in
    let low : (n * 256 + b) % 256 ≡ b = omega arith in
    rw (high, low)

-- a number that is written in enough bytes is read back
pub number_back : (w n : ℕ) → n < 256 ^ w → number_in (bytes_of w n) ≡ n
unfolding bytes_of number_from
number_back zero n h = omega arith
number_back (suc w) n h =
    let all : 256 ^ suc w ≡ 256 ^ w * 256 = omega arith in
    number_snoc 0 (bytes_of w (n / 256)) (n % 256) ∙ ap (λ m. m * 256 + n % 256) (number_back w (n / 256) (omega arith)) ∙ omega arith

-- bytes that are read behind w others are written again
bytes_from_lem : (w n : ℕ) (bytes : List ℕ) → AreBytes bytes → bytes_of (w + length bytes) (number_from n bytes) ≡ bytes_of w n ++ bytes
unfolding number_from
bytes_from_lem w n [] h = ap (λ i. bytes_of i n) (omega arith) ∙ sym (append-nil (bytes_of w n))
bytes_from_lem w n (b ∷ bytes) h =
    let size : w + length (b ∷ bytes) ≡ suc w + length bytes = omega arith in
    rw size (bytes_from_lem (suc w) (n * 256 + b) bytes (λ i less. h (suc i) (omega arith)))
    ∙ ap (λ l. l ++ bytes) (bytes_more w n b (h 0 (omega arith)))
    ∙ append_assoc (bytes_of w n) (b ∷ []) bytes

pub bytes_back : (bytes : List ℕ) → AreBytes bytes → bytes_of (length bytes) (number_in bytes) ≡ bytes
unfolding bytes_of
bytes_back bytes h = let size : 0 + length bytes ≡ length bytes = omega arith in rw size at (bytes_from_lem 0 0 bytes h)

-- a number is below 256 to the number of its bytes
number_from_below : (w n : ℕ) (bytes : List ℕ) → n < 256 ^ w → AreBytes bytes → number_from n bytes < 256 ^ (w + length bytes)
unfolding number_from
number_from_below w n [] k h = let same : w + 0 ≡ w = omega arith in rw same k
number_from_below w n (b ∷ bytes) k h =
    let more : 256 ^ suc w ≡ 256 ^ w * 256 = omega arith in
    let byte : b < 256 = h 0 (omega arith) in
    let size : w + length (b ∷ bytes) ≡ suc w + length bytes = omega arith in
    rw size (number_from_below (suc w) (n * 256 + b) bytes (omega arith) (λ i less. h (suc i) (omega arith)))

pub number_below : (bytes : List ℕ) → AreBytes bytes → number_in bytes < 256 ^ length bytes
number_below bytes h = let size : 0 + length bytes ≡ length bytes = omega arith in rw size at (number_from_below 0 0 bytes (omega arith) h)

-- some of the bytes are bytes
pub bytes_take : (n : ℕ) (bytes : List ℕ) → AreBytes bytes → AreBytes (take n bytes)
bytes_take n bytes h i less =
    let few = length-take n bytes in
    rw (get_or-take n bytes i 0 (omega arith)) (h i (omega arith))

pub bytes_drop : (n : ℕ) (bytes : List ℕ) → AreBytes bytes → AreBytes (drop n bytes)
bytes_drop n bytes h i less =
    let rest = length-drop n bytes in
    rw (get_or-drop n bytes i 0) (h (n + i) (omega arith))

-- reading: one byte more, and the end
pub number_next : (bytes : List ℕ) (i n b : ℕ) → i < length bytes → b ≡ get_or bytes i 0 → number_from n (drop i bytes) ≡ number_from (n * 256 + b) (drop (i + 1) bytes)
unfolding number_from
number_next bytes i n b h e = rw (drop-cons bytes i 0 h, add-one i, e)

pub number_end : (bytes : List ℕ) (i n : ℕ) → length bytes ≤ i → number_from n (drop i bytes) ≡ n
unfolding number_from
number_end bytes i n h = rw (drop_of_length-le bytes h)

-- seven bytes leave room for an eighth in a number of the machine
pub room_for_byte : (i n b : ℕ) → i < most_bytes → n < 256 ^ i → b < 256 → (n * 256 + b < 2 ^ 64) × (n * 256 + b < 256 ^ (i + 1))
room_for_byte i n b less h k =
    let more : 256 ^ (i + 1) ≡ 256 ^ i * 256 = rw (add-one i) (omega arith) in
    let most : 256 ^ i ≤ 256 ^ 7 = power i 7 (omega arith) in
    (omega arith, omega arith)
  where
    power : (i j : ℕ) → i ≤ j → 256 ^ i ≤ 256 ^ j
    power zero zero h = omega arith
    power zero (suc j) h = omega (arith, power zero j (omega arith))
    power (suc i) zero h = absurd (omega arith)
    power (suc i) (suc j) h = omega (arith, power i j (omega arith))

-- writing: from the last byte to the first
pub bytes_start : (n : ℕ) (buf : List ℕ) → bytes_of (length buf) n ≡ bytes_of (length buf) n ++ drop (length buf) buf
bytes_start n buf = rw (drop-length buf) (sym (append-nil (bytes_of (length buf) n)))

pub bytes_next : (i n : ℕ) (buf : List ℕ) → 0 < i → i ≤ length buf → bytes_of i n ++ drop i buf ≡ bytes_of (i - 1) (n / 256) ++ drop (i - 1) (set buf (i - 1) (n % 256))
unfolding bytes_of
bytes_next zero n buf h k = absurd (omega arith)
bytes_next (suc i) n buf h k =
    let one : suc i - 1 ≡ i = omega arith in
    let stored : drop i (set buf i (n % 256)) ≡ n % 256 ∷ drop (suc i) buf =
    drop-cons (set buf i (n % 256)) i 0 (simp length-set (omega arith))
    ∙ ap₂ (λ x l. x ∷ l) (get_or-set_same buf i (n % 256) 0 (omega arith)) (drop-set-lt (suc i) buf i (n % 256) (omega arith)) in
    rw (one, stored) (append_assoc (bytes_of i (n / 256)) (n % 256 ∷ []) (drop (suc i) buf))

pub bytes_end : (i n : ℕ) (buf : List ℕ) → i ≡ 0 → bytes_of i n ++ drop i buf ≡ buf
unfolding bytes_of
bytes_end i n buf e = rw e
