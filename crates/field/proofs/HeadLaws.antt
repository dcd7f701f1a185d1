-- The head of a field: in data that is too short, at a place of the data, and of a field that was written.
use Prim.Native.Nat.{ℕ, ◌+◌, ◌*◌, ◌/◌, ◌%◌, ◌≤◌, ◌<◌}
use mathlib.Core.Path.{◌≡◌, refl, ap, ◌∙◌}
use mathlib.Core.List.{List, [], ◌∷◌, ◌++◌}
use native.Mathlib.Omega.{arith}
use lib.ListN.{length, get_or, take, drop, take-append-drop}
use lib.Seq.{get_or-drop, length-take-le}
use Rattle.std.proofs.Common.{Some, None}
use Rattle.std.proofs.lemmas.Option.{some_pair_parts}
use Rattle.field.specs.Heads.{head_length, head_of, field_bytes}
use Rattle.outcome.proofs.Never.{never}

pub short : (bytes : List ℕ) → length bytes < 3 → head_of bytes ≡ None
unfolding head_of
short [] h = refl
short (a ∷ []) h = refl
short (a ∷ b ∷ []) h = refl
short (a ∷ b ∷ c ∷ bytes) h = absurd (omega arith)

-- a head has three bytes
pub head_there : (rest : List ℕ) (tag n : ℕ) → head_of rest ≡ Some (tag, n) → 3 ≤ length rest
unfolding head_of
head_there [] tag n e = never cc
head_there (a ∷ []) tag n e = never cc
head_there (a ∷ b ∷ []) tag n e = never cc
head_there (a ∷ b ∷ c ∷ rest) tag n e = omega arith

-- the head of three bytes and more
pub whole : (rest : List ℕ) → 3 ≤ length rest → head_of rest ≡ Some (get_or rest 0 0, get_or rest 1 0 * 256 + get_or rest 2 0)
unfolding head_of
whole [] h = absurd (omega arith)
whole (a ∷ []) h = absurd (omega arith)
whole (a ∷ b ∷ []) h = absurd (omega arith)
whole (a ∷ b ∷ c ∷ rest) h = refl

-- the byte i of a body
pub body_byte : (bytes : List ℕ) (at i : ℕ) → get_or (drop head_length (drop at bytes)) i 0 ≡ get_or bytes (at + (head_length + i)) 0
body_byte bytes at i = get_or-drop head_length (drop at bytes) i 0 ∙ get_or-drop at bytes (head_length + i) 0

-- what was written is read back
pub head_written : (tag : ℕ) (body rest : List ℕ) → head_of (field_bytes tag body ++ rest) ≡ Some (tag, length body)
unfolding head_of
head_written tag body rest = ap (λ n. Some (tag, n)) (omega arith)

-- a field that is read was written so: its length is below 256, and so its high byte is 0
pub head_read : (rest : List ℕ) (tag n : ℕ) → head_of rest ≡ Some (tag, n) → n < 256 → n ≤ length (drop 3 rest) → rest ≡ field_bytes tag (take n (drop 3 rest)) ++ drop n (drop 3 rest)
unfolding head_of
head_read [] tag n e h k = never cc
head_read (a ∷ []) tag n e h k = never cc
head_read (a ∷ b ∷ []) tag n e h k = never cc
head_read (a ∷ b ∷ c ∷ rest) tag n e h k =
    let same = some_pair_parts a tag (b * 256 + c) n e in
    let t : a ≡ tag = same.0 in
    let v : b * 256 + c ≡ n = same.1 in
    let l : length (take n rest) ≡ n = length-take-le n rest k in
    let high : b ≡ n / 256 = omega arith in
    let low : c ≡ n % 256 = omega arith in
    rw (l, take-append-drop n rest, t, high, low)
