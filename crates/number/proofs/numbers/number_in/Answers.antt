-- The number of the first bytes, byte by byte.
use Rattle.std.proofs.Common.{ℕ, ◌≡◌, ◌+◌, ◌*◌, ◌^◌, ◌<◌, ◌≤◌, List, length, take, min, refl, sym, ap, ◌∙◌, arith}
use Rattle.std.proofs.lemmas.List.{length-take, take_min}
use Rattle.number.specs.Numbers.{most_bytes, number_in}
use Rattle.number.proofs.NumberLaws.{number_next, number_end, room_for_byte}
use Rattle.number.proofs.numbers.number_in.Goals as goal

-- the first bytes are eight at the most, and say what the first eight say
few : (n : ℕ) (bytes : List ℕ) → n ≡ min most_bytes (length bytes) → length (take n bytes) ≤ most_bytes
few n bytes e = omega (arith, length-take n bytes)

same : (n : ℕ) (bytes : List ℕ) → n ≡ min most_bytes (length bytes) → number_in (take n bytes) ≡ number_in (take most_bytes bytes)
same n bytes e = ap (λ i. number_in (take i bytes)) e ∙ ap number_in (take_min most_bytes bytes)

-- there is room for the byte
room : (c : goal.After-from) → let l = c.loop-byte in (l.n * 256 + c.from.result < 2 ^ 64) × (l.n * 256 + c.from.result < 256 ^ (l.byte-index + 1))
room c = let l = c.loop-byte in room_for_byte l.byte-index l.n c.from.result (omega arith) (omega arith) (omega arith)

pub loop-byte-init : goal.loop-byte-init
loop-byte-init c = (few _ c.args.bytes.now (omega arith), omega arith, refl)

pub overflow_mul-n : goal.overflow_mul-n
overflow_mul-n c =
    let l = c.loop-byte in
    let whole : l.n * 256 + 0 < 2 ^ 64 = (room_for_byte l.byte-index l.n 0 (omega arith) (omega arith) (omega arith)).0 in
    omega arith

pub overflow_add-n : goal.overflow_add-n
overflow_add-n c = omega (arith, (room c).0)

pub loop-byte-preserved : goal.loop-byte-preserved
loop-byte-preserved c =
    let l = c.loop-byte in
    (omega arith, (room c).1, l.invariant.2 ∙ number_next _ l.byte-index l.n _ (omega arith) (grind arith))

pub returns : goal.returns
returns c =
    let l = c.loop-byte in
    sym (l.invariant.2 ∙ number_end _ l.byte-index l.n (omega arith)) ∙ same _ c.args.bytes.now (omega arith)
