-- Bytes laid into a buffer: the buffer keeps its length, one run goes behind another, and what fits stands over what was there.
use Prim.Native.Nat.{ℕ, suc, ◌+◌, ◌≤◌}
use mathlib.Core.Path.{◌≡◌, refl, sym, ap, ap₂, ◌∙◌}
use mathlib.Core.List.{List, [], ◌∷◌, ◌++◌, append-nil}
use native.Mathlib.Omega.{arith}
use lib.ListN.{length, get_or, set, drop, length-set, length-append}
use lib.Seq.{set_at, drop-cons, append_snoc}
use Rattle.outcome.specs.Writes.{over}
use Rattle.text.specs.Laid.{laid}

pub laid_length : (at : ℕ) (bytes old : List ℕ) → length (laid at bytes old) ≡ length old
unfolding laid
laid_length at [] old = refl
laid_length at (b ∷ bytes) old = laid_length (suc at) bytes (set old at b) ∙ length-set old at b

-- one run behind another
pub laid_behind : (at : ℕ) (a b old : List ℕ) → laid (at + length a) b (laid at a old) ≡ laid at (a ++ b) old
unfolding laid
laid_behind at [] b old = ap (λ n. laid n b old) (let z : at + 0 ≡ at = omega arith in z)
laid_behind at (x ∷ a) b old = ap (λ n. laid n b (laid (suc at) a (set old at x))) (let z : at + suc (length a) ≡ suc at + length a = omega arith in z) ∙ laid_behind (suc at) a b (set old at x)

-- one byte
pub laid_one : (at v : ℕ) (old : List ℕ) → laid at (v ∷ []) old ≡ set old at v
unfolding laid
laid_one at v old = refl

-- what fits behind some bytes that stand over what was there stands there too
pub laid_over : (a bytes old : List ℕ) → length a + length bytes ≤ length old → laid (length a) bytes (over a old) ≡ over (a ++ bytes) old
unfolding laid
laid_over a [] old h = rw (append-nil a)
laid_over a (b ∷ bytes) old h =
    let more : length (a ++ (b ∷ [])) ≡ suc (length a) = length-append a (b ∷ []) ∙ omega arith in
    let stored : set (over a old) (length a) b ≡ over (a ++ (b ∷ [])) old =
    ap (λ l. set (a ++ l) (length a) b) (drop-cons old (length a) 0 (omega arith))
    ∙ set_at a (get_or old (length a) 0) (drop (suc (length a)) old) b (length a) refl
    ∙ sym (append_snoc a b (drop (suc (length a)) old)) ∙ ap (λ n. (a ++ (b ∷ [])) ++ drop n old) (sym more) in
    ap₂ (λ n l. laid n bytes l) (sym more) stored ∙ laid_over (a ++ (b ∷ [])) bytes old (omega (arith, more)) ∙ ap (λ l. over l old) (append_snoc a b bytes)

pub laid_front : (bytes old : List ℕ) → length bytes ≤ length old → laid 0 bytes old ≡ over bytes old
laid_front bytes old h = laid_over [] bytes old (omega arith)

-- a first byte and the others behind it
pub laid_first : (at b : ℕ) (bytes old : List ℕ) → laid at (b ∷ bytes) old ≡ laid (at + 1) bytes (set old at b)
unfolding laid
laid_first at b bytes old = ap (λ n. laid n bytes (set old at b)) (let z : suc at ≡ at + 1 = omega arith in z)
