-- A buffer that is written from the front: a byte more, and a run of bytes more in the part that starts where the last ended.
use Prim.Native.Nat.{ℕ, suc, ◌+◌, ◌-◌, ◌≤◌, ◌<◌}
use mathlib.Core.Path.{◌≡◌, refl, sym, ap, ◌∙◌}
use mathlib.Core.List.{List, [], ◌∷◌, ◌++◌, append-nil, append_assoc}
use native.Mathlib.Omega.{arith}
use native.Mathlib.Numerals.{add-one}
use lib.ListN.{length, get_or, drop, take, set, length-drop, length-append, drop_of_length-le}
use lib.Seq.{length-take-le, drop-cons, set_at, take-suc, append_snoc, drop-append_seam, take-append_seam, take_all, drop-drop}
use Rattle.outcome.specs.Writes.{over}

-- one store at the front
pub first_stored : (old : List ℕ) (v a : ℕ) → v ≡ a → 1 ≤ length old → set old 0 v ≡ over (a ∷ []) old
first_stored [] v a e h = absurd (omega arith)
first_stored (x ∷ old) v a e h = rw e

-- three stores at the front
pub three : (old : List ℕ) (a b c : ℕ) → 3 ≤ length old → set (set (set old 0 a) 1 b) 2 c ≡ over (a ∷ b ∷ c ∷ []) old
three [] a b c h = absurd (omega arith)
three (x ∷ []) a b c h = absurd (omega arith)
three (x ∷ y ∷ []) a b c h = absurd (omega arith)
three (x ∷ y ∷ z ∷ old) a b c h = refl

-- one more of some bytes that are copied in from the front
pub copied : (bytes old : List ℕ) (i : ℕ) → i < length bytes → i < length old → set (over (take i bytes) old) i (get_or bytes i 0) ≡ over (take (i + 1) bytes) old
copied bytes old i h k =
    let l : length (take i bytes) ≡ i = length-take-le i bytes (omega arith) in
    let m : length (take (suc i) bytes) ≡ suc i = length-take-le (suc i) bytes (omega arith) in
    rw (add-one i, l, m, drop-cons old i 0 k, set_at (take i bytes) (get_or old i 0) (drop (suc i) old) (get_or bytes i 0) i l, take-suc bytes i 0 h)
    (sym (append_snoc (take i bytes) (get_or bytes i 0) (drop (suc i) old)))

-- the same, where the buffer and the value stored are known by equations
pub copied_in : (bytes old buf : List ℕ) (i v : ℕ) → i < length bytes → i < length old → buf ≡ over (take i bytes) old → v ≡ get_or bytes i 0 → set buf i v ≡ over (take (i + 1) bytes) old
copied_in bytes old buf i v h k part e = rw (part, e) (copied bytes old i h k)

-- what is written within the old length keeps the length
pub over_length : (bytes old : List ℕ) → length bytes ≤ length old → length (over bytes old) ≡ length old
over_length bytes old h = rw (length-append bytes (drop (length bytes) old), length-drop (length bytes) old) (omega arith)

-- first a, then b into the part that starts where a ended: the part goes back into the whole
pub behind : (a b old xs ys : List ℕ) (n : ℕ) → n ≡ length a → xs ≡ over a old → ys ≡ over b (take (length xs - n) (drop n xs)) →
    take n xs ++ (ys ++ drop (length xs - n) (drop n xs)) ≡ over (a ++ b) old
behind a b old xs ys n en ex ey =
    let r : List ℕ = drop (length a) old in
    let d : drop n xs ≡ r = rw (ex, en) (drop-append_seam a r) in
    let f : take n xs ≡ a = rw (ex, en) (take-append_seam a r) in
    let l : length r ≡ length xs - n = rw (← d) (length-drop n xs) in
    let t : take (length xs - n) r ≡ r = take_all (length xs - n) r (omega arith) in
    let z : drop (length xs - n) r ≡ [] = drop_of_length-le r {i = length xs - n} (omega arith) in
    rw (ey, f, d, t, z) (simp (append-nil, append_assoc, length-append, drop-drop))

-- how far a run of writes has come: `done` of `all` is written over `old`, up to `at`, and `rest` is still to come
pub record Run (all old rest buf : List ℕ) (at : ℕ) : Type 0 where
  pub done : List ℕ
  pub here : at ≡ length done
  pub part : buf ≡ over done old
  pub whole : done ++ rest ≡ all

pub run_start : (all old : List ℕ) → Run all old all old 0
run_start all old = record { done = []; here = refl; part = refl; whole = refl }

-- what is left fits where all fits
pub run_room : {all old rest buf : List ℕ} {at : ℕ} → Run all old rest buf at → length all ≤ length old → (length buf ≡ length old) × (at + length rest ≡ length all)
run_room {all} {old} {rest} {buf} {at} r h =
    let size : length r.done + length rest ≡ length all = sym (length-append r.done rest) ∙ ap length r.whole in
    let same : length buf ≡ length (over r.done old) = ap length r.part in
    (same ∙ over_length r.done old (omega arith), omega (arith, r.here))

-- the next bytes go into the part that starts where the last ended
pub run_on : {all old buf : List ℕ} {at : ℕ} (bytes rest ys : List ℕ) → Run all old (bytes ++ rest) buf at → ys ≡ over bytes (take (length buf - at) (drop at buf)) →
    Run all old rest (take at buf ++ (ys ++ drop (length buf - at) (drop at buf))) (at + length bytes)
run_on {all} {old} {buf} {at} bytes rest ys r e =
    record {
      done = r.done ++ bytes;
      here = ap (λ n. n + length bytes) r.here ∙ sym (length-append r.done bytes);
      part = behind r.done bytes old buf ys at r.here r.part e;
      whole = append_assoc r.done bytes rest ∙ r.whole;
    }

-- the same, where the count of what was written and what is left are known by equations
pub run_next : {all old buf : List ℕ} {at : ℕ} (bytes rest left ys : List ℕ) (n : ℕ) → Run all old (bytes ++ rest) buf at → ys ≡ over bytes (take (length buf - at) (drop at buf)) →
    n ≡ length bytes → left ≡ rest → Run all old left (take at buf ++ (ys ++ drop (length buf - at) (drop at buf))) (at + n)
run_next {all} {old} {buf} {at} bytes rest left ys n r e count same = rw (count, same) (run_on bytes rest ys r e)

pub run_end : {all old buf : List ℕ} {at : ℕ} → Run all old [] buf at → (at ≡ length all) × (buf ≡ over all old)
run_end {all} {old} {buf} {at} r =
    let same : r.done ≡ all = sym (append-nil r.done) ∙ r.whole in
    (r.here ∙ ap length same, r.part ∙ ap (λ l. over l old) same)

-- the first bytes go to the front
pub run_first : {old buf : List ℕ} {at : ℕ} (bytes rest : List ℕ) → at ≡ length bytes → buf ≡ over bytes old → Run (bytes ++ rest) old rest buf at
run_first bytes rest h e = record { done = bytes; here = h; part = e; whole = refl }
