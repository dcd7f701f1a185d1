-- The memo starts with nothing noted.
use Prim.Native.Nat.{ℕ, ◌<◌}
use mathlib.Core.Path.{◌≡◌, refl}
use mathlib.Core.Bool.{false}
use mathlib.Core.List.{List}
use mathlib.Core.Option.{Option, none, some}
use native.Mathlib.Omega.{arith}
use native.Mathlib.Decide.{dec_lt}
use lib.ListN.{length, get_or, replicate, length-replicate, get_or-replicate, get_or-eq_default}
use Rattle.outcome.proofs.Never.{never}
use Rattle.search.specs.Groups.{group_count}
use Rattle.search.specs.Memos.{is_there, Memo}

pub not_there : (o : Option ℕ) → is_there o ≡ false → o ≡ none
not_there none e = refl
not_there (some m) e = never cc

pub memo_start : (entries : List ℕ) (sets : ℕ) → Memo entries sets (replicate group_count 0)
memo_start entries sets = record { long = long; right = λ group z. absurd (z (zero_at group (dec_lt group group_count))) }
  where
    long : length {A = ℕ} (replicate group_count 0) ≡ group_count
    long = length-replicate {A = ℕ} group_count 0

    zero_at : (group : ℕ) → Dec (group < group_count) → get_or {A = ℕ} (replicate group_count 0) group 0 ≡ 0
    zero_at group (yes h) = get_or-replicate group_count group 0 0 h
    zero_at group (no h) = get_or-eq_default (replicate group_count 0) 0 {n = group} (omega (arith, long))
