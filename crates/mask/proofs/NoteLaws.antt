-- Notes of entries: what holds of them at the start and after each note, and that a mask meets all entries before those that ask a bit which was raised or cleared.
use Prim.Native.Nat.{ℕ, zero, suc, ◌+◌, ◌≤◌, ◌<◌}
use mathlib.Core.Path.{◌≡◌, refl, sym, ap, subst, ◌∙◌}
use mathlib.Core.Logic.{◌≢◌}
use mathlib.Core.Bool.{false}
use mathlib.Core.List.{List}
use native.Mathlib.Omega.{arith}
use native.Mathlib.Decide.{ℕ_discrete, dec_lt}
use lib.Bits.{bit_and}
use lib.Dec.{eqb}
use lib.ListN.{length, get_or, set, replicate, get_or-eq_default}
use lib.Seq.{get_or-set_same, get_or-set_other}
use Rattle.question.specs.Masks.{bit}
use Rattle.mask.specs.Entries.{test_in, terms_in}
use Rattle.mask.specs.Lowest.{lowest_set, SameFrom}
use Rattle.mask.specs.Notes.{EntryAsksFrom, note_bound, Notes, Noted, NotesBefore}
use Rattle.mask.specs.Reasons.{raised}
use Rattle.mask.proofs.RaisedLaws.{raised_above}
use Rattle.mask.proofs.BitLaws.{bit_clear}
use Rattle.mask.proofs.EntryLaws.{entry_apart, entry_meets}
use Rattle.mask.proofs.LowestLaws.{asks_from}
use Rattle.mask.proofs.WalkLaws.{MeetsBefore}

-- so many times one number: none is larger, and they fall
at_most : (n v y : ℕ) → get_or (replicate n v) y 0 ≤ v
at_most zero v y = omega arith
at_most (suc n) v zero = omega arith
at_most (suc n) v (suc y) = at_most n v y

pub notes_start : (n v bits : ℕ) → v < note_bound → Notes bits (replicate n v)
notes_start n v bits h = record { falling = λ x y l k. falls n x y l; small = λ x. omega (arith, at_most n v x) }
  where
    falls : (n x y : ℕ) → x ≤ y → get_or (replicate n v) y 0 ≤ get_or (replicate n v) x 0
    falls zero x y l = omega arith
    falls (suc n) zero y l = at_most (suc n) v y
    falls (suc n) (suc x) zero l = absurd (omega arith)
    falls (suc n) (suc x) (suc y) l = falls n x y (omega arith)

-- i stands for the bits from x up to q, where larger indices stood, and the others are as they were
pub record Noting (x i : ℕ) (first : List ℕ) (q : ℕ) (new : List ℕ) : Type 0 where
  pub reach : x ≤ q
  pub below : (y : ℕ) → y < x → get_or new y 0 ≡ get_or first y 0
  pub here : (y : ℕ) → x ≤ y → y < q → (get_or new y 0 ≡ i) × (i < get_or first y 0)
  pub above : (y : ℕ) → q ≤ y → get_or new y 0 ≡ get_or first y 0

module _ (x i : ℕ) (first : List ℕ) where
  -- at the start nothing has changed
  pub noting_start : Noting x i first x first
  noting_start = record { reach = omega arith; below = λ y l. refl; here = λ y l h. absurd (omega arith); above = λ y l. refl }

  -- a larger index gives way to i
  pub noting_turn : (q : ℕ) (new : List ℕ) → Noting x i first q new → i < get_or new q 0 → Noting x i first (q + 1) (set new q i)
  noting_turn q new n h = record {
    reach = omega (arith, n.reach);
    below = λ y l. other y (omega (arith, n.reach)) ∙ n.below y l;
    here = λ y l k. at y l k (ℕ_discrete y q);
    above = λ y l. other y (omega arith) ∙ n.above y (omega arith);
  }
    where
      other : (y : ℕ) → y ≢ q → get_or (set new q i) y 0 ≡ get_or new y 0
      other y ne = get_or-set_other new q y i 0 ne

      in_range : Dec (q < length new) → q < length new
      in_range (yes l) = l
      in_range (no l) = absurd (omega (arith, get_or-eq_default new 0 {n = q} (omega arith)))

      at : (y : ℕ) → x ≤ y → y < q + 1 → Dec (y ≡ q) → (get_or (set new q i) y 0 ≡ i) × (i < get_or first y 0)
      at y l k (yes e) = rw e (get_or-set_same new q i 0 (in_range (dec_lt q (length new))), omega (arith, n.above q (omega arith)))
      at y l k (no ne) = (other y ne ∙ (n.here y l (omega arith)).0, (n.here y l (omega arith)).1)

  -- it ends at the last bit, or where no larger index stands
  pub noting_end : (bits q : ℕ) (new : List ℕ) → Notes bits first → Noting x i first q new → (q < bits → get_or new q 0 ≤ i) → Noted bits x i first new
  noting_end bits q new f n stop = record {
    here = λ y l h. here y l h (dec_lt y q);
    kept = λ y. kept y (dec_lt y x) (dec_lt y q);
    notes = record { falling = λ y z l h. falls y z l h (dec_lt z x) (dec_lt z q) (dec_lt y x) (dec_lt y q); small = λ y. omega (arith, kept y (dec_lt y x) (dec_lt y q), f.small y) };
  }
    where
      past : (y : ℕ) → q ≤ y → y < bits → get_or first y 0 ≤ i
      past y l h = omega (arith, f.falling q y l h, n.above q (omega arith), stop (omega arith))

      here : (y : ℕ) → x ≤ y → y < bits → Dec (y < q) → get_or new y 0 ≤ i
      here y l h (yes k) = omega (arith, (n.here y l k).0)
      here y l h (no k) = omega (arith, n.above y (omega arith), past y (omega arith) h)

      kept : (y : ℕ) → Dec (y < x) → Dec (y < q) → get_or new y 0 ≤ get_or first y 0
      kept y (yes h) d = omega (arith, n.below y h)
      kept y (no h) (yes k) = omega (arith, (n.here y (omega arith) k).0, (n.here y (omega arith) k).1)
      kept y (no h) (no k) = omega (arith, n.above y (omega arith))

      falls : (y z : ℕ) → y ≤ z → z < bits → Dec (z < x) → Dec (z < q) → Dec (y < x) → Dec (y < q) → get_or new z 0 ≤ get_or new y 0
      falls y z l h (yes a) b c d = omega (arith, n.below z a, n.below y (omega arith), f.falling y z l h)
      falls y z l h (no a) (yes b) (yes c) d = omega (arith, (n.here z (omega arith) b).0, (n.here z (omega arith) b).1, n.below y c, f.falling y z l h)
      falls y z l h (no a) (yes b) (no c) d = omega (arith, (n.here z (omega arith) b).0, (n.here y (omega arith) (omega arith)).0)
      falls y z l h (no a) (no b) (yes c) d = omega (arith, n.above z (omega arith), n.below y c, f.falling y z l h)
      falls y z l h (no a) (no b) (no c) (yes d) = omega (arith, n.above z (omega arith), past z (omega arith) h, (n.here y (omega arith) d).0)
      falls y z l h (no a) (no b) (no c) (no d) = omega (arith, n.above z (omega arith), n.above y (omega arith), f.falling y z l h)

-- a mask raised at a bit that it lacks has the same bits above
raised_same : (m q : ℕ) → bit m q ≡ false → SameFrom (suc q) m (raised 2 q m)
raised_same m q e x h = ap (λ d. eqb d 1) (sym (raised_above 2 q m (omega arith) (bit_clear m q e) x (omega arith)))

module _ (bits class : ℕ) (entries : List ℕ) where
  -- at the start no entry is noted
  pub before_start : (first : List ℕ) → Notes bits first → NotesBefore bits class entries first 0
  before_start first f = record { notes = f; asks = λ k q lt. absurd (omega arith) }

  -- one more entry is noted, if it asks no bit up to q wherever it comes before what is noted for q
  before_step : (first new : List ℕ) (i : ℕ) → NotesBefore bits class entries first i → ((y : ℕ) → get_or new y 0 ≤ get_or first y 0) → Notes bits new →
      ((q : ℕ) → q < bits → i < get_or new q 0 → EntryAsksFrom class (suc q) (get_or entries i 0)) → NotesBefore bits class entries new (i + 1)
  before_step first new i s kept f asks = record { notes = f; asks = λ k q lt hq b. at k q lt hq b (ℕ_discrete k i) }
    where
      at : (k q : ℕ) → k < i + 1 → q < bits → k < get_or new q 0 → Dec (k ≡ i) → EntryAsksFrom class (suc q) (get_or entries k 0)
      at k q lt hq b (yes e) = subst (λ j. EntryAsksFrom class (suc q) (get_or entries j 0)) (sym e) (asks q hq (omega arith))
      at k q lt hq b (no ne) = s.asks k q (omega arith) hq (omega (arith, kept q))

  -- an entry of other classes asks no bit
  pub before_over : (first : List ℕ) (i : ℕ) → NotesBefore bits class entries first i → bit_and (terms_in (get_or entries i 0)) class ≡ 0 → NotesBefore bits class entries first (i + 1)
  before_over first i s z = let e = get_or entries i 0 in before_step first first i s (λ y. omega arith) s.notes (λ q hq b v w a. entry_apart class v e z ∙ sym (entry_apart class w e z))

  -- one of the class is noted for the bits from the lowest on that its test asks
  pub before_noted : (first new : List ℕ) (i : ℕ) → NotesBefore bits class entries first i → bit_and (terms_in (get_or entries i 0)) class ≢ 0 →
      Noted bits (lowest_set (test_in (get_or entries i 0))) i first new → NotesBefore bits class entries new (i + 1)
  before_noted first new i s ne n = before_step first new i s n.kept n.notes (λ q hq b. asks q (above q hq b (dec_lt q low)))
    where
      e : ℕ
      e = get_or entries i 0

      low : ℕ
      low = lowest_set (test_in e)

      above : (q : ℕ) → q < bits → i < get_or new q 0 → Dec (q < low) → q < low
      above q hq b (yes h) = h
      above q hq b (no h) = absurd (omega (arith, n.here q (omega arith) hq))

      asks : (q : ℕ) → q < low → EntryAsksFrom class (suc q) e
      asks q h v w a = entry_meets class v e ne ∙ asks_from (test_in e) (bit class) v w (λ x l. a x (omega arith)) ∙ sym (entry_meets class w e ne)

  -- after bit q was raised, the mask meets those entries before i that come before what is noted for q
  pub meets_raised : (m : ℕ) (first : List ℕ) (i n q j : ℕ) → MeetsBefore class entries m i → NotesBefore bits class entries first n → i ≤ n → q < bits → bit m q ≡ false →
      j ≤ i → j ≤ get_or first q 0 → MeetsBefore class entries (raised 2 q m) j
  meets_raised m first i n q j met s le hq e lo hi k lt = sym (s.asks k q (omega arith) hq (omega arith) m (raised 2 q m) (raised_same m q e)) ∙ met k (omega arith)
