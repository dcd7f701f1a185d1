-- Notes of entries: for each bit q of a mask the index of the first entry that asks a bit up to q, or a larger number where there is none.
use Rattle.std.specs.Prelude.{ℕ, suc, ◌^◌, ◌≤◌, ◌<◌, ◌≡◌, List, get_or}
use Rattle.mask.specs.Meetings.{meets_entry}
use Rattle.mask.specs.Lowest.{SameFrom}

-- the entry asks no bit below q: masks that have the same bits from q on both meet it, or both fail it
abbrev pub EntryAsksFrom : ℕ → ℕ → ℕ → Type 0
EntryAsksFrom class q e = (m w : ℕ) → SameFrom q m w → meets_entry class m e ≡ meets_entry class w e

-- a note is an index in 16 bits
abbrev pub note_bound : ℕ
note_bound = 2 ^ 16

-- what is noted falls from bit to bit, and fits
pub record Notes (bits : ℕ) (first : List ℕ) : Type 0 where
  pub falling : (x y : ℕ) → x ≤ y → y < bits → get_or first y 0 ≤ get_or first x 0
  pub small : (x : ℕ) → get_or first x 0 < note_bound

-- the index i is noted for the bits from x on: what is noted for them is at most i, and for no bit more than before
pub record Noted (bits x i : ℕ) (first new : List ℕ) : Type 0 where
  pub here : (y : ℕ) → x ≤ y → y < bits → get_or new y 0 ≤ i
  pub kept : (y : ℕ) → get_or new y 0 ≤ get_or first y 0
  pub notes : Notes bits new

-- the entries before n are noted: those of them that come before what is noted for q ask no bit up to q
pub record NotesBefore (bits class : ℕ) (entries first : List ℕ) (n : ℕ) : Type 0 where
  pub notes : Notes bits first
  pub asks : (k q : ℕ) → k < n → q < bits → k < get_or first q 0 → EntryAsksFrom class (suc q) (get_or entries k 0)
