-- The walk over clauses: one part behind another, and that there is room for what is left.
use Prim.Native.Nat.{ℕ, zero, suc, ◌+◌, ◌-◌, ◌≤◌, ◌<◌}
use mathlib.Core.Path.{◌≡◌, refl, sym, ap, ap₂, subst, ◌∙◌}
use mathlib.Core.List.{List, [], ◌∷◌, ◌++◌, map, append_assoc}
use native.Mathlib.Omega.{arith}
use native.Mathlib.Numerals.{add-one}
use lib.ListN.{length, get_or, drop, length-append}
use Rattle.std.proofs.lemmas.List.{at_drop_more, at_drop_all}
use Rattle.text.specs.Pieces.{space, line_end}
use Rattle.text.specs.declared.literals.Literal.{Literal}
use Rattle.text.specs.Decimals.{decimal}
use Rattle.text.specs.Literals.{literal_text}
use Rattle.text.specs.Laid.{laid}
use Rattle.text.proofs.LaidLaws.{laid_behind}
use Rattle.theory.specs.Rules.{Row, upward}
use Rattle.theory.specs.Sets.{Test}
use Rattle.row.specs.Rows.{row_of}
use Rattle.dimacs.specs.declared.writers.Writer.{Writer}
use Rattle.clauses.specs.Clauses.{Clause, for_each}
use Rattle.clauses.specs.Texts.{clause_line, problem, first_line}
use Rattle.clauses.proofs.WalkLaws.{for_each_append}
use Rattle.dimacs.specs.Walks.{word_text, end_text, number_text, put, Fitting, wrote_one, wrote, Room, each}

module _ (w : Writer) where
  -- a buffer into which bytes were laid, and the place behind them
  pub put_is : (bytes : List ℕ) {at : ℕ} {now : List ℕ} → at ≡ w.at + length bytes → now ≡ laid w.at bytes w.buf.now → record w { buf = record w.buf { now = now }; at = at } ≡ put w bytes
  unfolding put
  put_is bytes e f = ap₂ (λ a n. record w { buf = record w.buf { now = n }; at = a }) e f

  pub put_at : (bytes : List ℕ) → (put w bytes).at ≡ w.at + length bytes
  unfolding put
  put_at bytes = refl

  pub put_clauses : (bytes : List ℕ) → (put w bytes).clauses ≡ w.clauses
  unfolding put
  put_clauses bytes = refl

  -- no bytes, and some behind others
  pub put_none : put w [] ≡ w
  unfolding put laid
  put_none = ap (λ at. record w { at = at }) (let z : w.at + 0 ≡ w.at = omega arith in z)

  pub put_append : (a b : List ℕ) → put w (a ++ b) ≡ put (put w a) b
  unfolding put
  put_append a b =
      ap₂ (λ at now. record w { buf = record w.buf { now = now }; at = at })
      (omega (arith, length-append a b)) (sym (laid_behind w.at a b w.buf.now))

-- of the bytes `all`, put from the writer w on, these are left at the writer v
pub record BytesLeft (w : Writer) (all : List ℕ) (v : Writer) (rest : List ℕ) : Type 0 where
  pub same : put v rest ≡ put w all
  pub room : Fitting v rest

pub bytes_start : (w : Writer) (all : List ℕ) → Fitting w all → BytesLeft w all w all
bytes_start w all fits = record { same = refl; room = fits }

pub bytes_end : {w v : Writer} {all : List ℕ} → BytesLeft w all v [] → v ≡ put w all
bytes_end {w} {v} {all} left = sym (put_none v) ∙ left.same

pub bytes_as : {w v : Writer} {all rest rest' : List ℕ} → rest ≡ rest' → BytesLeft w all v rest → BytesLeft w all v rest'
bytes_as {w} {v} {all} e left = subst (BytesLeft w all v) e left

module _ {w v : Writer} {all : List ℕ} (xs rest : List ℕ) (left : BytesLeft w all v (xs ++ rest)) where
  pub bytes_room : Fitting v xs
  bytes_room = omega (arith, left.room, length-append xs rest)

  pub bytes_turn : {u : Writer} → u ≡ put v xs → BytesLeft w all u rest
  bytes_turn e = record {
    same = ap (λ k. put k rest) e ∙ sym (put_append v xs rest) ∙ left.same;
    room = omega (arith, left.room, length-append xs rest, ap (λ k. k.at) e, put_at v xs);
  }

-- the first line in its parts
pub head_line_lem : (variables clauses : ℕ) → first_line variables clauses ≡ problem ++ (number_text variables space ++ number_text clauses line_end)
head_line_lem variables clauses = ap (λ l. problem ++ l) (sym (append_assoc (decimal variables) (space ∷ []) (number_text clauses line_end)))

pub head_length_lem : (variables clauses : ℕ) → length (first_line variables clauses) ≡ 6 + (length (number_text variables space) + length (number_text clauses line_end))
head_length_lem variables clauses =
    omega (arith, ap length (head_line_lem variables clauses), length-append problem (number_text variables space ++ number_text clauses line_end), length-append (number_text variables space) (number_text clauses line_end))

-- the line of no literals, and that of one before others
pub line_end_lem : clause_line [] ≡ end_text
line_end_lem = refl

pub line_word : (l : Literal) (c : Clause) → clause_line (l ∷ c) ≡ word_text l ++ clause_line c
line_word l c = sym (append_assoc (literal_text l) (space ∷ []) (clause_line c))

-- one clause more, whose line was put
pub one_more : (w : Writer) {v : Writer} (c : Clause) → v ≡ put w (clause_line c) → record v { clauses = v.clauses + 1 } ≡ wrote_one w c
one_more w {v} c e =
    ap (λ (k : Writer). record k { clauses = k.clauses + 1 }) e
    ∙ ap (λ n. record (put w (clause_line c)) { clauses = n + 1 }) (put_clauses w (clause_line c))

-- some clauses behind others
pub wrote_append : (w : Writer) (xs ys : List Clause) → wrote w (xs ++ ys) ≡ wrote (wrote w xs) ys
wrote_append w [] ys = refl
wrote_append w (x ∷ xs) ys = wrote_append (wrote_one w x) xs ys

pub room_append : (w : Writer) (xs ys : List Clause) → Room w (xs ++ ys) → Room w xs × Room (wrote w xs) ys
room_append w [] ys r = (tt, r)
room_append w (x ∷ xs) ys r =
    let more = room_append (wrote_one w x) xs ys r.2 in
    ((r.0, r.1, more.0), more.1)

-- of the clauses `all`, written from the writer w on, these are left at the writer v
pub record Left (w : Writer) (all : List Clause) (v : Writer) (rest : List Clause) : Type 0 where
  pub same : wrote v rest ≡ wrote w all
  pub room : Room v rest

pub left_start : (w : Writer) (all : List Clause) → Room w all → Left w all w all
left_start w all room = record { same = refl; room = room }

pub left_as : {w v : Writer} {all rest rest' : List Clause} → rest ≡ rest' → Left w all v rest → Left w all v rest'
left_as {w} {v} {all} e left = subst (Left w all v) e left

module _ {w v : Writer} {all : List Clause} (xs rest : List Clause) (left : Left w all v (xs ++ rest)) where
  pub left_room : Room v xs
  left_room = (room_append v xs rest left.room).0

  pub left_turn : {u : Writer} → u ≡ wrote v xs → Left w all u rest
  left_turn e = record {
    same = ap (λ k. wrote k rest) e ∙ sym (wrote_append v xs rest) ∙ left.same;
    room = subst (λ k. Room k rest) (sym e) (room_append v xs rest left.room).1;
  }

-- upward in two parts
upward_split : (m n s : ℕ) → upward (m + n) s ≡ upward m s ++ upward n (s + m)
upward_split zero n s = ap₂ upward (let z : 0 + n ≡ n = omega arith in z) (let z : s ≡ s + 0 = omega arith in z)
upward_split (suc m) n s =
    ap (λ k. upward k s) (let z : suc m + n ≡ suc (m + n) = omega arith in z)
    ∙ ap (λ l. s ∷ l) (upward_split m n (suc s) ∙ ap (λ k. upward m (suc s) ++ upward n k) (let z : suc s + m ≡ s + suc m = omega arith in z))

-- the clauses of numbers in two parts
module _ (f : ℕ → List Clause) (s : ℕ) where
  each_split : (d n : ℕ) → s ≤ d → d ≤ n → each f s n ≡ each f s d ++ each f d n
  each_split d n h k =
      ap (λ m. for_each (upward m s) f) (let z : n - s ≡ (d - s) + (n - d) = omega arith in z)
      ∙ ap (λ l. for_each l f) (upward_split (d - s) (n - d) s)
      ∙ for_each_append f (upward (d - s) s) (upward (n - d) (s + (d - s)))
      ∙ ap (λ m. each f s d ++ for_each (upward (n - d) m) f) (let z : s + (d - s) ≡ d = omega arith in z)

-- a loop over numbers: those from d on are left
module _ (f : ℕ → List Clause) (d n : ℕ) where
  each_more : d < n → each f d n ≡ f d ++ each f (d + 1) n
  unfolding for_each
  each_more h =
      ap (λ k. for_each (upward k d) f) (let z : n - d ≡ suc (n - suc d) = omega arith in z)
      ∙ ap (λ k. f d ++ each f k n) (sym (add-one d))

  pub each_none : n ≤ d → each f d n ≡ []
  unfolding for_each
  each_none h = ap (λ k. for_each (upward k d) f) (let z : n - d ≡ 0 = omega arith in z)

  module _ {w v : Writer} {all : List Clause} (left : Left w all v (each f d n)) where
    pub each_room : d < n → Room v (f d)
    each_room h = left_room (f d) (each f (d + 1) n) (left_as (each_more h) left)

    pub each_turn : d < n → {u : Writer} → u ≡ wrote v (f d) → Left w all u (each f (d + 1) n)
    each_turn h e = left_turn (f d) (each f (d + 1) n) (left_as (each_more h) left) e

    pub each_end : n ≤ d → v ≡ wrote w all
    each_end h = (left_as (each_none h) left).same

-- a loop over rows: those from i on are left
module _ (f : Row Test → List Clause) (rows : List ℕ) where
  abbrev pub rows_from : ℕ → List Clause
  rows_from i = for_each (map row_of (drop i rows)) f

  module _ {w v : Writer} {all : List Clause} (i : ℕ) (left : Left w all v (rows_from i)) where
    rows_more : i < length rows → rows_from i ≡ f (row_of (get_or rows i 0)) ++ rows_from (i + 1)
    unfolding for_each
    rows_more h = at_drop_more (λ l. for_each (map row_of l) f) rows i 0 h

    pub rows_room : i < length rows → Room v (f (row_of (get_or rows i 0)))
    rows_room h = left_room (f (row_of (get_or rows i 0))) (rows_from (i + 1)) (left_as (rows_more h) left)

    pub rows_turn : i < length rows → {u : Writer} → u ≡ wrote v (f (row_of (get_or rows i 0))) → Left w all u (rows_from (i + 1))
    rows_turn h e = left_turn (f (row_of (get_or rows i 0))) (rows_from (i + 1)) (left_as (rows_more h) left) e

    pub rows_end : length rows ≤ i → v ≡ wrote w all
    unfolding for_each
    rows_end h = (left_as (at_drop_all (λ l. for_each (map row_of l) f) rows i h) left).same
