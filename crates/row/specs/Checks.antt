-- Which numbers are rows over so many terms and sets, and the check of rows that are handed in.
use Rattle.std.specs.Prelude.{ℕ, suc, ◌^◌, Bool, false, ◌&&◌, ◌||◌, cond, List, [], ◌∷◌, eqb, ltb, length, get_or, Ok, Err}
use Rattle.outcome.specs.Checks.{Check}
use Rattle.question.specs.Limits.{max_terms, max_sets, max_rows}
use Rattle.outcome.specs.Refusals.{refusal, too_many_names, too_many_statements, bad_row}
use Rattle.row.specs.declared.parts.RowParts.{RowParts}
use Rattle.row.specs.Parts.{row_bits, parts_of}

-- kind by kind, are the places x, y and z good: declared terms and sets, and 0 where a place isn't used
abbrev pub good_by_kind : ℕ → ℕ → ℕ → ℕ → ℕ → List Bool
good_by_kind terms sets x y z =
    (ltb x terms && eqb y 0 && eqb z 0)
    ∷ (ltb x terms && eqb y 0 && eqb z 0)
    ∷ (ltb x sets && eqb y 0 && eqb z 0)
    ∷ (ltb x sets && eqb y 0 && eqb z 0)
    ∷ (ltb x sets && ltb y sets && eqb z 0)
    ∷ (ltb x sets && ltb y sets && eqb z 0)
    ∷ (ltb x sets && ltb y terms && eqb z 0)
    ∷ (ltb x sets && ltb y sets && ltb z sets)
    ∷ (ltb x sets && ltb y sets && ltb z sets)
    ∷ (ltb x sets && ltb y sets && ltb z sets)
    ∷ []

-- the places of a row, by its kind; there is no kind above 9
unfoldable pub places_good : ℕ → ℕ → RowParts → Bool
places_good terms sets p = get_or (good_by_kind terms sets p.first p.second p.third) p.kind false

-- a row has no bit above 19, a declared term, and good places
unfoldable pub row_good : ℕ → ℕ → ℕ → Bool
row_good terms sets n = ltb n (2 ^ row_bits) && (ltb (parts_of n).term terms && places_good terms sets (parts_of n))

-- the first bad row, where the first row has the index i
unfoldable pub rows_checked_from : ℕ → ℕ → ℕ → List ℕ → Check
rows_checked_from terms sets i [] = Ok tt
rows_checked_from terms sets i (n ∷ ns) = cond (row_good terms sets n) (rows_checked_from terms sets (suc i) ns) (Err (refusal bad_row i))

-- 5, then 7 (place 0), then 12 (place the row)
unfoldable pub rows_checked : ℕ → ℕ → List ℕ → Check
rows_checked terms sets rows =
    cond (ltb max_terms terms || ltb max_sets sets) (Err (refusal too_many_names 0))
    (cond (ltb max_rows (length rows)) (Err (refusal too_many_statements 0)) (rows_checked_from terms sets 0 rows))
