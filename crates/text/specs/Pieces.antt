-- The pieces of some bytes between separators: lines between ends of line, words between spaces.
use Rattle.std.specs.Prelude.{ℕ, cond, List, [], ◌∷◌, ◌++◌, ◌≡◌, eqb}

-- the two separators: a space, between words, and the end of a line
abbrev pub space : ℕ
space = 0x20

abbrev pub line_end : ℕ
line_end = 0x0a

-- the bytes before the first separator; all of them if there is none
unfoldable pub until : ℕ → List ℕ → List ℕ
until sep [] = []
until sep (b ∷ bytes) = cond (eqb b sep) [] (b ∷ until sep bytes)

-- one byte in front of the first piece
abbrev pub in_front : ℕ → List (List ℕ) → List (List ℕ)
in_front b [] = (b ∷ []) ∷ []
in_front b (p ∷ ps) = (b ∷ p) ∷ ps

-- the pieces: one more than there are separators
unfoldable pub pieces : ℕ → List ℕ → List (List ℕ)
pieces sep [] = [] ∷ []
pieces sep (b ∷ bytes) = cond (eqb b sep) ([] ∷ pieces sep bytes) (in_front b (pieces sep bytes))

-- pieces with a separator between them
unfoldable pub joined : ℕ → List (List ℕ) → List ℕ
joined sep [] = []
joined sep (p ∷ []) = p
joined sep (p ∷ q ∷ ps) = p ++ (sep ∷ joined sep (q ∷ ps))

-- no byte is the separator
abbrev pub Free : ℕ → List ℕ → Type 0
Free sep bytes = until sep bytes ≡ bytes

-- no byte of any piece is
abbrev pub AllFree : ℕ → List (List ℕ) → Type 0
AllFree sep [] = Unit {0}
AllFree sep (p ∷ ps) = Free sep p × AllFree sep ps
