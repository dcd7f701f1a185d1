-- Lines, each with its 0A, and the pieces of their text.
use Prim.Native.Nat.{ℕ}
use mathlib.Core.Path.{◌≡◌, refl, sym, ap, ◌∙◌}
use mathlib.Core.List.{List, [], ◌∷◌, ◌++◌}
use Rattle.text.specs.Pieces.{line_end, pieces, joined, Free, AllFree}
use Rattle.text.proofs.PieceLaws.{piece_then, joined_pieces, pieces_free}
use Rattle.theory.specs.Lists.{Every}
use Rattle.lines.specs.Sentences.{text_of}

text_joined : (ls : List (List ℕ)) → joined line_end (ls ++ ([] ∷ [])) ≡ text_of ls
unfolding joined text_of
text_joined [] = refl
text_joined (l ∷ []) = refl
text_joined (l ∷ m ∷ ls) = ap (λ t. l ++ (line_end ∷ t)) (text_joined (m ∷ ls))

front_free : (ls ms : List (List ℕ)) → AllFree line_end (ls ++ ms) → Every (Free line_end) ls
front_free [] ms h = tt
front_free (l ∷ ls) ms h = (h.0, front_free ls ms h.1)

-- the lines' text comes apart into the lines, and nothing behind the last 0A
pub text_pieces : (ls : List (List ℕ)) → Every (Free line_end) ls → pieces line_end (text_of ls) ≡ ls ++ ([] ∷ [])
unfolding text_of pieces
text_pieces [] h = refl
text_pieces (l ∷ ls) h = piece_then line_end l (text_of ls) h.0 ∙ ap (λ ps. l ∷ ps) (text_pieces ls h.1)

-- a text that so comes apart is the text of the lines
pub pieces_text : (text : List ℕ) (ls : List (List ℕ)) → pieces line_end text ≡ ls ++ ([] ∷ []) → (text ≡ text_of ls) × Every (Free line_end) ls
pieces_text text ls e = (sym (joined_pieces line_end text) ∙ ap (joined line_end) e ∙ text_joined ls, front_free ls ([] ∷ []) (rw e at (pieces_free line_end text)))
