-- The clause text by its lines and words: behind the first line stand as many lines as its second number says, each a clause's literals and 0.
use Prim.Native.Nat.{ℕ, suc}
use mathlib.Core.Path.{◌≡◌, refl, sym, ap, ◌∙◌}
use mathlib.Core.List.{List, [], ◌∷◌, ◌++◌, map, append_assoc}
use native.Mathlib.Omega.{arith}
use lib.ListN.{length, length-append, length-map}
use Rattle.text.specs.Decimals.{digit, decimal}
use Rattle.text.specs.Literals.{literal_text}
use Rattle.text.specs.Pieces.{space, line_end, until, pieces, Free}
use Rattle.text.proofs.PieceLaws.{piece_then, free_piece, free_both, free_byte}
use Rattle.text.proofs.LiteralLaws.{digits_free, literal_free}
use Rattle.question.specs.declared.questions.Question.{Question}
use Rattle.question.specs.Questions.{terms_of}
use Rattle.clauses.specs.Variables.{spare_variable}
use Rattle.clauses.specs.Clauses.{Clause, clauses_of}
use Rattle.clauses.specs.Texts.{clause_line, clause_lines, problem, first_line, clause_text}

-- the lines without their ends
abbrev pub line_of : Clause → List ℕ
line_of [] = digit 0 ∷ []
line_of (l ∷ ls) = literal_text l ++ (space ∷ line_of ls)

abbrev pub head_line : ℕ → ℕ → List ℕ
head_line variables clauses = problem ++ (decimal variables ++ (space ∷ decimal clauses))

line_ends : (c : Clause) → clause_line c ≡ line_of c ++ (line_end ∷ [])
line_ends [] = refl
line_ends (l ∷ ls) = ap (λ t. literal_text l ++ (space ∷ t)) (line_ends ls) ∙ sym (append_assoc (literal_text l) (space ∷ line_of ls) (line_end ∷ []))

head_ends : (variables clauses : ℕ) → first_line variables clauses ≡ head_line variables clauses ++ (line_end ∷ [])
head_ends variables clauses = ap (λ t. problem ++ t) (sym (append_assoc (decimal variables) (space ∷ decimal clauses) (line_end ∷ [])))

-- no end of a line stands in them
line_free : (c : Clause) → Free line_end (line_of c)
line_free [] = free_byte line_end (digit 0) (λ e. omega arith)
line_free (l ∷ ls) =
    free_both line_end (literal_text l) (space ∷ line_of ls) (literal_free line_end (omega arith) l)
    (free_both line_end (space ∷ []) (line_of ls) (free_byte line_end space (λ e. omega arith)) (line_free ls))

head_free : (variables clauses : ℕ) → Free line_end (head_line variables clauses)
unfolding until
head_free variables clauses =
    free_both line_end problem (decimal variables ++ (space ∷ decimal clauses)) refl
    (free_both line_end (decimal variables) (space ∷ decimal clauses) (digits_free line_end (omega arith) (suc variables) variables)
    (free_both line_end (space ∷ []) (decimal clauses) refl (digits_free line_end (omega arith) (suc clauses) clauses)))

-- the words of a line, and of the first
pub line_words : (c : Clause) → pieces space (line_of c) ≡ map literal_text c ++ ((digit 0 ∷ []) ∷ [])
line_words [] = free_piece space (digit 0 ∷ []) (free_byte space (digit 0) (λ e. omega arith))
line_words (l ∷ ls) = piece_then space (literal_text l) (line_of ls) (literal_free space (omega arith) l) ∙ ap (λ t. literal_text l ∷ t) (line_words ls)

-- `p`, `cnf`, the number of variables, the number of clauses
pub head_words : (variables clauses : ℕ) → pieces space (head_line variables clauses) ≡ (0x70 ∷ []) ∷ (0x63 ∷ 0x6e ∷ 0x66 ∷ []) ∷ decimal variables ∷ decimal clauses ∷ []
unfolding until
head_words variables clauses =
    piece_then space (0x70 ∷ []) (0x63 ∷ 0x6e ∷ 0x66 ∷ space ∷ (decimal variables ++ (space ∷ decimal clauses))) refl
    ∙ ap (λ t. (0x70 ∷ []) ∷ t) (piece_then space (0x63 ∷ 0x6e ∷ 0x66 ∷ []) (decimal variables ++ (space ∷ decimal clauses)) refl
    ∙ ap (λ t. (0x63 ∷ 0x6e ∷ 0x66 ∷ []) ∷ t) (piece_then space (decimal variables) (decimal clauses) (digits_free space (omega arith) (suc variables) variables)
    ∙ ap (λ t. decimal variables ∷ t) (free_piece space (decimal clauses) (digits_free space (omega arith) (suc clauses) clauses))))

-- the lines of some clauses: one for each, and nothing behind the last end
lines_are : (cs : List Clause) → pieces line_end (clause_lines cs) ≡ map line_of cs ++ ([] ∷ [])
unfolding clause_lines pieces
lines_are [] = refl
lines_are (c ∷ cs) =
    ap (λ t. pieces line_end (t ++ clause_lines cs)) (line_ends c)
    ∙ ap (pieces line_end) (append_assoc (line_of c) (line_end ∷ []) (clause_lines cs))
    ∙ piece_then line_end (line_of c) (clause_lines cs) (line_free c)
    ∙ ap (λ t. line_of c ∷ t) (lines_are cs)

module _ (q : Question) where
  -- the first line of the clause text, without its end
  abbrev pub head_of : List ℕ
  head_of = head_line (spare_variable (terms_of q) q.sets) (length (clauses_of q))

  -- the text is that line, one line for each clause in order, and nothing behind the last end
  pub text_lines : pieces line_end (clause_text q) ≡ head_of ∷ (map line_of (clauses_of q) ++ ([] ∷ []))
  unfolding clause_text
  text_lines =
      ap (λ t. pieces line_end (t ++ clause_lines (clauses_of q))) (head_ends (spare_variable (terms_of q) q.sets) (length (clauses_of q)))
      ∙ ap (pieces line_end) (append_assoc head_of (line_end ∷ []) (clause_lines (clauses_of q)))
      ∙ piece_then line_end head_of (clause_lines (clauses_of q)) (head_free (spare_variable (terms_of q) q.sets) (length (clauses_of q)))
      ∙ ap (λ t. head_of ∷ t) (lines_are (clauses_of q))

  -- the counts of the first line are those of the lines behind it and of the variables
  pub counts_true : (lines : List (List ℕ)) → pieces line_end (clause_text q) ≡ head_of ∷ (lines ++ ([] ∷ [])) →
      pieces space head_of ≡ (0x70 ∷ []) ∷ (0x63 ∷ 0x6e ∷ 0x66 ∷ []) ∷ decimal (spare_variable (terms_of q) q.sets) ∷ decimal (length lines) ∷ []
  counts_true lines e = head_words (spare_variable (terms_of q) q.sets) (length (clauses_of q)) ∙ ap (λ n. (0x70 ∷ []) ∷ (0x63 ∷ 0x6e ∷ 0x66 ∷ []) ∷ decimal (spare_variable (terms_of q) q.sets) ∷ decimal n ∷ []) same
    where
      same : length (clauses_of q) ≡ length lines
      same =
          let long : length (head_of ∷ (lines ++ ([] ∷ []))) ≡ length (head_of ∷ (map line_of (clauses_of q) ++ ([] ∷ []))) = ap (λ t. length t) (sym e ∙ text_lines) in
          omega (arith, long, length-append lines ([] ∷ []), length-append (map line_of (clauses_of q)) ([] ∷ []), length-map (clauses_of q) line_of)
