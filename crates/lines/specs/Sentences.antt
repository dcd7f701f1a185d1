-- Document 02's sentence on a solver's lines, read as it stands: which texts say a model, with which literals, and which say unsatisfiable; and the lines that truth values write themselves.
use Rattle.std.specs.Prelude.{ℕ, suc, ◌≤◌, ◌≡◌, Bool, false, not, ◌&&◌, ◌||◌, cond, List, [], ◌∷◌, ◌++◌, map, ◌⊎◌, eqb}
use Rattle.text.specs.declared.literals.Literal.{Literal}
use Rattle.text.specs.Literals.{is, literal_text}
use Rattle.text.specs.Pieces.{space, line_end, Free}
use Rattle.theory.specs.Lists.{Every}
use Rattle.theory.specs.Rules.{upward}
use Rattle.lines.specs.Steps.{satisfiable, unsatisfiable, values, is_comment}

-- lines, each with its 0A
unfoldable pub text_of : List (List ℕ) → List ℕ
text_of [] = []
text_of (line ∷ ls) = line ++ (line_end ∷ text_of ls)

-- the lines that are no comments
unfoldable pub uncommented : List (List ℕ) → List (List ℕ)
uncommented [] = []
uncommented (line ∷ ls) = cond (is_comment line) (uncommented ls) (line ∷ uncommented ls)

-- the numbers of a `v` line, one space before each
unfoldable pub numbers_text : List Literal → List ℕ
numbers_text [] = []
numbers_text (l ∷ ls) = space ∷ (literal_text l ++ numbers_text ls)

abbrev pub values_line : List Literal → List ℕ
values_line ls = values ++ numbers_text ls

-- the literals of some lines, one line behind the other
unfoldable pub together : List (List Literal) → List Literal
together [] = []
together (ls ∷ lss) = ls ++ together lss

-- how often the variable v stands among some literals
unfoldable pub times_said : ℕ → List Literal → ℕ
times_said v [] = 0
times_said v (l ∷ ls) = cond (eqb l.variable v) (suc (times_said v ls)) (times_said v ls)

-- some literals hold every variable from 1 to `most` once, and no other
pub record EachOnce (most : ℕ) (said : List Literal) : Type 0 where
  pub declared : Every (λ l. (1 ≤ l.variable) × (l.variable ≤ most)) said
  pub once : (v : ℕ) → 1 ≤ v → v ≤ most → times_said v said ≡ 1

-- the truth values that some literals say: does the variable v stand among them without a minus
unfoldable pub truth_in : List Literal → ℕ → Bool
truth_in [] v = false
truth_in (l ∷ ls) v = eqb l.variable v && not l.denied || truth_in ls v

-- a line has at least one number
abbrev pub HasOne : List Literal → Type 0
HasOne ls = (ls ≡ []) → ⊥

-- the text: `s SATISFIABLE`, then `v` lines of at least one number each that hold every variable once, and last a 0
pub record SaysModel (most : ℕ) (text : List ℕ) (said : List Literal) : Type 0 where
  pub lines : List (List ℕ)
  pub numbers : List (List Literal)
  pub ended : Every (Free line_end) lines
  pub whole : text ≡ text_of lines
  pub form : uncommented lines ≡ satisfiable ∷ map values_line numbers
  pub has_one : Every HasOne numbers
  pub all : together numbers ≡ said ++ (is 0 ∷ [])
  pub each_once : EachOnce most said

-- the text: `s UNSATISFIABLE` alone
pub record SaysUnsatisfiable (text : List ℕ) : Type 0 where
  pub lines : List (List ℕ)
  pub ended : Every (Free line_end) lines
  pub whole : text ≡ text_of lines
  pub form : uncommented lines ≡ unsatisfiable ∷ []

-- lines of document 02's form: they say a model, or unsatisfiable
abbrev pub OfForm : ℕ → List ℕ → Type 0
OfForm most text = ((said : List Literal) × SaysModel most text said) ⊎ SaysUnsatisfiable text

-- a variable as truth values say it: a minus if false
abbrev pub own_literal : (ℕ → Bool) → ℕ → Literal
own_literal truth v = record { denied = not (truth v); variable = v }

-- the variables 1 to `most`, in order
abbrev pub own_literals : ℕ → (ℕ → Bool) → List Literal
own_literals most truth = map (own_literal truth) (upward most 1)

-- the lines that truth values write: `s SATISFIABLE`, then one `v` line of the variables, and last a 0
unfoldable pub own_lines : ℕ → (ℕ → Bool) → List ℕ
own_lines most truth = text_of (satisfiable ∷ values_line (own_literals most truth ++ (is 0 ∷ [])) ∷ [])
