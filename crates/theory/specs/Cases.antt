-- The table A to N of document 01: each question with its answer, classes / masks.
use Rattle.std.specs.Prelude.{ℕ, List, [], ◌∷◌}
use Rattle.std.proofs.Math.Option.{Option, none, some}
use Rattle.statement.specs.declared.names.ElementName.{ElementName}
use Rattle.statement.specs.declared.names.SetName.{SetName}
use Rattle.statement.specs.declared.statements.Statement.{Statement}
use Rattle.statement.specs.declared.statements.Statement.TheVariants.{ElementsEqual, ElementsDiffer, In, NotIn, SetsEqual, SetsDiffer, Empty, Single, Union, Intersection, Difference}
use Rattle.question.specs.declared.questions.Question.{Question}
use Rattle.question.specs.Questions.{question_of}
use Rattle.theory.specs.Solutions.{Solution, with_masks}

-- e and s are names
abbrev pub e : ℕ → ElementName
e n = record { 0 = n }

abbrev pub s : ℕ → SetName
s n = record { 0 = n }

-- an answer: classes / masks, or impossible
abbrev pub possible : List ℕ → List ℕ → Option Solution
possible l ms = some (with_masks l ms)

abbrev pub impossible : Option Solution
impossible = none

-- a question with its answer
pub record Case : Type 0 where
  pub asks : Question
  pub answers : Option Solution

abbrev pub case : ℕ → ℕ → List Statement → Option Solution → Case
case E S ss a = record { asks = question_of E S ss; answers = a }

-- E=0 S=0, nothing: possible, empty / empty
abbrev pub case_a : Case
case_a = case 0 0 [] (possible [] [])

-- E=2 S=0, e0≠e1: 0 1 / 0 0
abbrev pub case_b : Case
case_b = case 2 0 (ElementsDiffer (e 0) (e 1) ∷ []) (possible (0 ∷ 1 ∷ []) (0 ∷ 0 ∷ []))

-- B with e0=e1: impossible
abbrev pub case_c : Case
case_c = case 2 0 (ElementsDiffer (e 0) (e 1) ∷ ElementsEqual (e 0) (e 1) ∷ []) impossible

-- E=2 S=2, s0={e0}, s1={e1}, s0=s1, e0≠e1: impossible
abbrev pub case_d : Case
case_d = case 2 2 (Single (s 0) (e 0) ∷ Single (s 1) (e 1) ∷ SetsEqual (s 0) (s 1) ∷ ElementsDiffer (e 0) (e 1) ∷ []) impossible

-- E=0 S=2, s0≠s1: 0 / 1
abbrev pub case_e : Case
case_e = case 0 2 (SetsDiffer (s 0) (s 1) ∷ []) (possible (0 ∷ []) (1 ∷ []))

-- E=1 S=3, s2=s0∪s1, e0 in s2, e0 not in s0: 0 / 6
abbrev pub case_f : Case
case_f = case 1 3 (Union (s 2) (s 0) (s 1) ∷ In (e 0) (s 2) ∷ NotIn (e 0) (s 0) ∷ []) (possible (0 ∷ []) (6 ∷ []))

-- E=0 S=3, s2=s0∩s1, s2≠s0: 0 / 1
abbrev pub case_g : Case
case_g = case 0 3 (Intersection (s 2) (s 0) (s 1) ∷ SetsDiffer (s 2) (s 0) ∷ []) (possible (0 ∷ []) (1 ∷ []))

-- E=1 S=2, s0={e0}, s1 empty, s0≠s1: 0 0 / 1
abbrev pub case_h : Case
case_h = case 1 2 (Single (s 0) (e 0) ∷ Empty (s 1) ∷ SetsDiffer (s 0) (s 1) ∷ []) (possible (0 ∷ 0 ∷ []) (1 ∷ []))

-- E=1 S=2, s0={e0}, s0≠s1, e0 in s1: 0 1 / 3 2
abbrev pub case_i : Case
case_i = case 1 2 (Single (s 0) (e 0) ∷ SetsDiffer (s 0) (s 1) ∷ In (e 0) (s 1) ∷ []) (possible (0 ∷ 1 ∷ []) (3 ∷ 2 ∷ []))

-- E=1 S=1, s0=s0\s0, e0 in s0: impossible
abbrev pub case_j : Case
case_j = case 1 1 (Difference (s 0) (s 0) (s 0) ∷ In (e 0) (s 0) ∷ []) impossible

-- E=0 S=1, s0≠s0: impossible
abbrev pub case_k : Case
case_k = case 0 1 (SetsDiffer (s 0) (s 0) ∷ []) impossible

-- E=0 S=3, s0≠s1, s1≠s2, s0≠s2: 0 0 1 / 2 1
abbrev pub case_l : Case
case_l = case 0 3 (SetsDiffer (s 0) (s 1) ∷ SetsDiffer (s 1) (s 2) ∷ SetsDiffer (s 0) (s 2) ∷ []) (possible (0 ∷ 0 ∷ 1 ∷ []) (2 ∷ 1 ∷ []))

-- E=0 S=8, s3=s1∪s2, s4=s0\s3, s5=s0\s1, s6=s0\s2, s7=s5∩s6, s4≠s7: impossible
abbrev pub case_m : Case
case_m =
    case 0 8
    (Union (s 3) (s 1) (s 2) ∷ Difference (s 4) (s 0) (s 3) ∷ Difference (s 5) (s 0) (s 1) ∷ Difference (s 6) (s 0) (s 2) ∷ Intersection (s 7) (s 5) (s 6) ∷ SetsDiffer (s 4) (s 7) ∷ [])
    impossible

-- E=2 S=3, s0={e0}, s1={e1}, s2=s0∪s1, s2≠s0: 0 1 1 / 5 6
abbrev pub case_n : Case
case_n = case 2 3 (Single (s 0) (e 0) ∷ Single (s 1) (e 1) ∷ Union (s 2) (s 0) (s 1) ∷ SetsDiffer (s 2) (s 0) ∷ []) (possible (0 ∷ 1 ∷ 1 ∷ []) (5 ∷ 6 ∷ []))

-- the whole table
abbrev pub cases : List Case
cases = case_a ∷ case_b ∷ case_c ∷ case_d ∷ case_e ∷ case_f ∷ case_g ∷ case_h ∷ case_i ∷ case_j ∷ case_k ∷ case_l ∷ case_m ∷ case_n ∷ []
