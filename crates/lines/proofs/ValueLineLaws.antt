-- The `v` lines both ways: lines of literals lead where their literals lead, one after the other; and lines that lead to no fault are such lines.
use Prim.Native.Nat.{ℕ}
use mathlib.Core.Path.{◌≡◌, refl, sym, ap, ap₂, ◌∙◌}
use mathlib.Core.Bool.{Bool, true, false, cond}
use mathlib.Core.List.{List, [], ◌∷◌, ◌++◌, map, append-nil}
use native.Mathlib.Omega.{arith}
use lib.Dec.{eqb}
use Rattle.std.specs.Prelude.{Option, Some, None, bytes_eq}
use Rattle.std.proofs.lemmas.Slice.Eq.{bytes_eq-Decides}
use Rattle.outcome.proofs.Never.{never}
use Rattle.text.specs.declared.literals.Literal.{Literal}
use Rattle.text.specs.Literals.{literal_text, word_read, Sayable}
use Rattle.text.specs.Pieces.{space, pieces, joined, Free, until}
use Rattle.text.proofs.PieceLaws.{free_piece, piece_then, joined_pieces}
use Rattle.text.proofs.LiteralLaws.{literal_read, word_literal, literal_free}
use Rattle.theory.specs.Lists.{Every}
use Rattle.lines.specs.declared.readings.Stage.{Stage}
use Rattle.lines.specs.declared.readings.Stage.TheVariants.{Start, Values, Valued, Refuted, Fault}
use Rattle.lines.specs.declared.readings.Reading.{Reading}
use Rattle.lines.specs.Values.{value_of, is_said, all_said}
use Rattle.lines.specs.Steps.{values, at_stage, last_step, value_step, number_step, word_step, word_steps, value_line, said_step}
use Rattle.lines.specs.Sentences.{numbers_text, values_line, together, HasOne}
use Rattle.lines.proofs.Folds.{steps_by, steps_faulty}
use Rattle.lines.proofs.StepLaws.{word_at_fault, line_at_values, line_at_valued, line_at_fault}
use Rattle.lines.proofs.WalkedLaws.{said_steps, said_faulty}

-- the bytes are the same
pub same_equal : (a b : List ℕ) → bytes_eq a b ≡ true → a ≡ b
same_equal a b = (bytes_eq-Decides a b).0

-- the words of a line of literals
module _ where
  line_words : (p : List ℕ) (ls : List Literal) → Free space p → pieces space (p ++ numbers_text ls) ≡ p ∷ map literal_text ls
  unfolding numbers_text
  line_words p [] free = ap (pieces space) (append-nil p) ∙ free_piece space p free
  line_words p (l ∷ ls) free = piece_then space p (literal_text l ++ numbers_text ls) free ∙ ap (λ ws. p ∷ ws) (line_words (literal_text l) ls (literal_free space (omega arith) l))

  words_line : (p : List ℕ) (ls : List Literal) → joined space (p ∷ map literal_text ls) ≡ p ++ numbers_text ls
  unfolding joined numbers_text
  words_line p [] = sym (append-nil p)
  words_line p (l ∷ ls) = ap (λ t. p ++ (space ∷ t)) (words_line (literal_text l) ls)

  values_words : (ls : List Literal) → pieces space (values_line ls) ≡ values ∷ map literal_text ls
  unfolding until
  values_words ls = line_words values ls refl

  words_values : (line : List ℕ) (ls : List Literal) → pieces space line ≡ values ∷ map literal_text ls → line ≡ values_line ls
  words_values line ls e = sym (joined_pieces space line) ∙ ap (joined space) e ∙ words_line values ls

-- the stages that a number leads to
abbrev pub Later : Stage → Type 0
Later Start = ⊥
Later Values = Unit {0}
Later Valued = Unit {0}
Later Refuted = ⊥
Later Fault = Unit {0}

module _ (most : ℕ) where
  -- what a word says, by the stage before it
  abbrev read_step : Reading → Option Literal → Reading
  read_step r w = elim r.stage [ Start ↦ at_stage Fault r | Values ↦ number_step most r w | Valued ↦ at_stage Fault r | Refuted ↦ at_stage Fault r | Fault ↦ at_stage Fault r ]

  abbrev pub literal_step : Reading → Literal → Reading
  literal_step r l = read_step r (Some l)

  abbrev pub literal_steps : Reading → List Literal → Reading
  literal_steps = steps_by literal_step

  read_at_values : (r : Reading) (w : Option Literal) → r.stage ≡ Values → read_step r w ≡ number_step most r w
  read_at_values r w e = rw e

  -- at any other stage, and where a word says nothing, it leads to a fault
  read_elsewhere : (r : Reading) (w : Option Literal) → (r.stage ≡ Values → ⊥) → read_step r w ≡ at_stage Fault r
  read_elsewhere r w h = go r.stage refl
    where
      go : (s : Stage) → r.stage ≡ s → read_step r w ≡ at_stage Fault r
      go Start p = rw p
      go Values p = absurd (h p)
      go Valued p = rw p
      go Refuted p = rw p
      go Fault p = rw p

  unread_faulty : (r : Reading) → (read_step r None).stage ≡ Fault
  unread_faulty r = go r.stage refl
    where
      go : (s : Stage) → r.stage ≡ s → (read_step r None).stage ≡ Fault
      go Start p = rw p
      go Values p = rw p
      go Valued p = rw p
      go Refuted p = rw p
      go Fault p = rw p

  word_faulty : (r : Reading) (w : List ℕ) → r.stage ≡ Fault → (word_step most r w).stage ≡ Fault
  word_faulty r w e = ap (λ x. x.stage) (word_at_fault most r w e)

  pub literal_faulty : (r : Reading) (l : Literal) → r.stage ≡ Fault → (literal_step r l).stage ≡ Fault
  literal_faulty r l e = rw e

  number_later : (r : Reading) (l : Literal) → Later (number_step most r (Some l)).stage
  number_later r l = number (eqb l.variable 0)
    where
      last : (t : Bool) → Later (cond t (at_stage Valued r) (at_stage Fault r)).stage
      last true = tt
      last false = tt

      value : (t : Bool) (x : Reading) → x.stage ≡ Values → Later (cond t (at_stage Fault r) x).stage
      value true x e = tt
      value false x e = rw e tt

      number : (t : Bool) → Later (cond t (last_step most r) (value_step r l)).stage
      number true = last (all_said most r.values)
      number false = value (is_said (value_of r.values l.variable)) _ refl

  literal_later : (r : Reading) (l : Literal) → Later (literal_step r l).stage
  literal_later r l = go r.stage refl
    where
      go : (s : Stage) → r.stage ≡ s → Later (literal_step r l).stage
      go Start p = rw p tt
      go Values p = rw (read_at_values r (Some l) p) (number_later r l)
      go Valued p = rw p tt
      go Refuted p = rw p tt
      go Fault p = rw p tt

  pub literals_later : (r : Reading) (ls : List Literal) → Later r.stage → Later (literal_steps r ls).stage
  unfolding steps_by
  literals_later r [] h = h
  literals_later r (l ∷ ls) h = literals_later (literal_step r l) ls (literal_later r l)

  -- words that say literals lead where these lead
  words_lead : (r : Reading) (ls : List Literal) → Every (Sayable most) ls → word_steps most r (map literal_text ls) ≡ literal_steps r ls
  unfolding word_steps steps_by
  words_lead r [] h = refl
  words_lead r (l ∷ ls) h = ap (λ x. word_steps most x (map literal_text ls)) (ap (read_step r) (literal_read most l h.0)) ∙ words_lead (literal_step r l) ls h.1

  -- words that lead to no fault say literals
  record Words (ws : List (List ℕ)) : Type 0 where
    pub literals : List Literal
    pub texts : ws ≡ map literal_text literals
    pub sayable : Every (Sayable most) literals

  words_faulty : (r : Reading) (ws : List (List ℕ)) → r.stage ≡ Fault → (word_steps most r ws).stage ≡ Fault
  unfolding word_steps
  words_faulty r [] e = e
  words_faulty r (w ∷ ws) e = words_faulty (word_step most r w) ws (word_faulty r w e)

  words_say : (r : Reading) (ws : List (List ℕ)) → ((word_steps most r ws).stage ≡ Fault → ⊥) → Words ws
  unfolding word_steps
  words_say r [] h = record { literals = []; texts = refl; sayable = tt }
  words_say r (w ∷ ws) h = go (word_read most w) refl (words_say (word_step most r w) ws h)
    where
      go : (x : Option Literal) → word_read most w ≡ x → Words ws → Words (w ∷ ws)
      go None e later = absurd (h (words_faulty (word_step most r w) ws (ap (λ x. (read_step r x).stage) e ∙ unread_faulty r)))
      go (Some l) e later =
          let said = word_literal most w l e in
          record { literals = l ∷ later.literals; texts = ap₂ (λ x l. x ∷ l) said.0 later.texts; sayable = (said.1, later.sayable) }

  -- a line of literals leads where these lead
  pub fault_literals : (r : Reading) (ls : List Literal) → literal_steps (at_stage Fault r) ls ≡ at_stage Fault r
  unfolding steps_by
  fault_literals r [] = refl
  fault_literals r (l ∷ ls) = fault_literals r ls

  line_leads : (r : Reading) (ls : List Literal) → HasOne ls → Every (Sayable most) ls → value_line most r (pieces space (values_line ls)) ≡ literal_steps r ls
  line_leads r [] one h = absurd (one refl)
  line_leads r (l ∷ ls) one h = ap (value_line most r) (values_words (l ∷ ls)) ∙ words_lead r (l ∷ ls) h

  elsewhere_leads : (r : Reading) (ls : List Literal) → HasOne ls → (r.stage ≡ Values → ⊥) → literal_steps r ls ≡ at_stage Fault r
  unfolding steps_by
  elsewhere_leads r [] one h = absurd (one refl)
  elsewhere_leads r (l ∷ ls) one h = ap (λ x. literal_steps x ls) (read_elsewhere r (Some l) h) ∙ fault_literals r ls

  said_leads : (r : Reading) (ls : List Literal) → Later r.stage → HasOne ls → Every (Sayable most) ls → said_step most r (values_line ls) ≡ literal_steps r ls
  said_leads r ls due one h = go r.stage refl
    where
      go : (s : Stage) → r.stage ≡ s → said_step most r (values_line ls) ≡ literal_steps r ls
      go Start p = absurd (rw p at due)
      go Values p = line_at_values most r (values_line ls) p ∙ line_leads r ls one h
      go Valued p = line_at_valued most r (values_line ls) p ∙ sym (elsewhere_leads r ls one (λ e. never cc))
      go Refuted p = absurd (rw p at due)
      go Fault p = line_at_fault most r (values_line ls) p ∙ sym (elsewhere_leads r ls one (λ e. never cc))

  pub steps_both : (r : Reading) (xs ys : List Literal) → literal_steps r (xs ++ ys) ≡ literal_steps (literal_steps r xs) ys
  unfolding steps_by
  steps_both r [] ys = refl
  steps_both r (x ∷ xs) ys = steps_both (literal_step r x) xs ys

  -- lines of literals lead where all their literals lead
  pub lines_lead : (r : Reading) (lss : List (List Literal)) → Later r.stage → Every HasOne lss → Every (Every (Sayable most)) lss → said_steps most r (map values_line lss) ≡ literal_steps r (together lss)
  unfolding steps_by together
  lines_lead r [] due one h = refl
  lines_lead r (ls ∷ lss) due one h =
      ap (λ x. said_steps most x (map values_line lss)) (said_leads r ls due one.0 h.0)
      ∙ lines_lead (literal_steps r ls) lss (literals_later r ls due) one.1 h.1
      ∙ sym (steps_both r ls (together lss))

  -- a line that leads to no fault is a line of literals
  pub record SaidLine (line : List ℕ) : Type 0 where
    pub literals : List Literal
    pub is_line : line ≡ values_line literals
    pub has_one : HasOne literals
    pub sayable : Every (Sayable most) literals

  line_says : (r : Reading) (line : List ℕ) → ((value_line most r (pieces space line)).stage ≡ Fault → ⊥) → SaidLine line
  line_says r line h = go (pieces space line) refl h
    where
      words : (first w : List ℕ) (ws : List (List ℕ)) (t : Bool) → bytes_eq first values ≡ t → pieces space line ≡ first ∷ w ∷ ws → ((cond t (word_steps most r (w ∷ ws)) (at_stage Fault r)).stage ≡ Fault → ⊥) → SaidLine line
      words first w ws true p e k =
          let x = words_say r (w ∷ ws) k in
          record {
            literals = x.literals;
            is_line = words_values line x.literals (e ∙ ap₂ (λ f l. f ∷ l) (same_equal first values p) x.texts);
            has_one = λ z. let none : w ∷ ws ≡ [] = x.texts ∙ ap (map literal_text) z in never cc;
            sayable = x.sayable;
          }
      words first w ws false p e k = absurd (k refl)

      go : (ps : List (List ℕ)) → pieces space line ≡ ps → ((value_line most r ps).stage ≡ Fault → ⊥) → SaidLine line
      go [] e k = absurd (k refl)
      go (first ∷ []) e k = absurd (k refl)
      go (first ∷ w ∷ ws) e k = words first w ws (bytes_eq first values) refl e k

  -- lines that lead to no fault are lines of literals
  pub record SaidLines (us : List (List ℕ)) : Type 0 where
    pub numbers : List (List Literal)
    pub are_lines : us ≡ map values_line numbers
    pub has_ones : Every HasOne numbers
    pub sayables : Every (Every (Sayable most)) numbers

  pub lines_say : (r : Reading) (us : List (List ℕ)) → Later r.stage → ((said_steps most r us).stage ≡ Fault → ⊥) → SaidLines us
  unfolding steps_by
  lines_say r [] due h = record { numbers = []; are_lines = refl; has_ones = tt; sayables = tt }
  lines_say r (line ∷ us) due h = go r.stage refl (λ later. lines_say (said_step most r line) us later h)
    where
      stands : (said_step most r line).stage ≡ Fault → ⊥
      stands f = h (steps_faulty (said_step most) (said_faulty most) (said_step most r line) us f)

      joins : SaidLine line → (Later (said_step most r line).stage → SaidLines us) → SaidLines (line ∷ us)
      joins x rest =
          let leads : said_step most r line ≡ literal_steps r x.literals = ap (said_step most r) x.is_line ∙ said_leads r x.literals due x.has_one x.sayable in
          let y = rest (rw leads (literals_later r x.literals due)) in
          record {
            numbers = x.literals ∷ y.numbers;
            are_lines = ap₂ (λ a b. a ∷ b) x.is_line y.are_lines;
            has_ones = (x.has_one, y.has_ones);
            sayables = (x.sayable, y.sayables);
          }

      go : (s : Stage) → r.stage ≡ s → (Later (said_step most r line).stage → SaidLines us) → SaidLines (line ∷ us)
      go Start p rest = absurd (rw p at due)
      go Values p rest = joins (line_says r line (λ f. stands (ap (λ x. x.stage) (line_at_values most r line p) ∙ f))) rest
      go Valued p rest = absurd (stands (ap (λ x. x.stage) (line_at_valued most r line p)))
      go Refuted p rest = absurd (rw p at due)
      go Fault p rest = absurd (stands (ap (λ x. x.stage) (line_at_fault most r line p)))
