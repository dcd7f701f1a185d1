-- The reader accepts exactly the texts of document 02's sentence: those that say a model, with the truth values that it says, and those that say unsatisfiable.
use Prim.Native.Nat.{ℕ, ◌≤◌}
use mathlib.Core.Path.{◌≡◌, refl, sym, ap, ap₂, ◌∙◌}
use mathlib.Core.Bool.{Bool, true, false, cond}
use mathlib.Core.List.{List, [], ◌∷◌, ◌++◌, map}
use mathlib.Core.Logic.{◌⊎◌, inl, inr}
use native.Mathlib.Omega.{arith}
use Rattle.std.specs.Prelude.{bytes_eq, Ok}
use Rattle.outcome.specs.Checks.{outcome_of}
use Rattle.outcome.proofs.Never.{never}
use Rattle.text.specs.declared.literals.Literal.{Literal}
use Rattle.text.specs.Literals.{is, Sayable}
use Rattle.text.specs.Pieces.{line_end, pieces}
use Rattle.text.proofs.PieceLaws.{any_piece}
use Rattle.theory.specs.Lists.{Every}
use Rattle.theory.proofs.ListLaws.{every_map, every_front, every_back, every_append}
use Rattle.lines.specs.declared.readings.Stage.{Stage}
use Rattle.lines.specs.declared.readings.Stage.TheVariants.{Values, Valued, Refuted, Fault}
use Rattle.lines.specs.declared.readings.Reading.{Reading}
use Rattle.lines.specs.Values.{most_variables, no_values, truth_of, all_said}
use Rattle.lines.specs.Steps.{satisfiable, unsatisfiable, start, at_stage, said_step}
use Rattle.lines.specs.Reads.{reading_of, lines_from, lines_read}
use Rattle.lines.specs.Sentences.{uncommented, values_line, together, truth_in, HasOne, SaysModel, SaysUnsatisfiable}
use Rattle.lines.proofs.Folds.{steps_by, steps_faulty}
use Rattle.lines.proofs.TextLaws.{text_pieces, pieces_text}
use Rattle.lines.proofs.WalkedLaws.{Ends, line_steps, said_steps, said_faulty, uncommented_steps, Walked, walked, walks}
use Rattle.lines.proofs.ValueLineLaws.{same_equal, Later, literal_steps, literals_later, lines_lead, lines_say}
use Rattle.lines.proofs.SaidLaws.{with_values, table_after, Fresh, literals_say, said_literals}
use Rattle.lines.proofs.TimesLaws.{once_said, said_once, truth_said_lem}

-- what holds of each literal of each line holds of all, and the other way round
module _ (P : Literal → Type 0) where
  every_together : (lss : List (List Literal)) → Every (Every P) lss → Every P (together lss)
  unfolding together
  every_together [] h = tt
  every_together (ls ∷ lss) h = every_append P ls (together lss) h.0 (every_together lss h.1)

  every_apart : (lss : List (List Literal)) → Every P (together lss) → Every (Every P) lss
  unfolding together
  every_apart [] h = tt
  every_apart (ls ∷ lss) h = (every_front P ls (together lss) h, every_apart lss (every_back P ls (together lss) h))

module _ (most : ℕ) where
  -- the first line that is no comment
  faulty : (r : Reading) (us : List (List ℕ)) → (said_steps most (at_stage Fault r) us).stage ≡ Fault
  faulty r us = steps_faulty (said_step most) (said_faulty most) (at_stage Fault r) us refl

  refuted_alone : (s : Stage) (us : List (List ℕ)) → (said_steps most (at_stage Refuted start) us).stage ≡ s → (s ≡ Fault → ⊥) → (us ≡ []) × (s ≡ Refuted)
  unfolding steps_by
  refuted_alone s [] e h = (refl, sym e)
  refuted_alone s (u ∷ us) e h = absurd (h (sym e ∙ faulty start us))

  values_later : (us : List (List ℕ)) → ((said_steps most (with_values no_values) us).stage ≡ Fault → ⊥) → Later (said_steps most (with_values no_values) us).stage
  values_later us h =
      let x = lines_say most (with_values no_values) us tt h in
      rw (ap (said_steps most (with_values no_values)) x.are_lines ∙ lines_lead most (with_values no_values) x.numbers tt x.has_ones x.sayables)
      (literals_later most (with_values no_values) (together x.numbers) tt)

  first_valued : (us : List (List ℕ)) → (said_steps most start us).stage ≡ Valued → (rest : List (List ℕ)) × (us ≡ satisfiable ∷ rest) × ((said_steps most (with_values no_values) rest).stage ≡ Valued)
  unfolding steps_by
  first_valued [] e = never cc
  first_valued (u ∷ us) e = go (bytes_eq u satisfiable) (bytes_eq u unsatisfiable) refl e
    where
      go : (s t : Bool) → bytes_eq u satisfiable ≡ s → (said_steps most (cond s (at_stage Values start) (cond t (at_stage Refuted start) (at_stage Fault start))) us).stage ≡ Valued →
          (rest : List (List ℕ)) × (u ∷ us ≡ satisfiable ∷ rest) × ((said_steps most (with_values no_values) rest).stage ≡ Valued)
      go true t p e = (us, ap (λ x. x ∷ us) (same_equal u satisfiable p), e)
      go false true p e = let no_model_lem = (refuted_alone Valued us e (λ f. never cc)).1 in never cc
      go false false p e = let fault = faulty start us in never cc

  first_refuted : (us : List (List ℕ)) → (said_steps most start us).stage ≡ Refuted → us ≡ unsatisfiable ∷ []
  unfolding steps_by
  first_refuted [] e = never cc
  first_refuted (u ∷ us) e = go (bytes_eq u satisfiable) (bytes_eq u unsatisfiable) refl e
    where
      go : (s t : Bool) → bytes_eq u unsatisfiable ≡ t → (said_steps most (cond s (at_stage Values start) (cond t (at_stage Refuted start) (at_stage Fault start))) us).stage ≡ Refuted → u ∷ us ≡ unsatisfiable ∷ []
      go true t p e = absurd (rw e at (values_later us (λ f. never cc)))
      go false true p e = ap₂ (λ x xs. x ∷ xs) (same_equal u unsatisfiable p) (refuted_alone Refuted us e (λ f. never cc)).0
      go false false p e = let fault = faulty start us in never cc

  -- the two lines that may stand first
  unsatisfiable_first : said_steps most start (unsatisfiable ∷ []) ≡ at_stage Refuted start
  unfolding steps_by
  unsatisfiable_first = refl

  satisfiable_first : (us : List (List ℕ)) → said_steps most start (satisfiable ∷ us) ≡ said_steps most (with_values no_values) us
  unfolding steps_by
  satisfiable_first us = refl

  -- declared variables and the 0 can be read
  declared_sayable : (said : List Literal) → Every (λ l. (1 ≤ l.variable) × (l.variable ≤ most)) said → Every (Sayable most) said
  declared_sayable = every_map (λ l. (1 ≤ l.variable) × (l.variable ≤ most)) (Sayable most) (λ l h. record { within = h.1; no_minus_zero = λ z. absurd (omega (arith, h.0)) })

  zero_sayable : Sayable most (is 0)
  zero_sayable = record { within = omega arith; no_minus_zero = λ z. refl }

  -- lines that say a model, and to what they lead
  record ModelLines (us : List (List ℕ)) (said : List Literal) : Type 0 where
    pub numbers : List (List Literal)
    pub form : us ≡ satisfiable ∷ map values_line numbers
    pub has_one : Every HasOne numbers
    pub all : together numbers ≡ said ++ (is 0 ∷ [])

  -- where they lead, if each literal can be read
  model_leads : (us : List (List ℕ)) (said : List Literal) (m : ModelLines us said) → Every (Every (Sayable most)) m.numbers → said_steps most start us ≡ literal_steps most (with_values no_values) (said ++ (is 0 ∷ []))
  model_leads us said m h =
      ap (said_steps most start) m.form
      ∙ satisfiable_first (map values_line m.numbers)
      ∙ lines_lead most (with_values no_values) m.numbers tt m.has_one h
      ∙ ap (literal_steps most (with_values no_values)) m.all

  -- lines that lead to all values say a model
  valued_model : (us : List (List ℕ)) → (said_steps most start us).stage ≡ Valued →
      (said : List Literal) × (m : ModelLines us said) × Every (Every (Sayable most)) m.numbers × Fresh most no_values said × (all_said most (table_after no_values said) ≡ true)
  valued_model us e =
      let f = first_valued us e in
      let x = lines_say most (with_values no_values) f.0 tt (λ fault. let valued = f.2 in never cc) in
      let leads : said_steps most (with_values no_values) f.0 ≡ literal_steps most (with_values no_values) (together x.numbers) = ap (said_steps most (with_values no_values)) x.are_lines ∙ lines_lead most (with_values no_values) x.numbers tt x.has_ones x.sayables in
      let y = literals_say most no_values (together x.numbers) (every_together (Sayable most) x.numbers x.sayables) (ap (λ r. r.stage) (sym leads) ∙ f.2) in
      (y.said, record { numbers = x.numbers; form = f.1 ∙ ap (λ l. satisfiable ∷ l) x.are_lines; has_one = x.has_ones; all = y.whole }, x.sayables, y.fresh, y.full)

  module _ (text : List ℕ) where
    -- what was accepted: some lines that lead to an end
    read_lines : outcome_of (lines_read most text) ≡ Ok tt → Walked most start (pieces line_end text) (lines_read most text)
    unfolding lines_read
    read_lines e = walked most 0 start (pieces line_end text) (any_piece line_end text) e

    reading_is : (e : outcome_of (lines_read most text) ≡ Ok tt) → reading_of (lines_read most text) ≡ said_steps most start (uncommented (read_lines e).lines)
    reading_is e = let w = read_lines e in ap (λ x. reading_of x) w.comes ∙ uncommented_steps most start w.lines

    -- lines that lead to an end are accepted
    lines_read_lem : (ls : List (List ℕ)) (r : Reading) → pieces line_end text ≡ ls ++ ([] ∷ []) → said_steps most start (uncommented ls) ≡ r → Ends r.stage → lines_read most text ≡ Ok r
    unfolding lines_read
    lines_read_lem ls r cut leads ends =
        let same : line_steps most start ls ≡ r = uncommented_steps most start ls ∙ leads in
        ap (lines_from most 0 start) cut ∙ walks most 0 start ls (rw same ends) ∙ ap Ok same

    -- what is accepted says a model or unsatisfiable
    pub accepted_says : outcome_of (lines_read most text) ≡ Ok tt → ((reading_of (lines_read most text)).stage ≡ Valued) ⊎ ((reading_of (lines_read most text)).stage ≡ Refuted)
    accepted_says e = let w = read_lines e in rw (ap (λ x. reading_of x) w.comes) w.ends

    -- unsatisfiable, both ways
    pub reads_unsatisfiable : outcome_of (lines_read most text) ≡ Ok tt → (reading_of (lines_read most text)).stage ≡ Refuted → SaysUnsatisfiable text
    reads_unsatisfiable e s =
        let w = read_lines e in
        let t = pieces_text text w.lines w.cut in
        record {
          lines = w.lines;
          ended = t.1;
          whole = t.0;
          form = first_refuted (uncommented w.lines) (ap (λ x. x.stage) (sym (reading_is e)) ∙ s);
        }

    pub unsatisfiable_reads : SaysUnsatisfiable text → (outcome_of (lines_read most text) ≡ Ok tt) × ((reading_of (lines_read most text)).stage ≡ Refuted)
    unsatisfiable_reads u =
        let leads : said_steps most start (uncommented u.lines) ≡ at_stage Refuted start = ap (said_steps most start) u.form ∙ unsatisfiable_first in
        let all : lines_read most text ≡ Ok (at_stage Refuted start) = lines_read_lem u.lines (at_stage Refuted start) (ap (pieces line_end) u.whole ∙ text_pieces u.lines u.ended) leads (inr refl) in
        (ap (λ x. outcome_of x) all, ap (λ x. (reading_of x).stage) all)

    module _ (few : most ≤ most_variables) where
      -- a model, both ways, with the truth values that it says
      pub reads_model : outcome_of (lines_read most text) ≡ Ok tt → (reading_of (lines_read most text)).stage ≡ Valued →
          (said : List Literal) × SaysModel most text said × ((v : ℕ) → truth_of (reading_of (lines_read most text)).values v ≡ truth_in said v)
      reads_model e s =
          let w = read_lines e in
          let t = pieces_text text w.lines w.cut in
          let k = valued_model (uncommented w.lines) (ap (λ x. x.stage) (sym (reading_is e)) ∙ s) in
          let comes = reading_is e ∙ model_leads (uncommented w.lines) k.0 k.1 k.2 ∙ said_literals most no_values k.0 k.3 k.4 in (
            k.0,
            record {
              lines = w.lines;
              numbers = k.1.numbers;
              ended = t.1;
              whole = t.0;
              form = k.1.form;
              has_one = k.1.has_one;
              all = k.1.all;
              each_once = once_said most few k.0 k.3 k.4;
            },
            λ v. ap (λ x. truth_of x.values v) comes ∙ truth_said_lem most few k.0 k.3 v,
          )

      pub model_reads : (said : List Literal) → SaysModel most text said →
          (outcome_of (lines_read most text) ≡ Ok tt) × ((reading_of (lines_read most text)).stage ≡ Valued) × ((v : ℕ) → truth_of (reading_of (lines_read most text)).values v ≡ truth_in said v)
      model_reads said m =
          let can : Every (Sayable most) (together m.numbers) = rw m.all (every_append (Sayable most) said (is 0 ∷ []) (declared_sayable said m.each_once.declared) (zero_sayable, tt)) in
          let o = said_once most few said m.each_once in
          let r : Reading = record { stage = Valued; values = table_after no_values said } in
          let lines_model : ModelLines (uncommented m.lines) said = record { numbers = m.numbers; form = m.form; has_one = m.has_one; all = m.all } in
          let leads : said_steps most start (uncommented m.lines) ≡ r = model_leads (uncommented m.lines) said lines_model (every_apart (Sayable most) m.numbers can) ∙ said_literals most no_values said o.0 o.1 in
          let all : lines_read most text ≡ Ok r = lines_read_lem m.lines r (ap (pieces line_end) m.whole ∙ text_pieces m.lines m.ended) leads (inl refl) in
          (ap (λ x. outcome_of x) all, ap (λ x. (reading_of x).stage) all, λ v. ap (λ x. truth_of (reading_of x).values v) all ∙ truth_said_lem most few said o.0 v)
