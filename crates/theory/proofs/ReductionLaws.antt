-- A model that meets the rules gives a solution of their rows. Each term goes to an element of the model.
-- Terms with one element are one class, whose mask is the element's; so the pattern of equal names stays, and there are no more classes than elements.
use Prim.Native.Nat.{ℕ, ◌+◌, ◌≤◌, ◌<◌}
use mathlib.Core.Path.{◌≡◌, refl, sym, ap, subst, ◌∙◌}
use mathlib.Core.Bool.{Bool}
use mathlib.Core.List.{List, [], ◌∷◌, ◌++◌, map}
use native.Mathlib.Omega.{arith}
use lib.Dec.{T, eqb}
use lib.ListN.{length, get_or, length-append, length-map, get_or-append}
use Rattle.theory.specs.Lists.{Every}
use Rattle.theory.specs.Arrangements.{classes, class_of}
use Rattle.theory.specs.Patterns.{pattern_of, HasPattern}
use Rattle.theory.specs.Rules.{Row, Rule, OneTerm, EachTerm, OwnWitness, upward, row, own_witness, rows_of_rule, rows_of_rules}
use Rattle.theory.specs.Solutions.{Solution, mask_of, met, IsSolution}
use Rattle.theory.proofs.CountLaws.{count_below}
use Rattle.theory.proofs.PointLaws.{arrange, points, arrange_is, arrange_length, arrange_classes, class_point, same_class, term_in, point_of_class, points_apart}
use Rattle.theory.proofs.ArrangementLaws.{class_below}
use Rattle.theory.proofs.ListLaws.{every_append, every_at, every_all, map_at}
use Rattle.theory.proofs.RuleLaws.{terms_of_lem, own_witnesses, RuleNamed, RulesNamed}
use Rattle.theory.proofs.ModelLaws.{MaskModel, passes_at, RuleMet, RulesMet}
use Rattle.theory.proofs.TermLaws.{AllBelow, named_below, named_at, named_length, found, found_length, found_below, WitnessAt, WitnessesAt, witnesses_at}

-- what the model gives: a solution of the rows with the same pattern of equal names, and no more classes than elements
pub record Solved {Test : Type 0} (fits : ℕ → (ℕ → Bool) → Test → Bool) (E terms bound : ℕ) (rules : List (Rule Test)) (M : MaskModel) : Type 0 where
  pub by : Solution
  pub solution : IsSolution fits terms bound (rows_of_rules terms E rules) by
  pub patterned : HasPattern E (class_of by.arrangement) (pattern_of M.element)
  pub few : classes by.arrangement ≤ M.size

-- `local`: a test looks only at the terms that it names
module _ {Test : Type 0} (fits : ℕ → (ℕ → Bool) → Test → Bool) (E : ℕ) (Named : Test → Type 0)
    (local : (m : ℕ) (same same' : ℕ → Bool) (t : Test) → Named t → ((a : ℕ) → a < E → same a ≡ same' a) → fits m same t ≡ fits m same' t)
    (M : MaskModel) (within : (a : ℕ) → a < E → M.element a < M.size) where
  -- the terms are the names, then terms whose elements are ws
  module _ (ws : List ℕ) (ws_below : AllBelow M.size ws) where
    abbrev names : List ℕ
    names = map M.element (upward E 0)

    abbrev elements : List ℕ
    elements = names ++ ws

    abbrev solution_by : Solution
    solution_by = record { arrangement = arrange elements; masks = map M.mask (points elements) }

    abbrev l : List ℕ
    l = arrange elements

    elements_length : length elements ≡ E + length ws
    elements_length = omega (arith, length-append names ws, named_length M.element E)

    elements_below : AllBelow M.size elements
    elements_below = every_append (λ x. x < M.size) names ws (named_below M.element M.size E 0 (λ a low high. within a (omega arith))) ws_below

    element_name_lem : (a : ℕ) → a < E → get_or elements a 0 ≡ M.element a
    element_name_lem a lt = get_or-append names ws 0 a (omega (arith, named_length M.element E)) ∙ named_at M.element E 0 a lt ∙ ap M.element (omega arith)

    -- the mask of a term's class is the mask of its element
    class_mask : (c : ℕ) → c < length elements → mask_of solution_by.masks (class_of l c) ≡ M.mask (get_or elements c 0)
    class_mask c lt = map_at M.mask (points elements) (class_of l c) 0 0 (rw (← (arrange_classes elements)) (class_below 0 l c (rw (arrange_length elements) lt))) ∙ ap M.mask (class_point elements c lt)

    abbrev Met : Row Test → Type 0
    Met r = T (met fits l solution_by.masks r)

    row_met : (c : ℕ) (t : Test) → c < length elements → Named t → T (passes_at fits M (get_or elements c 0) t) → Met (row c t)
    row_met c t lt named h = subst T (sym (ap (λ m. fits m (λ d. eqb (class_of l c) (class_of l d)) t) (class_mask c lt) ∙ local _ _ _ t named same)) h
      where
        same : (a : ℕ) → a < E → eqb (class_of l c) (class_of l a) ≡ eqb (get_or elements c 0) (M.element a)
        same a la = same_class elements c a lt (omega (arith, elements_length)) ∙ ap (eqb (get_or elements c 0)) (element_name_lem a la)

    rule_rows_met : (w : ℕ) (r : Rule Test) → RuleNamed E Named r → (h : RuleMet fits M r) → w + own_witness r ≤ length elements → WitnessAt fits M elements w r h → Every Met (rows_of_rule (length elements) w r)
    rule_rows_met w (OneTerm a t) named h fit at = (row_met a t (omega (arith, named.0, elements_length)) named.1 (rw (element_name_lem a named.0) h), tt)
    rule_rows_met w (EachTerm t) named h fit at = terms_of_lem Met t (length elements) 0 (λ c low high. row_met c t (omega arith) named (h (get_or elements c 0) (every_at (λ x. x < M.size) 0 elements c elements_below (omega arith))))
    rule_rows_met w (OwnWitness t) named h fit at = (row_met w t (omega arith) named (rw at h.2), tt)

    rules_rows_met : (w : ℕ) (rs : List (Rule Test)) → RulesNamed E Named rs → (h : RulesMet fits M rs) → w + own_witnesses rs ≤ length elements → WitnessesAt fits M elements w rs h → Every Met (rows_of_rules (length elements) w rs)
    rules_rows_met w [] named h fit at = tt
    rules_rows_met w (r ∷ rs) named h fit at = every_append Met (rows_of_rule (length elements) w r) (rows_of_rules (length elements) (w + own_witness r) rs)
        (rule_rows_met w r named.0 h.0 (omega arith) at.0) (rules_rows_met (w + own_witness r) rs named.1 h.1 (omega arith) at.1)

    -- two classes have two elements
    few_classes : classes l ≤ M.size
    few_classes = count_below M.size (classes l) (λ k. get_or (points elements) k 0)
        (λ k lt. rw (point_of_class elements k lt) (every_at (λ x. x < M.size) 0 elements (term_in elements k lt).0 elements_below (term_in elements k lt).1)) (points_apart elements)

    masks_below : (bound : ℕ) → ((d : ℕ) → d < M.size → M.mask d < bound) → (k : ℕ) → k < classes l → mask_of solution_by.masks k < bound
    masks_below bound small k lt = let c = term_in elements k lt in
        subst (λ k. mask_of solution_by.masks k < bound) c.2 (rw (class_mask c.0 c.1) (small (get_or elements c.0 0) (every_at (λ x. x < M.size) 0 elements c.0 elements_below c.1)))

    same_pattern : HasPattern E (class_of l) (pattern_of M.element)
    same_pattern a b la lb = same_class elements a b (omega (arith, elements_length)) (omega (arith, elements_length)) ∙ rw (element_name_lem a la, element_name_lem b lb)

  -- `spare`: the elements of terms past the witnesses, if there are such terms
  pub met_solved : (terms bound : ℕ) (rules : List (Rule Test)) (spare : List ℕ) → RulesNamed E Named rules → E + own_witnesses rules + length spare ≡ terms →
      ((d : ℕ) → d < M.size → M.mask d < bound) → AllBelow M.size spare → RulesMet fits M rules → Solved fits E terms bound rules M
  met_solved terms bound rules spare named all small spare_below h = record {
    by = solution_by ws ws_below;
    solution = record {
      arranged = arrange_is (elements ws ws_below);
      each_term = arrange_length (elements ws ws_below) ∙ long;
      each_class = length-map (points (elements ws ws_below)) M.mask ∙ sym (arrange_classes (elements ws ws_below));
      masks_below = masks_below ws ws_below bound small;
      rows_met = every_all (met fits (l ws ws_below) (solution_by ws ws_below).masks) (rows_of_rules terms E rules) rows;
    };
    patterned = same_pattern ws ws_below;
    few = few_classes ws ws_below;
  }
    where
      ws : List ℕ
      ws = found fits M rules h ++ spare

      ws_below : AllBelow M.size ws
      ws_below = every_append (λ x. x < M.size) (found fits M rules h) spare (found_below fits M rules h) spare_below

      long : length (elements ws ws_below) ≡ terms
      long = omega (arith, elements_length ws ws_below, length-append (found fits M rules h) spare, found_length fits M rules h)

      rows : Every (Met ws ws_below) (rows_of_rules terms E rules)
      rows = subst (λ n. Every (Met ws ws_below) (rows_of_rules n E rules)) long
          (rules_rows_met ws ws_below E rules named h (omega (arith, long)) (witnesses_at fits M (elements ws ws_below) E rules h (names ws ws_below) spare (named_length M.element E) refl))
