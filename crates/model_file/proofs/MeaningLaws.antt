-- The model that is read off some bytes is the assignment that they mean, and it passes the judge's test exactly if it is a good one.
use Prim.Native.Nat.{ℕ, ◌+◌, ◌*◌, ◌/◌, ◌^◌, ◌≤◌, ◌<◌, min}
use mathlib.Core.Path.{◌≡◌, refl, sym, ap, ap₂, fun_ext, ◌∙◌}
use mathlib.Core.Bool.{Bool, true, ◌&&◌}
use mathlib.Core.List.{List}
use native.Mathlib.Omega.{arith}
use native.Mathlib.Decide.{dec_lt}
use borrow.Author.Tests.{le-leb, leb-true}
use lib.Dec.{T, leb, ltb, ltb→lt, lt→ltb}
use lib.ListN.{length, get_or, take, drop, length-drop, get_or-eq_default, drop_of_length-le}
use lib.Seq.{drop-drop}
use Rattle.outcome.specs.Padded.{padded}
use Rattle.outcome.proofs.PaddedLaws.{padded_entry}
use Rattle.number.specs.Numbers.{number_from, number_in}
use Rattle.question.specs.Limits.{max_terms}
use Rattle.question.specs.Masks.{bit}
use Rattle.statement.specs.Meaning.{Assignment, IsAssignment, everywhere}
use Rattle.statement.proofs.TestLaws.{true_T, T_true, both_true}
use Rattle.statement.proofs.EverywhereLaws.{everywhere_at, everywhere_of}
use Rattle.body.specs.Bodies.{mask_bytes, masks_in}
use Rattle.body.proofs.BodyLaws.{numbers_part, in_at, in_length}
use Rattle.judge.specs.Models.{assigned, elements_inside, masks_inside, is_model}
use Rattle.judge.proofs.Verdicts.{model_assigns}
use Rattle.model_file.specs.Bytes.{model_length}
use Rattle.model_file.specs.Reads.{size_in, elements_in, model_in}
use Rattle.model_file.specs.Meaning.{mask_in, assignment_in, IsGoodModel}

module _ (E : ℕ) (bytes : List ℕ) (names : E ≤ max_terms) (whole : length bytes ≡ model_length E (size_in bytes)) where
  -- n, and the element of a name
  size_said : (model_in E bytes).size ≡ size_in bytes
  unfolding model_in
  size_said = refl

  element_said : (a : ℕ) → get_or (model_in E bytes).elements a 0 ≡ get_or (elements_in E bytes) a 0
  unfolding model_in
  element_said a = ap (λ l. get_or l a 0) (numbers_part E (drop 1 bytes) names) ∙ padded_entry max_terms (elements_in E bytes) a

  -- the mask of a domain element: past n there is none
  module _ (few : size_in bytes ≤ max_terms) where
    abbrev behind : List ℕ
    behind = drop (1 + E) bytes

    mask_past : (d : ℕ) → size_in bytes ≤ d → mask_in E bytes d ≡ 0
    unfolding number_from
    mask_past d past = rw (drop_of_length-le bytes {i = 1 + E + d * mask_bytes} (omega (arith, whole)))

    mask_in_lem : (d : ℕ) → Dec (d < size_in bytes) → get_or (masks_in mask_bytes (size_in bytes) behind) d 0 ≡ mask_in E bytes d
    mask_in_lem d (yes l) = in_at mask_bytes (size_in bytes) d behind l ∙ ap (λ l. number_in (take mask_bytes l)) (drop-drop (d * mask_bytes) (1 + E) bytes)
    mask_in_lem d (no l) =
        let past : size_in bytes ≤ d = omega arith in
        get_or-eq_default (masks_in mask_bytes (size_in bytes) behind) 0 {n = d} (omega (arith, in_length mask_bytes (size_in bytes) behind)) ∙ sym (mask_past d past)

    mask_said_lem : (d : ℕ) → get_or (model_in E bytes).masks d 0 ≡ mask_in E bytes d
    unfolding model_in
    mask_said_lem d =
        let count : min max_terms (length behind / mask_bytes) ≡ size_in bytes = omega (arith, whole, length-drop (1 + E) bytes) in
        ap (λ n. get_or (padded max_terms (masks_in mask_bytes n behind)) d 0) count
        ∙ padded_entry max_terms (masks_in mask_bytes (size_in bytes) behind) d
        ∙ mask_in_lem d (dec_lt d (size_in bytes))

    -- the model that is read is the assignment that the bytes mean
    pub same_assignment : assigned (model_in E bytes) ≡ assignment_in E bytes
    same_assignment =
        let parts : (assigned (model_in E bytes)).part ≡ (assignment_in E bytes).part = fun_ext (λ x. fun_ext (λ d. ap (λ m. bit m x.0) (mask_said_lem d))) in
        let elements : (assigned (model_in E bytes)).element ≡ (assignment_in E bytes).element = fun_ext (λ a. element_said a.0) in
        ap₂ (λ e p. let A : Assignment = record { size = (model_in E bytes).size; element = e; part = p } in A) elements parts
        ∙ ap (λ n. let A : Assignment = record { size = n; element = (assignment_in E bytes).element; part = (assignment_in E bytes).part } in A) size_said

module _ (E S : ℕ) (bytes : List ℕ) (names : E ≤ max_terms) where
  -- the two tests of its parts
  abbrev in_domain : ℕ → Bool
  in_domain a = ltb (get_or (model_in E bytes).elements a 0) (model_in E bytes).size

  abbrev below_bound : ℕ → Bool
  below_bound d = ltb (get_or (model_in E bytes).masks d 0) (2 ^ S)

  -- a good model passes the test
  pub good_passes : IsGoodModel E S bytes → is_model E S (model_in E bytes) ≡ true
  unfolding is_model elements_inside masks_inside
  good_passes g =
      let whole = g.its_length in
      let size = size_said E bytes names whole in
      let few : (model_in E bytes).size ≤ max_terms = omega (arith, size, g.few_elements) in
      let element : (a : ℕ) → a < E → T (in_domain a) = λ a l. lt→ltb (get_or (model_in E bytes).elements a 0) (model_in E bytes).size (omega (arith, element_said E bytes names whole a, size, g.elements_below a l)) in
      let mask : (d : ℕ) → d < (model_in E bytes).size → T (below_bound d) = λ d l. lt→ltb (get_or (model_in E bytes).masks d 0) (2 ^ S) (omega (arith, mask_said_lem E bytes names whole g.few_elements d, g.masks_below d (omega (arith, size)))) in
      let elements : everywhere E in_domain ≡ true = true_T (everywhere E in_domain) (everywhere_of E in_domain element) in
      let masks : everywhere (model_in E bytes).size below_bound ≡ true = true_T (everywhere (model_in E bytes).size below_bound) (everywhere_of (model_in E bytes).size below_bound mask) in
      rw (le-leb (model_in E bytes).size max_terms few, elements, masks)

  -- and what passes, of the right length, is a good model
  pub passing_good : length bytes ≡ model_length E (size_in bytes) → is_model E S (model_in E bytes) ≡ true → IsGoodModel E S bytes
  unfolding is_model elements_inside masks_inside
  passing_good whole h =
      let size = size_said E bytes names whole in
      let first = both_true (leb (model_in E bytes).size max_terms) (everywhere E in_domain && everywhere (model_in E bytes).size below_bound) h in
      let rest = both_true (everywhere E in_domain) (everywhere (model_in E bytes).size below_bound) first.1 in
      let few : size_in bytes ≤ max_terms = omega (arith, size, leb-true (model_in E bytes).size max_terms first.0) in
      let element : (a : ℕ) → a < E → get_or (model_in E bytes).elements a 0 < (model_in E bytes).size = λ a l. ltb→lt _ _ (everywhere_at E in_domain (T_true rest.0) a l) in
      let mask : (d : ℕ) → d < (model_in E bytes).size → get_or (model_in E bytes).masks d 0 < 2 ^ S = λ d l. ltb→lt _ _ (everywhere_at (model_in E bytes).size below_bound (T_true rest.1) d l) in
      record {
        its_length = whole;
        few_elements = few;
        elements_below = λ a l. omega (arith, size, element_said E bytes names whole a, element a l);
        masks_below = λ d l. omega (arith, mask_said_lem E bytes names whole few d, mask d (omega (arith, size)));
      }

  -- a good model is an assignment
  pub good_assigns : IsGoodModel E S bytes → IsAssignment E (assignment_in E bytes)
  good_assigns g = rw (same_assignment E bytes names g.its_length g.few_elements) at (model_assigns E S (model_in E bytes) (good_passes g))
