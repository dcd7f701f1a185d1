-- Both round trips: a model that is written is read back, with what lies past its names and its domain set to 0; and a good model that is read is written again, byte for byte.
use Rattle.std.proofs.Common.{Ok}
use Prim.Native.Nat.{ℕ, ◌+◌, ◌*◌, ◌/◌, ◌^◌, ◌≤◌, ◌<◌, min}
use mathlib.Core.Path.{◌≡◌, refl, sym, ap, ap₂, ◌∙◌}
use mathlib.Core.Bool.{Bool, true, ◌&&◌}
use mathlib.Core.List.{List, [], ◌∷◌, ◌++◌, append-nil}
use native.Mathlib.Omega.{arith}
use native.Mathlib.Nat.{pow-le-pow_right}
use borrow.Author.Tests.{eq-eqb, leb-true}
use lib.Dec.{leb, ltb, ltb→lt}
use lib.ListN.{length, get_or, take, drop, length-append, length-drop, take-append-drop}
use lib.Seq.{length-take-le, get_or-take, drop-drop, drop-cons, take_all, take_at, drop_at}
use Rattle.outcome.specs.Padded.{padded}
use Rattle.outcome.proofs.PaddedLaws.{take_padded}
use Rattle.number.specs.Numbers.{AreBytes}
use Rattle.number.proofs.NumberLaws.{bytes_drop}
use Rattle.question.specs.Limits.{max_sets, max_terms}
use Rattle.statement.specs.Meaning.{everywhere}
use Rattle.statement.proofs.TestLaws.{T_true, both_true}
use Rattle.statement.proofs.EverywhereLaws.{everywhere_at}
use Rattle.body.specs.Bodies.{mask_bytes, masks_body, masks_in, numbers_of, masks_of}
use Rattle.body.proofs.BodyLaws.{body_length, in_length, in_body, body_in, numbers_part}
use Rattle.judge.specs.declared.models.Model.{Model}
use Rattle.judge.specs.Models.{elements_inside, masks_inside, is_model}
use Rattle.model_file.specs.Bytes.{model_length, model_file, cleaned}
use Rattle.model_file.specs.Reads.{size_in, elements_in, has_its_length, model_in, model_read}
use Rattle.model_file.specs.Meaning.{IsGoodModel}
use Rattle.model_file.proofs.ReadLaws.{read_said}

-- a model of the machine: its arrays have twelve entries
abbrev pub HasTwelve : Model → Type 0
HasTwelve m = (length m.elements ≡ max_terms) × (length m.masks ≡ max_terms)

module _ (E S : ℕ) (m : Model) (names : E ≤ max_terms) (sets : S ≤ max_sets) (long : HasTwelve m) (good : is_model E S m ≡ true) where
  -- what the judge's test tells: n, and each mask of the domain
  tested : (leb m.size max_terms ≡ true) × ((elements_inside E m.size m.elements && masks_inside S m.size m.masks) ≡ true)
  unfolding is_model
  tested = both_true (leb m.size max_terms) (elements_inside E m.size m.elements && masks_inside S m.size m.masks) good

  few : m.size ≤ max_terms
  few = leb-true m.size max_terms tested.0

  mask_below : (d : ℕ) → d < m.size → get_or m.masks d 0 < 2 ^ S
  unfolding masks_inside
  mask_below d l =
      let below : ℕ → Bool = λ d. ltb (get_or m.masks d 0) (2 ^ S) in
      ltb→lt (get_or m.masks d 0) (2 ^ S) (everywhere_at m.size below (T_true (both_true (elements_inside E m.size m.elements) (everywhere m.size below) tested.1).1) d l)

  -- the two parts behind n
  abbrev elements : List ℕ
  elements = take E m.elements

  abbrev masks : List ℕ
  masks = take m.size m.masks

  abbrev body : List ℕ
  body = masks_body mask_bytes masks

  elements_long : length elements ≡ E
  elements_long = length-take-le E m.elements (omega (arith, long.0, names))

  masks_long : length masks ≡ m.size
  masks_long = length-take-le m.size m.masks (omega (arith, long.1, few))

  body_long : length body ≡ m.size * mask_bytes
  body_long = body_length mask_bytes masks ∙ ap (λ n. n * mask_bytes) masks_long

  -- two bytes are enough for a mask
  enough : (k : ℕ) → k < length masks → get_or masks k 0 < 256 ^ mask_bytes
  enough k l =
      let most : 2 ^ S ≤ 2 ^ max_sets = pow-le-pow_right (omega arith) sets in
      let entry = get_or-take m.size m.masks k 0 (omega (arith, l, masks_long)) in
      omega (arith, most, entry, mask_below k (omega (arith, l, masks_long)))

  -- the bytes, taken apart
  first : size_in (model_file E m) ≡ m.size
  unfolding model_file
  first = refl

  middle : elements_in E (model_file E m) ≡ elements
  unfolding model_file
  middle = take_at elements body E elements_long

  last : drop (1 + E) (model_file E m) ≡ body
  unfolding model_file
  last = sym (drop-drop E 1 (m.size ∷ elements ++ body)) ∙ drop_at elements body E elements_long

  whole : has_its_length E (model_file E m) ≡ true
  unfolding has_its_length model_file
  whole = eq-eqb _ (model_length E m.size) (omega (arith, length-append elements body, elements_long, body_long))

  masks_back : masks_of body ≡ padded max_terms masks
  masks_back =
      let count : min max_terms (length body / mask_bytes) ≡ length masks = omega (arith, body_long, masks_long, few) in
      ap (λ n. padded max_terms (masks_in mask_bytes n body)) count
      ∙ ap (padded max_terms) (ap (masks_in mask_bytes (length masks)) (sym (append-nil body)) ∙ in_body mask_bytes masks [] enough)

  model_back : model_in E (model_file E m) ≡ cleaned E m
  unfolding model_in cleaned
  model_back =
      ap₂ (λ e k. let x : Model = record { size = size_in (model_file E m); elements = numbers_of e; masks = masks_of k } in x) middle last
      ∙ ap₂ (λ e k. let x : Model = record { size = size_in (model_file E m); elements = e; masks = k } in x) (numbers_part E m.elements names) masks_back
      ∙ ap (λ n. let x : Model = record { size = n; elements = padded max_terms elements; masks = padded max_terms masks } in x) first

  -- a model that is written is read back
  pub read_back : model_read E (model_file E m) ≡ Ok (cleaned E m)
  read_back = read_said E (model_file E m) whole ∙ ap Ok model_back

-- a good model that is read is written again
module _ (E S : ℕ) (bytes : List ℕ) (names : E ≤ max_terms) (are : AreBytes bytes) (g : IsGoodModel E S bytes) where
  abbrev n : ℕ
  n = size_in bytes

  abbrev rest : List ℕ
  rest = drop (1 + E) bytes

  rest_long : length rest ≡ n * mask_bytes
  rest_long = omega (arith, length-drop (1 + E) bytes, g.its_length)

  points_long : length (elements_in E bytes) ≡ E
  points_long = length-take-le E (drop 1 bytes) (omega (arith, length-drop 1 bytes, g.its_length))

  elements_again : take E (numbers_of (elements_in E bytes)) ≡ elements_in E bytes
  elements_again = ap (take E) (numbers_part E (drop 1 bytes) names) ∙ take_padded max_terms (elements_in E bytes) E points_long

  masks_again : masks_body mask_bytes (take n (masks_of rest)) ≡ rest
  masks_again =
      let count : min max_terms (length rest / mask_bytes) ≡ n = omega (arith, rest_long, g.few_elements) in
      ap (λ k. masks_body mask_bytes (take n (padded max_terms (masks_in mask_bytes k rest)))) count
      ∙ ap (masks_body mask_bytes) (take_padded max_terms (masks_in mask_bytes n rest) n (in_length mask_bytes n rest))
      ∙ body_in mask_bytes n rest (omega (arith, rest_long)) (bytes_drop (1 + E) bytes are)
      ∙ take_all (n * mask_bytes) rest (omega (arith, rest_long))

  pub written_again : model_file E (model_in E bytes) ≡ bytes
  unfolding model_file model_in
  written_again =
      ap₂ (λ e k. n ∷ e ++ k) elements_again (masks_again ∙ sym (drop-drop E 1 bytes))
      ∙ ap (λ l. n ∷ l) (take-append-drop E (drop 1 bytes))
      ∙ sym (drop-cons bytes 0 0 (omega (arith, g.its_length)))
