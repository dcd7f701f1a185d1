-- A model as an assignment, and which values are models.
use Rattle.std.specs.Prelude.{ℕ, ◌^◌, Bool, ◌&&◌, List, leb, ltb, get_or}
use Rattle.question.specs.Limits.{max_terms}
use Rattle.question.specs.Masks.{bit}
use Rattle.statement.specs.Meaning.{Assignment, everywhere}
use Rattle.judge.specs.declared.models.Model.{Model}

-- the assignment that a model is: a domain element is in the set x if its mask has bit x
abbrev pub assigned : Model → Assignment
assigned m = record { size = m.size; element = λ a. get_or m.elements a.0 0; part = λ x d. bit (get_or m.masks d 0) x.0 }

-- the element of each of E names is below n
unfoldable pub elements_inside : ℕ → ℕ → List ℕ → Bool
elements_inside E n elements = everywhere E (λ a. ltb (get_or elements a 0) n)

-- no mask of the n domain elements has a bit at or above S
unfoldable pub masks_inside : ℕ → ℕ → List ℕ → Bool
masks_inside S n masks = everywhere n (λ d. ltb (get_or masks d 0) (2 ^ S))

-- a model for E element names and S set names: n is at most 12, and elements and masks are inside
unfoldable pub is_model : ℕ → ℕ → Model → Bool
is_model E S m = leb m.size max_terms && (elements_inside E m.size m.elements && masks_inside S m.size m.masks)
