-- A field has the length that the table says; one that fits is written whole, and one that doesn't leaves the part as it was.
use Prim.Native.Nat.{ℕ, ◌+◌, ◌≤◌, ◌<◌}
use mathlib.Core.Path.{◌≡◌, refl, ◌∙◌}
use mathlib.Core.List.{List}
use mathlib.Core.Bool.{Bool, true, false, cond}
use native.Mathlib.Omega.{arith}
use borrow.Author.Tests.{le-leb, lt-leb, leb-true, eqb-true}
use lib.Dec.{eqb, leb}
use lib.ListN.{length}
use Rattle.field.specs.declared.tags.File.{File}
use Rattle.field.specs.declared.tags.BodyLength.{BodyLength}
use Rattle.field.specs.declared.tags.BodyLength.TheVariants.{Fixed, Depends}
use Rattle.std.proofs.Common.{Option, Some, None}
use Rattle.field.specs.Tags.{length_of, is_allowed}
use Rattle.field.specs.Heads.{head_length, field_bytes}
use Rattle.outcome.specs.Writes.{over}
use Rattle.field.specs.Writes.{longest_body, with_head, sized_length, field_length, field_count, field_over}
use Rattle.field.proofs.TagLaws.{Sized}
use Rattle.outcome.proofs.Never.{never}

module _ (tag : ℕ) (body old : List ℕ) where
  pub written : length body ≤ longest_body → 3 + length body ≤ length old → (field_count body (length old) ≡ 3 + length body) × (field_over tag body old ≡ over (field_bytes tag body) old)
  unfolding field_count field_over
  written h k = rw (le-leb _ _ h, le-leb _ _ k) (refl, refl)

  pub too_long : longest_body < length body → (field_count body (length old) ≡ 0) × (field_over tag body old ≡ old)
  unfolding field_count field_over
  too_long h = rw (lt-leb _ _ h) (refl, refl)

  pub no_room : length body ≤ longest_body → length old < 3 + length body → (field_count body (length old) ≡ 0) × (field_over tag body old ≡ old)
  unfolding field_count field_over
  no_room h k = rw (le-leb _ _ h, lt-leb _ _ k) (refl, refl)

-- no field is longer than two bytes can say
pub length_bounded : (file : File) (tag size : ℕ) → field_length file tag size ≤ head_length + longest_body
unfolding field_length
length_bounded file tag size = go (length_of file tag)
  where
    bounded : (n : ℕ) (b : Bool) → leb n longest_body ≡ b → cond b (head_length + n) 0 ≤ head_length + longest_body
    bounded n true e = omega (arith, leb-true n longest_body e)
    bounded n false e = omega arith

    go : (b : Option BodyLength) → sized_length b size ≤ head_length + longest_body
    go None = omega arith
    go (Some (Fixed n)) = bounded n (leb n longest_body) refl
    go (Some Depends) = bounded size (leb size longest_body) refl

-- a field has as many bytes as the table says
pub length_written : (file : File) (tag size : ℕ) (body : List ℕ) → Sized file tag size (length body) → length body ≤ longest_body → field_length file tag size ≡ length (field_bytes tag body)
unfolding field_length
length_written file tag size body s h = go (length_of file tag) s.allowed ∙ omega arith
  where
    whole : (n : ℕ) → eqb (length body) n ≡ true → with_head n ≡ 3 + length body
    whole n e = rw (← eqb-true (length body) n e, le-leb _ _ h)

    go : (b : Option BodyLength) → is_allowed b size (length body) ≡ true → sized_length b size ≡ 3 + length body
    go None e = never cc
    go (Some (Fixed n)) e = whole n e
    go (Some Depends) e = whole size e
