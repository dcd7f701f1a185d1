-- Three lent buffers: all are written where each has room, and else none.
use Rattle.std.proofs.Common.{Ok, Err}
use Prim.Native.Nat.{ℕ, ◌≤◌, ◌<◌}
use mathlib.Core.Path.{◌≡◌, refl, ap, ap₂, ◌∙◌}
use mathlib.Core.Bool.{Bool, true, false, ◌||◌}
use mathlib.Core.List.{List}
use mathlib.Core.Logic.{⊎_elim}
use lib.ListN.{length}
use borrow.Author.Tests.{lt-ltb, le-ltb, ltb-false}
use Rattle.outcome.specs.declared.refusals.Refusal.{Refusal}
use Rattle.outcome.specs.Refusals.{refusal, buffer_too_short}
use Rattle.outcome.specs.Writes.{over, too_short}
use Rattle.outcome.proofs.Never.{never}
use Rattle.outcome.proofs.WriteLaws.{not_written}
use Rattle.question.specs.declared.questions.Question.{Question}
use Rattle.question.specs.Checks.{checked}
use Rattle.question_file.specs.Bytes.{question_bytes}
use Rattle.question_file.specs.Writes.{written}
use Rattle.clash.specs.Files.{Three, three, counts, any_short, three_written, three_over}

pub three_same : {a b c x y z : List ℕ} → a ≡ x → b ≡ y → c ≡ z → three a b c ≡ three x y z
three_same {a} {b} {c} {x} {y} {z} p q r = ap (λ l. three l b c) p ∙ ap₂ (λ l m. three x l m) q r

-- a part that is refused by its writer does not fit
pub refused_short : (q : Question) (room : ℕ) (r : Refusal) → checked q ≡ Ok tt → written q room ≡ Err r → (room < length (question_bytes q)) × (r ≡ refusal buffer_too_short 0)
unfolding written
refused_short q room r ok e = ⊎_elim (λ c. never cc) (λ s. (s.1, s.2)) (not_written (checked q) (question_bytes q) room r e)

module _ (new old : Three) where
  pub three_short : any_short new old ≡ true → (three_written new old ≡ Err (refusal buffer_too_short 0)) × (three_over new old ≡ old)
  three_short e = rw e (refl, refl)

  pub three_fit : any_short new old ≡ false → (three_written new old ≡ Ok (counts new))
      × (three_over new old ≡ three (over new.part old.part) (over new.indexes old.indexes) (over new.answer old.answer))
  three_fit e = rw e (refl, refl)

  -- one of the two behind the part is too short
  abbrev pub two_short : Bool
  two_short = too_short new.indexes (length old.indexes) || too_short new.answer (length old.answer)

  pub short_two : two_short ≡ true → any_short new old ≡ true
  short_two e = rw e (go (too_short new.part (length old.part)))
    where
      go : (b : Bool) → (b || true) ≡ true
      go true = refl
      go false = refl

  pub short_part : length old.part < length new.part → any_short new old ≡ true
  short_part h = rw (lt-ltb (length old.part) (length new.part) h)

  pub none_short : two_short ≡ false → length new.part ≤ length old.part → any_short new old ≡ false
  none_short e h = rw (le-ltb (length old.part) (length new.part) h, e)

  either : (a b : Bool) → (a || b) ≡ false → (a ≡ false) × (b ≡ false)
  either true b e = never cc
  either false b e = (refl, e)

  pub two_fit : two_short ≡ false → (length new.indexes ≤ length old.indexes) × (length new.answer ≤ length old.answer)
  two_fit e = let each = either (too_short new.indexes (length old.indexes)) (too_short new.answer (length old.answer)) e in (ltb-false _ _ each.0, ltb-false _ _ each.1)
