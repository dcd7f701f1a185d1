-- No byte after the 395th alters what is read: a field is judged by its first six bytes, and the last field that is looked at begins at 389 at the latest.
use Prim.Native.Nat.{ℕ, zero, suc, ◌+◌, ◌-◌, ◌*◌, ◌≤◌, ◌<◌}
use mathlib.Core.Path.{◌≡◌, refl, sym, ap, ◌∙◌}
use mathlib.Core.Bool.{true}
use mathlib.Core.List.{List, [], ◌∷◌, ◌++◌}
use native.Mathlib.Omega.{arith}
use borrow.Author.Tests.{lt-ltb, eqb-true}
use lib.ListN.{length, drop, length-drop, length-append}
use lib.Seq.{drop-append-le}
use Rattle.field.specs.declared.tags.File.TheVariants.{Question as QuestionFile}
use Rattle.field.specs.declared.tags.BodyLength.TheVariants.{Fixed}
use Rattle.field.specs.declared.frames.Frame.{Frame}
use Rattle.std.proofs.Common.{Some, Result, Ok, Err}
use Rattle.outcome.specs.declared.refusals.Refusal.{Refusal}
use Rattle.field.specs.Tags.{length_of, is_known, is_allowed}
use Rattle.field.specs.Heads.{head_of}
use Rattle.field.specs.Frames.{framed, frame_of}
use Rattle.field.proofs.FrameLaws.{framed_same}
use Rattle.question.specs.declared.questions.Question.{Question}
use Rattle.question.specs.Builds.{declaring}
use Rattle.question_file.specs.Fields.{due_at, said_by, framed_said, said, Next, More, End, Stop, put, field_step}
use Rattle.question_file.specs.Reads.{follow, read_fields, max_fields, read_question}
use Rattle.question_file.proofs.BodyLaws.{Known, names, end, stated, known}
use Rattle.question_file.proofs.StepLaws.{went, ended}
use Rattle.question_file.proofs.RefusalLaws.{Early, early_first, early_next}

-- a body that a question file allows has three bytes at the most
allowed_short : (tag n : ℕ) → is_known (length_of QuestionFile tag) ≡ true → is_allowed (length_of QuestionFile tag) 0 n ≡ true → n ≤ 3
allowed_short tag n k a = go (known tag k)
  where
    is : (m : ℕ) → length_of QuestionFile tag ≡ Some (Fixed m) → n ≡ m
    is m l = eqb-true n m (sym (ap (λ x. is_allowed x 0 n) l) ∙ a)

    go : Known tag (length_of QuestionFile tag) → n ≤ 3
    go (names t l) = omega (arith, is 2 l)
    go (end t l) = omega (arith, is 0 l)
    go (stated m l few x y makes) = omega (arith, is m l)

-- so it doesn't matter how many bytes more than three are left, nor what stands behind the sixth
left_same : (at tag n l m : ℕ) → 3 ≤ l → 3 ≤ m → framed QuestionFile (due_at at) 0 at tag n l ≡ framed QuestionFile (due_at at) 0 at tag n m
left_same at tag n l m h k = framed_same QuestionFile (due_at at) 0 at tag n l m (λ p a. let few = allowed_short tag n p a in (omega arith, omega arith))

frame_same : (f : Result Frame Refusal) (a b c d e g : ℕ) (x y : List ℕ) (at : ℕ) → framed_said f (a ∷ b ∷ c ∷ d ∷ e ∷ g ∷ x) at ≡ framed_said f (a ∷ b ∷ c ∷ d ∷ e ∷ g ∷ y) at
unfolding said_by
frame_same (Err r) a b c d e g x y at = refl
frame_same (Ok f) a b c d e g x y at = refl

-- a field by its first six bytes
said_same : (rest later : List ℕ) (at : ℕ) → 6 ≤ length rest → said at (rest ++ later) ≡ said at rest
unfolding said head_of frame_of
said_same [] later at h = absurd (omega arith)
said_same (a ∷ []) later at h = absurd (omega arith)
said_same (a ∷ b ∷ []) later at h = absurd (omega arith)
said_same (a ∷ b ∷ c ∷ []) later at h = absurd (omega arith)
said_same (a ∷ b ∷ c ∷ d ∷ []) later at h = absurd (omega arith)
said_same (a ∷ b ∷ c ∷ d ∷ e ∷ []) later at h = absurd (omega arith)
said_same (a ∷ b ∷ c ∷ d ∷ e ∷ g ∷ rest) later at h =
    ap (λ f. framed_said f (a ∷ b ∷ c ∷ d ∷ e ∷ g ∷ (rest ++ later)) at) (left_same at a (b * 256 + c) (length (a ∷ b ∷ c ∷ d ∷ e ∷ g ∷ (rest ++ later)) - 3) (length (a ∷ b ∷ c ∷ d ∷ e ∷ g ∷ rest) - 3) (omega arith) (omega arith))
    ∙ frame_same (framed QuestionFile (due_at at) 0 at a (b * 256 + c) (length (a ∷ b ∷ c ∷ d ∷ e ∷ g ∷ rest) - 3)) a b c d e g (rest ++ later) rest at

module _ (bytes later : List ℕ) (long : 395 ≤ length bytes) where
  step_same : (at : ℕ) (q : Question) → Early at q → field_step (drop at (bytes ++ later)) at q ≡ field_step (drop at bytes) at q
  unfolding field_step
  step_same at q h =
      let room : at + 6 ≤ length bytes = omega (arith, h.place, h.few) in
      ap (λ l. put at q (said at l)) (drop-append-le at bytes later (omega arith)) ∙ ap (put at q) (said_same (drop at bytes) later at (simp length-drop (omega arith)))

  read_same : (n at : ℕ) (q : Question) → Early at q → read_fields n (bytes ++ later) at q ≡ read_fields n bytes at q
  unfolding read_fields
  read_same zero at q h = refl
  read_same (suc n) at q h = ap (follow (length (bytes ++ later)) (read_fields n (bytes ++ later)) q) (step_same at q h) ∙ go (field_step (drop at bytes) at q) refl (λ place r k. read_same n place r k)
    where
      go : (x : Next) → field_step (drop at bytes) at q ≡ x → ((place : ℕ) (r : Question) → Early place r → read_fields n (bytes ++ later) place r ≡ read_fields n bytes place r) →
          follow (length (bytes ++ later)) (read_fields n (bytes ++ later)) q x ≡ follow (length bytes) (read_fields n bytes) q x
      go (More place r) p on = on place r (early_next (drop at bytes) at q place r h (went (drop at bytes) at q place r p))
      go (End place) p on =
          let behind : place ≡ at + 3 = (ended (drop at bytes) at q place p).1.behind in
          let near : place < length bytes = omega (arith, h.place, h.few) in
          rw (lt-ltb place (length bytes) near, lt-ltb place (length (bytes ++ later)) (omega (arith, length-append bytes later)))
      go (Stop r) p on = refl

-- what is read of the first 395 bytes or more is read of all
pub later_bytes : (bytes later : List ℕ) → 395 ≤ length bytes → read_question (bytes ++ later) ≡ read_question bytes
later_bytes bytes later long = read_same bytes later long max_fields 0 (declaring 0 0) early_first
