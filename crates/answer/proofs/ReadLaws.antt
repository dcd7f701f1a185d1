-- What each field of an answer file comes to where its frame is sound.
use Prim.Native.Nat.{ℕ, ◌+◌, ◌*◌, ◌≤◌}
use mathlib.Core.Path.{◌≡◌}
use mathlib.Core.Bool.{true, false}
use mathlib.Core.List.{List}
use borrow.Author.Tests.{le-ltb, eq-eqb}
use lib.ListN.{length, get_or, take, drop}
use Rattle.outcome.specs.declared.verdicts.Verdict.TheVariants.{Possible}
use Rattle.outcome.specs.Refusals.{bad_model}
use Rattle.outcome.specs.Padded.{padded}
use Rattle.question.specs.Limits.{max_terms}
use Rattle.theory.specs.Arrangements.{classes}
use Rattle.std.proofs.Common.{Ok}
use Rattle.field.specs.declared.frames.Frame.{Frame}
use Rattle.field.specs.Heads.{head_length}
use Rattle.answer.specs.declared.answers.Answer.{Answer}
use Rattle.answer.specs.Answers.{impossible_answer}
use Rattle.answer.specs.Checks.{is_arrangement, all_below}
use Rattle.body.specs.Bodies.{mask_bytes, masks_in}
use Rattle.answer.specs.Reads.{due_frame, refused_at, end_read, masks_read, numbers_read, verdict_read, file_read}

module _ (bytes : List ℕ) (at : ℕ) (a : Answer) (f : Frame) (e : due_frame 0x7f 0 at (drop at bytes) ≡ Ok f) where
  pub end_whole : length bytes ≤ at + head_length + f.length → end_read bytes at a ≡ Ok a
  unfolding end_read
  end_whole h = rw (e, le-ltb (at + head_length + f.length) (length bytes) h)

module _ (bound : ℕ) (bytes : List ℕ) (at : ℕ) (numbers : List ℕ) (n : ℕ) where
  abbrev masks : List ℕ
  masks = masks_in mask_bytes n (drop (at + head_length) bytes)

  module _ (f : Frame) (e : due_frame 0x42 (n * mask_bytes) at (drop at bytes) ≡ Ok f) where
    pub masks_bad : all_below bound masks ≡ false → masks_read bound bytes at numbers n ≡ refused_at bad_model at
    unfolding masks_read
    masks_bad h = rw (e, h)

    pub masks_good : all_below bound masks ≡ true →
        masks_read bound bytes at numbers n ≡ end_read bytes (at + head_length + f.length) (record { verdict = Possible; arrangement = numbers; masks = padded max_terms masks })
    unfolding masks_read
    masks_good h = rw (e, h)

module _ (T bound : ℕ) (bytes : List ℕ) where
  module _ (at : ℕ) where
    abbrev numbers : List ℕ
    numbers = take T (drop (at + head_length) bytes)

    module _ (f : Frame) (e : due_frame 0x41 T at (drop at bytes) ≡ Ok f) where
      pub numbers_against : is_arrangement numbers ≡ false → numbers_read T bound bytes at ≡ refused_at bad_model at
      unfolding numbers_read
      numbers_against h = rw (e, h)

      pub numbers_good : is_arrangement numbers ≡ true → numbers_read T bound bytes at ≡ masks_read bound bytes (at + head_length + f.length) (padded max_terms numbers) (classes numbers)
      unfolding numbers_read
      numbers_good h = rw (e, h)

  pub verdict_none : (verdict next : ℕ) → verdict ≡ 0 → verdict_read T bound bytes verdict next ≡ end_read bytes next impossible_answer
  unfolding verdict_read
  verdict_none verdict next e = rw (eq-eqb verdict 0 e)

  pub verdict_some : (verdict next : ℕ) → verdict ≡ 1 → verdict_read T bound bytes verdict next ≡ numbers_read T bound bytes next
  unfolding verdict_read
  verdict_some verdict next e = rw e

  pub file_sound : (f : Frame) → due_frame 0x40 0 0 bytes ≡ Ok f → file_read T bound bytes ≡ verdict_read T bound bytes (get_or bytes head_length 0) (head_length + f.length)
  unfolding file_read
  file_sound f e = rw e
