-- The reader at the file of what may be said: field by field it makes the value of it again.
use Prim.Native.Nat.{ℕ, ◌+◌, ◌*◌, ◌^◌, ◌≤◌}
use mathlib.Core.Path.{◌≡◌, refl, sym, ap, ◌∙◌}
use mathlib.Core.List.{List, [], ◌∷◌, ◌++◌, append_assoc}
use mathlib.Core.Option.{Option, none, some}
use native.Mathlib.Omega.{arith}
use lib.ListN.{length, take, drop, length-append}
use lib.Seq.{take_at, drop_at, drop-drop}
use Rattle.outcome.specs.declared.verdicts.Verdict.{Verdict}
use Rattle.outcome.specs.declared.verdicts.Verdict.TheVariants.{Possible, Impossible}
use Rattle.outcome.specs.Verdicts.{verdict_byte}
use Rattle.outcome.specs.Padded.{padded}
use Rattle.question.specs.Limits.{max_terms}
use Rattle.theory.specs.Arrangements.{classes}
use Rattle.theory.specs.Solutions.{Solution}
use Rattle.field.specs.declared.tags.File.TheVariants.{Answer as AnswerFile}
use Rattle.std.proofs.Common.{Ok}
use Rattle.field.specs.Frames.{frame}
use Rattle.field.specs.Heads.{head_length, end_bytes}
use Rattle.field.proofs.FrameLaws.{due_sound}
use Rattle.answer.specs.declared.answers.Answer.{Answer}
use Rattle.answer.specs.Answers.{as_answer, impossible_answer, IsArranged, MaySay}
use Rattle.body.specs.Bodies.{mask_bytes, masks_body, masks_in}
use Rattle.answer.specs.Bytes.{verdict_bytes, numbers_bytes, masks_bytes, model_bytes, file_of}
use Rattle.answer.specs.Checks.{is_arrangement, all_below}
use Rattle.answer.specs.Reads.{due_frame, end_read, masks_read, verdict_read, file_read}
use Rattle.body.proofs.BodyLaws.{body_length, in_body}
use Rattle.answer.proofs.SizeLaws.{verdict_sized, numbers_sized, masks_sized, end_sized}
use Rattle.answer.proofs.MayLaws.{arrangement_tested, masks_tested}
use Rattle.answer.proofs.ReadLaws.{file_sound, verdict_none, verdict_some, numbers_good, masks_good, end_whole}

-- where the field behind the verdict begins
abbrev first : ℕ
first = head_length + 1

verdict_back : (T bound : ℕ) (v : Verdict) (rest : List ℕ) → file_read T bound (verdict_bytes v ++ rest) ≡ verdict_read T bound (verdict_bytes v ++ rest) (verdict_byte v) first
verdict_back T bound v rest = file_sound T bound (verdict_bytes v ++ rest) (frame 0x40 1) (due_sound AnswerFile 0x40 0 0 (verdict_byte v ∷ []) rest verdict_sized)

-- 7F, with which the data ends
end_back : (bytes : List ℕ) (at : ℕ) → drop at bytes ≡ end_bytes → length bytes ≤ at + head_length + 0 → (a : Answer) → end_read bytes at a ≡ Ok a
end_back bytes at e h a = end_whole bytes at a (frame 0x7f 0) (ap (due_frame 0x7f 0 at) e ∙ due_sound AnswerFile 0x7f 0 at [] [] end_sized) h

none_back : (T bound : ℕ) → file_read T bound (file_of none) ≡ Ok (as_answer none)
unfolding file_of model_bytes
none_back T bound =
    verdict_back T bound Impossible end_bytes
    ∙ verdict_none T bound (file_of none) 0 first refl
    ∙ end_back (file_of none) first refl (omega arith) impossible_answer

module _ (T bound : ℕ) (sol : Solution) (w : IsArranged T bound sol) (small : bound ≤ 256 ^ mask_bytes) where
  abbrev l : List ℕ
  l = sol.arrangement

  abbrev ms : List ℕ
  ms = sol.masks

  abbrev n : ℕ
  n = classes l

  -- the file, and where field 42 and field 7F begin
  abbrev file : List ℕ
  file = verdict_bytes Possible ++ (numbers_bytes l ++ (masks_bytes ms ++ end_bytes))

  abbrev middle : ℕ
  middle = first + head_length + T

  abbrev last : ℕ
  last = middle + head_length + n * mask_bytes

  file_is : file_of (some sol) ≡ file
  unfolding file_of model_bytes
  file_is = ap (λ x. verdict_bytes Possible ++ x) (append_assoc (numbers_bytes l) (masks_bytes ms) end_bytes)

  body_size : length (masks_body mask_bytes ms) ≡ n * mask_bytes
  body_size = omega (arith, body_length mask_bytes ms, w.each_class)

  file_length : length file ≡ last + head_length
  file_length = simp length-append (omega (arith, w.each_term, body_size))

  -- what stands at each place
  numbers_there : take T (drop (first + head_length) file) ≡ l
  numbers_there = take_at l (masks_bytes ms ++ end_bytes) T w.each_term

  middle_there : drop middle file ≡ masks_bytes ms ++ end_bytes
  middle_there = sym (drop-drop T (first + head_length) file) ∙ drop_at l (masks_bytes ms ++ end_bytes) T w.each_term

  body_there : drop (middle + head_length) file ≡ masks_body mask_bytes ms ++ end_bytes
  body_there = sym (drop-drop head_length middle file) ∙ ap (drop head_length) middle_there

  masks_there : masks_in mask_bytes n (drop (middle + head_length) file) ≡ ms
  masks_there =
      ap (masks_in mask_bytes n) body_there
      ∙ ap (λ i. masks_in mask_bytes i (masks_body mask_bytes ms ++ end_bytes)) (sym w.each_class)
      ∙ in_body mask_bytes ms end_bytes (λ k h. omega (arith, w.masks_below k (omega (arith, w.each_class))))

  last_there : drop last file ≡ end_bytes
  last_there = sym (drop-drop (n * mask_bytes) (middle + head_length) file) ∙ ap (drop (n * mask_bytes)) body_there ∙ drop_at (masks_body mask_bytes ms) end_bytes (n * mask_bytes) body_size

  -- the frames
  frame_numbers : due_frame 0x41 T first (drop first file) ≡ Ok (frame 0x41 T)
  frame_numbers = due_sound AnswerFile 0x41 T first l (masks_bytes ms ++ end_bytes) (rw w.each_term (numbers_sized T)) ∙ ap (λ i. Ok (frame 0x41 i)) w.each_term

  frame_masks : due_frame 0x42 (n * mask_bytes) middle (drop middle file) ≡ Ok (frame 0x42 (n * mask_bytes))
  frame_masks =
      ap (due_frame 0x42 (n * mask_bytes) middle) middle_there
      ∙ due_sound AnswerFile 0x42 (n * mask_bytes) middle (masks_body mask_bytes ms) end_bytes (rw body_size (masks_sized (n * mask_bytes)))
      ∙ ap (λ i. Ok (frame 0x42 i)) body_size

  some_back : file_read T bound (file_of (some sol)) ≡ Ok (as_answer (some sol))
  some_back =
      ap (file_read T bound) file_is
      ∙ verdict_back T bound Possible (numbers_bytes l ++ (masks_bytes ms ++ end_bytes))
      ∙ verdict_some T bound file 1 first refl
      ∙ numbers_good T bound file first (frame 0x41 T) frame_numbers (ap is_arrangement numbers_there ∙ arrangement_tested T bound sol w)
      ∙ ap (λ x. masks_read bound file middle (padded max_terms x) (classes x)) numbers_there
      ∙ masks_good bound file middle (padded max_terms l) n (frame 0x42 (n * mask_bytes)) frame_masks (ap (all_below bound) masks_there ∙ masks_tested T bound sol w)
      ∙ ap (λ x. end_read file last (record { verdict = Possible; arrangement = padded max_terms l; masks = padded max_terms x })) masks_there
      ∙ end_back file last last_there (omega (arith, file_length)) (as_answer (some sol))

-- the file of what may be said of T terms
pub file_read_back : (T bound : ℕ) (s : Option Solution) → bound ≤ 256 ^ mask_bytes → MaySay T bound s → file_read T bound (file_of s) ≡ Ok (as_answer s)
file_read_back T bound none small w = none_back T bound
file_read_back T bound (some sol) small w = some_back T bound sol w small
