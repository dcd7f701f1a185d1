-- The reader at a file that it accepts: field by field from the last to the first, what it has read is the file of what its answer says, and that may be said.
use Prim.Native.Nat.{ℕ, ◌+◌, ◌*◌, ◌≤◌}
use mathlib.Core.Path.{◌≡◌, refl, sym, ap, ap₂, ◌∙◌}
use mathlib.Core.Bool.{Bool, true, false, cond}
use mathlib.Core.List.{List, [], ◌∷◌, ◌++◌, append_assoc}
use mathlib.Core.Option.{Option, none, some}
use native.Mathlib.Omega.{arith}
use borrow.Author.Tests.{ltb-false, eqb-true}
use lib.Dec.{eqb}
use lib.ListN.{length, get_or, take, drop, length-drop, drop_of_length-le}
use lib.Seq.{length-take-le, drop-cons, drop-drop}
use Rattle.outcome.specs.declared.verdicts.Verdict.TheVariants.{Possible}
use Rattle.outcome.specs.Refusals.{bytes_after_end, bad_model}
use Rattle.outcome.specs.Padded.{padded}
use Rattle.outcome.proofs.Never.{never}
use Rattle.question.specs.Limits.{max_terms}
use Rattle.theory.specs.Arrangements.{classes}
use Rattle.theory.specs.Solutions.{Solution, with_masks}
use Rattle.field.specs.declared.tags.File.TheVariants.{Answer as AnswerFile}
use Rattle.field.specs.declared.frames.Due.TheVariants.{Only}
use Rattle.field.specs.declared.frames.Frame.{Frame}
use Rattle.std.proofs.Common.{Result, Ok, Err}
use Rattle.outcome.specs.declared.refusals.Refusal.{Refusal}
use Rattle.field.specs.Frames.{frame}
use Rattle.field.specs.Heads.{head_length, field_bytes, end_bytes}
use Rattle.number.specs.Numbers.{AreBytes}
use Rattle.field.proofs.TagLaws.{Sized}
use Rattle.field.proofs.FrameLaws.{sound_due, sound_written, within}
use Rattle.number.proofs.NumberLaws.{bytes_drop}
use Rattle.answer.specs.declared.answers.Answer.{Answer}
use Rattle.answer.specs.Answers.{as_answer, impossible_answer, IsArranged, MaySay}
use Rattle.body.specs.Bodies.{mask_bytes, masks_body, masks_in}
use Rattle.answer.specs.Bytes.{numbers_bytes, masks_bytes, model_bytes, file_of}
use Rattle.answer.specs.Checks.{is_arrangement, all_below}
use Rattle.answer.specs.Reads.{due_frame, refused_at, framed_then, good_then, end_read, masks_read, numbers_read, verdict_read, file_read}
use Rattle.body.proofs.BodyLaws.{in_length, body_in}
use Rattle.answer.proofs.GoodLaws.{classes_few}
use Rattle.answer.proofs.MayLaws.{arranged}
use Rattle.answer.proofs.SizeLaws.{verdict_sized, numbers_sized, masks_sized, end_sized}

-- what field 42 and the rest are where they are accepted
record MasksTaken (bound : ℕ) (bytes : List ℕ) (at : ℕ) (numbers : List ℕ) (n : ℕ) (a : Answer) : Type 0 where
  masks : List ℕ
  each_class : length masks ≡ n
  low : all_below bound masks ≡ true
  there : drop at bytes ≡ masks_bytes masks ++ end_bytes
  made : a ≡ record { verdict = Possible; arrangement = numbers; masks = padded max_terms masks }

-- what field 41 and the rest are
record NumbersTaken (T bound : ℕ) (bytes : List ℕ) (at : ℕ) (a : Answer) : Type 0 where
  sol : Solution
  may : IsArranged T bound sol
  there : drop at bytes ≡ model_bytes (some sol) ++ end_bytes
  made : a ≡ as_answer (some sol)

-- what an accepted file is
pub record WholeFile (T bound : ℕ) (bytes : List ℕ) (a : Answer) : Type 0 where
  pub says : Option Solution
  pub may : MaySay T bound says
  pub made : a ≡ as_answer says
  pub written : bytes ≡ file_of says

-- where a field and what follows are accepted, the frame is sound and has the one length of the tag, the values are good, and what follows is accepted
module _ (at tag size m : ℕ) (rest : List ℕ) (then : ℕ → ℕ → Result Answer Refusal) (b : Answer) (sized : Sized AnswerFile tag size m) where
  frame_accepted : framed_then at (due_frame tag size at rest) then ≡ Ok b → due_frame tag size at rest ≡ Ok (frame tag m)
  frame_accepted e = go (due_frame tag size at rest) refl e
    where
      go : (f : Result Frame Refusal) → due_frame tag size at rest ≡ f → framed_then at f then ≡ Ok b → due_frame tag size at rest ≡ Ok (frame tag m)
      go (Ok f) p e = sound_due AnswerFile tag size at rest f.tag f.length p m sized
      go (Err r) p e = never cc

  due_accepted : framed_then at (due_frame tag size at rest) then ≡ Ok b → (due_frame tag size at rest ≡ Ok (frame tag m)) × (then (at + head_length) (at + head_length + m) ≡ Ok b)
  due_accepted e = (frame_accepted e, sym (ap (λ f. framed_then at f then) (frame_accepted e)) ∙ e)

good_accepted : (at : ℕ) (good : Bool) (next : Result Answer Refusal) (b : Answer) → good_then at good next ≡ Ok b → (good ≡ true) × (next ≡ Ok b)
good_accepted at true next b e = (refl, e)
good_accepted at false next b e = never cc

-- where 7F is accepted, no byte stands behind it
last_accepted : (place : ℕ) (more : Bool) (a b : Answer) → ◌≡◌ {A = Result Answer Refusal} (cond more (refused_at bytes_after_end place) (Ok a)) (Ok b) → (more ≡ false) × (b ≡ a)
last_accepted place true a b e = never cc
last_accepted place false a b e = (refl, (cc))

module _ (bytes : List ℕ) (are_bytes : AreBytes bytes) where
  end_accepted : (at : ℕ) (a b : Answer) → end_read bytes at a ≡ Ok b → (drop at bytes ≡ end_bytes) × (b ≡ a)
  unfolding end_read
  end_accepted at a b e =
      let f = due_accepted at 0x7f 0 0 (drop at bytes) _ b end_sized e in
      let whole = last_accepted (at + head_length + 0) _ a b f.1 in
      let last = ltb-false (at + head_length + 0) (length bytes) whole.0 in
      let none : drop head_length (drop at bytes) ≡ [] = drop-drop head_length at bytes ∙ drop_of_length-le bytes {i = at + head_length} (omega (arith, last)) in
      (sound_written AnswerFile (Only 0x7f) 0 at (drop at bytes) 0x7f 0 (omega arith) f.0 ∙ ap (λ x. end_bytes ++ x) none, whole.1)

  module _ (bound : ℕ) (b : Answer) where
    masks_accepted : (at : ℕ) (numbers : List ℕ) (n : ℕ) → n ≤ max_terms → masks_read bound bytes at numbers n ≡ Ok b → MasksTaken bound bytes at numbers n b
    unfolding masks_read
    masks_accepted at numbers n few e =
        let size = n * mask_bytes in
        let f = due_accepted at 0x42 size size (drop at bytes) _ b (masks_sized size) e in
        let room : at + head_length + size ≤ length bytes = omega (arith, within AnswerFile (Only 0x42) size at bytes 0x42 size f.0) in
        let body = drop (at + head_length) bytes in
        let g = good_accepted at (all_below bound (masks_in mask_bytes n body)) _ b f.1 in
        let end = end_accepted (at + head_length + size) _ b g.1 in
        let again : masks_body mask_bytes (masks_in mask_bytes n body) ≡ take size body = body_in mask_bytes n body (omega (arith, length-drop (at + head_length) bytes, room)) (bytes_drop (at + head_length) bytes are_bytes) in
        record {
          masks = masks_in mask_bytes n body;
          each_class = in_length mask_bytes n body;
          low = g.0;
          there = sound_written AnswerFile (Only 0x42) size at (drop at bytes) 0x42 size (omega arith) f.0
              ∙ ap (λ x. field_bytes 0x42 (take size x) ++ drop size x) (drop-drop head_length at bytes)
              ∙ ap₂ (λ x y. field_bytes 0x42 x ++ y) (sym again) (drop-drop size (at + head_length) bytes ∙ end.0);
          made = end.1;
        }

    module _ (T : ℕ) (few : T ≤ max_terms) where
      numbers_accepted : (at : ℕ) → numbers_read T bound bytes at ≡ Ok b → NumbersTaken T bound bytes at b
      unfolding numbers_read model_bytes
      numbers_accepted at e =
          let f = due_accepted at 0x41 T T (drop at bytes) _ b (numbers_sized T) e in
          let l = take T (drop (at + head_length) bytes) in
          let size : length l ≡ T = length-take-le T (drop (at + head_length) bytes) (simp length-drop (omega (arith, within AnswerFile (Only 0x41) T at bytes 0x41 T f.0))) in
          let g = good_accepted at (is_arrangement l) (masks_read bound bytes (at + head_length + T) (padded max_terms l) (classes l)) b f.1 in
          let m = masks_accepted (at + head_length + T) (padded max_terms l) (classes l) (omega (arith, classes_few l g.0)) g.1 in
          record {
            sol = with_masks l m.masks;
            may = arranged T bound l m.masks g.0 m.low size m.each_class;
            there = sound_written AnswerFile (Only 0x41) T at (drop at bytes) 0x41 T (omega arith) f.0
                ∙ ap (λ x. field_bytes 0x41 (take T x) ++ drop T x) (drop-drop head_length at bytes)
                ∙ ap (λ x. numbers_bytes l ++ x) (drop-drop T (at + head_length) bytes ∙ m.there)
                ∙ sym (append_assoc (numbers_bytes l) (masks_bytes m.masks) end_bytes);
            made = m.made;
          }

      verdict_accepted : (v next : ℕ) → bytes ≡ field_bytes 0x40 (v ∷ []) ++ drop next bytes → verdict_read T bound bytes v next ≡ Ok b → WholeFile T bound bytes b
      unfolding verdict_read file_of model_bytes
      verdict_accepted v next w e = go (eqb v 0) (eqb v 1) refl refl e
        where
          go : (x y : Bool) → eqb v 0 ≡ x → eqb v 1 ≡ y → cond x (end_read bytes next impossible_answer) (cond y (numbers_read T bound bytes next) (refused_at bad_model 0)) ≡ Ok b → WholeFile T bound bytes b
          go true y p q e =
              let end = end_accepted next impossible_answer b e in
              record { says = none; may = tt; made = end.1; written = w ∙ ap₂ (λ x l. field_bytes 0x40 (x ∷ []) ++ l) (eqb-true v 0 p) end.0 }
          go false true p q e =
              let m = numbers_accepted next e in
              record { says = some m.sol; may = m.may; made = m.made; written = w ∙ ap₂ (λ x l. field_bytes 0x40 (x ∷ []) ++ l) (eqb-true v 1 q) m.there }
          go false false p q e = never cc

      -- an accepted file is the file of what is read
      pub accepted_file : file_read T bound bytes ≡ Ok b → WholeFile T bound bytes b
      unfolding file_read
      accepted_file e =
          let f = due_accepted 0 0x40 0 1 bytes _ b verdict_sized e in
          let v = get_or bytes head_length 0 in
          let body : drop head_length bytes ≡ v ∷ drop (head_length + 1) bytes = drop-cons bytes head_length 0 (omega (arith, within AnswerFile (Only 0x40) 0 0 bytes 0x40 1 f.0)) in
          let first : bytes ≡ field_bytes 0x40 (v ∷ []) ++ drop (head_length + 1) bytes = sound_written AnswerFile (Only 0x40) 0 0 bytes 0x40 1 (omega arith) f.0 ∙ ap (λ x. field_bytes 0x40 (take 1 x) ++ drop 1 x) body in
          verdict_accepted v (head_length + 1) first f.1
