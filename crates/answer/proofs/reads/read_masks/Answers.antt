-- `read_masks` wants field 42, and masks below the bound in it, before it goes on to 7F.
use Rattle.std.proofs.Common.{ℕ, ◌≡◌, ◌+◌, ◌-◌, ◌*◌, ◌≤◌, Bool, List, length, take, drop, sym, ap, ap₂, ◌∙◌, Ok, Err, arith, rules}
use Rattle.std.proofs.lemmas.List.{length-drop}
use Rattle.outcome.specs.Padded.{padded}
use Rattle.outcome.proofs.PaddedLaws.{take_padded}
use Rattle.question.specs.Limits.{max_terms}
use Rattle.field.specs.declared.tags.File.TheVariants.{Answer as AnswerFile}
use Rattle.field.specs.declared.frames.Due.TheVariants.{Only}
use Rattle.field.specs.declared.frames.Frame.{Frame}
use Rattle.field.specs.Heads.{head_length}
use Rattle.field.proofs.FrameLaws.{within, due_length}
use Rattle.body.specs.Bodies.{mask_bytes, masks_in, masks_of}
use Rattle.body.proofs.BodyLaws.{in_length, masks_part}
use Rattle.answer.specs.Checks.{all_below}
use Rattle.answer.specs.Reads.{due_frame, end_read, masks_read}
use Rattle.answer.proofs.SizeLaws.{masks_sized}
use Rattle.answer.proofs.ReadLaws.{masks_bad, masks_good}
use Rattle.answer.proofs.reads.read_masks.Goals as goal

-- a field 42 with a sound frame
module _ (bytes : List ℕ) (at n : ℕ) (f : Frame) (e : due_frame 0x42 (n * mask_bytes) at (drop at bytes) ≡ Ok f) where
  -- it lies within the data, and has a mask for each class
  room : (at + head_length + f.length ≤ length bytes) × (f.length ≡ n * mask_bytes)
  room =
      let size = n * mask_bytes in
      (omega (arith, within AnswerFile (Only 0x42) size at bytes f.tag f.length e), due_length AnswerFile 0x42 size at (drop at bytes) f.tag f.length e size (masks_sized size))

  -- the masks that are read are those of the file
  masks : n ≤ max_terms → masks_of (take (at + head_length + f.length - (at + head_length)) (drop (at + head_length) bytes)) ≡ padded max_terms (masks_in mask_bytes n (drop (at + head_length) bytes))
  masks few =
      let rest = drop (at + head_length) bytes in
      let size : at + head_length + f.length - (at + head_length) ≡ n * mask_bytes = omega (arith, room.1) in
      ap (λ i. masks_of (take i rest)) size ∙ masks_part n rest few (simp length-drop (omega (arith, room.0, room.1)))

  -- and so are those that are tested
  tested : (bound : ℕ) (read : List ℕ) (low : Bool) → n ≤ max_terms → read ≡ masks_of (take (at + head_length + f.length - (at + head_length)) (drop (at + head_length) bytes)) → low ≡ all_below bound (take n read) →
      all_below bound (masks_in mask_bytes n (drop (at + head_length) bytes)) ≡ low
  tested bound read low few r b =
      let rest = drop (at + head_length) bytes in
      sym (b ∙ ap (λ l. all_below bound (take n l)) (r ∙ masks few) ∙ ap (all_below bound) (take_padded max_terms (masks_in mask_bytes n rest) n (in_length mask_bytes n rest)))

pub returns-in_err-frame : goal.returns-in_err-frame
unfolding masks_read
returns-in_err-frame c = search rules

pub overflow_add-body : goal.overflow_add-body
overflow_add-body c = omega (arith, room c.args.bytes.now c.args.at c.args.classes _ (sym c.frame_at.ensures ∙ c.in_ok-frame.was))

pub overflow_add-next : goal.overflow_add-next
overflow_add-next c = omega (arith, room c.args.bytes.now c.args.at c.args.classes _ (sym c.frame_at.ensures ∙ c.in_ok-frame.was))

pub slice_bounds-masks_in-end : goal.slice_bounds-masks_in-end
slice_bounds-masks_in-end c = omega (arith, room c.args.bytes.now c.args.at c.args.classes _ (sym c.frame_at.ensures ∙ c.in_ok-frame.was))

pub returns-then-not-all_below : goal.returns-then-not-all_below
returns-then-not-all_below c =
    let a = c.args in
    let e = sym c.frame_at.ensures ∙ c.in_ok-frame.was in
    let low = tested a.bytes.now a.at a.classes _ e a.bound _ _ c.requires c.masks_in-masks.ensures c.all_below.ensures in
    ap Err c.new.ensures ∙ sym (masks_bad a.bound a.bytes.now a.at a.numbers a.classes _ e (low ∙ c.if-not-all_below.true))

pub returns : goal.returns
returns c =
    let a = c.args in
    let e = sym c.frame_at.ensures ∙ c.in_ok-frame.was in
    let low = tested a.bytes.now a.at a.classes _ e a.bound _ _ c.requires c.masks_in-masks.ensures c.all_below.ensures in
    let read = c.masks_in-masks.ensures ∙ masks a.bytes.now a.at a.classes _ e c.requires in
    c.read_end.ensures
    ∙ ap₂ (λ v l. end_read a.bytes.now (a.at + head_length + c.in_ok-frame.frame.length) (record { verdict = v; arrangement = a.numbers; masks = l })) (cc) read
    ∙ sym (masks_good a.bound a.bytes.now a.at a.numbers a.classes _ e (low ∙ c.if-not-all_below.false))
