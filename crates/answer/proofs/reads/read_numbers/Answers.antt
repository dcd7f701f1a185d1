-- `read_numbers` wants field 41, and class numbers by the rule in it, before it goes on to the masks.
use Rattle.std.proofs.Common.{ℕ, ◌≡◌, ◌+◌, ◌-◌, ◌≤◌, List, Option, length, take, drop, sym, ap, ap₂, ◌∙◌, Ok, Err, arith, rules}
use Rattle.std.proofs.lemmas.List.{length-drop, length-take-le}
use Rattle.outcome.specs.Padded.{padded}
use Rattle.outcome.proofs.PaddedLaws.{take_padded}
use Rattle.question.specs.Limits.{max_terms}
use Rattle.field.specs.declared.tags.File.TheVariants.{Answer as AnswerFile}
use Rattle.field.specs.declared.frames.Due.TheVariants.{Only}
use Rattle.field.specs.declared.frames.Frame.{Frame}
use Rattle.field.specs.Heads.{head_length}
use Rattle.field.proofs.FrameLaws.{within, due_length}
use Rattle.body.specs.Bodies.{numbers_of}
use Rattle.body.proofs.BodyLaws.{numbers_part}
use Rattle.answer.specs.Checks.{class_count}
use Rattle.answer.specs.Reads.{due_frame, masks_read, numbers_read}
use Rattle.answer.proofs.GoodLaws.{classes_few, counted, against}
use Rattle.answer.proofs.SizeLaws.{numbers_sized}
use Rattle.answer.proofs.ReadLaws.{numbers_against, numbers_good}
use Rattle.answer.proofs.reads.read_numbers.Goals as goal

-- a field 41 with a sound frame
module _ (bytes : List ℕ) (at n : ℕ) (f : Frame) (e : due_frame 0x41 n at (drop at bytes) ≡ Ok f) where
  -- it lies within the data, and has a class number for each term
  room : (at + head_length + f.length ≤ length bytes) × (f.length ≡ n)
  room = (omega (arith, within AnswerFile (Only 0x41) n at bytes f.tag f.length e), due_length AnswerFile 0x41 n at (drop at bytes) f.tag f.length e n (numbers_sized n))

  size : length (take n (drop (at + head_length) bytes)) ≡ n
  size = length-take-le n (drop (at + head_length) bytes) (simp length-drop (omega (arith, room.0, room.1)))

  -- the class numbers that are read are those of the file
  numbers : n ≤ max_terms → numbers_of (take (at + head_length + f.length - (at + head_length)) (drop (at + head_length) bytes)) ≡ padded max_terms (take n (drop (at + head_length) bytes))
  numbers few =
      let rest = drop (at + head_length) bytes in
      let all : at + head_length + f.length - (at + head_length) ≡ n = omega (arith, room.1) in
      ap (λ i. numbers_of (take i rest)) all ∙ numbers_part n rest few

  -- and so are those that are counted
  count : (read : List ℕ) (counted : Option ℕ) → n ≤ max_terms → read ≡ numbers_of (take (at + head_length + f.length - (at + head_length)) (drop (at + head_length) bytes)) → counted ≡ class_count (take n read) →
      class_count (take n (drop (at + head_length) bytes)) ≡ counted
  count read counted few r k =
      let l = take n (drop (at + head_length) bytes) in
      sym (k ∙ ap (λ x. class_count (take n x)) (r ∙ numbers few) ∙ ap class_count (take_padded max_terms l n size))

pub returns-in_err-frame : goal.returns-in_err-frame
unfolding numbers_read
returns-in_err-frame c = search rules

pub overflow_add-body : goal.overflow_add-body
overflow_add-body c = omega (arith, room c.args.bytes.now c.args.at c.args.asked.terms _ (sym c.frame_at.ensures ∙ c.in_ok-frame.was))

pub overflow_add-next : goal.overflow_add-next
overflow_add-next c = omega (arith, room c.args.bytes.now c.args.at c.args.asked.terms _ (sym c.frame_at.ensures ∙ c.in_ok-frame.was))

pub slice_bounds-numbers_in-end : goal.slice_bounds-numbers_in-end
slice_bounds-numbers_in-end c = omega (arith, room c.args.bytes.now c.args.at c.args.asked.terms _ (sym c.frame_at.ensures ∙ c.in_ok-frame.was))

pub returns-in_default : goal.returns-in_default
returns-in_default c =
    let a = c.args in
    let e = sym c.frame_at.ensures ∙ c.in_ok-frame.was in
    let k = count a.bytes.now a.at a.asked.terms _ e _ _ c.args.asked.few_terms c.numbers_in-numbers.ensures c.count_classes.ensures in
    ap Err c.new.ensures
    ∙ sym (numbers_against a.asked.terms a.asked.bound a.bytes.now a.at _ e (against (take a.asked.terms (drop (a.at + head_length) a.bytes.now)) (k ∙ c.in_default.is)))

pub read_masks-requires : goal.read_masks-requires
read_masks-requires c =
    let a = c.args in
    let e = sym c.frame_at.ensures ∙ c.in_ok-frame.was in
    let l = take a.asked.terms (drop (a.at + head_length) a.bytes.now) in
    let k = counted l _ (count a.bytes.now a.at a.asked.terms _ e _ _ c.args.asked.few_terms c.numbers_in-numbers.ensures c.count_classes.ensures ∙ c.in-Some.is) in
    omega (arith, k.1, classes_few l k.0, size a.bytes.now a.at a.asked.terms _ e)

pub returns : goal.returns
returns c =
    let a = c.args in
    let e = sym c.frame_at.ensures ∙ c.in_ok-frame.was in
    let l = take a.asked.terms (drop (a.at + head_length) a.bytes.now) in
    let k = counted l _ (count a.bytes.now a.at a.asked.terms _ e _ _ c.args.asked.few_terms c.numbers_in-numbers.ensures c.count_classes.ensures ∙ c.in-Some.is) in
    let read = c.numbers_in-numbers.ensures ∙ numbers a.bytes.now a.at a.asked.terms _ e c.args.asked.few_terms in
    c.read_masks.ensures
    ∙ ap₂ (masks_read a.asked.bound a.bytes.now (a.at + head_length + c.in_ok-frame.frame.length)) read k.1
    ∙ sym (numbers_good a.asked.terms a.asked.bound a.bytes.now a.at _ e k.0)
