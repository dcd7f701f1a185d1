-- How long the four fields of an answer are, by the table's rule.
use Prim.Native.Nat.{ℕ}
use Rattle.field.specs.declared.tags.File.TheVariants.{Answer as AnswerFile}
use Rattle.field.proofs.TagLaws.{Sized, rule, fixed, dependent}

pub verdict_sized : Sized AnswerFile 0x40 0 1
verdict_sized = fixed AnswerFile 0x40 0 1 (rule AnswerFile 0x40)

pub numbers_sized : (T : ℕ) → Sized AnswerFile 0x41 T T
numbers_sized T = dependent AnswerFile 0x41 T (rule AnswerFile 0x41)

pub masks_sized : (n : ℕ) → Sized AnswerFile 0x42 n n
masks_sized n = dependent AnswerFile 0x42 n (rule AnswerFile 0x42)

pub end_sized : Sized AnswerFile 0x7f 0 0
end_sized = fixed AnswerFile 0x7f 0 0 (rule AnswerFile 0x7f)
