-- `write_clash` writes the answer into a buffer that is long enough for any, and then all three into the lent ones.
use Rattle.std.proofs.Common.{◌≡◌, ◌≤◌, ℕ, List, length, take, replicate, sym, ap, ◌∙◌, Ok}
use lib.Seq.{length-take-le}
use Rattle.outcome.specs.Writes.{Written}
use Rattle.question.specs.declared.questions.Question.{Question}
use Rattle.question.specs.Checks.{checked}
use Rattle.answer.specs.Writes.{written as answer_written, written_over as answer_written_over}
use Rattle.clash.specs.declared.clashes.ClashingPart.{ClashingPart}
use Rattle.clash.specs.Clashes.{clashed}
use Rattle.outcome.proofs.WriteLaws.{at_front}
use Rattle.question_file.specs.Bytes.{question_bytes}
use Rattle.theory.specs.Answers.{answer}
use Rattle.answer.specs.Bytes.{file_of}
use Rattle.clash.specs.Files.{three, three_written, three_over, clash_bytes}
use Rattle.clash.proofs.FoundLaws.{never_refused, part_is, part_accepts, answer_fits, answer_writes, few_indexes, indexes_are}
use Rattle.clash.proofs.ThreeLaws.{three_same}
use Rattle.clash.proofs.files.write_clash.Goals as goal

pub shared_ref_as_front-old : goal.shared_ref_as_front-old
shared_ref_as_front-old c = few_indexes c.args.q c.requires.0 c.args.found c.requires.1

-- what is written of the answer stands at the front of its buffer
front : (q : Question) (accepted : checked q ≡ Ok tt) (found : ClashingPart) (is : clashed q ≡ Ok found) {w : Written} {buf : List ℕ} {n : ℕ} →
    (w ≡ answer_written q found.answer 49) × (buf ≡ answer_written_over q found.answer (replicate 49 0)) → w ≡ Ok n → (n ≤ length buf) × (take n buf ≡ file_of (answer q))
front q accepted found is told e =
    let a = answer_writes q accepted found is (replicate 49 0) in
    at_front (file_of (answer q)) (replicate 49 0) _ _ (sym (told.0 ∙ a.0) ∙ e) (told.1 ∙ a.1)

-- and what is to be written into the three is the clash
all : (q : Question) (accepted : checked q ≡ Ok tt) (found : ClashingPart) (is : clashed q ≡ Ok found) {said : List ℕ} → said ≡ file_of (answer q) → three (question_bytes found.part) (take found.part.count found.indexes) said ≡ clash_bytes q
all q accepted found is e = three_same (ap question_bytes (part_is q accepted found is)) (indexes_are q accepted found is) e

pub slice_bounds-said-end : goal.slice_bounds-said-end
slice_bounds-said-end c = (front c.args.q c.requires.0 c.args.found c.requires.1 c.write_answer.ensures c.in_ok-n.was).0

pub slice_bounds-put_three-end : goal.slice_bounds-put_three-end
slice_bounds-put_three-end c = sym (length-take-le _ _ (front c.args.q c.requires.0 c.args.found c.requires.1 c.write_answer.ensures c.in_ok-n.was).0)

pub put_three-requires : goal.put_three-requires
put_three-requires c = part_accepts c.args.q c.requires.0 c.args.found c.requires.1

-- the buffer is long enough
pub returns-in_err-n-clause-value : goal.returns-in_err-n-clause-value
returns-in_err-n-clause-value c =
    never_refused (file_of (answer c.args.q)) (replicate 49 0) (answer_fits c.args.q c.requires.0 c.args.found c.requires.1)
    (c.write_answer.ensures.0 ∙ (answer_writes c.args.q c.requires.0 c.args.found c.requires.1 (replicate 49 0)).0) c.in_err-n.was

pub returns-in_err-n-clause-buffers : goal.returns-in_err-n-clause-buffers
returns-in_err-n-clause-buffers c =
    never_refused (file_of (answer c.args.q)) (replicate 49 0) (answer_fits c.args.q c.requires.0 c.args.found c.requires.1)
    (c.write_answer.ensures.0 ∙ (answer_writes c.args.q c.requires.0 c.args.found c.requires.1 (replicate 49 0)).0) c.in_err-n.was

pub returns-clause-value : goal.returns-clause-value
returns-clause-value c =
    let a = c.args in
    c.put_three.ensures.value ∙ ap (λ t. three_written t (three a.part.now a.indexes.now a.answer.now)) (all a.q c.requires.0 a.found c.requires.1 (front a.q c.requires.0 a.found c.requires.1 c.write_answer.ensures c.in_ok-n.was).1)

pub returns-clause-buffers : goal.returns-clause-buffers
returns-clause-buffers c =
    let a = c.args in
    c.put_three.ensures.buffers ∙ ap (λ t. three_over t (three a.part.now a.indexes.now a.answer.now)) (all a.q c.requires.0 a.found c.requires.1 (front a.q c.requires.0 a.found c.requires.1 c.write_answer.ensures c.in_ok-n.was).1)
