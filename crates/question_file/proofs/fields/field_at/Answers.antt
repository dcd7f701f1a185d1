-- `field_at` says what a field with a sound frame says, and passes on the refusal of any other.
use Rattle.std.proofs.Common.{ℕ, ◌≡◌, List, Result, sym, ap, ◌∙◌, drop}
use Rattle.std.proofs.lemmas.Result.{err_from_is_err_and}
use Rattle.outcome.specs.declared.refusals.Refusal.{Refusal}
use Rattle.field.specs.declared.tags.File.TheVariants.{Question as QuestionFile}
use Rattle.field.specs.declared.frames.Due.{Due}
use Rattle.field.specs.declared.frames.Frame.{Frame}
use Rattle.field.specs.Frames.{frame_of}
use Rattle.field.proofs.FrameLaws.{within}
use Rattle.question_file.specs.Fields.{due_at, framed_said, said}
use Rattle.question_file.proofs.fields.field_at.Goals as goal

-- what the frame came to
framed : (bytes : List ℕ) (at : ℕ) (due : Due) (r x : Result Frame Refusal) → due ≡ due_at at → r ≡ frame_of QuestionFile due 0 at (drop at bytes) → r ≡ x →
    frame_of QuestionFile (due_at at) 0 at (drop at bytes) ≡ x
framed bytes at due r x d f e = ap (λ i. frame_of QuestionFile i 0 at (drop at bytes)) (sym d) ∙ sym f ∙ e

-- and what is said of it
framed_says : (bytes : List ℕ) (at : ℕ) (x : Result Frame Refusal) → frame_of QuestionFile (due_at at) 0 at (drop at bytes) ≡ x → said at (drop at bytes) ≡ framed_said x (drop at bytes) at
unfolding said
framed_says bytes at x e = ap (λ y. framed_said y (drop at bytes) at) e

pub say-requires : goal.say-requires
say-requires c =
    let a = c.args in
    within QuestionFile (due_at a.at) 0 a.at a.bytes.now _ _ (framed a.bytes.now a.at _ _ _ c.due_at.ensures c.frame_at.ensures c.in_ok-frame.was)

pub returns-in_err-frame : goal.returns-in_err-frame
returns-in_err-frame c =
    let a = c.args in
    let p = err_from_is_err_and c.from_residual.result c.from_residual.ensures.1 in
    rw (p.1, p.2) (sym (framed_says a.bytes.now a.at _ (framed a.bytes.now a.at _ _ _ c.due_at.ensures c.frame_at.ensures c.in_err-frame.was)))

pub returns : goal.returns
returns c =
    let a = c.args in
    c.say.ensures ∙ sym (framed_says a.bytes.now a.at _ (framed a.bytes.now a.at _ _ _ c.due_at.ensures c.frame_at.ensures c.in_ok-frame.was))
