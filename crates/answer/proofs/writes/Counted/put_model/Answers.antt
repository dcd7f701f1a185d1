-- `put_model` writes nothing for an impossible answer, and fields 41 and 42 for a possible one.
use Rattle.std.proofs.Common.{ℕ, ◌≡◌, length, sym, ap, ◌∙◌, arith}
use Rattle.outcome.specs.declared.verdicts.Verdict.TheVariants.{Possible}
use Rattle.outcome.specs.Writes.{over}
use Rattle.answer.specs.declared.answers.Answer.{Answer}
use Rattle.answer.specs.Answers.{cut_to, said}
use Rattle.answer.specs.Bytes.{solution_bytes, model_bytes}
use Rattle.answer.specs.Checks.{classes_in}
use Rattle.answer.proofs.AnswerLaws.{said_none, said_some, model_none, model_some}
use Rattle.answer.proofs.writes.Counted.put_model.Goals as goal

-- a possible answer has the bytes of its class numbers and masks
possible : (a : Answer) (T n : ℕ) → a.verdict ≡ Possible → n ≡ classes_in (said T a) → model_bytes (said T a) ≡ solution_bytes (cut_to T n a)
possible a T n e k = ap model_bytes (said_some T a n e k) ∙ model_some _

pub put_solution-requires : goal.put_solution-requires
put_solution-requires c =
    let s = c.args.self in
    omega (arith, ap length (possible s.answer s.terms s.classes c.in-Possible.is s.counted))

pub returns-in-Impossible : goal.returns-in-Impossible
returns-in-Impossible c =
    let s = c.args.self in
    let none = ap model_bytes (said_none s.terms s.answer c.in-Impossible.is) ∙ model_none in
    (sym (ap length none), sym (ap (λ l. over l c.args.buf.now) none))

pub returns-in-Possible : goal.returns-in-Possible
returns-in-Possible c =
    let s = c.args.self in
    let p = c.put_solution.ensures in
    let e = possible s.answer s.terms s.classes c.in-Possible.is s.counted in
    (p.0 ∙ sym (ap length e), p.1 ∙ sym (ap (λ l. over l c.args.buf.now) e))
