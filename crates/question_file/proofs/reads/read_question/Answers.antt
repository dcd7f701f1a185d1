-- What a field says, put to the question so far, is the step: it goes on to the next field, ends the file, or stops.
use Rattle.std.proofs.Common.{◌≡◌, ℕ, List, drop, sym, ap, ◌∙◌, arith, Result, Ok, Err}
use Rattle.std.proofs.lemmas.Result.{err_from_is_err_and}
use Rattle.statement.specs.declared.statements.Statement.{Statement}
use Rattle.question.specs.declared.questions.Question.{Question}
use Rattle.question.specs.Admissions.{Admission, addition, admitted_at}
use Rattle.question.specs.Builds.{added}
use Rattle.question.proofs.AdmissionLaws.{names_keep}
use Rattle.question.proofs.BuildLaws.{declaring_none}
use Rattle.outcome.specs.declared.refusals.Refusal.{Refusal}
use Rattle.question_file.specs.declared.fields.Said.{Said}
use Rattle.question_file.specs.Fields.{said, More, put, field_step}
use Rattle.question_file.proofs.StepLaws.{put_names, put_names_refused, added_at, put_stated, put_stated_refused, added_room}
use Rattle.question_file.proofs.ReadLaws.{at_first, moved, more_reached, extra_reached, whole_reached, stop_reached}
use Rattle.question_file.proofs.KeptLaws.{Kept, kept_names, kept_terms, kept_small, kept_more}
use Rattle.question_file.proofs.reads.read_question.Goals as goal
use Rattle.question_file.proofs.reads.read_question.Goals.{After-witness_of-total}

-- what the field says, put to the question so far, is the step
step : (bytes : List ℕ) (at : ℕ) (q : Question) (x : Result Said Refusal) → said at (drop at bytes) ≡ x → field_step (drop at bytes) at q ≡ put at q x
unfolding field_step
step bytes at q x e = ap (put at q) e

-- what the test of a statement came to, where T is kept by adding
tested : (at : ℕ) (q : Question) (s : Statement) (total : ℕ) (a : Admission) → Kept q total → a ≡ addition q.elements q.sets q.count total s → added_at at q s ≡ admitted_at at a
tested at q s total a k e = ap (λ t. admitted_at at (addition q.elements q.sets q.count t s)) (sym (kept_terms q total k)) ∙ ap (admitted_at at) (sym e)

pub loop-elements-init : goal.loop-elements-init
loop-elements-init c = rw (c.empty-q.ensures ∙ sym declaring_none) (at_first c.args.bytes.now, kept_names 0 0 (omega arith))

pub returns-in_err-elements : goal.returns-in_err-elements
returns-in_err-elements c =
    let l = c.loop-elements in
    let p = err_from_is_err_and c.from_residual.result c.from_residual.ensures.1 in
    rw (p.1, p.2) (sym (stop_reached _ l.at l.q l.invariant.0 _ (step _ l.at l.q _ (sym c.field_at.ensures ∙ c.in_err-elements.was))))

pub returns-in_err-check_names-in-Names : goal.returns-in_err-check_names-in-Names
returns-in_err-check_names-in-Names c =
    let l = c.loop-elements in
    let n = c.in-Names in
    let r = c.from_residual-in_err-check_names-in-Names in
    let p = err_from_is_err_and r.result r.ensures.1 in
    let to = step _ l.at l.q _ (sym c.field_at.ensures ∙ c.in_ok-elements.was ∙ ap Ok n.is) ∙ put_names_refused l.at l.q n.next n.elements n.sets _ (sym c.check_names.ensures ∙ c.in_err-check_names-in-Names.was) in
    rw (p.1, p.2) (sym (stop_reached _ l.at l.q l.invariant.0 _ to))

pub loop-elements-smaller-in-Names : goal.loop-elements-smaller-in-Names
loop-elements-smaller-in-Names c =
    let l = c.loop-elements in
    let n = c.in-Names in
    let to = step _ l.at l.q _ (sym c.field_at.ensures ∙ c.in_ok-elements.was ∙ ap Ok n.is) ∙ put_names l.at l.q n.next n.elements n.sets (sym c.check_names.ensures ∙ c.in_ok-check_names-in-Names.was) in
    let m = moved _ l.at l.q l.invariant.0 _ _ to in
    omega (arith, m.0, m.1)

pub loop-elements-preserved-in-Names : goal.loop-elements-preserved-in-Names
loop-elements-preserved-in-Names c =
    let l = c.loop-elements in
    let n = c.in-Names in
    let checked = sym c.check_names.ensures ∙ c.in_ok-check_names-in-Names.was in
    let to = step _ l.at l.q _ (sym c.field_at.ensures ∙ c.in_ok-elements.was ∙ ap Ok n.is) ∙ put_names l.at l.q n.next n.elements n.sets checked in
    rw c.declare-q.ensures
    (more_reached _ l.at l.q l.invariant.0 _ _ to, kept_names _ _ (names_keep l.at n.elements n.sets checked).0)

pub returns-in-Err : goal.returns-in-Err
returns-in-Err c =
    let l = c.loop-elements in
    let s = c.in-Stated in
    let no = tested l.at l.q s.s l.total _ l.invariant.1 (sym c.in-Err.is ∙ c.may_add.ensures) in
    let to = step _ l.at l.q _ (sym c.field_at.ensures ∙ c.in_ok-elements.was ∙ ap Ok s.is) ∙ put_stated_refused l.at l.q s.next s.s _ no in
    ap Err c.at.ensures ∙ sym (stop_reached _ l.at l.q l.invariant.0 _ to)

-- a statement that is accepted
accepted : (c : After-witness_of-total) → let l = c.loop-elements in added_at l.at l.q c.in-Stated.s ≡ Ok tt
accepted c = let l = c.loop-elements in tested l.at l.q c.in-Stated.s l.total _ l.invariant.1 (sym c.in_default.is ∙ c.may_add.ensures)

on : (c : After-witness_of-total) → let l = c.loop-elements in field_step (drop l.at c.args.bytes.now) l.at l.q ≡ More c.in-Stated.next (added l.q c.in-Stated.s)
on c = let l = c.loop-elements in step _ l.at l.q _ (sym c.field_at.ensures ∙ c.in_ok-elements.was ∙ ap Ok c.in-Stated.is) ∙ put_stated l.at l.q _ _ (accepted c)

pub overflow_add-total : goal.overflow_add-total
overflow_add-total c = let l = c.loop-elements in omega (arith, c.witness_of-total.ensures, kept_small l.q l.total l.invariant.1 c.in-Stated.s)

pub bounds-q-count : goal.bounds-q-count
bounds-q-count c = added_room c.loop-elements.at c.loop-elements.q _ (accepted c)

pub loop-elements-smaller : goal.loop-elements-smaller
loop-elements-smaller c =
    let l = c.loop-elements in
    let m = moved _ l.at l.q l.invariant.0 _ _ (on c) in
    omega (arith, m.0, m.1)

pub loop-elements-preserved : goal.loop-elements-preserved
loop-elements-preserved c =
    let l = c.loop-elements in
    rw c.witness_of-total.ensures
    (more_reached _ l.at l.q l.invariant.0 _ _ (on c), kept_more l.q l.total l.invariant.1 _ (bounds-q-count c))

pub returns-then-place-bytes : goal.returns-then-place-bytes
returns-then-place-bytes c =
    let l = c.loop-elements in
    ap Err c.new.ensures ∙ sym (extra_reached c.args.bytes.now l.at l.q l.invariant.0 c.in-Ended.place (step _ l.at l.q _ (sym c.field_at.ensures ∙ c.in_ok-elements.was ∙ ap Ok c.in-Ended.is)) (omega arith))

pub returns-in-Ended : goal.returns-in-Ended
returns-in-Ended c =
    let l = c.loop-elements in
    sym (whole_reached c.args.bytes.now l.at l.q l.invariant.0 c.in-Ended.place (step _ l.at l.q _ (sym c.field_at.ensures ∙ c.in_ok-elements.was ∙ ap Ok c.in-Ended.is)) (omega arith))
