-- A set more is a bit more, above those of the sets below.
use Rattle.std.proofs.Common.{◌≡◌, sym, ap, ◌∙◌, arith}
use Rattle.clauses.specs.Variables.{in_variable}
use Rattle.clauses.specs.Meaning.{Truth}
use Rattle.solved.specs.Said.{said_truth}
use Rattle.solved.proofs.ModelLaws.{mask_none, mask_hit, mask_miss}
use Rattle.solved.proofs.values.SaidValues.mask.Goals as goal
use Rattle.solved.proofs.values.SaidValues.mask.Goals.{then-is_true, else-is_true}

pub loop-x-init : goal.loop-x-init
loop-x-init c = sym (mask_none _ _ _ _)

pub loop-x-preserved : goal.loop-x-preserved
loop-x-preserved c =
    let l = c.loop-x in
    let s = c.args.self.now in
    let truth : Truth = said_truth s in
    let said : c.is_true.result ≡ truth (in_variable s.terms s.sets c.args.c l.x) = c.is_true.ensures ∙ ap truth c.in_variable.ensures in
    elim c.if-is_true.branch [
      | then-is_true w ↦ w.mask-is ∙ mask_hit s.terms s.sets truth c.args.c l.x l.mask (omega arith) l.invariant (sym said ∙ w.if-is_true.true)
      | else-is_true w ↦ w.mask-is ∙ mask_miss s.terms s.sets truth c.args.c l.x l.mask l.invariant (sym said ∙ w.if-is_true.false)
    ]
