-- The reasons at entry are those of the loop; a bit that m has gives way to its reason, and one that is not left is passed.
use Rattle.std.proofs.Common.{sym, subst, ◌∙◌, ◌+◌, slice_set, Some, None}
use Rattle.mask.specs.Trials.{TrialIs}
use Rattle.mask.proofs.TrialLaws.{Carried, carried_pass, carried_resolve, trial_next, trial_over}
use Rattle.mask.proofs.trials.next_mask.Goals as goal
use Rattle.mask.proofs.trials.next_mask.Goals.{then-bit+else-not-bit, else-bit}

pub returns-then-not-bit : goal.returns-then-not-bit
returns-then-not-bit c =
    let a = c.args in
    let l = c.loop-q in
    let lacks = sym c.bit-then-bit.ensures ∙ c.if-not-bit.true in
    subst (λ v. TrialIs a.sets a.m a.decided v (slice_set l.why l.q l.c) (Some l.q)) l.invariant.0
    (trial_next a.m l.why a.decided a.sets c.requires.1 l.q l.c c.requires.0 c.loop-q-test.true lacks l.invariant.1)

pub loop-q-preserved : goal.loop-q-preserved
loop-q-preserved c =
    let a = c.args in
    let l = c.loop-q in
    let carried = Carried a.m l.why a.decided (l.q + 1) in (
      l.invariant.0,
      elim c.if-bit.branch [
        | then-bit+else-not-bit w ↦ subst carried (sym w.c-is) (carried_resolve a.m l.why a.decided l.q l.c (sym w.bit-then-bit.ensures ∙ w.if-not-bit.false) l.invariant.1)
        | else-bit w ↦ subst carried (sym w.c-is) (carried_pass a.m l.why a.decided l.q l.c (sym c.bit.ensures ∙ w.if-bit.false) l.invariant.1)
      ],
    )

pub returns : goal.returns
returns c =
    let a = c.args in
    let l = c.loop-q in
    subst (λ v. TrialIs a.sets a.m a.decided v v None) l.invariant.0 (trial_over a.m l.why a.decided a.sets c.requires.1 l.q l.c c.loop-q-test.false l.invariant.1)
