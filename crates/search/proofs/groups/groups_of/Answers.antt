-- `groups_of` puts one term after another into its class's group.
use Rattle.std.proofs.Common.{◌∙◌, arith}
use Rattle.search.proofs.GroupLaws.{groups_more, count_more}
use Rattle.search.proofs.groups.groups_of.Goals as goal

pub loop-t-preserved : goal.loop-t-preserved
loop-t-preserved c =
    let a = c.args in
    let l = c.loop-t in
    let next = c.with_term-groups in (
      groups_more a.arrangement l.groups.terms l.t (omega arith) (c.requires.1 l.t c.loop-t-test.true) l.invariant.0 next.result.terms next.ensures.terms,
      next.ensures.count ∙ count_more a.arrangement l.t l.groups.count (omega arith) l.invariant.1,
    )
