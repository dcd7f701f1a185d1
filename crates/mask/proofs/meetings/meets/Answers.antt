-- `meets` passes over an entry of other classes, and else puts its one test.
use Rattle.std.proofs.Common.{sym, ap, ◌∙◌}
use Rattle.question.specs.Masks.{bit}
use Rattle.theory.specs.Sets.{fits}
use Rattle.mask.proofs.EntryLaws.{not_asked, asked, entry_apart, entry_meets}
use Rattle.mask.proofs.meetings.meets.Goals as goal

pub returns-then-not-is_asked : goal.returns-then-not-is_asked
returns-then-not-is_asked c =
    let a = c.args in
    sym (entry_apart a.class a.m a.entry (not_asked a.class a.entry (sym c.is_asked.ensures ∙ c.if-not-is_asked.true)))

pub returns : goal.returns
returns c =
    let a = c.args in
    c.passes.ensures ∙ ap (λ t. fits a.m (bit a.class) t) c.test_in.ensures.value
    ∙ sym (entry_meets a.class a.m a.entry (asked a.class a.entry (sym c.is_asked.ensures ∙ c.if-not-is_asked.false)))
