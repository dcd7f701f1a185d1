-- `has_mask`: what the memo says is right.
use Rattle.std.proofs.Common.{sym, ap, ◌∙◌}
use Rattle.search.specs.Memos.{mask_of_group, is_there}
use Rattle.search.specs.Tasks.{Task}
use Rattle.search.proofs.FitLaws.{sound_as, no_part}
use Rattle.search.proofs.finders.Finder.has_mask.Goals as goal

pub returns-clause-no_part : goal.returns-clause-no_part
returns-clause-no_part c r =
    no_part (sound_as c.self.view_is c.self.invariant) c.args.group
    (ap (λ (d : Task). is_there (mask_of_group d.entries d.sets c.args.group)) (sym c.self.view_is) ∙ sym c.noted_mask.ensures.value ∙ r)
