-- `put_one` stores the packed row at the front of the part.
use Rattle.std.proofs.Common.{refl, ap, ◌∙◌}
use Rattle.outcome.proofs.OverLaws.{first_stored}
use Rattle.row.specs.Parts.{packed}
use Rattle.row.specs.Rows.{pack_row}
use Rattle.reduction.proofs.writing.put_one.Goals as goal

pub returns : goal.returns
unfolding pack_row
returns c = (refl, first_stored c.args.rows.now c.pack.result _ (c.pack.ensures ∙ ap packed c.new.ensures) c.requires)
