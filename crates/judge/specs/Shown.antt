-- A solution as a model for the judge.
use Rattle.question.specs.Limits.{max_terms}
use Rattle.theory.specs.Arrangements.{classes}
use Rattle.theory.specs.Solutions.{Solution}
use Rattle.judge.specs.declared.models.Model.{Model}
use Rattle.outcome.specs.Padded.{padded}

-- n is the number of classes, a term's element is its class, and a domain element's mask is that of its class; entries past those are 0
unfoldable pub model_shown : Solution → Model
model_shown sol = record { size = classes sol.arrangement; elements = padded max_terms sol.arrangement; masks = padded max_terms sol.masks }
