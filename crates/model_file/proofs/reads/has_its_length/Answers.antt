-- `has_its_length` compares the length with that of the n in the first byte.
use Rattle.model_file.specs.Reads.{has_its_length}
use Rattle.model_file.proofs.reads.has_its_length.Goals as goal

pub returns : goal.returns
unfolding has_its_length
returns c = cc
