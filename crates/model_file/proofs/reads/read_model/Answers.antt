-- `read_model` goes by whether the bytes have the length of their n.
use Rattle.std.proofs.Common.{◌≡◌, Ok, Err, sym, ap, ◌∙◌, arith}
use Rattle.model_file.proofs.ReadLaws.{its_length, read_said, read_bad}
use Rattle.model_file.proofs.reads.read_model.Goals as goal

pub returns-then-not-has_its_length : goal.returns-then-not-has_its_length
returns-then-not-has_its_length c = ap Err c.new.ensures ∙ sym (read_bad c.args.elements c.args.bytes.now (sym c.has_its_length.ensures ∙ c.if-not-has_its_length.true))

pub model_in-requires : goal.model_in-requires
model_in-requires c = omega (arith, its_length c.args.elements c.args.bytes.now (sym c.has_its_length.ensures ∙ c.if-not-has_its_length.false))

pub returns : goal.returns
returns c = ap Ok c.model_in.ensures ∙ sym (read_said c.args.elements c.args.bytes.now (sym c.has_its_length.ensures ∙ c.if-not-has_its_length.false))
