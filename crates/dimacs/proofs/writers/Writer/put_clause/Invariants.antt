use Rattle.std.proofs.Common.{drop}
use Rattle.clauses.specs.Texts.{clause_line}
use Rattle.dimacs.proofs.WroteLaws.{BytesLeft}
use Rattle.dimacs.proofs.writers.Writer.put_clause.Given as goal

abbrev pub invariant-loop-l : goal.invariant-loop-l
invariant-loop-l l = BytesLeft l.initial.self (clause_line l.literals) l.self (clause_line (drop l.l-index l.literals))
