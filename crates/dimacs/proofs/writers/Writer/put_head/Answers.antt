-- `put_head` puts the parts of the line one behind the other.
use Rattle.std.proofs.Common.{◌++◌, ◌∙◌}
use Rattle.clauses.specs.Texts.{problem, first_line}
use Rattle.dimacs.specs.Walks.{number_text}
use Rattle.dimacs.proofs.WroteLaws.{bytes_start, bytes_as, bytes_room, bytes_turn, head_line_lem}
use Rattle.dimacs.proofs.writers.Writer.put_head.Goals as goal

pub put_number-requires : goal.put_number-requires
put_number-requires c =
    let a = c.args in
    let start = bytes_as (head_line_lem a.variables a.clauses) (bytes_start a.self.now (first_line a.variables a.clauses) c.requires) in
    let behind = bytes_turn problem (number_text a.variables 32 ++ number_text a.clauses 10) start c.put_text.ensures in
    bytes_room (number_text a.variables 32) (number_text a.clauses 10) behind

pub put_number-requires-2 : goal.put_number-requires-2
put_number-requires-2 c =
    let a = c.args in
    let start = bytes_as (head_line_lem a.variables a.clauses) (bytes_start a.self.now (first_line a.variables a.clauses) c.requires) in
    let behind = bytes_turn problem (number_text a.variables 32 ++ number_text a.clauses 10) start c.put_text.ensures in
    (bytes_turn (number_text a.variables 32) (number_text a.clauses 10) behind c.put_number.ensures).room

pub returns : goal.returns
returns c =
    let a = c.args in
    let start = bytes_as (head_line_lem a.variables a.clauses) (bytes_start a.self.now (first_line a.variables a.clauses) c.requires) in
    let behind = bytes_turn problem (number_text a.variables 32 ++ number_text a.clauses 10) start c.put_text.ensures in
    let last = bytes_turn (number_text a.variables 32) (number_text a.clauses 10) behind c.put_number.ensures in
    c.put_number-2.ensures ∙ last.same
