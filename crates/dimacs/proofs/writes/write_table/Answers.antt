-- `write_table` counts with the first walk, compares, and writes with the second.
use Rattle.std.proofs.Common.{◌≡◌, ◌≤◌, map, length, sym, ap, ap₂, ◌∙◌, arith, rules, Ok, Err}
use Rattle.outcome.specs.Writes.{over, fitted_over}
use Rattle.outcome.proofs.WriteLaws.{fits, too_short}
use Rattle.row.specs.Rows.{row_of}
use Rattle.clauses.specs.Variables.{spare_variable}
use Rattle.clauses.specs.Clauses.{table_clauses}
use Rattle.clauses.specs.Texts.{first_line, dimacs}
use Rattle.dimacs.specs.Walks.{put}
use Rattle.dimacs.proofs.WroteLaws.{put_at}
use Rattle.dimacs.proofs.WriterLaws.{dimacs_length, start_room, head_room, next_room, counted, text_stands}
use Rattle.dimacs.proofs.writes.write_table.Goals as goal

pub put_table-requires : goal.put_table-requires
put_table-requires c =
    let a = c.args in
    let v = spare_variable a.shape.terms a.shape.sets in
    let cs = table_clauses a.shape.terms a.shape.sets (map row_of a.rows.now) in
    let at = ap (λ w. w.at) c.new-counted.ensures in
    let none = ap (λ w. w.clauses) c.new-counted.ensures in
    start_room v cs c.new-counted.result at none c.requires

pub put_head-requires : goal.put_head-requires
put_head-requires c =
    let a = c.args in
    let v = spare_variable a.shape.terms a.shape.sets in
    let cs = table_clauses a.shape.terms a.shape.sets (map row_of a.rows.now) in
    let at = ap (λ w. w.at) c.new-counted.ensures in
    let none = ap (λ w. w.clauses) c.new-counted.ensures in
    let told = counted v cs c.new-counted.result at none c.put_table.ensures in
    let line = ap₂ first_line c.spare_variable-variables.ensures told.1 in
    omega (arith, ap length line, told.0, dimacs_length v cs, c.requires)

pub returns-then-buf-length : goal.returns-then-buf-length
returns-then-buf-length c =
    let a = c.args in
    let v = spare_variable a.shape.terms a.shape.sets in
    let cs = table_clauses a.shape.terms a.shape.sets (map row_of a.rows.now) in
    let at = ap (λ w. w.at) c.new-counted.ensures in
    let none = ap (λ w. w.clauses) c.new-counted.ensures in
    let told = counted v cs c.new-counted.result at none c.put_table.ensures in
    let line = ap₂ first_line c.spare_variable-variables.ensures told.1 in
    let total : c.put_head.new.self.at ≡ length (dimacs v cs) =
    omega (arith, ap length line, told.0, dimacs_length v cs, ap (λ w. w.at) c.put_head.ensures, put_at c.put_table.new.self (first_line c.spare_variable-variables.result c.put_table.new.self.clauses)) in
    let left = too_short (dimacs v cs) a.buf.now (omega (arith, total)) in
    record { value = ap Err c.new.ensures ∙ sym left.0; buf_after = sym left.1 }

pub put_head-requires-2 : goal.put_head-requires-2
put_head-requires-2 c =
    let a = c.args in
    let v = spare_variable a.shape.terms a.shape.sets in
    let cs = table_clauses a.shape.terms a.shape.sets (map row_of a.rows.now) in
    let at = ap (λ w. w.at) c.new-counted.ensures in
    let none = ap (λ w. w.clauses) c.new-counted.ensures in
    let told = counted v cs c.new-counted.result at none c.put_table.ensures in
    let line = ap₂ first_line c.spare_variable-variables.ensures told.1 in
    let front = ap (λ w. w.at) c.new-writer.ensures in
    let empty = ap (λ w. w.clauses) c.new-writer.ensures in
    omega (arith, ap length line, head_room v cs c.new-writer.result front empty c.requires)

pub put_table-requires-2 : goal.put_table-requires-2
put_table-requires-2 c =
    let a = c.args in
    let v = spare_variable a.shape.terms a.shape.sets in
    let cs = table_clauses a.shape.terms a.shape.sets (map row_of a.rows.now) in
    let at = ap (λ w. w.at) c.new-counted.ensures in
    let none = ap (λ w. w.clauses) c.new-counted.ensures in
    let told = counted v cs c.new-counted.result at none c.put_table.ensures in
    let line = ap₂ first_line c.spare_variable-variables.ensures told.1 in
    let front = ap (λ w. w.at) c.new-writer.ensures in
    let empty = ap (λ w. w.clauses) c.new-writer.ensures in
    next_room v cs c.new-writer.result front empty c.requires (c.put_head-2.ensures ∙ ap (put c.new-writer.result) line)

pub returns-clause-value : goal.returns-clause-value
returns-clause-value c =
    let a = c.args in
    let v = spare_variable a.shape.terms a.shape.sets in
    let cs = table_clauses a.shape.terms a.shape.sets (map row_of a.rows.now) in
    let at = ap (λ w. w.at) c.new-counted.ensures in
    let none = ap (λ w. w.clauses) c.new-counted.ensures in
    let told = counted v cs c.new-counted.result at none c.put_table.ensures in
    let line = ap₂ first_line c.spare_variable-variables.ensures told.1 in
    let total : c.put_head.new.self.at ≡ length (dimacs v cs) =
    omega (arith, ap length line, told.0, dimacs_length v cs, ap (λ w. w.at) c.put_head.ensures, put_at c.put_table.new.self (first_line c.spare_variable-variables.result c.put_table.new.self.clauses)) in
    ap Ok total ∙ sym (fits (dimacs v cs) a.buf.now (omega (arith, total))).0

pub returns-clause-buf_after : goal.returns-clause-buf_after
returns-clause-buf_after c =
    let a = c.args in
    let v = spare_variable a.shape.terms a.shape.sets in
    let cs = table_clauses a.shape.terms a.shape.sets (map row_of a.rows.now) in
    let at = ap (λ w. w.at) c.new-counted.ensures in
    let none = ap (λ w. w.clauses) c.new-counted.ensures in
    let told = counted v cs c.new-counted.result at none c.put_table.ensures in
    let line = ap₂ first_line c.spare_variable-variables.ensures told.1 in
    let total : c.put_head.new.self.at ≡ length (dimacs v cs) =
    omega (arith, ap length line, told.0, dimacs_length v cs, ap (λ w. w.at) c.put_head.ensures, put_at c.put_table.new.self (first_line c.spare_variable-variables.result c.put_table.new.self.clauses)) in
    let room : length (dimacs v cs) ≤ length a.buf.now = omega (arith, total) in
    let w = c.new-writer.result in
    let old = ap (λ k. k.buf.now) c.new-writer.ensures in
    let front = ap (λ k. k.at) c.new-writer.ensures in
    let stands = text_stands v cs w front (omega (arith, room, ap length old)) (c.put_head-2.ensures ∙ ap (put w) line) c.put_table-2.ensures in
    let written : c.put_table-2.new.self.buf.now ≡ fitted_over (dimacs v cs) a.buf.now =
    stands.0 ∙ ap (over (dimacs v cs)) old ∙ sym (fits (dimacs v cs) a.buf.now room).1 in
    let name = ap (λ k. k.buf.ghost_name) (sym c.new-writer.ensures) ∙ sym stands.1 in
    search (rules, name, written)
