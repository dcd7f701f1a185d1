-- `put_clause` goes from literal to literal, with the line of those that are left behind it, then ends the line.
use Rattle.std.proofs.Common.{◌+◌, get_or, drop, ap, ◌∙◌, arith}
use Rattle.std.proofs.lemmas.List.{at_drop_more, at_drop_all}
use Rattle.text.specs.Literals.{is}
use Rattle.clauses.specs.Texts.{clause_line}
use Rattle.dimacs.specs.Walks.{word_text}
use Rattle.dimacs.proofs.WroteLaws.{bytes_as, bytes_room, bytes_turn, line_word, put_clauses, one_more}
use Rattle.dimacs.proofs.writers.Writer.put_clause.Goals as goal

pub put_word-requires : goal.put_word-requires
put_word-requires c =
    let l = c.loop-l in
    let s = c.args.literals.now in
    let next = get_or s l.l-index (is 0) in
    let rest = drop (l.l-index + 1) s in
    let line = at_drop_more clause_line s l.l-index (is 0) (omega arith) ∙ line_word next rest in
    bytes_room (word_text next) (clause_line rest) (bytes_as line l.invariant)

pub loop-l-preserved : goal.loop-l-preserved
loop-l-preserved c =
    let l = c.loop-l in
    let s = c.args.literals.now in
    let next = get_or s l.l-index (is 0) in
    let rest = drop (l.l-index + 1) s in
    let line = at_drop_more clause_line s l.l-index (is 0) (omega arith) ∙ line_word next rest in
    bytes_turn (word_text next) (clause_line rest) (bytes_as line l.invariant) c.put_word.ensures

pub overflow_add-self : goal.overflow_add-self
overflow_add-self c =
    let l = c.loop-l in
    let left = bytes_as (at_drop_all clause_line c.args.literals.now l.l-index (omega arith)) l.invariant in
    omega (arith, ap (λ w. w.clauses) (c.put_text.ensures ∙ left.same), put_clauses c.args.self.now (clause_line c.args.literals.now), c.requires.1)

pub returns : goal.returns
returns c =
    let l = c.loop-l in
    let left = bytes_as (at_drop_all clause_line c.args.literals.now l.l-index (omega arith)) l.invariant in
    one_more c.args.self.now c.args.literals.now (c.put_text.ensures ∙ left.same)
