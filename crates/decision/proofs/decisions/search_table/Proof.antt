-- `search_table` searches the rows that were written; where none were, there are too many terms, and the search refuses whatever the rows.
use Prim.Native.Nat.{◌≤◌}
use mathlib.Core.Path.{◌≡◌, sym, ap, ◌∙◌}
use mathlib.Core.Logic.{⊎_elim}
use native.Mathlib.Omega.{arith}
use borrow.Author.Rules.{rules}
use lib.ListN.{length, take}
use lib.Seq.{length-take-le}
use Rattle.question.specs.Questions.{terms_of}
use Rattle.question.proofs.StatementsLaws.{table_long}
use Rattle.reduction.proofs.ReducingLaws.{stated_few}
use Rattle.reduction.proofs.TableRows.{table_stands, table_refused}
use Rattle.search.specs.Answers.{searched}
use Rattle.decision.specs.Decisions.{table_searched}
use Rattle.decision.proofs.DecisionLaws.{rows_searched, many_searched}
use Rattle.decision.proofs.decisions.search_table.Statement.{statement}
use Rattle.decision.proofs.decisions.search_table.Tie as tie

-- as many rows stand at the front of the buffer, and the search says of them what it says of the table's
came : (c : tie.Joined-write_rows) →
    let q = c.args.q in
    (c.match-write_rows.count ≤ length c.write_rows.new.rows) × (searched (terms_of q) q.sets (take c.match-write_rows.count c.write_rows.new.rows) ≡ table_searched q)
came c =
    let q = c.args.q in
    let told = c.write_rows.ensures in
    let long : length q.table ≡ 64 = search table_long in
    ⊎_elim
    (λ x. (omega (arith, x.count-is), many_searched q _ (table_refused q _ _ (stated_few q long) (omega arith) (sym told.0 ∙ x.in-Err.is))))
    (λ x. let s = table_stands q _ _ _ told.1 (sym told.0 ∙ x.in-Ok.is) in
    (omega (arith, x.count-is, s.0), rows_searched q _ (ap (λ n. take n c.write_rows.new.rows) x.count-is ∙ s.1)))
    c.match-write_rows.branch-raw

returns : tie.Need-returns
returns c =
    let q = c.args.q in
    let rows = take c.match-write_rows.count c.write_rows.new.rows in
    c.search.ensures ∙ ap (λ t. searched t q.sets rows) c.terms-n.ensures ∙ (came c.before.before.before).1

pub search_table_spec : {M : Type 1} → statement M
search_table_spec =
    tie.close
    (tie.spec
    (λ c. search rules)
    (λ c κs. search rules)
    (λ c. search rules)
    (λ c. search rules)
    (λ c κs. search rules)
    (λ c. (came c.before).0)
    (λ c. sym (length-take-le _ _ (came c.before.before).0))
    (λ c κs. search rules)
    returns)
