-- `row_good` makes its tests in order: past the bound, or without a declared term, a number is no row.
use Rattle.std.proofs.Common.{◌≡◌, Bool, true, false, ◌&&◌, ◌^◌, ltb, sym, ap, ◌∙◌}
use borrow.Author.Tests.{lt-ltb, le-ltb}
use Rattle.row.specs.Parts.{row_bits, parts_of}
use Rattle.row.specs.Checks.{places_good, row_good}
use Rattle.row.proofs.checks.row_good.Goals as goal
use Rattle.row.proofs.checks.row_good.Goals.{then-row-lt-BOUND, else-row-lt-BOUND}

-- the first two tests as one
joined : (a b c v : Bool) → v ≡ (a && b) → (v && c) ≡ (a && (b && c))
joined true b c v e = ap (λ x. x && c) e
joined false b c v e = ap (λ x. x && c) e

pub returns-then-p-terms : goal.returns-then-p-terms
unfolding row_good
returns-then-p-terms c =
    let n = c.args.row in
    let bound = 2 ^ row_bits in
    let test = ltb (parts_of n).term c.args.terms in
    let term = ap (λ p. ltb p.term c.args.terms) c.unpack-p.ensures in
    let are : c.if-row-lt-BOUND.value ≡ (ltb n bound && test) = elim c.if-row-lt-BOUND.branch [
      | then-row-lt-BOUND w ↦ w.value-is ∙ term ∙ sym (ap (λ b. b && test) (lt-ltb n bound w.if-row-lt-BOUND.true))
      | else-row-lt-BOUND w ↦ w.value-is ∙ le-ltb n bound w.if-row-lt-BOUND.false ∙ sym (ap (λ b. b && test) (le-ltb n bound w.if-row-lt-BOUND.false))
    ] in
    c.places_good.ensures ∙ ap (places_good c.args.terms c.args.sets) c.unpack-p.ensures
    ∙ joined (ltb n bound) test (places_good c.args.terms c.args.sets (parts_of n)) true (sym c.if-p-terms.true ∙ are)

pub returns-else-p-terms : goal.returns-else-p-terms
unfolding row_good
returns-else-p-terms c =
    let n = c.args.row in
    let bound = 2 ^ row_bits in
    let test = ltb (parts_of n).term c.args.terms in
    let term = ap (λ p. ltb p.term c.args.terms) c.unpack-p.ensures in
    let are : c.if-row-lt-BOUND.value ≡ (ltb n bound && test) = elim c.if-row-lt-BOUND.branch [
      | then-row-lt-BOUND w ↦ w.value-is ∙ term ∙ sym (ap (λ b. b && test) (lt-ltb n bound w.if-row-lt-BOUND.true))
      | else-row-lt-BOUND w ↦ w.value-is ∙ le-ltb n bound w.if-row-lt-BOUND.false ∙ sym (ap (λ b. b && test) (le-ltb n bound w.if-row-lt-BOUND.false))
    ] in
    c.if-p-terms.false ∙ joined (ltb n bound) test (places_good c.args.terms c.args.sets (parts_of n)) false (sym c.if-p-terms.false ∙ are)
