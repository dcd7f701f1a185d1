-- Where an entry fails, the bits that are to blame decide: the next mask has its reasons, or none is left. A mask that meets all entries is the smallest, for no smaller one is of use.
use Rattle.std.proofs.Common.{◌^◌, min, refl, sym, ap, ◌∙◌, arith}
use Rattle.std.proofs.Math.Option.{none, some}
use Rattle.std.proofs.Math.Pow.{pow_pos}
use Rattle.mask.specs.Entries.{rows_of_entries}
use Rattle.mask.specs.Trials.{IsOfNoUse, reason_at, IsDecided}
use Rattle.mask.specs.Masks.{smallest_of}
use Rattle.mask.proofs.ReasonLaws.{reasons_start, reasons_below}
use Rattle.mask.proofs.BitLaws.{raised_larger}
use Rattle.mask.proofs.LeastLaws.{meets_all, least_mask_one}
use Rattle.mask.proofs.WalkLaws.{walk_decided, walk_end}
use Rattle.mask.proofs.NoteLaws.{notes_start, before_start, meets_raised}
use Rattle.mask.proofs.masks.smallest_mask.Goals as goal
use Rattle.mask.proofs.masks.smallest_mask.Goals.{After-blame-decided}

pub masks-init : goal.masks-init
masks-init c = record {
  bits = pow_pos c.min-bits.result;
  reasons = (refl, reasons_start 2 (omega arith) _ _);
  inside = omega arith;
  met = λ k l. absurd (omega arith);
  notes = before_start _ _ _ _ (notes_start 32 65535 _ (omega arith));
}

pub returns : goal.returns
returns c =
    let a = c.args in
    let m = c.masks.m in
    let below = rw c.min-bits.ensures at c.masks.invariant.bits in
    let met = walk_end a.class a.entries.now m c.entries.i c.entries.invariant.1 (omega arith) in
    let no_smaller = reasons_below 2 (omega arith) (IsOfNoUse (meets_all (rows_of_entries a.entries.now) a.class)) (reason_at c.masks.why) m c.masks.invariant.reasons.1 in
    sym (ap smallest_of (least_mask_one (2 ^ min a.sets 32) (rows_of_entries a.entries.now) a.class (some m) (below, met, no_smaller)))

-- the walk stopped at an entry that the mask fails
decided : (c : After-blame-decided) → IsDecided (meets_all (rows_of_entries c.args.entries.now) c.args.class) c.blame-decided.result c.masks.m
decided c =
    let a = c.args in
    rw (c.blame-decided.ensures, c.test_in.ensures.value)
    (walk_decided a.class a.entries.now c.masks.m c.entries.i c.if-i-entries.false (sym c.meets.ensures ∙ c.if-not-meets.true))

pub returns-in_err-q : goal.returns-in_err-q
returns-in_err-q c =
    let a = c.args in
    let t = rw c.min-bits.ensures at c.in_err-q.ensures in
    c.from_residual.ensures
    ∙ sym (ap smallest_of (least_mask_one (2 ^ min a.sets 32) (rows_of_entries a.entries.now) a.class none (t (meets_all (rows_of_entries a.entries.now) a.class) c.masks.invariant.reasons (decided (goal.at.returns-in_err-q c).After-blame-decided))))

pub masks-preserved : goal.masks-preserved
masks-preserved c =
    let a = c.args in
    let m = c.masks in
    let q = c.in_ok-q.q in
    let n = c.note_up_to.new.self in
    let e = c.note_up_to.ensures in
    let t = c.in_ok-q.ensures in
    let larger = raised_larger c.min-bits.result m.m q t.0 m.invariant.bits t.1 in
    let met = meets_raised c.min-bits.result a.class a.entries.now m.m _ c.entries.i n.count q c.back_to-i.result c.entries.invariant.1 e.1 e.0 t.0 t.1 c.back_to-i.ensures.0 c.back_to-i.ensures.1 in
    record {
      bits = rw c.raise-m.ensures larger.1;
      reasons = rw c.raise-m.ensures (t.2 (meets_all (rows_of_entries a.entries.now) a.class) m.invariant.reasons (decided (goal.at.masks-preserved c).After-blame-decided));
      inside = omega (arith, c.back_to-i.ensures.0, c.entries.invariant.0);
      met = rw c.raise-m.ensures met;
      notes = e.1;
    }
