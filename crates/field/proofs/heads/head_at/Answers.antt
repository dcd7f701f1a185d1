-- `head_at` reads three bytes, if they are there.
use Rattle.std.proofs.Common.{◌≡◌, ◌<◌, length, drop, arith, sym, ap, ◌∙◌}
use Rattle.std.proofs.lemmas.List.{length-drop, take_all}
use Rattle.field.specs.Heads.{head_of}
use Rattle.field.proofs.HeadLaws.{short, whole}
use Rattle.field.proofs.heads.head_at.Goals as goal

pub returns-in_err-get : goal.returns-in_err-get
returns-in_err-get c =
    let past = c.in_err-get.ensures.lookup in
    let few : length (drop c.args.at c.args.bytes.now) < 3 = grind (arith, length-drop) in
    c.from_residual.ensures ∙ sym (short _ few)

pub returns-in_default : goal.returns-in_default
returns-in_default c =
    let there = c.in_ok-get.ensures.lookup in
    let same : c.in_ok-get.field-0.now ≡ drop c.args.at c.args.bytes.now = there.0.2 ∙ take_all _ _ (simp length-drop (omega arith)) in
    sym (ap head_of (sym same) ∙ short _ c.in_default.len_below)

pub returns-in-len3-up : goal.returns-in-len3-up
returns-in-len3-up c =
    let there = c.in_ok-get.ensures.lookup in
    let same : c.in_ok-get.field-0.now ≡ drop c.args.at c.args.bytes.now = there.0.2 ∙ take_all _ _ (simp length-drop (omega arith)) in
    let read = whole c.in_ok-get.field-0.now c.in-len3-up.len_at_least in
    rw (c.from.ensures, c.from-in-len3-up.ensures) (sym read ∙ ap head_of same)
