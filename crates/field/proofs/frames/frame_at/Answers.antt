-- `frame_at` reads the head, and checks it with the bytes that are left behind it.
use Rattle.std.proofs.Common.{None, Err, sym, ap, ◌∙◌, arith}
use Rattle.std.proofs.lemmas.List.{length-drop}
use Rattle.field.proofs.HeadLaws.{head_there}
use Rattle.field.proofs.FrameLaws.{by_head, head_at}
use Rattle.field.proofs.frames.frame_at.Goals as goal

pub returns-in_default : goal.returns-in_default
returns-in_default c =
    let a = c.args in
    ap Err c.new.ensures ∙ sym (by_head a.file a.due a.size a.at _ None (sym c.head_at.ensures ∙ c.in_default.is))

pub overflow_sub-left : goal.overflow_sub-left
overflow_sub-left c = omega (arith, simp length-drop at (head_there _ _ _ (sym c.head_at.ensures ∙ c.in-Some.is)))

pub overflow_sub-left-2 : goal.overflow_sub-left-2
overflow_sub-left-2 c = omega (arith, simp length-drop at (head_there _ _ _ (sym c.head_at.ensures ∙ c.in-Some.is)))

pub returns : goal.returns
returns c =
    let a = c.args in
    c.check_head.ensures ∙ sym (head_at a.file a.due a.size a.at a.bytes.now _ _ (sym c.head_at.ensures ∙ c.in-Some.is))
