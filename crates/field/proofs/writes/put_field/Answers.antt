-- `put_field` writes the head, and the body into the part that starts behind it; a field that does not fit leaves the part as it was.
use Rattle.std.proofs.Common.{ℕ, ◌/◌, ◌%◌, ◌≡◌, List, [], ◌∷◌, ◌++◌, ◌+◌, length, drop, ap, sym, ◌∙◌, arith}
use Rattle.std.proofs.lemmas.List.{drop-drop}
use borrow.Rule.Slice.PartMut.{put_mid}
use Rattle.outcome.specs.Writes.{over}
use Rattle.field.proofs.WriteLaws.{written, too_long, no_room}
use Rattle.field.proofs.writes.put_field.Goals as goal

pub returns-then-n-gt-LONGEST_BODY : goal.returns-then-n-gt-LONGEST_BODY
returns-then-n-gt-LONGEST_BODY c =
    let a = c.args in
    let kept = too_long a.tag a.body.now a.buf.now c.if-n-gt-LONGEST_BODY.true in
    (sym kept.0, sym kept.1)

pub returns-then-buf-n : goal.returns-then-buf-n
returns-then-buf-n c =
    let a = c.args in
    let kept = no_room a.tag a.body.now a.buf.now c.if-n-gt-LONGEST_BODY.false c.if-buf-n.true in
    (sym kept.0, sym kept.1)

-- the head, and the body behind it
joined : (a b c : ℕ) (body xs ys old : List ℕ) (n : ℕ) → n ≡ length body → xs ≡ over (a ∷ b ∷ c ∷ []) old → ys ≡ body → put_mid 3 n xs ys ≡ over (a ∷ b ∷ c ∷ body) old
joined a b c body xs ys old n h e k =
    let size : 3 + length body ≡ length (a ∷ b ∷ c ∷ body) = omega arith in
    rw (e, k, h)
    (ap (λ l. a ∷ b ∷ c ∷ (body ++ l)) (drop-drop (length body) 3 old ∙ ap (λ i. drop i old) size))

pub returns : goal.returns
returns c =
    let a = c.args in
    let n = length a.body.now in
    let whole = written a.tag a.body.now a.buf.now c.if-n-gt-LONGEST_BODY.false c.if-buf-n.false in
    let both = joined a.tag (n / 256) (n % 256) a.body.now _ _ a.buf.now _ (omega arith) c.put_head.ensures c.copy_from_slice.ensures.after in
    (sym whole.0, both ∙ sym whole.1)
