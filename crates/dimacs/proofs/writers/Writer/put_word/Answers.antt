use Rattle.std.proofs.Common.{[], ◌∷◌, sym, ap, ◌∙◌, arith}
use Rattle.text.specs.Literals.{literal_text}
use Rattle.text.specs.Pieces.{space}
use Rattle.dimacs.specs.Walks.{put}
use Rattle.dimacs.proofs.WroteLaws.{put_is, put_append}
use Rattle.dimacs.proofs.writers.Writer.put_word.Goals as goal

pub returns : goal.returns
returns c =
    let a = c.args in
    let w = a.self.now in
    let literal = put_is w (literal_text a.l) (omega (arith, c.put_literal.ensures.0)) c.put_literal.ensures.1 in
    c.put_byte.ensures ∙ ap (λ v. put v (space ∷ [])) literal ∙ sym (put_append w (literal_text a.l) (space ∷ []))
