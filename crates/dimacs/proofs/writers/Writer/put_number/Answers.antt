use Rattle.std.proofs.Common.{[], ◌∷◌, sym, ap, ◌∙◌, arith}
use Rattle.text.specs.Decimals.{decimal}
use Rattle.dimacs.specs.Walks.{put}
use Rattle.dimacs.proofs.WroteLaws.{put_is, put_append}
use Rattle.dimacs.proofs.writers.Writer.put_number.Goals as goal

pub returns : goal.returns
returns c =
    let a = c.args in
    let w = a.self.now in
    let digits = put_is w (decimal a.n) (omega (arith, c.put_decimal.ensures.0)) c.put_decimal.ensures.1 in
    c.put_byte.ensures ∙ ap (λ v. put v (a.end ∷ [])) digits ∙ sym (put_append w (decimal a.n) (a.end ∷ []))
