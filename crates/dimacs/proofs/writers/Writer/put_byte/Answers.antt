use Rattle.std.proofs.Common.{[], ◌∷◌, refl, sym, ◌∙◌}
use Rattle.text.proofs.LaidLaws.{laid_one}
use Rattle.dimacs.proofs.WroteLaws.{put_is}
use Rattle.dimacs.proofs.writers.Writer.put_byte.Goals as goal

pub returns : goal.returns
returns c =
    let w = c.args.self.now in
    put_is w (c.args.byte ∷ []) refl (c.put_byte.ensures ∙ sym (laid_one w.at c.args.byte w.buf.now))
