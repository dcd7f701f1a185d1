-- A fold over the pieces.
use Rattle.std.proofs.Common.{rules, tests, eqb, ap, ◌∙◌}
use Rattle.std.specs.List.{slice_split}
use Rattle.std.proofs.lemmas.Iterator.Consumers.{fold_from_yields_List}
use Rattle.std.proofs.lemmas.Iterator.Splits.{YieldsList-from_slice_split}
use Rattle.text.specs.Pieces.{space}
use Rattle.text.proofs.PieceLaws.{split_pieces}
use Rattle.lines.specs.Steps.{word_step, word_steps}
use Rattle.lines.proofs.StepLaws.{words_fold}
use Rattle.lines.proofs.words.word_steps.Goals as goal

pub returns : goal.returns
returns c =
    let a = c.args in
    let split = c.split.ensures in
    fold_from_yields_List _ (word_step a.most) a.r.now c.fold.result c.fold.ensures.ran (YieldsList-from_slice_split _ (λ b. eqb b space) a.words.now split.rest split.done split.closure (λ x b q k. search (rules, tests))) (λ r x s q k. search (rules, tests))
    ∙ words_fold a.most a.r.now (slice_split (λ b. eqb b space) a.words.now) ∙ ap (word_steps a.most a.r.now) (split_pieces space a.words.now)
