-- Each public contract of this crate leaves one result.
use Rattle.outcome.specs.OneResult.{OneResult}
use Rattle.outcome.proofs.OneLaw.{both}
use Rattle.judge.proofs.judging.judge_lent.Reads as judge_lent
use Rattle.judge.proofs.judging.judge_model.Reads as judge_model
use Rattle.judge.proofs.judging.judge.Reads as judge

judge_lent_one : OneResult judge_lent.Learnt
judge_lent_one κs given x y s t = both

judge_model_one : OneResult judge_model.Learnt
judge_model_one κs given x y s t = both

judge_one : OneResult judge.Learnt
judge_one κs given x y s t = both
