-- A call of an export is a call of the library's function of the same name, with the same arguments, result and buffers.
-- So each theorem on the library's calls (EndToEnd, Exactness, ClashEnds, ClausesEnds, SolvedEnds, SolvedExactly, JudgeEnds) is one on the exports: two are stated here.
use Rattle.std.specs.Prelude.{◌≡◌, ◌↔◌}
use Rattle.outcome.specs.Calls.{Call}
use Rattle.sayfudhoum.proofs.sayfudhoum_answer.Reads as answer_call
use Rattle.sayfudhoum.proofs.sayfudhoum_verdict.Reads as verdict_call
use Rattle.sayfudhoum.proofs.sayfudhoum_clash.Reads as clash_call
use Rattle.sayfudhoum.proofs.sayfudhoum_clauses.Reads as clauses_call
use Rattle.sayfudhoum.proofs.sayfudhoum_solved.Reads as solved_call
use Rattle.sayfudhoum.proofs.sayfudhoum_judge.Reads as judge_call
use Rattle.sayfudhoum_c.proofs.exports.sayfudhoum_answer.Reads as answer_export
use Rattle.sayfudhoum_c.proofs.exports.sayfudhoum_verdict.Reads as verdict_export
use Rattle.sayfudhoum_c.proofs.exports.sayfudhoum_clash.Reads as clash_export
use Rattle.sayfudhoum_c.proofs.exports.sayfudhoum_clauses.Reads as clauses_export
use Rattle.sayfudhoum_c.proofs.exports.sayfudhoum_solved.Reads as solved_export
use Rattle.sayfudhoum_c.proofs.exports.sayfudhoum_judge.Reads as judge_export
use Rattle.sayfudhoum.proofs.EndToEnd.{IsImpossible, IsPossible}
use Rattle.sayfudhoum.proofs.Exactness.{impossible_exactly, possible_exactly}

abbrev pub answer_called : Call answer_export.Learnt → Call answer_call.Learnt
answer_called c = record { lifetimes = c.lifetimes; given = c.given; result = c.result; exit = c.exit; fits = c.fits }

abbrev pub verdict_called : Call verdict_export.Learnt → Call verdict_call.Learnt
verdict_called c = record { lifetimes = c.lifetimes; given = c.given; result = c.result; exit = c.exit; fits = c.fits }

abbrev pub clash_called : Call clash_export.Learnt → Call clash_call.Learnt
clash_called c = record { lifetimes = c.lifetimes; given = c.given; result = c.result; exit = c.exit; fits = c.fits }

abbrev pub clauses_called : Call clauses_export.Learnt → Call clauses_call.Learnt
clauses_called c = record { lifetimes = c.lifetimes; given = c.given; result = c.result; exit = c.exit; fits = c.fits }

abbrev pub solved_called : Call solved_export.Learnt → Call solved_call.Learnt
solved_called c = record { lifetimes = c.lifetimes; given = c.given; result = c.result; exit = c.exit; fits = c.fits }

abbrev pub judge_called : Call judge_export.Learnt → Call judge_call.Learnt
judge_called c = record { lifetimes = c.lifetimes; given = c.given; result = c.result; exit = c.exit; fits = c.fits }

-- the export gives 0 exactly if the file is accepted and no assignment meets its statements
pub export_impossible_exactly : (c : Call verdict_export.Learnt) → (c.result ≡ 0) ↔ IsImpossible c.given.0.now
export_impossible_exactly c = impossible_exactly (verdict_called c)

-- and 256 exactly if the file is accepted and some assignment meets its statements
pub export_possible_exactly : (c : Call verdict_export.Learnt) → (c.result ≡ 256) ↔ IsPossible c.given.0.now
export_possible_exactly c = possible_exactly (verdict_called c)
