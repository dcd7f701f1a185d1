-- The one number that a call for C gives back: its lowest byte is the refusal number, or 0; the rest is the place, the count of bytes, the three counts of a clash, the verdict, or the index of a statement.
use Rattle.std.specs.Prelude.{ℕ, ◌+◌, ◌*◌, ◌%◌, ◌^◌, ◌≤◌, ◌<◌, List, Result, Ok, Err, None, Some}
use Rattle.outcome.specs.declared.refusals.Refusal.{Refusal}
use Rattle.outcome.specs.Writes.{Written}
use Rattle.outcome.specs.Verdicts.{verdict_byte}
use Rattle.question.specs.Limits.{max_statements}
use Rattle.judge.specs.Judgements.{Judgement, all_hold}
use Rattle.model_file.specs.Judges.{file_judged}
use Rattle.answer.specs.declared.answers.Answer.{Answer}
use Rattle.clash.specs.Files.{ClashWritten, Three, clash_written}
use Rattle.clauses.specs.Texts.{longest_clauses}
use Rattle.dimacs.specs.Writes.{file_clauses}
use Rattle.solved.specs.Solved.{Solved, file_solved}
use Rattle.sayfudhoum.specs.Files.{file_decided, answered}

-- a refusal: its place, and its number in the lowest byte
abbrev pub refusal_number : Refusal → ℕ
refusal_number r = r.place * 256 + r.number

-- a count of bytes, or the refusal
abbrev pub written_number : Written → ℕ
written_number (Ok n) = n * 256
written_number (Err r) = refusal_number r

-- 1 for possible and 0 for impossible, or the refusal
abbrev pub decision_number : Result Answer Refusal → ℕ
decision_number (Ok a) = verdict_byte a.verdict * 256
decision_number (Err r) = refusal_number r

-- the three counts of a clash: the bytes of the part, the indexes above 16 bits, and the bytes of the answer above 24
abbrev pub counts_number : ℕ → ℕ → ℕ → ℕ
counts_number part indexes answer = (part + indexes * 2 ^ 16 + answer * 2 ^ 24) * 256

abbrev pub clashed_number : ClashWritten → ℕ
clashed_number (Ok n) = counts_number n.part n.indexes n.answer
clashed_number (Err r) = refusal_number r

-- a refusal whose place may lie anywhere in a solver's lines: the place in the 56 bits of the rest
abbrev pub placed_number : Refusal → ℕ
placed_number r = r.place % 2 ^ 56 * 256 + r.number

-- the bytes of the answer, 0 for the solver's word, or the refusal
abbrev pub as_number : Solved → ℕ
as_number (Ok (Some n)) = n * 256
as_number (Ok None) = 0
as_number (Err r) = placed_number r

-- the index of the first statement that fails, 64 if all hold, or the refusal
abbrev pub judgement_number : Judgement → ℕ
judgement_number (Ok None) = all_hold * 256
judgement_number (Ok (Some i)) = i * 256
judgement_number (Err r) = refusal_number r

-- what `sayfudhoum_answer` gives back, where there is room for so many bytes
unfoldable pub answer_number : List ℕ → ℕ → ℕ
answer_number bytes room = written_number (answered bytes room)

-- what `sayfudhoum_verdict` gives back
unfoldable pub verdict_number : List ℕ → ℕ
verdict_number bytes = decision_number (file_decided bytes)

-- what `sayfudhoum_clash` gives back, where the three lent buffers hold so much
unfoldable pub clash_number : List ℕ → Three → ℕ
clash_number bytes old = clashed_number (clash_written bytes old)

-- what `sayfudhoum_clauses` gives back, where there is room for so many bytes
unfoldable pub clauses_number : List ℕ → ℕ → ℕ
clauses_number bytes room = written_number (file_clauses bytes room)

-- what `sayfudhoum_solved` gives back, beside a solver's lines
unfoldable pub solved_number : List ℕ → List ℕ → ℕ → ℕ
solved_number bytes lines room = as_number (file_solved bytes lines room)

-- what `sayfudhoum_judge` gives back, beside the bytes of a model
unfoldable pub judge_number : List ℕ → List ℕ → ℕ
judge_number bytes model = judgement_number (file_judged bytes model)

-- places and counts that leave room for the lowest byte: no refusal of a file lies further on, and no call writes more bytes
abbrev pub max_place : ℕ
max_place = 392

abbrev pub max_count : ℕ
max_count = longest_clauses

abbrev pub IsSmall : Result Answer Refusal → Type 0
IsSmall (Ok a) = Unit {0}
IsSmall (Err r) = r.place ≤ max_place

abbrev pub IsShort : Written → Type 0
IsShort (Ok n) = n ≤ max_count
IsShort (Err r) = r.place ≤ max_place

abbrev pub IsFew : ClashWritten → Type 0
IsFew (Ok n) = (n.part ≤ max_place) × (n.indexes ≤ max_statements) × (n.answer ≤ max_place)
IsFew (Err r) = r.place ≤ max_place

abbrev pub IsBrief : Solved → Type 0
IsBrief (Ok (Some n)) = n ≤ max_place
IsBrief (Ok None) = Unit {0}
IsBrief (Err r) = Unit {0}

abbrev pub IsIndexed : Judgement → Type 0
IsIndexed (Ok None) = Unit {0}
IsIndexed (Ok (Some i)) = i < max_statements
IsIndexed (Err r) = r.place ≤ max_place
