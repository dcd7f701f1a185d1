-- Exactness, on the contracts of the calls sayfudhoum_answer and sayfudhoum_verdict: each number is given back exactly if the file is what the number says of it.
-- A call ends in one of its ways; all the others are excluded by the file or by the number.
use Rattle.std.proofs.Common.{Ok, Err}
use Prim.Native.Nat.{ℕ, ◌+◌, ◌*◌, ◌≤◌, ◌<◌}
use mathlib.Core.Path.{◌≡◌, sym, ap, ap₂, ◌∙◌}
use mathlib.Core.List.{List}
use mathlib.Core.Logic.{◌↔◌}
use mathlib.Core.Option.{none, some}
use native.Mathlib.Omega.{arith}
use lib.ListN.{length}
use Rattle.outcome.specs.declared.refusals.Refusal.{Refusal}
use Rattle.outcome.specs.Refusals.{refusal}
use Rattle.outcome.specs.Checks.{outcome_of}
use Rattle.question_file.specs.Reads.{read_question, asked}
use Rattle.question_file.proofs.RefusalLaws.{refusal_told}
use Rattle.outcome.proofs.Never.{never}
use Rattle.theory.specs.Solutions.{Solution}
use Rattle.theory.specs.Answers.{IsFirstModelOf}
use Rattle.theory.proofs.AnswerLaws.{first_model_one}
use Rattle.outcome.specs.Writes.{over}
use Rattle.outcome.specs.Calls.{Call}
use Rattle.answer.specs.Bytes.{file_of}
use Rattle.answer.proofs.AnswerLaws.{some_length}
use Rattle.sayfudhoum.specs.Files.{answer_in}
use Rattle.sayfudhoum.proofs.EndToEnd.{IsImpossible, IsPossible, IsShown, impossible_file, none_means, some_first, refused_ok, not_both, possible_shown, none_file, Answers, file_refused, too_short, impossible, possible, answer_ends, Decides, verdict_ends, says_impossible, says_possible}
use Rattle.sayfudhoum.proofs.exports.sayfudhoum_answer.Reads as answer_call
use Rattle.sayfudhoum.proofs.exports.sayfudhoum_verdict.Reads as verdict_call

-- a refusal's number and its place, as one number: the lowest byte is not 0
abbrev pub Tells : ℕ → Refusal → Type 0
Tells n r = (n ≡ r.place * 256 + r.number) × (0 < r.number) × (r.number < 256)

-- it tells one refusal
pub tells_one : (n : ℕ) (r s : Refusal) → Tells n r → Tells n s → r ≡ s
tells_one n r s t u = ap₂ refusal (omega (arith, t.0, t.1, t.2, u.0, u.1, u.2)) (omega (arith, t.0, t.1, t.2, u.0, u.1, u.2))

-- a refused file's number tells its refusal, which is not 10
pub file_tells : (bytes : List ℕ) (r : Refusal) (n : ℕ) → outcome_of (read_question bytes) ≡ Err r → n ≡ r.place * 256 + r.number → Tells n r × (r.number < 10)
file_tells bytes r n p e = let t = (refusal_told bytes r p).0 in ((e, omega (arith, t.0), omega (arith, t.1)), omega (arith, t.1))

-- a call of `sayfudhoum_verdict` on a file
module _ (c : Call verdict_call.Learnt) where
  abbrev handed : List ℕ
  handed = c.given.0.now

  -- 0 exactly if the file is accepted and no assignment meets its statements
  pub impossible_exactly : (c.result ≡ 0) ↔ IsImpossible handed
  impossible_exactly = (says_impossible c, λ i. go i (verdict_ends c))
    where
      go : IsImpossible handed → Decides handed c.result → c.result ≡ 0
      go i (file_refused r p n) = refused_ok p i.file_accepted
      go i (impossible _ n) = n
      go i (possible sol s n) = not_both i ((possible_shown handed).1 (sol, s))

  -- 256 exactly if the file is accepted and some assignment meets its statements
  pub possible_exactly : (c.result ≡ 256) ↔ IsPossible handed
  possible_exactly = (λ e. (possible_shown handed).1 (says_possible c e), λ p. go p (verdict_ends c))
    where
      go : IsPossible handed → Decides handed c.result → c.result ≡ 256
      go p (file_refused r x n) = refused_ok x p.file_accepted
      go p (impossible i n) = not_both i p
      go p (possible sol s n) = n

  -- a number whose lowest byte is not 0 exactly if the file is refused, with this number at this place
  pub refused_exactly : (r : Refusal) → Tells c.result r ↔ (outcome_of (read_question handed) ≡ Err r)
  refused_exactly r = (λ t. told t (verdict_ends c), λ p. gives p (verdict_ends c))
    where
      told : Tells c.result r → Decides handed c.result → outcome_of (read_question handed) ≡ Err r
      told t (file_refused s p n) = p ∙ ap Err (tells_one c.result s r (file_tells handed s c.result p n).0 t)
      told t (impossible i n) = absurd (omega (arith, t.0, t.1, t.2, n))
      told t (possible sol s n) = absurd (omega (arith, t.0, t.1, t.2, n))

      gives : outcome_of (read_question handed) ≡ Err r → Decides handed c.result → Tells c.result r
      gives p (file_refused s x n) = let same : s ≡ r = cc in rw same at (file_tells handed s c.result x n).0
      gives p (impossible i n) = refused_ok p i.file_accepted
      gives p (possible sol s n) = refused_ok p s.file_accepted

-- a call of `sayfudhoum_answer` on a file, with a buffer
module _ (c : Call answer_call.Learnt) where
  abbrev file : List ℕ
  file = c.given.0.now

  abbrev old : List ℕ
  old = c.given.1.0.now

  abbrev new : List ℕ
  new = c.exit.1.0.now

  -- what a count of 7 bytes means
  seven : c.result ≡ 7 * 256 → IsImpossible file × (7 ≤ length old) × (new ≡ over impossible_file old)
  seven e = go (answer_ends c)
    where
      go : Answers file old c.result new → IsImpossible file × (7 ≤ length old) × (new ≡ over impossible_file old)
      go (file_refused r p n b) = let t = (refusal_told file r p).0 in absurd (omega (arith, e, n, t.0, t.1))
      go (too_short p h n b) = absurd (omega (arith, e, n))
      go (impossible i h n b) = (i, h, b)
      go (possible sol s h n b) = absurd (omega (arith, e, n, some_length sol))

  -- it gives back 7 bytes exactly if the file is accepted, no assignment meets its statements, and there is room for them
  pub answer_impossible_exactly : (c.result ≡ 7 * 256) ↔ (IsImpossible file × (7 ≤ length old))
  answer_impossible_exactly = (λ e. ((seven e).0, (seven e).1), λ i. go i.0 i.1 (answer_ends c))
    where
      go : IsImpossible file → 7 ≤ length old → Answers file old c.result new → c.result ≡ 7 * 256
      go i room (file_refused r p n b) = refused_ok p i.file_accepted
      go i room (too_short p h n b) = let same = ap (λ s. length (file_of s)) ((none_means file p).1 i) ∙ ap length none_file in absurd (omega (arith, room, h, same))
      go i room (impossible _ h n b) = n
      go i room (possible sol s h n b) = not_both i ((possible_shown file).1 (sol, s))

  -- and then they are 40 00 01 00 7F 00 00
  pub answer_impossible_bytes : c.result ≡ 7 * 256 → new ≡ over impossible_file old
  answer_impossible_bytes e = (seven e).2

  -- a count above 7 means possible: it is that of the bytes of the first model, which are written
  pub answer_possible_bytes : (n : ℕ) → 7 < n → c.result ≡ n * 256 → (sol : Solution) × IsShown file sol × (n ≡ length (file_of (some sol))) × (n ≤ length old) × (new ≡ over (file_of (some sol)) old)
  answer_possible_bytes n lt e = go (answer_ends c)
    where
      go : Answers file old c.result new → (sol : Solution) × IsShown file sol × (n ≡ length (file_of (some sol))) × (n ≤ length old) × (new ≡ over (file_of (some sol)) old)
      go (file_refused r p m b) = let t = (refusal_told file r p).0 in absurd (omega (arith, e, m, t.0, t.1))
      go (too_short p h m b) = absurd (omega (arith, e, m))
      go (impossible i h m b) = absurd (omega (arith, e, m))
      go (possible sol s h m b) = let same : n ≡ length (file_of (some sol)) = omega (arith, e, m) in (sol, s, same, omega (arith, h), b)

  -- the bytes of the first model of an accepted file are written, with their count, where there is room for them
  pub first_model_written : (sol : Solution) → outcome_of (read_question file) ≡ Ok tt → IsFirstModelOf (asked (read_question file)) sol → length (file_of (some sol)) ≤ length old →
      (c.result ≡ length (file_of (some sol)) * 256) × (new ≡ over (file_of (some sol)) old)
  first_model_written sol p f room = go (answer_ends c)
    where
      found : answer_in file ≡ some sol
      found = some_first file p sol f

      go : Answers file old c.result new → (c.result ≡ length (file_of (some sol)) * 256) × (new ≡ over (file_of (some sol)) old)
      go (file_refused r x n b) = refused_ok x p
      go (too_short x h n b) = absurd (omega (arith, room, h, ap (λ s. length (file_of s)) found))
      go (impossible i h n b) = let z : none ≡ some sol = sym ((none_means file p).1 i) ∙ found in never cc
      go (possible other s h n b) = let same = first_model_one (asked (read_question file)) sol other f s.first in rw same (n, b)

  -- it gives back more bytes than 7 exactly if the file is accepted, some assignment meets its statements, and there is room for its first model
  pub answer_possible_exactly : ((n : ℕ) × (7 < n) × (c.result ≡ n * 256)) ↔ (IsPossible file × (length (file_of (answer_in file)) ≤ length old))
  answer_possible_exactly = (λ t. from (answer_possible_bytes t.0 t.1 t.2), λ p. to p.1 ((possible_shown file).0 p.0))
    where
      from : {n : ℕ} → (sol : Solution) × IsShown file sol × (n ≡ length (file_of (some sol))) × (n ≤ length old) × (new ≡ over (file_of (some sol)) old) → IsPossible file × (length (file_of (answer_in file)) ≤ length old)
      from (sol, s, same, room, b) = ((possible_shown file).1 (sol, s), rw (some_first file s.file_accepted sol s.first) (omega (arith, same, room)))

      to : length (file_of (answer_in file)) ≤ length old → (sol : Solution) × IsShown file sol → (n : ℕ) × (7 < n) × (c.result ≡ n * 256)
      to room (sol, s) =
          let found = some_first file s.file_accepted sol s.first in
          (length (file_of (some sol)), omega (arith, some_length sol), (first_model_written sol s.file_accepted s.first (rw found at room)).0)

  -- 10 exactly if the file is accepted and the buffer is shorter than its answer
  pub answer_short_exactly : (c.result ≡ 10) ↔ ((outcome_of (read_question file) ≡ Ok tt) × (length old < length (file_of (answer_in file))))
  answer_short_exactly = (λ e. said e (answer_ends c), λ p. gives p.0 p.1 (answer_ends c))
    where
      said : c.result ≡ 10 → Answers file old c.result new → (outcome_of (read_question file) ≡ Ok tt) × (length old < length (file_of (answer_in file)))
      said e (file_refused r p n b) = let t = (refusal_told file r p).0 in absurd (omega (arith, e, n, t.0, t.1))
      said e (too_short p h n b) = (p, h)
      said e (impossible i h n b) = absurd (omega (arith, e, n))
      said e (possible sol s h n b) = absurd (omega (arith, e, n))

      gives : outcome_of (read_question file) ≡ Ok tt → length old < length (file_of (answer_in file)) → Answers file old c.result new → c.result ≡ 10
      gives p short (file_refused r x n b) = refused_ok x p
      gives p short (too_short x h n b) = n
      gives p short (impossible i h n b) = let same = ap (λ s. length (file_of s)) ((none_means file p).1 i) ∙ ap length none_file in absurd (omega (arith, short, h, same))
      gives p short (possible sol s h n b) = absurd (omega (arith, short, h, ap (λ x. length (file_of x)) (some_first file p sol s.first)))

  -- another number whose lowest byte is not 0 exactly if the file is refused, with this number at this place
  pub answer_refused_exactly : (r : Refusal) → (Tells c.result r × (r.number < 10)) ↔ (outcome_of (read_question file) ≡ Err r)
  answer_refused_exactly r = (λ t. told t.0 t.1 (answer_ends c), λ p. gives p (answer_ends c))
    where
      told : Tells c.result r → r.number < 10 → Answers file old c.result new → outcome_of (read_question file) ≡ Err r
      told t small (file_refused s p n b) = p ∙ ap Err (tells_one c.result s r (file_tells file s c.result p n).0 t)
      told t small (too_short p h n b) = absurd (omega (arith, t.0, t.1, small, n))
      told t small (impossible i h n b) = absurd (omega (arith, t.0, t.1, t.2, n))
      told t small (possible sol s h n b) = absurd (omega (arith, t.0, t.1, t.2, n))

      gives : outcome_of (read_question file) ≡ Err r → Answers file old c.result new → Tells c.result r × (r.number < 10)
      gives p (file_refused s x n b) = let same : s ≡ r = cc in rw same at (file_tells file s c.result x n)
      gives p (too_short x h n b) = refused_ok p x
      gives p (impossible i h n b) = refused_ok p i.file_accepted
      gives p (possible sol s h n b) = refused_ok p s.file_accepted

  -- with any number whose lowest byte is not 0 the buffer is as it was
  pub answer_refused_keeps : (r : Refusal) → Tells c.result r → new ≡ old
  answer_refused_keeps r t = go (answer_ends c)
    where
      go : Answers file old c.result new → new ≡ old
      go (file_refused s p n b) = b
      go (too_short p h n b) = b
      go (impossible i h n b) = absurd (omega (arith, t.0, t.1, t.2, n))
      go (possible sol s h n b) = absurd (omega (arith, t.0, t.1, t.2, n))
