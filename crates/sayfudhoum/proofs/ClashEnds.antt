-- The clash for C, on the contract of `sayfudhoum_clash`: the ways in which a call ends, for all bytes, and what a caller may conclude from the number and the three buffers.
use Rattle.std.proofs.Common.{Ok, Err}
use Prim.Native.Nat.{ℕ, ◌+◌, ◌*◌, ◌/◌, ◌^◌, ◌≤◌, ◌<◌}
use mathlib.Core.Path.{◌≡◌, refl, sym, ap, subst, ◌∙◌}
use mathlib.Core.Bool.{Bool, true, false}
use mathlib.Core.List.{List, [], ◌∷◌}
use mathlib.Core.Logic.{◌↔◌}
use mathlib.Core.Option.{Option, none, some}
use native.Mathlib.Omega.{arith}
use lib.Arith.{digits_div}
use lib.ListN.{length, get_or, length-map}
use Rattle.outcome.specs.declared.refusals.Refusal.{Refusal}
use Rattle.outcome.specs.Checks.{Check, outcome_of}
use Rattle.outcome.specs.Calls.{Call}
use Rattle.outcome.specs.Checks.{accepted_then}
use Rattle.outcome.specs.Writes.{over}
use Rattle.outcome.proofs.Never.{never}
use Rattle.statement.specs.Meaning.{CantHold, CanHold}
use Rattle.question.specs.declared.questions.Question.{Question}
use Rattle.question.specs.Questions.{idle, statements}
use Rattle.question.specs.Checks.{IsAccepted}
use Rattle.question.specs.Builds.{declaring, unused_table, without}
use Rattle.question.proofs.StatementsLaws.{statements_length}
use Rattle.question_file.specs.Bytes.{statements_bytes, file_bytes, question_bytes}
use Rattle.outcome.proofs.CheckLaws.{then_by_outcome}
use Rattle.question.specs.Builds.{declaring}
use Rattle.question_file.specs.Reads.{read_question, asked}
use Rattle.question_file.proofs.RefusalLaws.{refusal_told}
use Rattle.question_file.proofs.RoundTrips.{read_checked, written_again}
use Rattle.question_file.proofs.WriterLaws.{longest}
use Rattle.theory.specs.Solutions.{Solution}
use Rattle.theory.specs.Answers.{as_model}
use Rattle.answer.specs.Bytes.{file_of}
use Rattle.clash.specs.Clashes.{clashing, Rising, statements_at, part_of}
use Rattle.clash.specs.Parts.{IsClash}
use Rattle.clash.specs.Files.{Three, three, any_short, three_written, three_over, clash_bytes, clash_written, clash_over}
use Rattle.clash.proofs.PartLaws.{clash_is, clash_some, possible_none, possible_part, part_stated, indexes_rise, part_back, part_whole}
use Rattle.clash.proofs.ThreeLaws.{three_same, three_short, three_fit}
use Rattle.sayfudhoum.specs.Files.{answer_in}
use Rattle.sayfudhoum.specs.Numbers.{counts_number, clashed_number, clash_number}
use Rattle.sayfudhoum.proofs.EndToEnd.{IsImpossible, IsPossible, IsShown, impossible_file, question_accepted, none_means, some_shown, refused_ok, not_both, possible_shown, none_file}
use Rattle.sayfudhoum.proofs.Exactness.{Tells, tells_one, file_tells}
use Rattle.sayfudhoum.proofs.exports.sayfudhoum_clash.Reads as clash_call

-- a file of the clashing part of an impossible file, with the old indexes of its statements
pub record IsClashOf (bytes part indexes : List ℕ) : Type 0 where
  pub file_impossible : IsImpossible bytes
  pub part_impossible : IsImpossible part
  pub none_spared : (i : ℕ) → i < length indexes → CanHold (asked (read_question part)).elements (without i 1 (statements (asked (read_question part))))
  pub same_elements : (asked (read_question part)).elements ≡ (asked (read_question bytes)).elements
  pub same_sets : (asked (read_question part)).sets ≡ (asked (read_question bytes)).sets
  pub at_indexes : statements (asked (read_question part)) ≡ statements_at (asked (read_question bytes)) indexes
  pub rising : Rising 0 (length (statements (asked (read_question bytes)))) indexes
  pub whole : (part ≡ bytes) ↔ IsClash (asked (read_question bytes)).elements (statements (asked (read_question bytes)))

-- the file with the names alone, which is the part of a possible file
abbrev pub names_file : ℕ → ℕ → List ℕ
names_file E S = 0x01 ∷ 0x00 ∷ 0x02 ∷ E ∷ S ∷ 0x7f ∷ 0x00 ∷ 0x00 ∷ []

names_file_lem : (E S : ℕ) → question_bytes (declaring E S) ≡ names_file E S
unfolding file_bytes statements statements_bytes unused_table
names_file_lem E S = refl

-- that of a file's names
abbrev pub names_in : List ℕ → List ℕ
names_in bytes = names_file (asked (read_question bytes)).elements (asked (read_question bytes)).sets

-- the ways in which `sayfudhoum_clash` ends: the number that it gives back, and the buffers that it leaves
pub data Clashes (bytes : List ℕ) (old : Three) (number : ℕ) (new : Three) : Type 0 where
  file_refused : (r : Refusal) → outcome_of (read_question bytes) ≡ Err r → number ≡ r.place * 256 + r.number → new ≡ old → Clashes bytes old number new
  too_short : outcome_of (read_question bytes) ≡ Ok tt → any_short (clash_bytes (asked (read_question bytes))) old ≡ true → number ≡ 10 → new ≡ old → Clashes bytes old number new
  impossible : (part indexes : List ℕ) → IsClashOf bytes part indexes → 1 ≤ length indexes → clash_bytes (asked (read_question bytes)) ≡ three part indexes impossible_file → any_short (three part indexes impossible_file) old ≡ false → number ≡ counts_number (length part) (length indexes) 7 →
      new ≡ three (over part old.part) (over indexes old.indexes) (over impossible_file old.answer) → Clashes bytes old number new
  possible : (sol : Solution) → IsShown bytes sol → clash_bytes (asked (read_question bytes)) ≡ three (names_in bytes) [] (file_of (some sol)) → any_short (three (names_in bytes) [] (file_of (some sol))) old ≡ false → number ≡ counts_number 8 0 (length (file_of (some sol))) →
      new ≡ three (over (names_in bytes) old.part) old.indexes (over (file_of (some sol)) old.answer) → Clashes bytes old number new

-- the part of an accepted file
module _ (bytes : List ℕ) (e : outcome_of (read_question bytes) ≡ Ok tt) where
  abbrev q : Question
  q = asked (read_question bytes)

  is : IsAccepted q
  is = (question_accepted bytes e).0

  clash_of : IsImpossible bytes → IsClashOf bytes (question_bytes (part_of q)) (clashing q)
  unfolding part_of
  clash_of i =
      let c = clash_is q is i.no_assignment in
      let back = part_back q is in
      let own = part_whole q is i.no_assignment in
      let again = written_again bytes e in
      record {
        file_impossible = i;
        part_impossible = record { file_accepted = ap outcome_of back; no_assignment = subst (λ r. CantHold (asked r).elements (statements (asked r))) (sym back) c.cant_hold };
        none_spared = λ j lt. subst (λ r. CanHold (asked r).elements (without j 1 (statements (asked r)))) (sym back) (c.none_spared j (omega (arith, ap length (part_stated q is), length-map (clashing q) (λ i. get_or (statements q) i idle.statement))));
        same_elements = ap (λ r. (asked r).elements) back;
        same_sets = ap (λ r. (asked r).sets) back;
        at_indexes = ap (λ r. statements (asked r)) back ∙ part_stated q is;
        rising = indexes_rise q is;
        whole = (λ p. own.0 (p ∙ sym again), λ x. own.1 x ∙ again);
      }

  -- what is to be written, by the answer
  module _ (old : Three) where
    none_ends : answer_in bytes ≡ none → any_short (clash_bytes q) old ≡ false → Clashes bytes old (clashed_number (three_written (clash_bytes q) old)) (three_over (clash_bytes q) old)
    none_ends n fit =
        let i = (none_means bytes e).0 n in
        let file = ap file_of n ∙ none_file in
        let all : clash_bytes q ≡ three (question_bytes (part_of q)) (clashing q) impossible_file = ap (three (question_bytes (part_of q)) (clashing q)) file in
        let w = three_fit (clash_bytes q) old fit in
        impossible (question_bytes (part_of q)) (clashing q) (clash_of i) (clash_some q is i.no_assignment) all (subst (λ t. any_short t old ≡ false) all fit)
        (ap clashed_number w.0 ∙ ap (λ f. counts_number (length (question_bytes (part_of q))) (length (clashing q)) (length f)) file)
        (w.1 ∙ ap (λ f. three (over (question_bytes (part_of q)) old.part) (over (clashing q) old.indexes) (over f old.answer)) file)

    some_ends : (sol : Solution) → answer_in bytes ≡ some sol → any_short (clash_bytes q) old ≡ false → Clashes bytes old (clashed_number (three_written (clash_bytes q) old)) (three_over (clash_bytes q) old)
    some_ends sol n fit =
        let s = some_shown bytes e sol n in
        let can : CanHold q.elements (statements q) = record { by = as_model sol; assignment = s.assignment; holding = s.holding } in
        let all : clash_bytes q ≡ three (names_in bytes) [] (file_of (some sol)) = three_same (ap question_bytes (possible_part q is can) ∙ names_file_lem q.elements q.sets) (possible_none q is can) (ap file_of n) in
        let w = three_fit (clash_bytes q) old fit in
        possible sol s all (subst (λ t. any_short t old ≡ false) all fit)
        (ap clashed_number w.0 ∙ ap (λ t. counts_number (length t.part) (length t.indexes) (length t.answer)) all)
        (w.1 ∙ ap (λ t. three (over t.part old.part) (over t.indexes old.indexes) (over t.answer old.answer)) all)

module _ (bytes : List ℕ) (old : Three) where
  clashes : Clashes bytes old (clash_number bytes old) (clash_over bytes old)
  unfolding clash_number clash_written clash_over
  clashes =
      rw (
        then_by_outcome (declaring 0 0) (read_question bytes) Err (λ q. three_written (clash_bytes q) old),
        then_by_outcome (declaring 0 0) (read_question bytes) (λ r. old) (λ q. three_over (clash_bytes q) old),
      ) (go (outcome_of (read_question bytes)) (answer_in bytes) (any_short (clash_bytes (asked (read_question bytes))) old) refl refl refl)
    where
      q : Question
      q = asked (read_question bytes)

      go : (o : Check) (s : Option Solution) (short : Bool) → outcome_of (read_question bytes) ≡ o → answer_in bytes ≡ s → any_short (clash_bytes q) old ≡ short →
          Clashes bytes old (clashed_number (accepted_then o Err (three_written (clash_bytes q) old))) (accepted_then o (λ r. old) (three_over (clash_bytes q) old))
      go (Err r) s short p n h = file_refused r p refl refl
      go (Ok tt) s true p n h = let k = three_short (clash_bytes q) old h in too_short p h (ap clashed_number k.0) k.1
      go (Ok tt) none false p n h = none_ends bytes p old n h
      go (Ok tt) (some sol) false p n h = some_ends bytes p old sol n h

-- two digits in one number, and three counts in one: they can be told apart
upper : (n p v x y : ℕ) → p < n → x < n → v * n + p ≡ y * n + x → v ≡ y
upper n p v x y ph xh e = sym (digits_div v ph) ∙ ap (λ z. z / n) e ∙ digits_div y xh

counts_one : (p i a x j b : ℕ) → p < 2 ^ 16 → x < 2 ^ 16 → i < 2 ^ 8 → j < 2 ^ 8 → counts_number p i a ≡ counts_number x j b → (p ≡ x) × (i ≡ j) × (a ≡ b)
counts_one p i a x j b ph xh ih jh e =
    let rest : i + a * 256 ≡ j + b * 256 = upper (2 ^ 16) p (i + a * 256) x (j + b * 256) ph xh (omega (arith, e)) in
    let last : a ≡ b = upper (2 ^ 8) i a j b ih jh (omega (arith, rest)) in
    (omega (arith, e, rest), omega (arith, rest, last), last)

-- a part and its indexes are few enough for that
clash_small : (bytes part indexes : List ℕ) → IsClashOf bytes part indexes → (length part < 2 ^ 16) × (length indexes < 2 ^ 8)
clash_small bytes part indexes c =
    let ok = c.part_impossible.file_accepted in
    let few = question_accepted part ok in
    let size : length (statements (asked (read_question part))) ≡ length indexes = ap length c.at_indexes ∙ length-map indexes _ in
    (omega (arith, ap length few.1, longest (asked (read_question part)) (read_checked part ok)), omega (arith, size, statements_length (asked (read_question part)), few.0.few_statements))

-- a call of `sayfudhoum_clash` on a file, with three buffers
module _ (c : Call clash_call.Learnt) where
  abbrev file : List ℕ
  file = c.given.0.now

  abbrev old : Three
  old = three c.given.1.0.now c.given.1.1.0.now c.given.1.1.1.0.now

  abbrev new : Three
  new = three c.exit.1.0.now c.exit.1.1.0.now c.exit.1.1.1.0.now

  -- it ends in one of those ways
  pub clash_ends : Clashes file old c.result new
  clash_ends = subst (λ n. Clashes file old n new) (sym c.fits.0) (subst (Clashes file old (clash_number file old)) (sym c.fits.1) (clashes file old))

  -- each buffer has room for what is to be written into it
  abbrev pub HasRoom : Type 0
  HasRoom = any_short (clash_bytes (asked (read_question file))) old ≡ false

  -- the number has a count of indexes, which is not 0
  abbrev pub CountsIndexes : Type 0
  CountsIndexes = (p : ℕ) × (i : ℕ) × (a : ℕ) × (p < 2 ^ 16) × (1 ≤ i) × (i < 2 ^ 8) × (c.result ≡ counts_number p i a)

  -- or which is 0
  abbrev pub CountsNone : Type 0
  CountsNone = (p : ℕ) × (a : ℕ) × (p < 2 ^ 16) × (c.result ≡ counts_number p 0 a)

  -- indexes are counted exactly if the file is accepted, no assignment meets its statements, and there is room
  pub clash_impossible_exactly : CountsIndexes ↔ (IsImpossible file × HasRoom)
  clash_impossible_exactly = (λ k. said k clash_ends, λ x. gives x.0 x.1 clash_ends)
    where
      said : CountsIndexes → Clashes file old c.result new → IsImpossible file × HasRoom
      said (p, i, a, ph, one, ih, e) (file_refused r x n b) = let t = (refusal_told file r x).0 in absurd (omega (arith, e, n, t.0, t.1))
      said (p, i, a, ph, one, ih, e) (too_short x h n b) = absurd (omega (arith, e, n))
      said (p, i, a, ph, one, ih, e) (impossible part indexes k any all fit n b) = (k.file_impossible, subst (λ t. any_short t old ≡ false) (sym all) fit)
      said (p, i, a, ph, one, ih, e) (possible sol s all fit n b) = let same = counts_one p i a 8 0 _ ph (omega arith) ih (omega arith) (sym e ∙ n) in absurd (omega (arith, one, same.1))

      gives : IsImpossible file → HasRoom → Clashes file old c.result new → CountsIndexes
      gives x room (file_refused r y n b) = refused_ok y x.file_accepted
      gives x room (too_short y h n b) = never cc
      gives x room (impossible part indexes k any all fit n b) = let few = clash_small file part indexes k in (length part, length indexes, 7, few.0, any, few.1, n)
      gives x room (possible sol s all fit n b) = not_both x ((possible_shown file).1 (sol, s))

  -- no index is counted exactly if the file is accepted, some assignment meets its statements, and there is room
  pub clash_possible_exactly : CountsNone ↔ (IsPossible file × HasRoom)
  clash_possible_exactly = (λ k. said k clash_ends, λ x. gives x.0 x.1 clash_ends)
    where
      said : CountsNone → Clashes file old c.result new → IsPossible file × HasRoom
      said (p, a, ph, e) (file_refused r x n b) = let t = (refusal_told file r x).0 in absurd (omega (arith, e, n, t.0, t.1))
      said (p, a, ph, e) (too_short x h n b) = absurd (omega (arith, e, n))
      said (p, a, ph, e) (impossible part indexes k any all fit n b) =
          let few = clash_small file part indexes k in
          let same = counts_one p 0 a (length part) (length indexes) 7 ph few.0 (omega arith) few.1 (sym e ∙ n) in
          absurd (omega (arith, any, same.1))
      said (p, a, ph, e) (possible sol s all fit n b) = ((possible_shown file).1 (sol, s), subst (λ t. any_short t old ≡ false) (sym all) fit)

      gives : IsPossible file → HasRoom → Clashes file old c.result new → CountsNone
      gives x room (file_refused r y n b) = refused_ok y x.file_accepted
      gives x room (too_short y h n b) = never cc
      gives x room (impossible part indexes k any all fit n b) = not_both k.file_impossible x
      gives x room (possible sol s all fit n b) = (8, length (file_of (some sol)), omega arith, n)

  -- 10 exactly if the file is accepted and a buffer is shorter than what is to be written into it
  pub clash_short_exactly : (c.result ≡ 10) ↔ ((outcome_of (read_question file) ≡ Ok tt) × (any_short (clash_bytes (asked (read_question file))) old ≡ true))
  clash_short_exactly = (λ e. said e clash_ends, λ p. gives p.0 p.1 clash_ends)
    where
      said : c.result ≡ 10 → Clashes file old c.result new → (outcome_of (read_question file) ≡ Ok tt) × (any_short (clash_bytes (asked (read_question file))) old ≡ true)
      said e (file_refused r p n b) = let t = (refusal_told file r p).0 in absurd (omega (arith, e, n, t.0, t.1))
      said e (too_short p h n b) = (p, h)
      said e (impossible part indexes k any all fit n b) = absurd (omega (arith, e, n))
      said e (possible sol s all fit n b) = absurd (omega (arith, e, n))

      gives : outcome_of (read_question file) ≡ Ok tt → any_short (clash_bytes (asked (read_question file))) old ≡ true → Clashes file old c.result new → c.result ≡ 10
      gives p short (file_refused r x n b) = refused_ok x p
      gives p short (too_short x h n b) = n
      gives p short (impossible part indexes k any all fit n b) = let both = sym short ∙ subst (λ t. any_short t old ≡ false) (sym all) fit in never cc
      gives p short (possible sol s all fit n b) = let both = sym short ∙ subst (λ t. any_short t old ≡ false) (sym all) fit in never cc

  -- another number whose lowest byte is not 0 exactly if the file is refused, with this number at this place
  pub clash_refused_exactly : (r : Refusal) → (Tells c.result r × (r.number < 10)) ↔ (outcome_of (read_question file) ≡ Err r)
  clash_refused_exactly r = (λ t. told t.0 t.1 clash_ends, λ p. gives p clash_ends)
    where
      told : Tells c.result r → r.number < 10 → Clashes file old c.result new → outcome_of (read_question file) ≡ Err r
      told t small (file_refused s p n b) = p ∙ ap Err (tells_one c.result s r (file_tells file s c.result p n).0 t)
      told t small (too_short p h n b) = absurd (omega (arith, t.0, t.1, small, n))
      told t small (impossible part indexes k any all fit n b) = absurd (omega (arith, t.0, t.1, t.2, n))
      told t small (possible sol s all fit n b) = absurd (omega (arith, t.0, t.1, t.2, n))

      gives : outcome_of (read_question file) ≡ Err r → Clashes file old c.result new → Tells c.result r × (r.number < 10)
      gives p (file_refused s x n b) = let same : s ≡ r = cc in rw same at (file_tells file s c.result x n)
      gives p (too_short x h n b) = refused_ok p x
      gives p (impossible part indexes k any all fit n b) = refused_ok p k.file_impossible.file_accepted
      gives p (possible sol s all fit n b) = refused_ok p s.file_accepted

  -- with any number whose lowest byte is not 0 all three buffers are as they were
  pub clash_refused_keeps : (r : Refusal) → Tells c.result r → new ≡ old
  clash_refused_keeps r t = go clash_ends
    where
      go : Clashes file old c.result new → new ≡ old
      go (file_refused s p n b) = b
      go (too_short p h n b) = b
      go (impossible part indexes k any all fit n b) = absurd (omega (arith, t.0, t.1, t.2, n))
      go (possible sol s all fit n b) = absurd (omega (arith, t.0, t.1, t.2, n))

  -- where indexes are counted, what stands in the buffers is the clashing part of the file, its indexes, and "impossible"
  pub clash_written_lem : CountsIndexes → (part : List ℕ) × (indexes : List ℕ) × IsClashOf file part indexes × (c.result ≡ counts_number (length part) (length indexes) 7)
      × (new ≡ three (over part old.part) (over indexes old.indexes) (over impossible_file old.answer))
  clash_written_lem k = go k clash_ends
    where
      go : CountsIndexes → Clashes file old c.result new → (part : List ℕ) × (indexes : List ℕ) × IsClashOf file part indexes × (c.result ≡ counts_number (length part) (length indexes) 7)
          × (new ≡ three (over part old.part) (over indexes old.indexes) (over impossible_file old.answer))
      go (p, i, a, ph, one, ih, e) (file_refused r x n b) = let t = (refusal_told file r x).0 in absurd (omega (arith, e, n, t.0, t.1))
      go (p, i, a, ph, one, ih, e) (too_short x h n b) = absurd (omega (arith, e, n))
      go (p, i, a, ph, one, ih, e) (impossible part indexes k any all fit n b) = (part, indexes, k, n, b)
      go (p, i, a, ph, one, ih, e) (possible sol s all fit n b) = let same = counts_one p i a 8 0 _ ph (omega arith) ih (omega arith) (sym e ∙ n) in absurd (omega (arith, one, same.1))
