-- One field put to the question so far: how it goes on to the next one, how it ends the file, and where it stops.
use Prim.Native.Nat.{ℕ, ◌+◌, ◌≤◌, ◌<◌}
use mathlib.Core.Path.{◌≡◌, refl, sym, ap, subst, ◌∙◌}
use mathlib.Core.List.{List, ◌++◌}
use lib.ListN.{length}
use Rattle.outcome.specs.declared.refusals.Refusal.{Refusal}
use Rattle.outcome.specs.Checks.{Check}
use Rattle.outcome.specs.Checks.{accepted_then}
use Rattle.outcome.proofs.Never.{never}
use Rattle.field.specs.Heads.{end_bytes}
use Rattle.statement.specs.declared.statements.Statement.{Statement}
use Rattle.question.specs.declared.questions.Question.{Question}
use Rattle.std.specs.Prelude.{Result, Ok, Err}
use Rattle.question.specs.Limits.{max_elements, max_sets, max_statements}
use Rattle.question.specs.Questions.{terms_of}
use Rattle.question.specs.Admissions.{admission, addition, admitted_at}
use Rattle.question.specs.Checks.{names_checked_at}
use Rattle.question.specs.Builds.{declaring, added}
use Rattle.question.proofs.AdmissionLaws.{names_keep, names_kept, admitted_accepted, addition_room, room_addition}
use Rattle.question_file.specs.declared.fields.Said.{Said}
use Rattle.question_file.specs.declared.fields.Said.TheVariants.{Names, Stated, Ended}
use Rattle.question_file.specs.Bodies.{body_of}
use Rattle.question_file.specs.Bytes.{names_bytes, statement_bytes}
use Rattle.question_file.specs.Fields.{said, Next, More, End, Stop, put, field_step}
use Rattle.question_file.proofs.SaidLaws.{Wrote, Says, says, names_said, statement_said, end_said}

-- what follows a check goes on, or ends, only where the check accepts
checked_more : (c : Check) (n : Next) (place : ℕ) (r : Question) → accepted_then c Stop n ≡ More place r → (c ≡ Ok tt) × (n ≡ More place r)
checked_more (Ok tt) n place r e = (refl, e)
checked_more (Err x) n place r e = never cc

-- how a field goes on to the next one
pub data Went (rest : List ℕ) (at : ℕ) (q : Question) (place : ℕ) (r : Question) : Type 0 where
  by_names : (E S : ℕ) → at ≡ 0 → E ≤ max_elements → S ≤ max_sets → Wrote (names_bytes E S) rest at place → r ≡ declaring E S → Went rest at q place r
  by_statement : (s : Statement) → (at ≡ 0 → ⊥) → q.count < max_statements → admission q.elements q.sets (terms_of q) s ≡ Ok tt → Wrote (statement_bytes s) rest at place → r ≡ added q s → Went rest at q place r

module _ (rest : List ℕ) (at : ℕ) (q : Question) where
  pub went : (place : ℕ) (r : Question) → field_step rest at q ≡ More place r → Went rest at q place r
  unfolding field_step
  went place r e = go (said at rest) (says rest at) e
    where
      go : (x : Result Said Refusal) → Says rest at x → put at q x ≡ More place r → Went rest at q place r
      go (Ok (Names E S next)) w e =
          let k = checked_more (names_checked_at at E S) (More next (declaring E S)) place r e in
          let m = k.1 in
          let here : next ≡ place = cc in
          let made : declaring E S ≡ r = cc in
          let few = names_keep at E S k.0 in
          by_names E S w.0 few.0 few.1 (subst (Wrote (names_bytes E S) rest at) here w.1) (sym made)
      go (Ok (Stated s next)) w e =
          let a = addition q.elements q.sets q.count (terms_of q) s in
          let k = checked_more (admitted_at at a) (More next (added q s)) place r e in
          let m = k.1 in
          let here : next ≡ place = cc in
          let made : added q s ≡ r = cc in
          let ok = addition_room q.elements q.sets q.count (terms_of q) s (admitted_accepted at a k.0) in
          by_statement s w.0 ok.0 ok.1 (subst (Wrote (statement_bytes s) rest at) here w.1) (sym made)
      go (Ok (Ended next)) w e = never cc
      go (Err x) w e = never cc

  -- 7F ends the file
  pub ended : (place : ℕ) → field_step rest at q ≡ End place → (at ≡ 0 → ⊥) × Wrote end_bytes rest at place
  unfolding field_step
  ended place e = go (said at rest) (says rest at) e
    where
      no_end : (c : Check) (p : ℕ) (r : Question) → accepted_then c Stop (More p r) ≡ End place → (at ≡ 0 → ⊥) × Wrote end_bytes rest at place
      no_end (Ok tt) p r e = never cc
      no_end (Err x) p r e = never cc

      go : (x : Result Said Refusal) → Says rest at x → put at q x ≡ End place → (at ≡ 0 → ⊥) × Wrote end_bytes rest at place
      go (Ok (Names E S next)) w e = no_end (names_checked_at at E S) next (declaring E S) e
      go (Ok (Stated s next)) w e = no_end (admitted_at at (addition q.elements q.sets q.count (terms_of q) s)) next (added q s) e
      go (Ok (Ended next)) w e = let here : next ≡ place = cc in (w.0, subst (Wrote end_bytes rest at) here w.1)
      go (Err x) w e = never cc

-- the test of one statement more at the place `at`
module _ (at : ℕ) (q : Question) (s : Statement) where
  abbrev pub added_at : Check
  added_at = admitted_at at (addition q.elements q.sets q.count (terms_of q) s)

  pub added_room : added_at ≡ Ok tt → q.count < max_statements
  added_room e = (addition_room q.elements q.sets q.count (terms_of q) s (admitted_accepted at (addition q.elements q.sets q.count (terms_of q) s) e)).0

-- what is said, put to the question so far, by what the check of it came to
module _ (at : ℕ) (q : Question) (next : ℕ) where
  pub put_names : (E S : ℕ) → names_checked_at at E S ≡ Ok tt → put at q (Ok (Names E S next)) ≡ More next (declaring E S)
  put_names E S e = rw e

  pub put_names_refused : (E S : ℕ) (r : Refusal) → names_checked_at at E S ≡ Err r → put at q (Ok (Names E S next)) ≡ Stop r
  put_names_refused E S r e = rw e

  pub put_stated : (s : Statement) → added_at at q s ≡ Ok tt → put at q (Ok (Stated s next)) ≡ More next (added q s)
  put_stated s e = rw e

  pub put_stated_refused : (s : Statement) (r : Refusal) → added_at at q s ≡ Err r → put at q (Ok (Stated s next)) ≡ Stop r
  put_stated_refused s r e = rw e

-- what one step does at each field that was written
module _ (at : ℕ) (q : Question) (rest : List ℕ) where
  pub statement_step : (s : Statement) → (at ≡ 0 → ⊥) → q.count < max_statements → admission q.elements q.sets (terms_of q) s ≡ Ok tt → field_step (statement_bytes s ++ rest) at q ≡ More (at + (3 + length (body_of s))) (added q s)
  unfolding field_step
  statement_step s later room ok = ap (put at q) (statement_said s rest at later) ∙ rw (room_addition q.elements q.sets q.count (terms_of q) s room ok)

  pub end_step : (at ≡ 0 → ⊥) → field_step (end_bytes ++ rest) at q ≡ End (at + 3)
  unfolding field_step
  end_step later = ap (put at q) (end_said rest at later)

pub names_step : (E S : ℕ) (rest : List ℕ) (q : Question) → E ≤ max_elements → S ≤ max_sets → field_step (names_bytes E S ++ rest) 0 q ≡ More 5 (declaring E S)
unfolding field_step
names_step E S rest q h k = ap (put 0 q) (names_said E S rest) ∙ rw (names_kept 0 E S h k)
