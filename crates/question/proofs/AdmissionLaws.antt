-- What it means that names, or one statement more, are accepted.
use Prim.Native.Nat.{ℕ, ◌≤◌, ◌<◌}
use mathlib.Core.Path.{◌≡◌, refl}
use mathlib.Core.Bool.{Bool, true, false, ◌||◌, cond}
use Rattle.std.specs.Prelude.{Ok, Err}
use borrow.Author.Tests.{ltb-false, le-ltb, leb-false, lt-leb}
use lib.Dec.{ltb, leb}
use Rattle.outcome.specs.Refusals.{refusal, too_many_names}
use Rattle.outcome.proofs.Never.{never}
use Rattle.outcome.proofs.CheckLaws.{refused_ok}
use Rattle.statement.specs.declared.statements.Statement.{Statement}
use Rattle.question.specs.declared.admissions.NotAdmitted.TheVariants.{TooManyStatements}
use Rattle.question.specs.Limits.{max_elements, max_sets, max_statements}
use Rattle.question.specs.Admissions.{Admission, admission, addition, admitted_at}
use Rattle.question.specs.Checks.{names_checked_at}

module _ (place E S : ℕ) where
  pub names_keep : names_checked_at place E S ≡ Ok tt → (E ≤ max_elements) × (S ≤ max_sets)
  names_keep e = go (ltb max_elements E) (ltb max_sets S) refl refl e
    where
      go : (a b : Bool) → ltb max_elements E ≡ a → ltb max_sets S ≡ b → cond (a || b) (Err (refusal too_many_names place)) (Ok (tt {0})) ≡ Ok tt → (E ≤ max_elements) × (S ≤ max_sets)
      go true b p q e = refused_ok e
      go false true p q e = refused_ok e
      go false false p q e = (ltb-false max_elements E p, ltb-false max_sets S q)

  pub names_kept : E ≤ max_elements → S ≤ max_sets → names_checked_at place E S ≡ Ok tt
  names_kept h k = rw (le-ltb max_elements E h, le-ltb max_sets S k)

pub admitted_accepted : (place : ℕ) (a : Admission) → admitted_at place a ≡ Ok tt → a ≡ Ok tt
admitted_accepted place (Ok _) e = refl
admitted_accepted place (Err why) e = refused_ok e

-- one statement more is admitted behind n others exactly if it has room and is admitted
module _ (E S n t : ℕ) (s : Statement) where
  pub addition_room : addition E S n t s ≡ Ok tt → (n < max_statements) × (admission E S t s ≡ Ok tt)
  unfolding addition
  addition_room e = go (leb max_statements n) refl e
    where
      go : (b : Bool) → leb max_statements n ≡ b → cond b (Err TooManyStatements) (admission E S t s) ≡ Ok tt → (n < max_statements) × (admission E S t s ≡ Ok tt)
      go true p e = never cc
      go false p e = (leb-false max_statements n p, e)

  pub room_addition : n < max_statements → admission E S t s ≡ Ok tt → addition E S n t s ≡ Ok tt
  unfolding addition
  room_addition h e = rw (lt-leb max_statements n h) e
