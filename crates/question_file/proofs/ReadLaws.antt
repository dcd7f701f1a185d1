-- The walk over the fields: each field that goes on uses up one of the 66 and lies further in the data, so the walk ends, and no more fields are ever needed.
use Rattle.std.proofs.Common.{Ok, Err}
use Prim.Native.Nat.{ℕ, zero, suc, ◌+◌, ◌-◌, ◌≤◌, ◌<◌}
use mathlib.Core.Path.{◌≡◌, refl, sym, ap, ◌∙◌}
use mathlib.Core.List.{List}
use native.Mathlib.Omega.{arith}
use borrow.Author.Tests.{lt-ltb, le-ltb}
use lib.ListN.{length, drop, length-drop, length-append}
use lib.Seq.{drop-append_seam, drop-drop}
use Rattle.outcome.specs.declared.refusals.Refusal.{Refusal}
use Rattle.outcome.specs.Refusals.{refusal, bytes_after_end}
use Rattle.question.specs.declared.questions.Question.{Question}
use Rattle.question.specs.Limits.{max_statements}
use Rattle.question.specs.Builds.{declaring}
use Rattle.question_file.specs.Fields.{Next, More, End, Stop, field_step}
use Rattle.question_file.specs.Reads.{ended_file, read_fields, max_fields, read_question}
use Rattle.question_file.proofs.SaidLaws.{Wrote}
use Rattle.question_file.proofs.StepLaws.{Went, by_names, by_statement, went}

-- what stands behind a field
pub past : (bytes field : List ℕ) (at next : ℕ) (w : Wrote field (drop at bytes) at next) → drop next bytes ≡ w.after
past bytes field at next w = ap (λ n. drop n bytes) w.behind ∙ sym (drop-drop (length field) at bytes) ∙ ap (drop (length field)) w.as_read ∙ drop-append_seam field w.after

-- a field that was written lies within the data
pub within : (bytes field : List ℕ) (at next : ℕ) → Wrote field (drop at bytes) at next → 0 < length field → (at < next) × (next ≤ length bytes)
within bytes field at next w h =
    let size : length (drop at bytes) ≡ length field + length w.after = ap length w.as_read ∙ length-append field w.after in
    (omega (arith, w.behind), omega (arith, w.behind, rw (length-drop at bytes) at size))

-- one field of the walk
module _ (bytes : List ℕ) (at : ℕ) (q : Question) (n m : ℕ) (e : n ≡ suc m) where
  pub go_on : (place : ℕ) (r : Question) → field_step (drop at bytes) at q ≡ More place r → read_fields n bytes at q ≡ read_fields m bytes place r
  unfolding read_fields
  go_on place r h = rw (e, h)

  pub stop_end : (place : ℕ) → field_step (drop at bytes) at q ≡ End place → read_fields n bytes at q ≡ ended_file (length bytes) place q
  unfolding read_fields
  stop_end place h = rw (e, h)

  pub stop_refused : (r : Refusal) → field_step (drop at bytes) at q ≡ Stop r → read_fields n bytes at q ≡ Err r
  unfolding read_fields
  stop_refused r h = rw (e, h)

-- so many fields are enough from a place on: one more than the statements that have room, and field 01 before them
pub record Enough (at : ℕ) (q : Question) (fields : ℕ) : Type 0 where
  pub room : max_statements < fields + q.count
  pub first : at ≡ 0 → max_fields ≤ fields
  pub few : q.count ≤ max_statements

-- what a field that goes on leaves: fewer bytes, and one field less that is still enough
pub record Ahead (bytes : List ℕ) (at place fields : ℕ) (r : Question) : Type 0 where
  pub further : at < place
  pub within : place ≤ length bytes
  pub enough : (left : ℕ) → fields ≡ suc left → Enough place r left

module _ (bytes : List ℕ) (at : ℕ) (q : Question) (place : ℕ) (r : Question) where
  ahead_of : (fields : ℕ) → Enough at q fields → Went (drop at bytes) at q place r → Ahead bytes at place fields r
  ahead_of fields k (by_names E S first a b w made) =
      let f = within bytes _ at place w (omega arith) in
      let count : r.count ≡ 0 = ap (λ x. x.count) made in
      let room = k.first first in
      record { further = f.0; within = f.1; enough = λ left g. record { room = omega arith; first = λ z. absurd (omega (arith, f.0)); few = omega arith } }
  ahead_of fields k (by_statement s later full admitted w made) =
      let f = within bytes _ at place w (omega arith) in
      let count : r.count ≡ q.count + 1 = ap (λ x. x.count) made in
      record { further = f.0; within = f.1; enough = λ left g. record { room = omega (arith, k.room); first = λ z. absurd (omega (arith, f.0)); few = omega arith } }

  pub ahead : (fields : ℕ) → Enough at q fields → field_step (drop at bytes) at q ≡ More place r → Ahead bytes at place fields r
  ahead fields k e = ahead_of fields k (went (drop at bytes) at q place r e)

-- with enough fields the answer is one
pub enough_same : (bytes : List ℕ) (at : ℕ) (q : Question) (m n : ℕ) → Enough at q m → Enough at q n → read_fields m bytes at q ≡ read_fields n bytes at q
enough_same bytes at q zero n k l = absurd (omega (arith, k.room, k.few))
enough_same bytes at q (suc m) n k l = go (field_step (drop at bytes) at q) refl (λ place r a b. enough_same bytes place r m (n - 1) a b)
  where
    back : n ≡ suc (n - 1)
    back = omega (arith, l.room, l.few)

    go : (x : Next) → field_step (drop at bytes) at q ≡ x → ((place : ℕ) (r : Question) → Enough place r m → Enough place r (n - 1) → read_fields m bytes place r ≡ read_fields (n - 1) bytes place r) →
        read_fields (suc m) bytes at q ≡ read_fields n bytes at q
    go (More place r) e more =
        go_on bytes at q (suc m) m refl place r e
        ∙ more place r ((ahead bytes at q place r (suc m) k e).enough m refl) ((ahead bytes at q place r n l e).enough (n - 1) back)
        ∙ sym (go_on bytes at q n (n - 1) back place r e)
    go (End place) e more = stop_end bytes at q (suc m) m refl place e ∙ sym (stop_end bytes at q n (n - 1) back place e)
    go (Stop r) e more = stop_refused bytes at q (suc m) m refl r e ∙ sym (stop_refused bytes at q n (n - 1) back r e)

enough_at_first : (fields : ℕ) → max_fields ≤ fields → Enough 0 (declaring 0 0) fields
enough_at_first fields h = record { room = omega arith; first = λ _. h; few = omega arith }

-- reading ends after 66 fields at the most, whatever the length of the data: to be let read more alters nothing
pub no_more_fields : (bytes : List ℕ) (fields : ℕ) → max_fields ≤ fields → read_fields fields bytes 0 (declaring 0 0) ≡ read_question bytes
no_more_fields bytes fields h = enough_same bytes 0 (declaring 0 0) fields max_fields (enough_at_first fields h) (enough_at_first max_fields (omega arith))

-- where the reader's loop stands: the question of the whole file is that of the fields from here on
pub record Reached (bytes : List ℕ) (at : ℕ) (q : Question) : Type 0 where
  pub fields : ℕ
  pub enough : Enough at q fields
  pub same : read_question bytes ≡ read_fields fields bytes at q

pub at_first : (bytes : List ℕ) → Reached bytes 0 (declaring 0 0)
at_first bytes = record { fields = max_fields; enough = enough_at_first max_fields (omega arith); same = refl }

-- a turn of the loop, by what the field leads to
module _ (bytes : List ℕ) (at : ℕ) (q : Question) (k : Reached bytes at q) where
  one_less : k.fields ≡ suc (k.fields - 1)
  one_less = omega (arith, k.enough.room, k.enough.few)

  pub moved : (place : ℕ) (r : Question) → field_step (drop at bytes) at q ≡ More place r → (at < place) × (place ≤ length bytes)
  moved place r h = let a = ahead bytes at q place r k.fields k.enough h in (a.further, a.within)

  pub more_reached : (place : ℕ) (r : Question) → field_step (drop at bytes) at q ≡ More place r → Reached bytes place r
  more_reached place r h =
      record {
        fields = k.fields - 1;
        enough = (ahead bytes at q place r k.fields k.enough h).enough (k.fields - 1) one_less;
        same = k.same ∙ go_on bytes at q k.fields (k.fields - 1) one_less place r h;
      }

  end_reached : (place : ℕ) → field_step (drop at bytes) at q ≡ End place → read_question bytes ≡ ended_file (length bytes) place q
  end_reached place h = k.same ∙ stop_end bytes at q k.fields (k.fields - 1) one_less place h

  pub extra_reached : (place : ℕ) → field_step (drop at bytes) at q ≡ End place → place < length bytes → read_question bytes ≡ Err (refusal bytes_after_end place)
  extra_reached place h l = end_reached place h ∙ rw (lt-ltb place (length bytes) l)

  pub whole_reached : (place : ℕ) → field_step (drop at bytes) at q ≡ End place → length bytes ≤ place → read_question bytes ≡ Ok q
  whole_reached place h l = end_reached place h ∙ rw (le-ltb place (length bytes) l)

  pub stop_reached : (r : Refusal) → field_step (drop at bytes) at q ≡ Stop r → read_question bytes ≡ Err r
  stop_reached r h = k.same ∙ stop_refused bytes at q k.fields (k.fields - 1) one_less r h
