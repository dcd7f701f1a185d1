-- What a field says is what was written there, and what was written is said: both ways, for each field of a question file.
use Prim.Native.Nat.{ℕ, zero, suc, ◌+◌, ◌≤◌}
use mathlib.Core.Path.{◌≡◌, refl, sym, ap, ap₂, subst, ◌∙◌}
use mathlib.Core.Bool.{Bool, true, false, cond}
use mathlib.Core.List.{List, [], ◌∷◌, ◌++◌}
use native.Mathlib.Omega.{arith}
use borrow.Author.Tests.{eqb-true, eqb-false, ne_eqb}
use lib.Dec.{eqb}
use lib.ListN.{length, get_or, take, drop, length-drop}
use lib.Seq.{length-take-le}
use Rattle.outcome.proofs.Never.{never}
use Rattle.field.specs.declared.tags.File.TheVariants.{Question as QuestionFile}
use Rattle.field.specs.declared.tags.BodyLength.TheVariants.{Fixed}
use Rattle.field.specs.declared.frames.Due.TheVariants.{Only, AllBut}
use Rattle.field.specs.declared.frames.Frame.{Frame}
use Rattle.std.proofs.Common.{Some, Result, Ok, Err}
use Rattle.outcome.specs.declared.refusals.Refusal.{Refusal}
use Rattle.field.specs.Tags.{length_of, is_allowed}
use Rattle.field.specs.Heads.{field_bytes, end_bytes}
use Rattle.field.specs.Frames.{is_in_place, frame_of}
use Rattle.field.proofs.TagLaws.{rule, fixed}
use Rattle.field.proofs.HeadLaws.{head_read}
use Rattle.field.proofs.FrameLaws.{IsSound, sound, written_sound, frame_refused}
use Rattle.statement.specs.declared.statements.Statement.{Statement}
use Rattle.statement.specs.Statements.{tag_of}
use Rattle.std.specs.Prelude.{Option, Some}
use Rattle.question_file.specs.declared.fields.Said.{Said}
use Rattle.question_file.specs.declared.fields.Said.TheVariants.{Names, Stated, Ended}
use Rattle.question_file.specs.Bodies.{body_of, statement_of}
use Rattle.question_file.specs.Bytes.{names_bytes, statement_bytes}
use Rattle.question_file.specs.Fields.{due_at, made_said, said_by, framed_said, said}
use Rattle.question_file.proofs.BodyLaws.{field, Known, names, end, stated, known}

-- a field that was written so, and what stands behind it
pub record Wrote (bytes rest : List ℕ) (at next : ℕ) : Type 0 where
  pub after : List ℕ
  pub as_read : rest ≡ bytes ++ after
  pub behind : next ≡ at + length bytes

-- what each thing that is said tells of the bytes from the place `at` on
abbrev pub Says : List ℕ → ℕ → Result Said Refusal → Type 0
Says rest at (Ok (Names E S next)) = (at ≡ 0) × Wrote (names_bytes E S) rest at next
Says rest at (Ok (Stated s next)) = (at ≡ 0 → ⊥) × Wrote (statement_bytes s) rest at next
Says rest at (Ok (Ended next)) = (at ≡ 0 → ⊥) × Wrote end_bytes rest at next
Says rest at (Err r) = (1 ≤ r.number) × (r.number ≤ 4) × (r.place ≡ at)

-- the first bytes of a body, one by one
first_bytes : (n : ℕ) (body : List ℕ) → n ≤ 3 → n ≤ length body → take n (get_or body 0 0 ∷ get_or body 1 0 ∷ get_or body 2 0 ∷ []) ≡ take n body
first_bytes zero body h k = refl
first_bytes (suc n) [] h k = absurd (omega arith)
first_bytes (suc zero) (a ∷ body) h k = refl
first_bytes (suc (suc n)) (a ∷ []) h k = absurd (omega arith)
first_bytes (suc (suc zero)) (a ∷ b ∷ body) h k = refl
first_bytes (suc (suc (suc n))) (a ∷ b ∷ []) h k = absurd (omega arith)
first_bytes (suc (suc (suc n))) (a ∷ b ∷ c ∷ body) h k = let z : n ≡ 0 = omega arith in rw z

-- 01 stands first, and nowhere else
is_first : (at : ℕ) → is_in_place (due_at at) 0x01 ≡ true → at ≡ 0
is_first at e = go (eqb at 0) refl e
  where
    go : (b : Bool) → eqb at 0 ≡ b → is_in_place (cond b (Only 0x01) (AllBut 0x01)) 0x01 ≡ true → at ≡ 0
    go true p e = eqb-true at 0 p
    go false p e = never cc

is_later : (at tag : ℕ) → eqb tag 0x01 ≡ false → is_in_place (due_at at) tag ≡ true → at ≡ 0 → ⊥
is_later at tag not_first e = go (eqb at 0) refl e
  where
    go : (b : Bool) → eqb at 0 ≡ b → is_in_place (cond b (Only 0x01) (AllBut 0x01)) tag ≡ true → at ≡ 0 → ⊥
    go true p e z = let y : false ≡ true = sym not_first ∙ e in never cc
    go false p e z = eqb-false at 0 p z

later_place : (at tag : ℕ) → (at ≡ 0 → ⊥) → eqb tag 0x01 ≡ false → is_in_place (due_at at) tag ≡ true
later_place at tag h e = rw (ne_eqb at 0 h, e)

-- what a tag says
module _ (tag : ℕ) (body : List ℕ) (at next : ℕ) where
  by_names : tag ≡ 0x01 → said_by tag body at next ≡ Ok (Names (get_or body 0 0) (get_or body 1 0) next)
  unfolding said_by
  by_names t = rw t

  by_end : tag ≡ 0x7f → said_by tag body at next ≡ Ok (Ended next)
  unfolding said_by
  by_end t = rw t

  by_made : (m : Option Statement) → eqb tag 0x01 ≡ false → eqb tag 0x7f ≡ false → statement_of tag (get_or body 0 0) (get_or body 1 0) (get_or body 2 0) ≡ m → said_by tag body at next ≡ made_said m at next
  unfolding said_by
  by_made m a b e = rw (a, b, e)

-- a field with a sound frame, by what its tag can be
module _ (rest : List ℕ) (at tag n : ℕ) (f : IsSound QuestionFile (due_at at) 0 rest tag n) where
  abbrev body : List ℕ
  body = drop 3 rest

  abbrev three : List ℕ
  three = get_or body 0 0 ∷ get_or body 1 0 ∷ get_or body 2 0 ∷ []

  long : n ≤ length body
  long = simp length-drop (omega (arith, f.there))

  due : (m : ℕ) → length_of QuestionFile tag ≡ Some (Fixed m) → n ≡ m
  due m l = eqb-true n m (sym (ap (λ x. is_allowed x 0 n) l) ∙ f.allowed)

  as_written : (t : ℕ) (b : List ℕ) → n ≤ 3 → tag ≡ t → take n three ≡ b → n ≡ length b → Wrote (field_bytes t b) rest at (at + (3 + n))
  as_written t b h e k m =
      record {
        after = drop n body;
        as_read = head_read rest tag n f.head (omega arith) long ∙ ap₂ (λ i l. field_bytes i l ++ drop n body) e (sym (first_bytes n body h long) ∙ k);
        behind = omega (arith, m);
      }

  says_sound : Known tag (length_of QuestionFile tag) → Says rest at (said_by tag body at (at + (3 + n)))
  says_sound (names t l) =
      let m : n ≡ 2 = due 2 l in
      subst (Says rest at) (sym (by_names tag body at (at + (3 + n)) t))
      (is_first at (subst (λ i. is_in_place (due_at at) i ≡ true) t f.in_place), as_written 0x01 (get_or body 0 0 ∷ get_or body 1 0 ∷ []) (omega arith) t (ap (λ i. take i three) m) m)
  says_sound (end t l) =
      let m : n ≡ 0 = due 0 l in
      subst (Says rest at) (sym (by_end tag body at (at + (3 + n)) t))
      (is_later at tag (ap (λ i. eqb i 0x01) t) f.in_place, as_written 0x7f [] (omega arith) t (ap (λ i. take i three) m) m)
  says_sound (stated m l few a b makes) =
      let made = makes (get_or body 0 0) (get_or body 1 0) (get_or body 2 0) in
      let same : take n three ≡ body_of made.statement = ap (λ i. take i three) (due m l) ∙ sym made.body in
      let size : n ≡ length (body_of made.statement) = sym (length-take-le n three (omega (arith, due m l))) ∙ ap length same in
      subst (Says rest at) (sym (by_made tag body at (at + (3 + n)) (Some made.statement) a b made.made))
      (is_later at tag a f.in_place, as_written (tag_of made.statement) (body_of made.statement) (omega (arith, due m l)) (sym made.tagged) same size)

-- what is said was written so
pub says : (rest : List ℕ) (at : ℕ) → Says rest at (said at rest)
unfolding said
says rest at = go (frame_of QuestionFile (due_at at) 0 at rest) refl
  where
    go : (x : Result Frame Refusal) → frame_of QuestionFile (due_at at) 0 at rest ≡ x → Says rest at (framed_said x rest at)
    go (Err r) p = frame_refused QuestionFile (due_at at) 0 at rest r p
    go (Ok x) p = let f = sound QuestionFile (due_at at) 0 at rest x.tag x.length p in says_sound rest at x.tag x.length f (known x.tag f.known)

-- what was written is said
module _ (tag : ℕ) (body rest : List ℕ) (at : ℕ) where
  written_said : length_of QuestionFile tag ≡ Some (Fixed (length body)) → is_in_place (due_at at) tag ≡ true → said at (field_bytes tag body ++ rest) ≡ said_by tag (body ++ rest) at (at + (3 + length body))
  unfolding said
  written_said l p = ap (λ f. framed_said f (field_bytes tag body ++ rest) at) (written_sound QuestionFile (due_at at) 0 at tag body rest (fixed QuestionFile tag 0 (length body) l) p)

pub names_said : (E S : ℕ) (rest : List ℕ) → said 0 (names_bytes E S ++ rest) ≡ Ok (Names E S 5)
unfolding said_by
names_said E S rest = written_said 0x01 (E ∷ S ∷ []) rest 0 (rule QuestionFile _) refl

pub statement_said : (s : Statement) (rest : List ℕ) (at : ℕ) → (at ≡ 0 → ⊥) → said at (statement_bytes s ++ rest) ≡ Ok (Stated s (at + (3 + length (body_of s))))
statement_said s rest at h =
    let f = field s in
    written_said (tag_of s) (body_of s) rest at f.listed (later_place at (tag_of s) h f.not_names) ∙ by_made (tag_of s) (body_of s ++ rest) at _ (Some s) f.not_names f.not_end (f.made rest)

pub end_said : (rest : List ℕ) (at : ℕ) → (at ≡ 0 → ⊥) → said at (end_bytes ++ rest) ≡ Ok (Ended (at + 3))
unfolding said_by
end_said rest at h = written_said 0x7f [] rest at (rule QuestionFile _) (later_place at 0x7f h refl)
