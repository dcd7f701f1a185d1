-- A frame is sound exactly if its head is there, its tag is known and in place, and its body has the length of the tag and is there; and so exactly if the field was written so.
use Prim.Native.Nat.{ℕ, ◌+◌, ◌-◌, ◌≤◌, ◌<◌}
use mathlib.Core.Path.{◌≡◌, refl, ap, ap₂, subst, ◌∙◌}
use mathlib.Core.Bool.{Bool, true, false, not, cond}
use mathlib.Core.List.{List, ◌++◌}
use native.Mathlib.Omega.{arith}
use borrow.Author.Tests.{ltb-false, le-ltb, lt-ltb, eqb-true, eq-eqb, not-false}
use lib.Dec.{ltb}
use lib.ListN.{length, take, drop, length-append, length-drop}
use Rattle.outcome.specs.Refusals.{refusal, data_ends, tag_unknown, tag_out_of_place, wrong_length}
use Rattle.field.specs.declared.tags.File.{File}
use Rattle.std.proofs.Common.{Option, Some, None, Result, Ok, Err}
use Rattle.outcome.specs.declared.refusals.Refusal.{Refusal}
use Rattle.field.specs.declared.frames.Due.{Due}
use Rattle.field.specs.declared.frames.Due.TheVariants.{Only}
use Rattle.field.specs.declared.frames.Frame.{Frame}
use Rattle.field.specs.Tags.{length_of, is_known, is_allowed}
use Rattle.field.specs.Heads.{field_bytes, head_of}
use Rattle.field.specs.Frames.{is_in_place, frame, framed, head_framed, frame_of}
use Rattle.field.proofs.TagLaws.{Sized, one_length}
use Rattle.field.proofs.HeadLaws.{short, head_there, head_written, head_read}
use Rattle.outcome.proofs.Never.{never}

-- what a sound frame says of the bytes from its place on
pub record IsSound (file : File) (due : Due) (size : ℕ) (rest : List ℕ) (tag n : ℕ) : Type 0 where
  pub head : head_of rest ≡ Some (tag, n)
  pub known : is_known (length_of file tag) ≡ true
  pub in_place : is_in_place due tag ≡ true
  pub allowed : is_allowed (length_of file tag) size n ≡ true
  pub there : 3 + n ≤ length rest

module _ (file : File) (due : Due) (size at : ℕ) where
  -- a frame by its head
  pub by_head : (rest : List ℕ) (h : Option (ℕ × ℕ)) → head_of rest ≡ h → frame_of file due size at rest ≡ head_framed file due size at (length rest - 3) h
  unfolding frame_of
  by_head rest h e = ap (head_framed file due size at (length rest - 3)) e

  pub head_at : (bytes : List ℕ) (tag n : ℕ) → head_of (drop at bytes) ≡ Some (tag, n) → frame_of file due size at (drop at bytes) ≡ framed file due size at tag n (length bytes - at - 3)
  head_at bytes tag n e = by_head (drop at bytes) (Some (tag, n)) e ∙ ap (λ l. framed file due size at tag n (l - 3)) (length-drop at bytes)

  module _ (rest : List ℕ) (tag n : ℕ) where
    of_head : (t m : ℕ) → head_of rest ≡ Some (t, m) → framed file due size at t m (length rest - 3) ≡ Ok (frame tag n) → IsSound file due size rest tag n
    unfolding framed
    of_head t m p e = go (not (is_known (length_of file t))) (not (is_in_place due t)) (not (is_allowed (length_of file t) size m)) (ltb (length rest - 3) m) refl refl refl refl e
      where
        go : (a b c d : Bool) → not (is_known (length_of file t)) ≡ a → not (is_in_place due t) ≡ b → not (is_allowed (length_of file t) size m) ≡ c → ltb (length rest - 3) m ≡ d →
            cond a (Err (refusal tag_unknown at)) (cond b (Err (refusal tag_out_of_place at)) (cond c (Err (refusal wrong_length at)) (cond d (Err (refusal data_ends at)) (Ok (frame t m))))) ≡ Ok (frame tag n) → IsSound file due size rest tag n
        go true b c d x y z w e = never cc
        go false true c d x y z w e = never cc
        go false false true d x y z w e = never cc
        go false false false true x y z w e = never cc
        go false false false false x y z w e =
            let same : frame t m ≡ frame tag n = cc in
            let k : t ≡ tag = ap (λ f. f.tag) same in
            let l : m ≡ n = ap (λ f. f.length) same in
            subst (λ i. IsSound file due size rest i n) k
            (subst (λ j. IsSound file due size rest t j) l
            (record { head = p; known = not-false _ x; in_place = not-false _ y; allowed = not-false _ z; there = omega (arith, head_there rest t m p, ltb-false (length rest - 3) m w) }))

    pub sound : frame_of file due size at rest ≡ Ok (frame tag n) → IsSound file due size rest tag n
    unfolding frame_of
    sound e = go (head_of rest) refl e
      where
        go : (h : Option (ℕ × ℕ)) → head_of rest ≡ h → head_framed file due size at (length rest - 3) h ≡ Ok (frame tag n) → IsSound file due size rest tag n
        go None p e = never cc
        go (Some (t, m)) p e = of_head t m p e

    pub frame_of_lem : IsSound file due size rest tag n → frame_of file due size at rest ≡ Ok (frame tag n)
    unfolding frame_of framed
    frame_of_lem f = rw (f.head, f.known, f.in_place, f.allowed, le-ltb (length rest - 3) n (omega (arith, f.there)))

    -- a field with a sound frame was written so
    pub sound_written : n < 256 → frame_of file due size at rest ≡ Ok (frame tag n) → rest ≡ field_bytes tag (take n (drop 3 rest)) ++ drop n (drop 3 rest)
    sound_written h e = let f = sound e in head_read rest tag n f.head h (simp length-drop (omega (arith, f.there)))

    -- the refusals, each behind the tests before it
    pub no_head : length rest < 3 → frame_of file due size at rest ≡ Err (refusal data_ends at)
    unfolding frame_of
    no_head h = rw (short rest h)

    module _ (head : head_of rest ≡ Some (tag, n)) where
      pub unknown : is_known (length_of file tag) ≡ false → frame_of file due size at rest ≡ Err (refusal tag_unknown at)
      unfolding frame_of framed
      unknown k = rw (head, k)

      pub out_of_place : is_known (length_of file tag) ≡ true → is_in_place due tag ≡ false → frame_of file due size at rest ≡ Err (refusal tag_out_of_place at)
      unfolding frame_of framed
      out_of_place k p = rw (head, k, p)

      pub not_its_length : is_known (length_of file tag) ≡ true → is_in_place due tag ≡ true → is_allowed (length_of file tag) size n ≡ false → frame_of file due size at rest ≡ Err (refusal wrong_length at)
      unfolding frame_of framed
      not_its_length k p a = rw (head, k, p, a)

      pub cut_short : is_known (length_of file tag) ≡ true → is_in_place due tag ≡ true → is_allowed (length_of file tag) size n ≡ true → length rest < 3 + n → frame_of file due size at rest ≡ Err (refusal data_ends at)
      unfolding frame_of framed
      cut_short k p a h = rw (head, k, p, a, lt-ltb (length rest - 3) n (omega (arith, head_there rest tag n head)))

  -- a field that was written has a sound frame
  pub written_sound : (tag : ℕ) (body rest : List ℕ) → Sized file tag size (length body) → is_in_place due tag ≡ true → frame_of file due size at (field_bytes tag body ++ rest) ≡ Ok (frame tag (length body))
  written_sound tag body rest s p =
      frame_of_lem (field_bytes tag body ++ rest) tag (length body)
      (record { head = head_written tag body rest; known = s.known; in_place = p; allowed = s.allowed; there = simp length-append (omega arith) })

  -- a field whose frame is sound lies within the data
  pub within : (bytes : List ℕ) (tag n : ℕ) → frame_of file due size at (drop at bytes) ≡ Ok (frame tag n) → at + (3 + n) ≤ length bytes
  within bytes tag n e = omega (arith, simp length-drop at (sound (drop at bytes) tag n e).there)

  -- of the bytes behind the head it matters only whether a body that is allowed is there
  pub framed_same : (tag n l m : ℕ) → (is_known (length_of file tag) ≡ true → is_allowed (length_of file tag) size n ≡ true → (n ≤ l) × (n ≤ m)) → framed file due size at tag n l ≡ framed file due size at tag n m
  unfolding framed
  framed_same tag n l m h = go (is_known (length_of file tag)) (is_allowed (length_of file tag) size n) h
    where
      go : (a b : Bool) → (a ≡ true → b ≡ true → (n ≤ l) × (n ≤ m)) →
          cond (not a) (Err (refusal tag_unknown at)) (cond (not (is_in_place due tag)) (Err (refusal tag_out_of_place at)) (cond (not b) (Err (refusal wrong_length at)) (cond (ltb l n) (Err (refusal data_ends at)) (Ok (frame tag n))))) ≡
          cond (not a) (Err (refusal tag_unknown at)) (cond (not (is_in_place due tag)) (Err (refusal tag_out_of_place at)) (cond (not b) (Err (refusal wrong_length at)) (cond (ltb m n) (Err (refusal data_ends at)) (Ok (frame tag n)))))
      go false b h = refl
      go true false h = refl
      go true true h = let k = h refl refl in rw (le-ltb l n k.0, le-ltb m n k.1)

-- where one tag is due, a sound frame has that tag and the one length of it
module _ (file : File) (due size at : ℕ) (rest : List ℕ) (tag n : ℕ) (e : frame_of file (Only due) size at rest ≡ Ok (frame tag n)) where
  pub due_tag : tag ≡ due
  due_tag = eqb-true tag due (sound file (Only due) size at rest tag n e).in_place

  pub due_length : (m : ℕ) → Sized file due size m → n ≡ m
  due_length m s = one_length file due size n m (subst (λ t. is_allowed (length_of file t) size n ≡ true) due_tag (sound file (Only due) size at rest tag n e).allowed) s.allowed

  pub sound_due : (m : ℕ) → Sized file due size m → frame_of file (Only due) size at rest ≡ Ok (frame due m)
  sound_due m s = e ∙ ap₂ (λ t l. Ok (frame t l)) due_tag (due_length m s)

-- a field that was written has a sound frame where it is due
pub due_sound : (file : File) (tag size at : ℕ) (body rest : List ℕ) → Sized file tag size (length body) → frame_of file (Only tag) size at (field_bytes tag body ++ rest) ≡ Ok (frame tag (length body))
due_sound file tag size at body rest s = written_sound file (Only tag) size at tag body rest s (eq-eqb tag tag refl)

-- the numbers with which a frame is refused, and the place
pub frame_refused : (file : File) (due : Due) (size at : ℕ) (rest : List ℕ) (r : Refusal) → frame_of file due size at rest ≡ Err r → (1 ≤ r.number) × (r.number ≤ 4) × (r.place ≡ at)
unfolding frame_of framed
frame_refused file due size at rest r e = go (head_of rest) e
  where
    is : (n : ℕ) → (1 ≤ n) × (n ≤ 4) → ◌≡◌ {A = Result Frame Refusal} (Err (refusal n at)) (Err r) → (1 ≤ r.number) × (r.number ≤ 4) × (r.place ≡ at)
    is n h e = let same : refusal n at ≡ r = cc in subst (λ k. (1 ≤ k.number) × (k.number ≤ 4) × (k.place ≡ at)) same (h.0, h.1, refl)

    left : (tag n : ℕ) (a b c d : Bool) →
        cond a (Err (refusal tag_unknown at)) (cond b (Err (refusal tag_out_of_place at)) (cond c (Err (refusal wrong_length at)) (cond d (Err (refusal data_ends at)) (Ok (frame tag n))))) ≡ Err r → (1 ≤ r.number) × (r.number ≤ 4) × (r.place ≡ at)
    left tag n true b c d e = is tag_unknown (omega arith, omega arith) e
    left tag n false true c d e = is tag_out_of_place (omega arith, omega arith) e
    left tag n false false true d e = is wrong_length (omega arith, omega arith) e
    left tag n false false false true e = is data_ends (omega arith, omega arith) e
    left tag n false false false false e = never cc

    go : (h : Option (ℕ × ℕ)) → head_framed file due size at (length rest - 3) h ≡ Err r → (1 ≤ r.number) × (r.number ≤ 4) × (r.place ≡ at)
    go None e = is data_ends (omega arith, omega arith) e
    go (Some (tag, n)) e = left tag n (not (is_known (length_of file tag))) (not (is_in_place due tag)) (not (is_allowed (length_of file tag) size n)) (ltb (length rest - 3) n) e
