-- The frame of a field in any kind of file, with its refusals in document 01's order: 1 (head of three bytes), 2, 3, 4, 1 (body).
use Rattle.std.specs.Prelude.{ℕ, ◌-◌, Bool, not, cond, List, eqb, ltb, length, Option, Some, None, Result, Ok, Err}
use Rattle.outcome.specs.declared.refusals.Refusal.{Refusal}
use Rattle.outcome.specs.Refusals.{refusal, data_ends, tag_unknown, tag_out_of_place, wrong_length}
use Rattle.field.specs.declared.tags.File.{File}
use Rattle.field.specs.declared.frames.Due.{Due}
use Rattle.field.specs.declared.frames.Due.TheVariants.{Only, AllBut}
use Rattle.field.specs.declared.frames.Frame.{Frame}
use Rattle.field.specs.Tags.{length_of, is_known, is_allowed}
use Rattle.field.specs.Heads.{head_length, head_of}

-- may a tag that the file knows stand at a place
abbrev pub is_in_place : Due → ℕ → Bool
is_in_place (Only due) tag = eqb tag due
is_in_place (AllBut other) tag = not (eqb tag other)

-- a tag, and the length of its body
abbrev pub frame : ℕ → ℕ → Frame
frame tag n = record { tag = tag; length = n }

-- after a head at the place `at` with a tag and a length, where so many bytes are left behind it: 2, 3, 4, 1
unfoldable pub framed : File → Due → ℕ → ℕ → ℕ → ℕ → ℕ → Result Frame Refusal
framed file due size at tag n left =
    cond (not (is_known (length_of file tag))) (Err (refusal tag_unknown at))
    (cond (not (is_in_place due tag)) (Err (refusal tag_out_of_place at))
    (cond (not (is_allowed (length_of file tag) size n)) (Err (refusal wrong_length at))
    (cond (ltb left n) (Err (refusal data_ends at))
    (Ok (frame tag n)))))

-- first the head: fewer than three bytes are 1
abbrev pub head_framed : File → Due → ℕ → ℕ → ℕ → Option (ℕ × ℕ) → Result Frame Refusal
head_framed file due size at left None = Err (refusal data_ends at)
head_framed file due size at left (Some head) = framed file due size at head.0 head.1 left

-- the frame of the field at the place `at`, where `rest` are the bytes from there on, and a length that depends is `size`
unfoldable pub frame_of : File → Due → ℕ → ℕ → List ℕ → Result Frame Refusal
frame_of file due size at rest = head_framed file due size at (length rest - head_length) (head_of rest)
