-- The refusal numbers of documents 01 and 02, and a refusal as its number and place.
use Rattle.std.specs.Prelude.{ℕ}
use Rattle.outcome.specs.declared.refusals.Refusal.{Refusal}

-- the data ends within a field or before 7F
abbrev pub data_ends : ℕ
data_ends = 1

-- tag unknown to this kind of file
abbrev pub tag_unknown : ℕ
tag_unknown = 2

-- known tag out of place
abbrev pub tag_out_of_place : ℕ
tag_out_of_place = 3

-- length not that of the tag
abbrev pub wrong_length : ℕ
wrong_length = 4

-- E or S above its limit; for rows, T or S
abbrev pub too_many_names : ℕ
too_many_names = 5

-- a name not declared
abbrev pub name_not_declared : ℕ
name_not_declared = 6

-- more than 64 statements, or 768 rows
abbrev pub too_many_statements : ℕ
too_many_statements = 7

-- this tag 21 would make T more than 12
abbrev pub too_many_terms : ℕ
too_many_terms = 8

-- bytes after 7F
abbrev pub bytes_after_end : ℕ
bytes_after_end = 9

-- lent buffer shorter than what must be written
abbrev pub buffer_too_short : ℕ
buffer_too_short = 10

-- bad model or answer value
abbrev pub bad_model : ℕ
bad_model = 11

-- bad row
abbrev pub bad_row : ℕ
bad_row = 12

-- a solver's lines not of document 02's form
abbrev pub bad_lines : ℕ
bad_lines = 13

-- a solver's model that the judge fails
abbrev pub model_fails : ℕ
model_fails = 14

-- the refusal with this number, at this place
abbrev pub refusal : ℕ → ℕ → Refusal
refusal number place = record { number = number; place = place }
