-- The limits of a question. They belong to the type `Question` as its constants.
use Rattle.std.specs.Prelude.{ℕ}

abbrev pub max_elements : ℕ
max_elements = 8

abbrev pub max_sets : ℕ
max_sets = 16

abbrev pub max_statements : ℕ
max_statements = 64

abbrev pub max_terms : ℕ
max_terms = 12

abbrev pub max_rows : ℕ
max_rows = 768
