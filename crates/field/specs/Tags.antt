-- The one table of tags and body lengths of document 01, and what each kind of file knows of it.
use Rattle.std.specs.Prelude.{ℕ, Bool, true, false, cond, List, [], ◌∷◌, eqb, Option, Some, None}
use Rattle.field.specs.declared.tags.File.{File}
use Rattle.field.specs.declared.tags.File.TheVariants.{Question, Answer, Report}
use Rattle.field.specs.declared.tags.Home.{Home}
use Rattle.field.specs.declared.tags.Home.TheVariants.{In, Every}
use Rattle.field.specs.declared.tags.BodyLength.{BodyLength}
use Rattle.field.specs.declared.tags.BodyLength.TheVariants.{Fixed, Depends}
use Rattle.field.specs.declared.tags.Entry.{Entry}

-- a tag, its body length, and the files in which it stands
abbrev pub entry : ℕ → BodyLength → Home → Entry
entry tag length home = record { 0 = tag; 1 = length; 2 = home }

-- the table: each tag of question and answer files and of reports with its body length
abbrev pub field_table : List Entry
field_table =
    entry 0x01 (Fixed 2) (In Question)
    ∷ entry 0x10 (Fixed 2) (In Question)
    ∷ entry 0x11 (Fixed 2) (In Question)
    ∷ entry 0x12 (Fixed 2) (In Question)
    ∷ entry 0x13 (Fixed 2) (In Question)
    ∷ entry 0x20 (Fixed 2) (In Question)
    ∷ entry 0x21 (Fixed 2) (In Question)
    ∷ entry 0x22 (Fixed 1) (In Question)
    ∷ entry 0x23 (Fixed 2) (In Question)
    ∷ entry 0x30 (Fixed 3) (In Question)
    ∷ entry 0x31 (Fixed 3) (In Question)
    ∷ entry 0x32 (Fixed 3) (In Question)
    ∷ entry 0x40 (Fixed 1) (In Answer)
    ∷ entry 0x41 Depends (In Answer)
    ∷ entry 0x42 Depends (In Answer)
    ∷ entry 0x44 (Fixed 3) (In Report)
    ∷ entry 0x7f (Fixed 0) Every
    ∷ []

-- the kinds of files are told apart by a number
abbrev pub file_number : File → ℕ
file_number Question = 0
file_number Answer = 1
file_number Report = 2

-- each kind of file knows its own tags, and those of every file
abbrev pub knows : File → Home → Bool
knows file (In own) = eqb (file_number file) (file_number own)
knows file Every = true

-- what a file knows of an entry's tag
abbrev pub known_of : File → Entry → Option BodyLength
known_of file e = cond (knows file e.2) (Some e.1) None

-- what a file knows of a tag, by the entries of a table
unfoldable pub length_in : File → List Entry → ℕ → Option BodyLength
length_in file [] tag = None
length_in file (e ∷ es) tag = cond (eqb e.0 tag) (known_of file e) (length_in file es tag)

-- what a file knows of a tag
abbrev pub length_of : File → ℕ → Option BodyLength
length_of file = length_in file field_table

-- does the file know the tag
abbrev pub is_known : Option BodyLength → Bool
is_known None = false
is_known (Some length) = true

-- may a body have n bytes, where a length that depends is `size`
abbrev pub is_allowed : Option BodyLength → ℕ → ℕ → Bool
is_allowed None size n = false
is_allowed (Some (Fixed due)) size n = eqb n due
is_allowed (Some Depends) size n = eqb n size
