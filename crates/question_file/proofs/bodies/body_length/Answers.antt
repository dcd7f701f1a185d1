-- `body_length` looks the tag up: the table's rule says that it finds the number of the statement's names.
use Rattle.std.proofs.Common.{ℕ, ◌≡◌, Option, Some, length, ap, ◌∙◌}
use Rattle.field.specs.declared.tags.File.TheVariants.{Question as QuestionFile}
use Rattle.field.specs.declared.tags.BodyLength.{BodyLength}
use Rattle.field.specs.declared.tags.BodyLength.TheVariants.{Fixed}
use Rattle.field.specs.Tags.{length_of}
use Rattle.statement.specs.declared.statements.Statement.{Statement}
use Rattle.statement.specs.Statements.{tag_of}
use Rattle.question_file.specs.Bodies.{body_of}
use Rattle.question_file.proofs.BodyLaws.{field}
use Rattle.question_file.proofs.bodies.body_length.Goals as goal

-- what is known of the tag
listed : (s : Statement) (tag : ℕ) (known : Option BodyLength) → tag ≡ tag_of s → known ≡ length_of QuestionFile tag → known ≡ Some (Fixed (length (body_of s)))
listed s tag known e k = k ∙ ap (length_of QuestionFile) e ∙ (field s).listed

pub returns-in-Some-Fixed : goal.returns-in-Some-Fixed
returns-in-Some-Fixed c = let e = listed c.args.s _ _ c.tag.ensures c.length_of.ensures in cc

pub returns-in-Some-Depends : goal.returns-in-Some-Depends
returns-in-Some-Depends c = let e = listed c.args.s _ _ c.tag.ensures c.length_of.ensures in cc

pub returns-in-None : goal.returns-in-None
returns-in-None c = let e = listed c.args.s _ _ c.tag.ensures c.length_of.ensures in cc
