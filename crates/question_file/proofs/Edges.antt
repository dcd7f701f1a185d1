-- The edges that document 01 names, and case I as bytes, computed.
use Rattle.std.proofs.Common.{Ok, Err}
use Prim.Native.Nat.{ℕ}
use mathlib.Core.Path.{◌≡◌, refl}
use mathlib.Core.List.{List, [], ◌∷◌, ◌++◌}
use lib.ListN.{length, replicate}
use Rattle.statement.specs.declared.statements.Statement.{Statement}
use Rattle.statement.specs.declared.statements.Statement.TheVariants.{In, SetsDiffer, Single, Union}
use Rattle.outcome.specs.Refusals.{refusal, data_ends, tag_unknown, tag_out_of_place, too_many_names, too_many_statements, too_many_terms, bytes_after_end}
use Rattle.outcome.specs.Checks.{outcome_of}
use Rattle.question.specs.Questions.{question_of, statements, terms_of}
use Rattle.statement.specs.Statements.{witness, witnesses}
use Rattle.question.specs.Admissions.{admission, addition}
use Rattle.field.specs.Tags.{length_in}
use Rattle.field.specs.Heads.{head_of}
use Rattle.question_file.specs.Bodies.{element_name, set_name, statement_of}
use Rattle.question_file.specs.Bytes.{statements_bytes, file_bytes}
use Rattle.field.specs.Frames.{framed, frame_of}
use Rattle.question.specs.Builds.{unused_table}
use Rattle.question_file.specs.Fields.{said_by, said, field_step}
use Rattle.question_file.specs.Reads.{read_fields, read_question}

-- case I: E=1 S=2, s0={e0}, s0≠s1, e0 in s1
case_i : List ℕ
case_i = 0x01 ∷ 0x00 ∷ 0x02 ∷ 0x01 ∷ 0x02 ∷ 0x23 ∷ 0x00 ∷ 0x02 ∷ 0x00 ∷ 0x00 ∷ 0x21 ∷ 0x00 ∷ 0x02 ∷ 0x00 ∷ 0x01 ∷ 0x12 ∷ 0x00 ∷ 0x02 ∷ 0x00 ∷ 0x01 ∷ 0x7f ∷ 0x00 ∷ 0x00 ∷ []

case_I_read : read_question case_i ≡ Ok (question_of 1 2 (Single (set_name 0) (element_name 0) ∷ SetsDiffer (set_name 0) (set_name 1) ∷ In (element_name 0) (set_name 1) ∷ []))
unfolding unused_table case_i read_fields field_step said frame_of framed said_by head_of length_in statement_of addition admission terms_of statements witnesses witness
case_I_read = refl

empty_input : read_question [] ≡ Err (refusal data_ends 0)
unfolding read_fields field_step said frame_of head_of
empty_input = refl

end_alone : read_question (0x7f ∷ 0x00 ∷ 0x00 ∷ []) ≡ Err (refusal tag_out_of_place 0)
unfolding read_fields field_step said frame_of framed head_of length_in
end_alone = refl

verdict_first : read_question (0x40 ∷ 0x00 ∷ 0x01 ∷ 0x01 ∷ []) ≡ Err (refusal tag_unknown 0)
unfolding read_fields field_step said frame_of framed head_of length_in
verdict_first = refl

seventeen_sets : read_question (file_bytes 0 17 []) ≡ Err (refusal too_many_names 0)
unfolding file_bytes statements_bytes read_fields field_step said frame_of framed said_by head_of length_in
seventeen_sets = refl

extra_byte : read_question (file_bytes 0 0 [] ++ (0x00 ∷ [])) ≡ Err (refusal bytes_after_end 8)
unfolding file_bytes statements_bytes read_fields field_step said frame_of framed said_by head_of length_in
extra_byte = refl

differ : Statement
differ = SetsDiffer (set_name 0) (set_name 1)

four_witnesses : outcome_of (read_question (file_bytes 8 2 (replicate 4 differ))) ≡ Ok tt
unfolding unused_table differ file_bytes statements_bytes read_fields field_step said frame_of framed said_by head_of length_in statement_of addition admission terms_of statements witnesses witness
four_witnesses = refl

fifth_witness : read_question (file_bytes 8 2 (replicate 5 differ)) ≡ Err (refusal too_many_terms 25)
unfolding unused_table differ file_bytes statements_bytes read_fields field_step said frame_of framed said_by head_of length_in statement_of addition admission terms_of statements witnesses witness
fifth_witness = refl

union : Statement
union = Union (set_name 0) (set_name 0) (set_name 0)

longest_reached : length (file_bytes 0 1 (replicate 64 union)) ≡ 392
unfolding union file_bytes statements_bytes
longest_reached = refl

last_statement : outcome_of (read_question (file_bytes 0 1 (replicate 64 union))) ≡ Ok tt
unfolding unused_table union file_bytes statements_bytes read_fields field_step said frame_of framed said_by head_of length_in statement_of addition admission terms_of statements witnesses witness
last_statement = refl

one_statement_more : read_question (file_bytes 0 1 (replicate 65 union)) ≡ Err (refusal too_many_statements 389)
unfolding unused_table union file_bytes statements_bytes read_fields field_step said frame_of framed said_by head_of length_in statement_of addition admission terms_of statements witnesses witness
one_statement_more = refl
