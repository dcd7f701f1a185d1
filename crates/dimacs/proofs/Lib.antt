-- Laws that belong to no one function: the walk that writes, the writer, and what the contracts leave.
pub mod WroteLaws
pub mod WriterLaws
pub mod OneOutcomeLaws
