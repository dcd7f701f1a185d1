-- Laws that belong to no one function: the bodies as they are read and written, and what the contracts leave.
pub mod BodyLaws
pub mod OneResultLaws
