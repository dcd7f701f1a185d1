-- Laws that belong to no one function: of the table, of heads and frames, and of fields that are written.
pub mod TagLaws
pub mod HeadLaws
pub mod FrameLaws
pub mod WriteLaws
pub mod OneOutcomeLaws
