-- Laws that belong to no one function.
pub mod BitLaws
pub mod StatementsLaws
pub mod AdmissionLaws
pub mod CheckLaws
pub mod BuildLaws
pub mod DroppedLaws
pub mod AcceptedLaws
pub mod SoundLaws
pub mod NamesLaws
pub mod OneResultLaws
