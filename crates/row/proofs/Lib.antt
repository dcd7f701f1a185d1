-- Laws that belong to no one function.
pub mod BitLaws
pub mod CheckLaws
pub mod RoundTrips
pub mod RoomLaws
pub mod TestLaws
pub mod GoodRows
pub mod DeclaredRows
pub mod AcceptedRows
pub mod SaidLaws
pub mod OneResultLaws
