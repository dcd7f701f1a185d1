-- Laws of the steps and of the walk, by which the functions are proved; then that the reader accepts exactly the texts of document 02's sentence, of which the lines that truth values write are one.
pub mod TableLaws
pub mod NumberedLaws
pub mod StepLaws
pub mod CutLaws
pub mod WalkLaws
pub mod OneResultLaws
pub mod Folds
pub mod TextLaws
pub mod WalkedLaws
pub mod ValueLineLaws
pub mod SaidLaws
pub mod TimesLaws
pub mod SentenceLaws
pub mod FormLaws
pub mod OwnLaws
