-- `Answers` is what the public contracts cite: what making and opening a card come to, and `Reasons`: how a card fits a table. `Card` is a card's form and bytes, with `Cases` of both kinds; `Shown` is for inner functions alone.
pub mod Answers
pub mod Card
pub mod Cases
pub mod Reasons
pub mod Shown
