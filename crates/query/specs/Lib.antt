-- `Answers` is what the public contracts cite: the questions, and what each is answered with. `Shown` is for inner functions alone.
pub mod Answers
pub mod Shown
