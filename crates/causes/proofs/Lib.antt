-- The proofs: that 7 was split and nothing else changed (Split), as what there is answers, in C too (Answers); that each way to make a format keeps its refusals right (Rightly),
-- so those of messages (Messages) and of bodies (Bodies); the writer's, by the laws of verdicts (Verdicts, Steps); and that 10 is said of stale cards alone (Cards).
pub mod Split
pub mod Rightly
pub mod Messages
pub mod Bodies
pub mod Verdicts
pub mod Steps
pub mod Answers
pub mod Cards
