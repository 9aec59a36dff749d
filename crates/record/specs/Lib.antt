-- `Records` is what the public contracts cite: what each kind of message is shown as, strings by their spans (Spans). `Peeks` is for inner functions alone.
pub mod Records
pub mod Spans
pub mod Peeks
