-- What the contracts cite beside the wire's definition: the questions to a list of fields, what a tour's end
-- tells of them, and what each answer tells.
pub mod Questions
pub mod Met
pub mod Told
