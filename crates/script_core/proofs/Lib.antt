pub mod LongInput
