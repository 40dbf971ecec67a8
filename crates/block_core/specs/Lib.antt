pub use Rattle.entry_core.specs.EntryLists
pub use Rattle.entry_core.specs.Presences
pub mod Blocks
pub mod Deliveries
pub mod EntrySets
pub mod Sets
