pub mod Selection
pub mod RootsView
pub mod Uses
