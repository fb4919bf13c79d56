pub mod Created
pub mod Texts
pub use Rattle.pm_layout.specs.Layout
pub use Rattle.pm_layout.specs.Sizes
pub use Rattle.pm_header.specs.Name
