pub mod Folded
pub mod Codes
pub use Rattle.codegen.specs.Codes as CodegenCodes
pub use Rattle.codegen.specs.Sizes
pub use Rattle.codegen.specs.Slots
pub use Rattle.codegen.specs.Within
