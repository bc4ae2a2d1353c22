-- A rule for each statement of a body of a source, those inside others too.
pub use Rattle.st_tree.specs.Every.{tests_of, every, every_inside, every_branch, every_choice}
