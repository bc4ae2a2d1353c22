-- A pair without pointers, as contracts see it.
use Rattle.std.specs.Prelude.{ℕ, List}
use Rattle.plant_types.specs.declared.values.Given.{Given}

-- a name's bytes and the value given for it
pub record PlainPair : Type 0 where
  pub name : List ℕ
  pub given : Given
