-- What a contract sees of std's readers and writers as feeds and sinks.
use Rattle.std.specs.Prelude.{Bool}

-- a reader, and whether a read has failed
pub record PlainReading (R : Type 0) : Type 0 where
  pub from : R
  pub broken : Bool

-- a writer, and whether a write has failed
pub record PlainWriting (W : Type 0) : Type 0 where
  pub to : W
  pub broken : Bool
