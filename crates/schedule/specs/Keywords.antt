-- A list that has every value of a type.
use Rattle.std.specs.Prelude.{List, Contains}

pub record HasAll {K : Type 0} (all : List K) : Type 0 where
  pub each : (k : K) → Contains all k
