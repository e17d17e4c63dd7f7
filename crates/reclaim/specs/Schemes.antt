-- The schemes by their numbers.
use Rattle.std.specs.Prelude.{ℕ, cond, Ok, Err, Result, ◌==◌}
use Rattle.reclaim.specs.declared.scheme.Scheme.{Scheme}
use Rattle.reclaim.specs.declared.scheme.Scheme.TheVariants.{Hazard, Epoch, Quiescent}
use Rattle.reclaim.specs.declared.scheme.NoScheme.{NoScheme}

abbrev no_scheme : NoScheme
no_scheme = record {}

abbrev pub scheme_numbered : ℕ → Result Scheme NoScheme
scheme_numbered n = cond (n == 0) (Ok Hazard) (cond (n == 1) (Ok Epoch) (cond (n == 2) (Ok Quiescent) (Err no_scheme)))
