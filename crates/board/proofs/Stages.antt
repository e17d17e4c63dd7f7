-- The array of stages as a map.
use Rattle.std.proofs.Common.{◌≡◌, ℕ, zero, suc, ◌<◌, List, length, get_or, set, replicate, refl}
use mathlib.Core.Path.{fun_ext}
use Rattle.machine.specs.declared.stage.Stage.{Stage}
use Rattle.machine.specs.declared.stage.Stage.TheVariants.{Outside}
use Rattle.machine.specs.Machine.{put}
use Rattle.memory.proofs.Maps.{written_map}
use Rattle.board.specs.View.{stages}

pub stages_set : (xs : List Stage) (i : ℕ) (v : Stage) → i < length xs → stages (set xs i v) ≡ put (stages xs) i v
unfolding stages
stages_set xs i v h = written_map (λ (g : Stage). g) Outside xs i v h

all_outside : (n s : ℕ) → get_or (replicate n Outside) s Outside ≡ Outside
all_outside zero s = refl
all_outside (suc n) zero = refl
all_outside (suc n) (suc s) = all_outside n s

pub new_stages : (n : ℕ) → stages (replicate n Outside) ≡ (λ s. Outside)
unfolding stages
new_stages n = fun_ext (λ s. all_outside n s)
