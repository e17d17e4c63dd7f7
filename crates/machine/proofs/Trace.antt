-- The laws of what is seen as the proof keeps them: recursively, the newest event first.
use Rattle.std.proofs.Common.{◌≡◌, ℕ, cond, eqb, ◌⊎◌, List, [], ◌∷◌, Ordering}
use Rattle.machine.specs.declared.word.Op.{Op}
use Rattle.machine.specs.declared.answer.Answer.{Answer}
use Rattle.machine.specs.Machine.{begins, touches, clears, gives, decides, completes, Trace}
use Rattle.machine.specs.Serial.{Serial, empty, serve}

-- where a session stands with its operation
pub data Status : Type 0 where
  outside : Status
  under : Op → Status
  decided : Op → Answer → Status

abbrev pub settle : Status → Answer → Status
settle outside a = outside
settle (under op) a = decided op a
settle (decided op b) a = decided op b

unfoldable pub status : ℕ → Trace → Status
status s [] = outside
status s (begins t op ∷ tr) = cond (eqb s t) (under op) (status s tr)
status s (touches t c ∷ tr) = status s tr
status s (clears t c ∷ tr) = status s tr
status s (gives c ∷ tr) = status s tr
status s (decides t a ∷ tr) = cond (eqb s t) (settle (status s tr) a) (status s tr)
status s (completes t a ∷ tr) = cond (eqb s t) outside (status s tr)

-- c was cleared by the operation of s and not given back since
unfoldable pub Cleared : ℕ → ℕ → Trace → Type 0
Cleared s c [] = ⊥
Cleared s c (begins t op ∷ tr) = (t ≡ s → ⊥) × Cleared s c tr
Cleared s c (touches t d ∷ tr) = Cleared s c tr
Cleared s c (clears t d ∷ tr) = ((t ≡ s) × (d ≡ c)) ⊎ Cleared s c tr
Cleared s c (gives d ∷ tr) = (d ≡ c → ⊥) × Cleared s c tr
Cleared s c (decides t a ∷ tr) = Cleared s c tr
Cleared s c (completes t a ∷ tr) = Cleared s c tr

-- each touch is of a cleared cell; each operation is decided once and completes as it was decided
unfoldable pub Orderly : Trace → Type 0
Orderly [] = Unit {0}
Orderly (begins s op ∷ tr) = (status s tr ≡ outside) × Orderly tr
Orderly (touches s c ∷ tr) = Cleared s c tr × Orderly tr
Orderly (clears s c ∷ tr) = Orderly tr
Orderly (gives c ∷ tr) = Orderly tr
Orderly (decides s a ∷ tr) = ((op : Op) × (status s tr ≡ under op)) × Orderly tr
Orderly (completes s a ∷ tr) = ((op : Op) × (status s tr ≡ decided op a)) × Orderly tr

-- the decided operations with their answers, newest first
abbrev pub deed : Status → Answer → List (Op × Answer) → List (Op × Answer)
deed outside a ds = ds
deed (under op) a ds = (op, a) ∷ ds
deed (decided op b) a ds = ds

unfoldable pub deeds : Trace → List (Op × Answer)
deeds [] = []
deeds (begins s op ∷ tr) = deeds tr
deeds (touches s c ∷ tr) = deeds tr
deeds (clears s c ∷ tr) = deeds tr
deeds (gives c ∷ tr) = deeds tr
deeds (decides s a ∷ tr) = deed (status s tr) a (deeds tr)
deeds (completes s a ∷ tr) = deeds tr

module _ {V : Type 0} (cmp : V → V → Ordering) (val : ℕ → V) where
  unfoldable pub played : List (Op × Answer) → Serial V
  played [] = empty
  played (d ∷ ds) = (serve cmp val d.0 (played ds)).0

  unfoldable pub Truthful : List (Op × Answer) → Type 0
  Truthful [] = Unit {0}
  Truthful (d ∷ ds) = (d.1 ≡ (serve cmp val d.0 (played ds)).1) × Truthful ds
