-- What a table knows of its sessions stays, where its sizes do.
use Rattle.std.proofs.Common.{◌≡◌, ◌≤◌, Bool, List, subst}
use Rattle.reclaim.specs.declared.sizes.Sizes.{Sizes}
use Rattle.reclaim.specs.Table.{NonePast}

pub past_still : {P : Type 0} (inside : P → Bool) (beyond : P) (places : List P) (new old : Sizes) → new ≡ old → NonePast inside beyond old.sessions places → NonePast inside beyond new.sessions places
past_still inside beyond places new old e past s l = past s (subst (λ (z : Sizes). z.sessions ≤ s) e l)
