-- A retirement that may be refused.
use Rattle.std.proofs.Common.{ℕ, Bool, true, false, cond, List, [], ◌∷◌, ◌++◌, nat_lt}
use Rattle.reclaim.specs.declared.held.HeldCell.{HeldCell}
use Rattle.reclaim.specs.Cells.{has}
use Rattle.reclaim.specs.Table.{cell, held_after}

-- what holds of the cells as they were, and with one more, holds after it
pub either_way : {N : Type 0} (P : List (HeldCell N) → Type 0) (cells : ℕ) (hs : List (HeldCell N)) (c : ℕ) (n : N) → P hs → P (hs ++ record { cell = c; note = n } ∷ []) → P (held_after cells hs c n)
either_way {N} P cells hs c n before more = by (nat_lt c cells) (has cell hs c)
  where
    by : (b k : Bool) → P (cond b (cond k hs (hs ++ record { cell = c; note = n } ∷ [])) hs)
    by true true = before
    by true false = more
    by false k = before
