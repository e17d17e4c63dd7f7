-- The checks of each call, in their order: the first that fails is the refusal.
use Rattle.std.specs.Prelude.{ℕ, Bool, cond, ◌&&◌, Ok, Err, Result, nat_le, nat_lt}
use Rattle.reclaim.specs.declared.refusal.Refusal.{Refusal}
use Rattle.reclaim.specs.declared.refusal.Refusal.TheVariants.{NoSession, NoSlot, NoCell, AlreadyInside, NotInside, AlreadyHeld}
use Rattle.reclaim.specs.declared.unlinked.Unlinked.{Unlinked}
use Rattle.reclaim.specs.declared.unlinked.Unpaid.{Unpaid}

abbrev pub check_outside : (session sessions : ℕ) (inside : Bool) → Result (Unit {0}) Refusal
check_outside session sessions inside = cond (nat_lt session sessions) (cond inside (Err AlreadyInside) (Ok tt)) (Err NoSession)

abbrev pub check_inside : (session sessions : ℕ) (inside : Bool) → Result (Unit {0}) Refusal
check_inside session sessions inside = cond (nat_lt session sessions) (cond inside (Ok tt) (Err NotInside)) (Err NoSession)

abbrev pub check_protect : (session sessions : ℕ) (inside : Bool) (slot cell cells : ℕ) → Result (Unit {0}) Refusal
check_protect session sessions inside slot cell cells =
    cond (nat_lt session sessions)
    (cond inside
    (cond (nat_lt slot 3) (cond (nat_lt cell cells) (Ok tt) (Err NoCell)) (Err NoSlot))
    (Err NotInside))
    (Err NoSession)

-- a refused token comes back
abbrev unpaid : Refusal → Unlinked → Unpaid
unpaid why debt = record { why = why; debt = debt }

abbrev pub check_retire : {X : Type 0} (passed : X) (debt : Unlinked) (cells : ℕ) (held : Bool) → Result X Unpaid
check_retire passed debt cells held = cond (nat_lt debt.cell cells) (cond held (Err (unpaid AlreadyHeld debt)) (Ok passed)) (Err (unpaid NoCell debt))

-- 1 to 8 sessions and 1 to 256 cells
abbrev pub sizes_fit : (sessions cells : ℕ) → Bool
sizes_fit sessions cells = nat_le 1 sessions && nat_le sessions 8 && nat_le 1 cells && nat_le cells 256
