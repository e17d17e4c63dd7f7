-- The begin word that a number drawn gives to a session.
use Rattle.std.specs.Prelude.{ℕ, ◌/◌, ◌%◌, ◌^◌, cond, nat_lt}
use Rattle.schedule.specs.declared.word.WordKind.{WordKind}
use Rattle.schedule.specs.declared.word.WordKind.TheVariants.{Insert, Delete, Contains, Push, Pop}
use Rattle.schedule.specs.Words.{encoded}

-- by the four lowest bits: four chances in sixteen for each operation of the list, two for each of the stack
abbrev pub kind_drawn : ℕ → WordKind
kind_drawn r =
    cond (nat_lt (r % 16) 4) Insert
    (cond (nat_lt (r % 16) 8) Delete
    (cond (nat_lt (r % 16) 12) Contains
    (cond (nat_lt (r % 16) 14) Push Pop)))

-- by the sixteen bits from bit 8 on
abbrev pub place_drawn : ℕ → ℕ → ℕ
place_drawn r keys = r / 2 ^ 8 % 2 ^ 16 % keys

-- a pop has no place
abbrev pub place_for : WordKind → ℕ → ℕ
place_for Pop place = 0
place_for WordKind.Step place = place
place_for Insert place = place
place_for Delete place = place
place_for Contains place = place
place_for Push place = place
place_for WordKind.Tidy place = place

abbrev pub begin_word : ℕ → ℕ → ℕ → ℕ
begin_word r session keys = encoded (kind_drawn r) session (place_for (kind_drawn r) (place_drawn r keys))
