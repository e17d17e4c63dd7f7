-- Raw words in a schedule.
use Rattle.std.specs.Prelude.{◌≡◌, ℕ, ◌≤◌, List, length, take, drop, codes}
use Rattle.std.specs.Str.Parse.{IsNumeral}

-- one to eight hexadecimal digits
abbrev pub Hexadecimal : List ℕ → Type 0
Hexadecimal digits = IsNumeral 16 digits × (length digits ≤ 8)

abbrev pub RawWord : List ℕ → Type 0
RawWord text = (take 2 text ≡ codes "0x") × Hexadecimal (drop 2 text)
