-- The items of a load.
use Rattle.std.specs.Prelude.{◌≡◌, ℕ, ◌+◌, ◌-◌, ◌*◌, ◌/◌, ◌%◌, ◌<◌, List, length, slice_index, slice_index_or}

-- three quarters of the keys are different
abbrev pub number_at : ℕ → ℕ → ℕ
number_at keys place = place * 7919 % (keys - keys / 4)

abbrev pub byte_at : ℕ → ℕ → ℕ
byte_at number position = (number * 37 + position * 85 + number / 12) % 256

pub record Numbered (keys : ℕ) (items : List ℕ) : Type 0 where
  pub all : length items ≡ keys
  pub each : (place : ℕ) → place < keys → slice_index items place ≡ number_at keys place

-- at each place stands what is made of the number of the place
pub record Made {T : Type 0} (makes : ℕ → T → Type 0) (keys : ℕ) (items : List T) : Type 0 where
  pub all : length items ≡ keys
  pub each : (place : ℕ) (d : T) → place < keys → makes (number_at keys place) (slice_index_or items place d)
