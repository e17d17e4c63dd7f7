-- Where a scan of a line stops.
use Rattle.std.specs.Prelude.{◌≡◌, ◌≢◌, ℕ, ◌-◌, ◌<◌, ◌≤◌, min, Bool, true, false, not, ◌||◌, List, length, take, drop, ◌==◌, slice_index}

-- what a scan looks for
pub data Stop : Type 0 where
  -- the first byte of a token or of a comment
  Start : Stop
  -- a blank or a comment, which end a token
  Gap : Stop
  Quote : Stop

-- a space or a tab
abbrev pub blank : ℕ → Bool
blank b = b == 32 || b == 9

abbrev pub stops : Stop → ℕ → Bool
stops Start b = not (blank b)
stops Gap b = blank b || b == 35
stops Quote b = b == 34

-- `at` is the first place from `from` on where the scan stops, or the end
pub record Found (stop : Stop) (line : List ℕ) (from at : ℕ) : Type 0 where
  pub within : at ≤ length line
  pub onward : min from (length line) ≤ at
  pub passed : (k : ℕ) → from ≤ k → k < at → stops stop (slice_index line k) ≡ false
  pub stopped : at < length line → stops stop (slice_index line at) ≡ true

-- the first token of a line that starts with it has so many bytes: up to the first gap past its first byte, or, quoted,
-- up to its closing quote and with that, before a gap or the line's end
pub record TokenEnd (line : List ℕ) (n : ℕ) : Type 0 where
  pub plain : slice_index line 0 ≢ 34 → Found Gap line 1 n
  pub quoted : slice_index line 0 ≡ 34 → Found Quote line 1 (n - 1) × Found Gap line n n × (2 ≤ n) × (n ≤ length line)

-- a line has no token: it ends past its blanks, or a comment starts there
abbrev pub NoToken : List ℕ → Type 0
NoToken line = (start : ℕ) × Found Start line 0 start × (start < length line → slice_index line start ≡ 35)

-- a line's first token past its blanks, and what is left of the line past that
abbrev pub FirstToken : (line token rest : List ℕ) → Type 0
FirstToken line token rest =
    (start : ℕ) × (n : ℕ) × Found Start line 0 start × (start < length line) × (slice_index line start ≢ 35)
    × TokenEnd (drop start line) n × (token ≡ take n (drop start line)) × (rest ≡ drop n (drop start line))
