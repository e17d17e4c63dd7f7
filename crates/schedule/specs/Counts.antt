-- How many words the lines of a schedule count for.
use Rattle.std.specs.Prelude.{ℕ, ◌+◌, ◌<◌, ◌≤◌, List, [], ◌∷◌}
use Rattle.schedule.specs.declared.content.Act.{Act}
use Rattle.schedule.specs.declared.content.Act.TheVariants.{Word, Steps, Finish}
use Rattle.schedule.specs.declared.content.Line.{Line}

abbrev pub words_of : Act → ℕ
words_of (Word w) = 1
words_of (Steps session count) = count
words_of (Finish session) = 1

abbrev pub total_words : List Line → ℕ
total_words [] = 0
total_words (l ∷ ls) = words_of l.act + total_words ls

-- a session has five bits, and one line gives at most a million step words
abbrev pub Allowed : Act → Type 0
Allowed (Word w) = Unit {0}
Allowed (Steps session count) = (session < 32) × (count ≤ 1000000)
Allowed (Finish session) = session < 32
