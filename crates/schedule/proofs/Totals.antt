-- One line more.
use Rattle.std.proofs.Common.{◌≡◌, ◌+◌, List, [], ◌∷◌, ◌++◌, arith}
use Rattle.schedule.specs.declared.content.Line.{Line}
use Rattle.schedule.specs.Counts.{words_of, total_words}

pub total_push : (ls : List Line) (l : Line) → total_words (ls ++ l ∷ []) ≡ total_words ls + words_of l.act
total_push [] l = omega arith
total_push (x ∷ ls) l = omega (arith, total_push ls l)
