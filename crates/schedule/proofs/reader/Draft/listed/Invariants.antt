use Rattle.std.proofs.Common.{length}
use Rattle.schedule.proofs.reader.Draft.listed.Given as goal

-- what is left of the line
abbrev pub decreases-loop-items : goal.decreases-loop-items
decreases-loop-items g l = length l.tokens.rest.now
