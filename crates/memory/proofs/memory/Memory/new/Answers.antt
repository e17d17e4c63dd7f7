use Rattle.std.proofs.Common.{rules}
use Rattle.memory.proofs.Maps.{new_links, new_marks, new_places}
use Rattle.memory.proofs.memory.Memory.new.Goals as goal

pub returns : goal.returns
returns g c = rw (new_links 256, new_marks 256, new_places 256) (search rules)
