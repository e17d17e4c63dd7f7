use Rattle.std.proofs.Common.{refl}
use Rattle.machine.specs.Words.{parsed}
use Rattle.machine.specs.Machine.{put, shelve, counting, tidying, worded, ran}
use Rattle.samples.proofs.samples_hold.Goals as goal

pub returns : goal.returns
unfolding put shelve counting tidying worded ran parsed
returns c = record { count = refl; all = (refl, (refl, (refl, (refl, (refl, (refl, (refl, (refl, (refl, (refl, (refl, (refl, (refl, tt))))))))))))) }
