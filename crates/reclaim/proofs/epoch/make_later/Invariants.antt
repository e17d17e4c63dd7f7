use Rattle.std.proofs.Common.{◌≡◌, ◌++◌, map, take, drop}
use Rattle.reclaim.specs.Epochs.{later}
use Rattle.reclaim.proofs.epoch.make_later.Given as goal

abbrev pub invariant-loop-lag : goal.invariant-loop-lag
invariant-loop-lag l = l.lags ≡ map later (take l.lag-index l.initial.lags) ++ drop l.lag-index l.initial.lags
