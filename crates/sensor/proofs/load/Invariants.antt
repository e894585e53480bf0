-- `load` puts the entries of the map, row by row.
use Prim.Native.Nat.{◌-◌}
use Rattle.sensor.specs.Maps.{entries_of, entries_from}
use Rattle.sensor.proofs.Laws.{Filling}
use Rattle.sensor.proofs.load.Given as goal

abbrev pub invariant-loop-row : goal.invariant-loop-row
invariant-loop-row l = Filling l.initial.map 0 (entries_of l.loaded) l.map l.place (entries_from l.loaded (752 - l.row) l.row)
