-- `add` puts the pixel's entry where there is one, and room for it.
use Rattle.sensor.proofs.Laws.{no_entry, no_room, entry_put}
use Rattle.sensor.proofs.add.Goals.{else-has-via-then-has+else-place-map, else-has-via-else-has}
use Rattle.sensor.proofs.add.Goals as goal

pub returns-then-place-map : goal.returns-then-place-map
returns-then-place-map c = search entry_put

pub returns : goal.returns
returns c = elim c.else-has.branch [ else-has-via-then-has+else-place-map w ↦ search no_room | else-has-via-else-has w ↦ search no_entry ]
