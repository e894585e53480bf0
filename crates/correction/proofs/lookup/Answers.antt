-- `lookup` finds whether the map names the pixel, from what was reached before it.
use Rattle.correction.proofs.MapLaws.{at_the_end, at_another, at_its_entry}
use Rattle.correction.proofs.lookup.Goals.{else-reached-map-via-then-reached-map+else-map-reached, else-reached-map-via-else-reached-map}
use Rattle.correction.proofs.lookup.Goals as goal

pub returns-then-map-reached : goal.returns-then-map-reached
returns-then-map-reached c = search at_its_entry

pub returns : goal.returns
returns c = elim c.else-reached-map.branch [
  | else-reached-map-via-then-reached-map+else-map-reached w ↦ search at_another
  | else-reached-map-via-else-reached-map w ↦ search at_the_end
]
