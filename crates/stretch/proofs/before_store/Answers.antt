-- The first store is looked for in what stands from the place on.
use Rattle.std.proofs.Common.{ap, ◌∙◌}
use Rattle.std.specs.List.{position}
use Rattle.meaning.specs.Listing.{is_store}
use Rattle.stretch.proofs.Laws.{part_is_rest}
use Rattle.stretch.proofs.before_store.Goals as goal

pub returns : goal.returns
returns c = c.first_store.ensures ∙ ap (position is_store) (part_is_rest _ _ c.in_ok-get.field-0 c.in_ok-get.ensures.lookup)
