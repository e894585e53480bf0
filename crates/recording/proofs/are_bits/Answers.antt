-- Each byte is looked at, up to the first that is no bit.
use Rattle.std.proofs.Common.{rules, tests, leb, ◌∙◌}
use Rattle.std.proofs.lemmas.Iterator.{YieldsList-from_slice}
use Rattle.std.proofs.lemmas.Iterator.Search.{all_from_yields_List}
use Rattle.recording.proofs.Rows.{bits_are_all}
use Rattle.recording.proofs.are_bits.Goals as goal

pub returns : goal.returns
returns c =
    all_from_yields_List (λ x. leb x 1) _ _ _ c.all.ensures.ran (YieldsList-from_slice c.args.bytes.now (cc)) (λ x b q k. search (rules, tests))
    ∙ bits_are_all c.args.bytes.now
