-- An alternative of a node, kept in work: what keeping it asks for, and what is known of it afterwards.
-- Example: `c throughout (a ##1 b)` is kept in front of work as the words of its two steps, then `a2 any and`; it fits into the 48 words that
-- its three entries ask for.
use Rattle.std.specs.Prelude.{◌≡◌, List, ℕ, ◌+◌, ◌*◌, ◌-◌, ◌≤◌, length, take}
use Rattle.meaning.specs.Alternative.{SeqAlt, rehop}
use Rattle.meaning.specs.Refusals.{entries, guard_atoms}
use Rattle.meaning.specs.declared.SeqHop.TheVariants.{Fixed}
use Rattle.term.specs.declared.Kept.{Kept}
use Rattle.term.specs.Keeping.{steps_of, guard_of, Whole}
use Rattle.term.specs.Guards.{guard_words}
use Rattle.outline.specs.Outline.{Expandable, Known}
use Rattle.expand.specs.ByNumber.{alternatives_of, nth}
use Rattle.current.specs.Text.{registers_before, text_at}
use Rattle.current.specs.Walk.{Placed}
use Rattle.pipeline.specs.Stores.{alternative_store_words}
use Rattle.sizes.specs.declared.Size.{Size}

-- The i-th alternative of node n.
abbrev pub chosen : List ℕ → ℕ → ℕ → SeqAlt
chosen t n i = nth (alternatives_of t n) i

-- Each alternative of node n, whose outline is known, can be kept in so many words of work, from the place on.
pub record Keepable (t o : List ℕ) (n at work : ℕ) : Type 0 where
  pub node : Expandable t n
  pub known : Known t o n
  pub room : at + entries (alternatives_of t n) * 5 ≤ work
  pub few : entries (alternatives_of t n) ≤ 65536

-- What is kept in work is this alternative, with registers from r on: its steps, the first with a hop that is never taken, and behind them its
-- guard.
pub record Holds (work : List ℕ) (a : Kept) (y : SeqAlt) (r : ℕ) : Type 0 where
  pub whole : Whole work a
  pub steps : steps_of work a ≡ rehop (Fixed 0) y.steps
  pub behind : a.from + a.steps * 5 ≤ a.guard
  pub guard : guard_of work a ≡ guard_words y.guard
  pub register : a.register ≡ r

-- An alternative was kept from the place on: it is held, work before the place is as it was, and each of its entries took five words at most.
pub record Keeps (y : SeqAlt) (r : ℕ) (before after : List ℕ) (at : ℕ) (a : Kept) : Type 0 where
  pub holds : Holds after a y r
  pub from : a.from ≡ at
  pub short : a.end ≤ at + (length y.steps + guard_atoms y.guard) * 5
  pub front : take at after ≡ take at before
  pub long : length after ≡ length before

-- The registers of a kept alternative are small enough for words, and `next` is the one behind them.
pub record Ended (work : List ℕ) (a : Kept) (next : ℕ) : Type 0 where
  pub placed : Placed work a
  pub behind : next ≡ a.register + registers_before work a a.steps

-- The text of a kept alternative, and the words of its text and of its assignments.
unfoldable pub kept_text : List ℕ → Kept → List ℕ
kept_text work a = text_at work a (a.steps - 1) (a.register + registers_before work a (a.steps - 1))

unfoldable pub kept_size : List ℕ → Kept → Size
kept_size work a = record { text = length (kept_text work a); stores = length (alternative_store_words work a) }
