-- The four passes: how each goes on at a row and at a pair, what it asks there, and what it learns.
-- Example: over `a within (b ##1 c)` the registers are counted 1 at the row and 1 at the pair, where no further delay is taken.
use Rattle.std.specs.Prelude.{◌≡◌, List, ℕ, ◌+◌, ◌*◌, ◌-◌, ◌≤◌, length}
use Rattle.words.specs.Written.{written}
use Rattle.meaning.specs.Alternative.{SeqAlt}
use Rattle.current.specs.Text.{most_registers}
use Rattle.sizes.specs.Sizes.{most_store_words}
use Rattle.alternative.specs.Alternatives.{registers_in, stores_in, text_in}
use Rattle.pair.specs.declared.Mark.{Mark}
use Rattle.pair.specs.Pairs.{Fitted, pair_registers, pair_stores, pair_text, most_pair_registers}
use Rattle.pair.specs.Sizes.{size, size_in, pair_size, longest_text}
use Rattle.within.specs.declared.RegisterSum.{RegisterSum}
use Rattle.within.specs.declared.SizeSum.{SizeSum}
use Rattle.within.specs.declared.StoresPut.{StoresPut}
use Rattle.within.specs.declared.TextsPut.{TextsPut}
use Rattle.within.specs.AllSizes.{plus, AtMost}
use Rattle.within.specs.Walk.{Steps}

-- The registers.
abbrev pub register_steps : Steps RegisterSum
register_steps = record {
  register = λ s. 0;
  at_row = λ y s. (record { total = s.0.total + registers_in y }, s.1);
  at_pair = λ y r f s. (record { total = s.0.total + pair_registers f }, s.1);
  TakesRow = λ y s. s.0.total ≤ 512 * most_pair_registers;
  TakesPair = λ y r f s. s.0.total ≤ 512 * most_pair_registers;
  SmallRow = λ y. registers_in y ≤ most_registers;
  SmallPair = λ f. pair_registers f ≤ most_pair_registers;
  Ends = λ s. Unit {0};
}

-- The words, of which there are few where there are few registers.
pub record Sized (y : SeqAlt) : Type 0 where
  pub text : (size_in y).text ≤ longest_text
  pub stores : (size_in y).stores ≤ most_store_words

abbrev pub size_steps : Steps SizeSum
size_steps = record {
  register = λ s. 0;
  at_row = λ y s. (record { total = size s.0.total.text (s.0.total.stores + (size_in y).stores); text = (size_in y).text }, s.1);
  at_pair = λ y r f s. (record { total = plus s.0.total (pair_size s.0.text f); text = s.0.text }, s.1);
  TakesRow = λ y s. (registers_in y ≤ 65536) × AtMost 512 s.0.total;
  TakesPair = λ y r f s. (pair_registers f ≤ 65536) × (s.0.text ≤ longest_text) × AtMost 512 s.0.total;
  SmallRow = Sized;
  SmallPair = λ f. Sized f.alternative;
  Ends = λ s. AtMost 512 s.0.total;
}

-- Words are put from a mark on, and registers taken.
abbrev pub moved : Mark → List ℕ → ℕ → Mark
moved m words registers = record { place = m.place + length words; register = m.register + registers }

-- What a mark asks for that: small numbers, and room.
pub record MarkRoom (m : Mark) (words : List ℕ) (registers : ℕ) (out : List ℕ) : Type 0 where
  pub few : m.register + registers ≤ 65536
  pub room : m.place + length words ≤ length out

-- The assignments.
abbrev pub stored : StoresPut × List ℕ → List ℕ → ℕ → StoresPut × List ℕ
stored s words registers = (record { mark = moved s.0.mark words registers }, written s.1 s.0.mark.place words)

abbrev pub store_steps : Steps StoresPut
store_steps = record {
  register = λ s. s.mark.register;
  at_row = λ y s. stored s (stores_in y s.0.mark.register) (registers_in y);
  at_pair = λ y r f s. stored s (pair_stores f s.0.mark.register) (pair_registers f);
  TakesRow = λ y s. MarkRoom s.0.mark (stores_in y s.0.mark.register) (registers_in y) s.1;
  TakesPair = λ y r f s. MarkRoom s.0.mark (pair_stores f s.0.mark.register) (pair_registers f) s.1;
  SmallRow = λ y. Unit {0};
  SmallPair = λ f. Unit {0};
  Ends = λ s. Unit {0};
}

-- The match: the text of a pair stands behind the words from the start on, and has the text of the row, whose registers begin with r.
abbrev pub text_here : SeqAlt → ℕ → Fitted → TextsPut → List ℕ
text_here y r f s = pair_text (s.mark.place - s.start) (text_in y r) f s.mark.register

abbrev pub begun_at : ℕ → TextsPut → TextsPut
begun_at next s = record { start = s.start; begin = next; mark = record { place = s.mark.place; register = next } }

abbrev pub worded : TextsPut × List ℕ → List ℕ → ℕ → TextsPut × List ℕ
worded s words registers = (record { start = s.0.start; begin = s.0.begin; mark = moved s.0.mark words registers }, written s.1 s.0.mark.place words)

pub record TextRoom (y : SeqAlt) (r : ℕ) (f : Fitted) (s : TextsPut) (out : List ℕ) : Type 0 where
  pub begun : s.start ≤ s.mark.place
  pub behind : s.begin ≡ r + registers_in y
  pub small : s.begin ≤ 65536
  pub mark : MarkRoom s.mark (text_here y r f s) (pair_registers f) out

abbrev pub text_steps : Steps TextsPut
text_steps = record {
  register = λ s. s.mark.register;
  at_row = λ y s. (begun_at (s.0.mark.register + registers_in y) s.0, s.1);
  at_pair = λ y r f s. worded s (text_here y r f s.0) (pair_registers f);
  TakesRow = λ y s. s.0.mark.register + registers_in y ≤ 65536;
  TakesPair = λ y r f s. TextRoom y r f s.0 s.1;
  SmallRow = λ y. Unit {0};
  SmallPair = λ f. Unit {0};
  Ends = λ s. Unit {0};
}
