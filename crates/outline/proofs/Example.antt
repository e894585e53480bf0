-- The examples of the outline: in that of `a[*1] ##[3:4] b`, the words of a and a[*1] are the same; the word of `a throughout b`, node 1,
-- says that there is a guard.
use mathlib.Core.Path.{◌≡◌, refl}
use Prim.Native.Nat.{◌+◌, ◌*◌}
use Rattle.words.specs.Choice.{pick}
use Rattle.meaning.specs.Tree.{finite, Seq, atom, delay, consec, throughout}
use Rattle.meaning.specs.Refusals.{counts}
use Rattle.outline.specs.Outline.{is_once, bare, counted_word, outline_word}

abbrev once : Seq
once = consec 1 (atom 0 0) 1 (finite 1)

pub passed_at_one_stroke : outline_word once ≡ outline_word (atom 0 0)
unfolding outline_word counted_word bare is_once counts pick
passed_at_one_stroke = refl

pub the_whole : outline_word (delay 3 once (atom 2 1) 3 (finite 4)) ≡ 2 + 512 * 3
unfolding outline_word counted_word bare counts pick
the_whole = refl

pub a_guard : outline_word (throughout 1 0 (atom 0 1)) ≡ 1 + 512 * (1 + 4096 * 1)
unfolding outline_word counted_word bare counts pick
a_guard = refl
