-- Words read four bytes at a time, and how many they are.
use Rattle.std.proofs.Common.{◌≡◌, refl, ap, List, [], ◌∷◌, ℕ, zero, suc, ◌+◌, ◌*◌, ◌<◌, ◌≤◌, ◌/◌, arith, length, get_or, drop, drop-cons, add-one, map}
use Rattle.std.proofs.lemmas.List.{drop_all}
use Rattle.std.specs.Int.{w32, from_le_bytes}
use Rattle.std.specs.Simd.{first_chunks}
use Rattle.words.specs.Written.{Wrote}
use Rattle.words.proofs.Laws.{Going, begin, go_word, done}
use Rattle.little_endian.specs.Bytes.{words_of_bytes}

-- Words take four bytes each.
pub words_take_four_bytes : (bytes : List ℕ) → 4 * length (words_of_bytes bytes) ≤ length bytes
unfolding words_of_bytes
words_take_four_bytes [] = omega arith
words_take_four_bytes (a ∷ []) = omega arith
words_take_four_bytes (a ∷ b ∷ []) = omega arith
words_take_four_bytes (a ∷ b ∷ c ∷ []) = omega arith
words_take_four_bytes (a ∷ b ∷ c ∷ d ∷ rest) = omega (arith, words_take_four_bytes rest)

-- The numbers of as many whole groups of four bytes as there are.
chunks_are_words : (bytes : List ℕ) (k : ℕ) → k ≡ length bytes / 4 → map (from_le_bytes w32) (first_chunks 4 k bytes) ≡ words_of_bytes bytes
unfolding words_of_bytes
chunks_are_words (a ∷ b ∷ c ∷ d ∷ rest) (suc k) e = ap (λ (ws : List ℕ). from_le_bytes w32 (a ∷ b ∷ c ∷ d ∷ []) ∷ ws) (chunks_are_words rest k (omega arith))
chunks_are_words (a ∷ b ∷ c ∷ d ∷ rest) zero e = absurd (omega arith)
chunks_are_words [] zero e = refl
chunks_are_words [] (suc k) e = absurd (omega arith)
chunks_are_words (a ∷ []) zero e = refl
chunks_are_words (a ∷ []) (suc k) e = absurd (omega arith)
chunks_are_words (a ∷ b ∷ []) zero e = refl
chunks_are_words (a ∷ b ∷ []) (suc k) e = absurd (omega arith)
chunks_are_words (a ∷ b ∷ c ∷ []) zero e = refl
chunks_are_words (a ∷ b ∷ c ∷ []) (suc k) e = absurd (omega arith)

-- The loop of `read`: the words of the groups of four bytes from the i-th on remain.
pub record Reading (bytes : List ℕ) (groups : List (List ℕ)) (o o' : List ℕ) (count i : ℕ) : Type 0 where
  pub place : count ≡ i
  pub long : length o' ≡ length o
  pub going : Going o 0 (words_of_bytes bytes) o' count (map (from_le_bytes w32) (drop i groups))

pub reading_begins : (bytes o : List ℕ) {groups : List (List ℕ)} → groups ≡ first_chunks 4 (length bytes / 4) bytes → Reading bytes groups o o 0 0
reading_begins bytes o e = record { place = refl; long = refl; going = rw (e, chunks_are_words bytes _ refl) (begin o 0 (words_of_bytes bytes)) }

module _ {bytes : List ℕ} {groups : List (List ℕ)} {o o' : List ℕ} {count i : ℕ} (g : Reading bytes groups o o' count i) where
  pub reading_on : {o'' : List ℕ} {next word : ℕ} → i < length groups → word ≡ from_le_bytes w32 (get_or groups i []) → Wrote o' o'' count next (word ∷ [])
      → Reading bytes groups o o'' next (i + 1)
  reading_on h e x =
      let here : drop i groups ≡ get_or groups i [] ∷ drop (i + 1) groups = rw (add-one i) (drop-cons groups i [] h) in
      let on = go_word (rw here at g.going) e x in
      record { place = omega (arith, g.place, x.ends); long = on.long; going = on }

  pub reading_ends : length groups ≤ i → Wrote o o' 0 count (words_of_bytes bytes)
  reading_ends h = done (rw (drop_all i groups h) at g.going)
