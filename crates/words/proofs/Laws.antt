-- Words put one part after the other, a slice copied or cleared from the front, and a list read from the front: laws that
-- every crate above cites. They assume nothing.
use mathlib.Core.Path.{◌≡◌, refl, sym, ap, ◌∙◌}
use mathlib.Core.List.{List, [], ◌∷◌, ◌++◌, append-nil, append_assoc}
use Prim.Native.Nat.{ℕ, suc, ◌+◌, ◌<◌, ◌≤◌}
use native.Mathlib.Nat.{add-zero, add-suc, suc-add}
use native.Mathlib.Numerals.{add-one}
use native.Mathlib.Omega.{arith}
use lib.ListN.{length, set, get_or, take, drop, length-append, get_or-append}
use lib.Seq.{sets, length-sets, sets-eq, length-take-le, take_at, drop_at, take-append_seam, take-suc, take_all, get_or-set_other, get_or-append-add, drop-cons}
use Rattle.words.specs.Written.{written, Wrote}

pub length-written : (o : List ℕ) (at : ℕ) (ws : List ℕ) → length (written o at ws) ≡ length o
unfolding written
length-written o at ws = length-sets o at ws

sets-append : {A : Type 0} (xs ys o : List A) (at : ℕ) → sets o at (xs ++ ys) ≡ sets (sets o at xs) (at + length xs) ys
sets-append [] ys o at = rw add-zero
sets-append (x ∷ xs) ys o at = sets-append xs ys (set o at x) (suc at) ∙ rw (suc-add, add-suc)

-- What was written into a slice has not changed its length.
pub still_long : {o o' : List ℕ} {at r : ℕ} {ws : List ℕ} → Wrote o o' at r ws → length o' ≡ length o
still_long {o} {at = at} {ws = ws} w = ap length w.holds ∙ length-written o at ws

-- To put ws into o from the place at on, it remains to put vs into o' from the place p on.
pub record Going (o : List ℕ) (at : ℕ) (ws o' : List ℕ) (p : ℕ) (vs : List ℕ) : Type 0 where
  pub rest : written o' p vs ≡ written o at ws
  pub place : p + length vs ≡ at + length ws
  pub long : length o' ≡ length o

pub begin : (o : List ℕ) (at : ℕ) (ws : List ℕ) → Going o at ws o at ws
begin o at ws = record { rest = refl; place = refl; long = refl }

-- A part more is put.
pub go : {o : List ℕ} {at : ℕ} {ws o' : List ℕ} {p : ℕ} {o'' : List ℕ} {q : ℕ} (xs vs : List ℕ)
    → Going o at ws o' p (xs ++ vs) → Wrote o' o'' p q xs → Going o at ws o'' q vs
unfolding written
go {o} {at} {ws} {o'} {p} {o''} {q} xs vs g w = record {
  rest = rw (w.holds, w.ends) (sym (sets-append xs vs o' p) ∙ g.rest);
  place = omega (arith, g.place, w.ends, length-append xs vs);
  long = rw w.holds (length-sets o' p xs) ∙ g.long;
}

-- What was to be written is written where nothing remains.
pub done : {o : List ℕ} {at : ℕ} {ws o' : List ℕ} {p : ℕ} → Going o at ws o' p [] → Wrote o o' at p ws
unfolding written
done g = record { holds = g.rest; ends = omega (arith, g.place) }

-- Writing no words changes nothing.
pub nothing_written : (o : List ℕ) (at : ℕ) → Wrote o o at at []
nothing_written o at = done (begin o at [])

-- What was to be written is written with the last part.
pub last : {o : List ℕ} {at : ℕ} {ws o' : List ℕ} {p : ℕ} {o'' : List ℕ} {q : ℕ} {xs : List ℕ}
    → Going o at ws o' p xs → Wrote o' o'' p q xs → Wrote o o'' at q ws
last {xs = xs} g w = done (go xs [] (rw append-nil g) w)

-- What was written may be named by any equal list of words.
pub same_words : {o o' : List ℕ} {at r : ℕ} {ws vs : List ℕ} → ws ≡ vs → Wrote o o' at r ws → Wrote o o' at r vs
same_words e w = rw (← e) w

pub same_word : {o o' : List ℕ} {at r v w : ℕ} → v ≡ w → Wrote o o' at r (v ∷ []) → Wrote o o' at r (w ∷ [])
same_word e w = rw (← e) w

-- A part that is one word, which the code has under another name.
pub go_word : {o : List ℕ} {at : ℕ} {ws o' : List ℕ} {p : ℕ} {o'' : List ℕ} {q v w : ℕ} {vs : List ℕ}
    → Going o at ws o' p (w ∷ vs) → v ≡ w → Wrote o' o'' p q (v ∷ []) → Going o at ws o'' q vs
go_word {w = w} {vs = vs} g e x = go (w ∷ []) vs g (same_word e x)

-- Two parts and three, one behind the other.
pub two_parts : {o o₁ o₂ : List ℕ} {at p q : ℕ} {xs ys : List ℕ} → Wrote o o₁ at p xs → Wrote o₁ o₂ p q ys → Wrote o o₂ at q (xs ++ ys)
two_parts {o} {at = at} {xs = xs} {ys} x y = last (go xs ys (begin o at (xs ++ ys)) x) y

pub three_parts : {o o₁ o₂ o₃ : List ℕ} {at p q r : ℕ} {xs ys zs : List ℕ}
    → Wrote o o₁ at p xs → Wrote o₁ o₂ p q ys → Wrote o₂ o₃ q r zs → Wrote o o₃ at r (xs ++ (ys ++ zs))
three_parts x y z = two_parts x (two_parts y z)

-- The room for words is the room for the same words, said otherwise.
pub same_room : (at : ℕ) {n : ℕ} {vs ws : List ℕ} → vs ≡ ws → at + length vs ≤ n → at + length ws ≤ n
same_room at e h = rw (← e) h

-- Words in two parts, written one after the other: the room of each.
pub first_room : (at : ℕ) {n : ℕ} {ws : List ℕ} (xs ys : List ℕ) → ws ≡ xs ++ ys → at + length ws ≤ n → at + length xs ≤ n
first_room at xs ys e h = omega (arith, h, ap length e, length-append xs ys)

pub second_room : {at a : ℕ} {o o₁ ws : List ℕ} (xs ys : List ℕ) → ws ≡ xs ++ ys → at + length ws ≤ length o → Wrote o o₁ at a xs → a + length ys ≤ length o₁
second_room xs ys e h u = omega (arith, h, ap length e, length-append xs ys, u.ends, still_long u)

pub both_done : {at a p : ℕ} {o o₁ o₂ ws xs ys : List ℕ} → ws ≡ xs ++ ys → Wrote o o₁ at a xs → Wrote o₁ o₂ a p ys → Wrote o o₂ at p ws
both_done e u v = same_words (sym e) (two_parts u v)

-- Words in three parts, written one after the other: the room of the third.
pub third_room : {at a b : ℕ} {o o₁ o₂ ws : List ℕ} (xs ys zs : List ℕ) → ws ≡ xs ++ (ys ++ zs) → at + length ws ≤ length o → Wrote o o₁ at a xs → Wrote o₁ o₂ a b ys → b + length zs ≤ length o₂
third_room xs ys zs e h u v = second_room ys zs refl (second_room xs (ys ++ zs) e h u) v

pub three_done : {at a b p : ℕ} {o o₁ o₂ o₃ ws xs ys zs : List ℕ} → ws ≡ xs ++ (ys ++ zs) → Wrote o o₁ at a xs → Wrote o₁ o₂ a b ys → Wrote o₂ o₃ b p zs → Wrote o o₃ at p ws
three_done e u v w = same_words (sym e) (three_parts u v w)

-- The list, part by part.
pub spliced : {A : Type 0} (o : List A) (at : ℕ) (ws : List A) → at + length ws ≤ length o → written o at ws ≡ take at o ++ ws ++ drop (at + length ws) o
unfolding written
spliced o at ws h = sets-eq ws o at h

-- What was written is there to be read.
pub read_back : (o : List ℕ) (at : ℕ) (ws : List ℕ) (i : ℕ) → at + length ws ≤ length o → i < length ws → get_or (written o at ws) (at + i) 0 ≡ get_or ws i 0
read_back o at ws i h k =
    let e : length (take at o) ≡ at = length-take-le at o (omega arith) in
    let f : at + i < length (take at o ++ ws) = simp length-append (omega arith) in
    rw (spliced o at ws h, get_or-append (take at o ++ ws) (drop (at + length ws) o) 0 (at + i) f)
    (ap (λ (n : ℕ). get_or (take at o ++ ws) (n + i) 0) (sym e) ∙ get_or-append-add (take at o) ws i 0)

-- What stands in front of the place of writing is as it was.
pub written_below : (ws o : List ℕ) (at i : ℕ) → i < at → get_or (written o at ws) i 0 ≡ get_or o i 0
unfolding written
written_below [] o at i h = refl
written_below (w ∷ ws) o at i h = written_below ws (set o at w) (suc at) i (omega arith) ∙ get_or-set_other o at i w 0 (λ e. omega arith)

-- What was written is the part of the list that begins at its place.
pub written_part : (o : List ℕ) (at : ℕ) (ws : List ℕ) → at + length ws ≤ length o → take (length ws) (drop at (written o at ws)) ≡ ws
written_part o at ws h =
    ap (λ (l : List ℕ). take (length ws) (drop at l)) (spliced o at ws h ∙ append_assoc (take at o) ws (drop (at + length ws) o))
    ∙ ap (take (length ws)) (drop_at (take at o) (ws ++ drop (at + length ws) o) at (length-take-le at o (omega arith)))
    ∙ take_at ws (drop (at + length ws) o) (length ws) refl

-- What was written from the front on is the first part of the list.
pub front_written : {o o' : List ℕ} {n : ℕ} {ws : List ℕ} → Wrote o o' 0 n ws → length ws ≤ length o → take n o' ≡ ws
front_written {o} {o'} {n} {ws} w h =
    let n_is : n ≡ length ws = omega (arith, w.ends) in
    rw (n_is, w.holds, spliced o 0 ws (omega arith)) (take-append_seam ws (drop (0 + length ws) o))

-- The element that the code reads next, in front of what it reads later.
pub drop_here : (s : List ℕ) (i : ℕ) → i < length s → drop i s ≡ get_or s i 0 ∷ drop (i + 1) s
drop_here s i h = rw (add-one i) (drop-cons s i 0 h)

-- The first i words of a slice are copied.
pub copying_begins : {A : Type 0} (words o : List A) (at : ℕ) → Wrote o o at at (take 0 words)
unfolding written
copying_begins words o at = record { holds = refl; ends = omega arith }

pub copying_on : {A : Type 0} (words : List A) {o o' o'' : List A} {at p q i : ℕ} {w : A} → Wrote o o' at p (take i words) → i < length words → get_or words i w ≡ w
    → Wrote o' o'' p q (w ∷ []) → Wrote o o'' at q (take (i + 1) words)
unfolding written
copying_on words {o} {at = at} {i = i} {w} c h e x =
    let more : take (i + 1) words ≡ take i words ++ (w ∷ []) = rw (add-one, take-suc words i w h, e) refl in
    rw more (record {
      holds = x.holds ∙ rw (c.holds, c.ends) (sym (sets-append (take i words) (w ∷ []) o at));
      ends = omega (arith, x.ends, c.ends, length-append (take i words) (w ∷ []));
    })

pub copying_ends : {A : Type 0} {words o o' : List A} {at p i : ℕ} → Wrote o o' at p (take i words) → length words ≤ i → Wrote o o' at p words
copying_ends {words = words} {i = i} c h = rw (take_all i words h) at c
