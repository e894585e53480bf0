-- Where a register's stretch begins: what the walk of `driving_start` finds, and that the stretch stands there. The laws of the
-- walk stand as the code meets them. They assume nothing.
use mathlib.Core.Path.{◌≡◌, refl, sym, ap, ◌∙◌}
use mathlib.Core.Bool.{Bool, true, false}
use mathlib.Core.List.{List, [], ◌∷◌, ◌++◌, append_assoc}
use Prim.Native.Nat.{ℕ, suc, ◌+◌, ◌-◌, ◌<◌}
use native.Mathlib.Omega.{arith}
use native.Mathlib.Decide.{dec_le}
use lib.Dec.{eqb, ltb}
use lib.ListN.{length, take, drop, length-append, drop_of_length-le}
use lib.Seq.{drop-drop, take-append_seam, drop-append_seam}
use borrow.Author.Tests.{ltb-false, lt-ltb, le-ltb}
use Rattle.words.specs.Choice.{pick, pick_true, pick_false}
use Rattle.meaning.specs.Listing.{is_store, argument}
use Rattle.meaning.specs.Check.{check, stretch_from, stretch_if, stretch}
use Rattle.std.proofs.Common.{Result, Ok, Err}
use Rattle.meaning.specs.declared.refusal.Fault.{Fault}
use Rattle.stretch.specs.Assignment.{assignment, drives, assignment_at, another_at}
use Rattle.stretch.specs.Start.{start_from, start_if, stretch_start}
use Rattle.stretch.proofs.Laws.{never, test_fails, Walking, passed, walking_on, walking_nearer}

-- `started` and `not_started`, below, by what the first word is: a store or not, and of r or not.
started_by : {since more : ℕ} (fresh : ℕ) {later : Bool} (store same : Bool)
    → (later ≡ true → more ≡ since) → pick store same later ≡ true → pick store (pick same since fresh) more ≡ since
unfolding pick
started_by fresh true true f e = refl
started_by fresh true false f e = never (sym e)
started_by fresh false same f e = f e

not_started_by : (since here : ℕ) (behind ws : List ℕ) {more : ℕ} {later : Bool} (store same : Bool) (r : ℕ)
    → (later ≡ false → more ≡ start_from (here + 1 + length behind) (here + 1 + length behind) (drop (length behind) ws) r) → pick store same later ≡ false
    → pick store (pick same since (start_from (here + 1) (here + 1) ws r)) more
    ≡ start_from (here + suc (length (pick store [] behind))) (here + suc (length (pick store [] behind))) (drop (length (pick store [] behind)) ws) r
unfolding pick
not_started_by since here behind ws true true r f e = never e
not_started_by since here behind ws true false r f e = let k : here + 1 ≡ here + suc 0 = omega arith in rw k refl
not_started_by since here behind ws false same r f e =
    f e ∙ ap (λ (k : ℕ). start_from k k (drop (length behind) ws) r) (omega arith)

-- An assignment of r begins where the words since the last store do.
started : (ws : List ℕ) (since here r : ℕ) → drives ws r ≡ true → start_from since here ws r ≡ since
unfolding drives start_from
started [] since here r e = never (sym e)
started (w ∷ ws) since here r e = started_by _ (is_store w) (eqb (argument w) r) (started ws since (here + 1) r) e

-- Behind an assignment that is not of r the search begins anew.
not_started : (ws : List ℕ) (since here r : ℕ) → drives ws r ≡ false
    → start_from since here ws r ≡ start_from (here + length (assignment ws)) (here + length (assignment ws)) (drop (length (assignment ws)) ws) r
unfolding drives assignment start_from
not_started [] since here r e = refl
not_started (w ∷ ws) since here r e = not_started_by since here (assignment ws) ws (is_store w) (eqb (argument w) r) r (not_started ws since (here + 1) r) e

-- The walk at the place here: the start is still to be found from there on.
pub record Starting (listing : List ℕ) (r here : ℕ) : Type 0 where
  pub walking : Walking listing r here
  pub rest : start_from 0 0 listing r ≡ start_from here here (drop here listing) r

module _ {listing : List ℕ} {r here : ℕ} (g : Starting listing r here) where
  -- An assignment of another register is passed.
  pub starting_on : {end : ℕ} → another_at listing here r ≡ true → end ≡ here + length (assignment_at listing here) → Starting listing r end
  unfolding assignment_at
  starting_on e k = rw k (record {
    walking = walking_on g.walking e;
    rest =
        g.rest ∙ not_started (drop here listing) here here r (passed g.walking e).0
        ∙ ap (λ (ws : List ℕ). start_from (here + length (assignment (drop here listing))) (here + length (assignment (drop here listing))) ws r)
        (drop-drop (length (assignment (drop here listing))) here listing);
  })

  -- Behind the assignment the walk has fewer words left.
  pub starting_nearer : {end : ℕ} → another_at listing here r ≡ true → end ≡ here + length (assignment_at listing here)
      → length listing - end < length listing - here
  starting_nearer e k = rw k (walking_nearer g.walking e)

  -- The walk stops where the register's assignment begins, or at the listing's end, where none was found.
  pub starting_ends : another_at listing here r ≡ false → pick (ltb here (length listing)) here 0 ≡ start_from 0 0 listing r
  unfolding another_at start_from
  starting_ends e =
      elim (dec_le (length listing) here) [
        | yes m ↦ pick_false _ _ (le-ltb here (length listing) m) ∙ sym (g.rest ∙ rw (drop_of_length-le listing m) refl)
        | no m ↦
            pick_true _ _ (lt-ltb here (length listing) (omega arith))
            ∙ test_fails (drives (drop here listing) r) (ltb here (length listing)) e
            (λ d. sym (g.rest ∙ started (drop here listing) here here r d))
            (λ l. absurd (omega (arith, ltb-false here (length listing) l)))
      ]

-- The part of so many words stands in the listing at the place.
abbrev StandsAt : List ℕ → ℕ → List ℕ → Type 0
StandsAt listing place part = take (length part) (drop place listing) ≡ part

-- Start and stretch choose by the same tests.
stands_by : (listing : List ℕ) (since fresh more : ℕ) (here_part fresh_part more_part : List ℕ) (store same : Bool)
    → StandsAt listing since here_part → StandsAt listing fresh fresh_part → StandsAt listing more more_part
    → StandsAt listing (pick store (pick same since fresh) more) (pick store (pick same here_part fresh_part) more_part)
unfolding pick
stands_by listing since fresh more here_part fresh_part more_part true true p q s = p
stands_by listing since fresh more here_part fresh_part more_part true false p q s = q
stands_by listing since fresh more here_part fresh_part more_part false same p q s = s

-- The search among the words ws, with `before` passed and `part` in hand.
stands_from : (ws before part listing : List ℕ) (since here r : ℕ) → listing ≡ before ++ (part ++ ws) → since ≡ length before → here ≡ since + length part
    → StandsAt listing (start_from since here ws r) (stretch_from part ws r)
unfolding start_from stretch_from
stands_from [] before part listing since here r l s h = refl
stands_from (w ∷ ws) before part listing since here r l s h =
    let longer : length (part ++ (w ∷ [])) ≡ length part + 1 = length-append part (w ∷ []) in
    let moved : before ++ (part ++ (w ∷ ws)) ≡ before ++ ((part ++ (w ∷ [])) ++ ws) = ap (λ (xs : List ℕ). before ++ xs) (sym (append_assoc part (w ∷ []) ws)) in
    let anew : before ++ ((part ++ (w ∷ [])) ++ ws) ≡ (before ++ (part ++ (w ∷ []))) ++ ws = sym (append_assoc before (part ++ (w ∷ [])) ws) in
    stands_by listing _ _ _ _ _ _ (is_store w) (eqb (argument w) r)
    (rw (l ∙ moved, s, drop-append_seam before ((part ++ (w ∷ [])) ++ ws)) (take-append_seam (part ++ (w ∷ [])) ws))
    (stands_from ws (before ++ (part ++ (w ∷ []))) [] listing (here + 1) (here + 1) r (l ∙ moved ∙ anew) (omega (arith, length-append before (part ++ (w ∷ [])))) (omega arith))
    (stands_from ws before (part ++ (w ∷ [])) listing since (here + 1) r (l ∙ moved) s (omega arith))

-- The stretch is what the listing has at its start.
pub the_stretch_stands_at_its_start : (listing : List ℕ) (r : ℕ) → take (length (stretch listing r)) (drop (stretch_start listing r) listing) ≡ stretch listing r
unfolding stretch stretch_if stretch_start start_if
the_stretch_stands_at_its_start listing r = by_check (check listing)
  where
    by_check : (c : Result (Unit {0}) Fault) → StandsAt listing (start_if c listing r) (stretch_if c listing r)
    by_check (Ok _) = stands_from listing [] [] listing 0 0 r refl refl refl
    by_check (Err _) = refl
