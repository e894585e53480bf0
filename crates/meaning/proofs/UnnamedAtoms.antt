-- SPECIFICATION, "Tick": "An atom that the listing never names has no influence." Where two slices of atoms are alike in all that the listing names,
-- a tick answers the same and leaves the same. Nothing is asked of the listing: it need not be as described.
use mathlib.Core.Bool.{Bool, true, false}
use mathlib.Core.Path.{◌≡◌, refl, sym, ap, subst}
use mathlib.Core.Logic.{inl, inr}
use mathlib.Core.List.{List, [], ◌∷◌, ◌++◌}
use Prim.Native.Nat.{ℕ, ◌≤◌, ◌<◌, max}
use native.Mathlib.Omega.{arith}
use borrow.Author.Tests.{ltb-true, ltb-false, eqb-true, eq-eqb}
use lib.Dec.{eqb, ltb}
use lib.ListN.{length, set, take, length-append, length-set, get_or-append}
use lib.Seq.{get_or-set_other}
use Rattle.words.specs.Choice.{pick, pick_cong, pick_case}
use Rattle.words.specs.Written.{written}
use Rattle.meaning.specs.Listing.{operation, argument, registers, Names, atoms_named}
use Rattle.meaning.specs.Check.{check}
use Rattle.meaning.specs.Tick.{stack_after, stored, matched, too_short, all_bits, named_bits, bits, tick_if, tick, next_after, AlikeWhereNamed}
use Rattle.std.specs.Prelude.{Result, Ok, Err}
use Rattle.meaning.specs.declared.refusal.Fault.{Fault}
use Rattle.meaning.specs.declared.refusal.TickRefusal.{TickRefusal}

-- Slices are alike where named when the byte of an atom that is not named is set to any other.
pub an_unnamed_byte_may_be_any : (ws atoms : List ℕ) (a byte : ℕ) → (Names ws a → ⊥) → AlikeWhereNamed ws atoms (set atoms a byte)
an_unnamed_byte_may_be_any ws atoms a byte unnamed b m =
    let e = length-set atoms a byte in
    ((λ l. omega arith, λ l. omega arith), sym (get_or-set_other atoms a b byte 0 (λ is. unnamed (subst (Names ws) is m))))

-- Slices are alike where named when more atoms stand behind those that are named.
pub more_atoms_may_follow : (ws atoms more : List ℕ) → ((a : ℕ) → Names ws a → a < length atoms) → AlikeWhereNamed ws atoms (atoms ++ more)
more_atoms_may_follow ws atoms more reached a m =
    let e = length-append atoms more in
    ((λ l. omega arith, λ l. reached a m), sym (get_or-append atoms more 0 a (reached a m)))

-- A slice is long enough (22) just where it reaches each atom that is named.
reaches_the_named : (ws : List ℕ) (n a : ℕ) → atoms_named ws ≤ n → Names ws a → a < n
unfolding atoms_named pick
reaches_the_named [] n a l m = absurd m
reaches_the_named (w ∷ ws) n a l (inl (is_atom, is)) = let fits = rw (eq-eqb (operation w) 1 is_atom) at l in omega arith
reaches_the_named (w ∷ ws) n a l (inr m) = reaches_the_named ws n a (omega arith) m

reaching_the_named : (ws : List ℕ) (n : ℕ) → ((a : ℕ) → Names ws a → a < n) → atoms_named ws ≤ n
unfolding atoms_named
reaching_the_named [] n reached = omega arith
reaching_the_named (w ∷ ws) n reached =
    let rest = reaching_the_named ws n (λ a m. reached a (inr m)) in
    pick_case (λ (here : ℕ). max here (atoms_named ws) ≤ n) (eqb (operation w) 1)
    (λ e. omega (arith, reached (argument w) (inl (eqb-true _ _ e, refl)))) (λ _. omega arith)

-- Two numbers that reach as far as n fall short of it alike.
as_short : (x y n : ℕ) → (n ≤ x → n ≤ y) → (n ≤ y → n ≤ x) → ltb x n ≡ ltb y n
as_short x y n there back = go (ltb x n) (ltb y n) refl refl
  where
    go : (b c : Bool) → ltb x n ≡ b → ltb y n ≡ c → b ≡ c
    go true true p q = refl
    go true false p q = absurd (omega (arith, ltb-true x n p, back (ltb-false y n q)))
    go false true p q = absurd (omega (arith, ltb-true y n q, there (ltb-false x n p)))
    go false false p q = refl

-- Two slices of atoms.
module _ (cur atoms atoms' : List ℕ) where
  -- Where the atoms are alike, the same is put on the stack.
  stacks_alike : (w : ℕ) (ws st : List ℕ) → AlikeWhereNamed (w ∷ ws) atoms atoms' → stack_after cur atoms w st ≡ stack_after cur atoms' w st
  unfolding stack_after
  stacks_alike w ws st alike =
      pick_cong (eqb (operation w) 1) (λ e. ap (λ (x : ℕ). x ∷ st) (alike (argument w) (inl (eqb-true _ _ e, refl))).1) (λ _. refl)

  -- Where the atoms are alike, the stores take the same.
  stores_alike : (ws st : List ℕ) → AlikeWhereNamed ws atoms atoms' → stored cur atoms ws st ≡ stored cur atoms' ws st
  unfolding stored
  stores_alike [] st alike = refl
  stores_alike (w ∷ ws) st alike =
      rw (stacks_alike w ws st alike, stores_alike ws (stack_after cur atoms' w st) (λ a m. alike a (inr m))) refl

  -- Where the atoms are alike, the match is the same.
  matches_alike : (ws st : List ℕ) → AlikeWhereNamed ws atoms atoms' → matched cur atoms ws st ≡ matched cur atoms' ws st
  unfolding matched
  matches_alike [] st alike = refl
  matches_alike (w ∷ ws) st alike =
      rw (stacks_alike w ws st alike, matches_alike ws (stack_after cur atoms' w st) (λ a m. alike a (inr m))) refl

  -- 22 and 23 see the same where the atoms are alike.
  as_long : (ws : List ℕ) → AlikeWhereNamed ws atoms atoms' → ltb (length atoms) (atoms_named ws) ≡ ltb (length atoms') (atoms_named ws)
  as_long ws alike =
      as_short (length atoms) (length atoms') (atoms_named ws)
      (λ l. reaching_the_named ws (length atoms') (λ a m. (alike a m).0.0 (reaches_the_named ws (length atoms) a l m)))
      (λ l. reaching_the_named ws (length atoms) (λ a m. (alike a m).0.1 (reaches_the_named ws (length atoms') a l m)))

  named_bits_alike : (ws : List ℕ) → AlikeWhereNamed ws atoms atoms' → named_bits atoms ws ≡ named_bits atoms' ws
  unfolding named_bits
  named_bits_alike [] alike = refl
  named_bits_alike (w ∷ ws) alike =
      let rest = named_bits_alike ws (λ a m. alike a (inr m)) in
      pick_cong (eqb (operation w) 1) (λ e. rw ((alike (argument w) (inl (eqb-true _ _ e, refl))).1, rest) refl) (λ _. rest)

  bits_alike : (ws : List ℕ) → AlikeWhereNamed ws atoms atoms' → bits ws cur atoms ≡ bits ws cur atoms'
  unfolding bits
  bits_alike ws alike = pick_cong (all_bits (take (registers ws) cur)) (λ _. named_bits_alike ws alike) (λ _. refl)

  -- Where the atoms are alike, the answer is the same.
  pub unnamed_atoms_change_no_answer : (ws : List ℕ) → AlikeWhereNamed ws atoms atoms' → (next stack : ℕ)
      → tick ws cur atoms next stack ≡ tick ws cur atoms' next stack
  unfolding tick tick_if too_short
  unnamed_atoms_change_no_answer ws alike next stack = go (check ws)
    where
      go : (c : Result (Unit {0}) Fault) → tick_if c ws cur atoms next stack ≡ tick_if c ws cur atoms' next stack
      go (Err fault) = refl
      go (Ok passed) = rw (as_long ws alike, bits_alike ws alike, matches_alike ws [] alike) refl

  -- Where the atoms are alike, the same is left in next.
  pub unnamed_atoms_change_no_register : (answer : Result ℕ TickRefusal) (ws : List ℕ) → AlikeWhereNamed ws atoms atoms' → (next : List ℕ)
      → next_after answer ws cur atoms next ≡ next_after answer ws cur atoms' next
  unfolding next_after
  unnamed_atoms_change_no_register (Ok bit) ws alike next = ap (written next 0) (stores_alike ws [] alike)
  unnamed_atoms_change_no_register (Err refusal) ws alike next = refl
