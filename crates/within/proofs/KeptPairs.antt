-- A pair that is held beside its row, as the passes meet it: what is read of it is the pair of seq1's alternative with the delays that fit.
use mathlib.Core.Path.{◌≡◌, refl, ap, ◌∙◌}
use mathlib.Core.List.{List, [], ◌∷◌}
use Prim.Native.Nat.{ℕ, ◌+◌, ◌≤◌}
use native.Mathlib.Omega.{arith}
use lib.Dec.{leb}
use lib.ListN.{length}
use Rattle.words.specs.Choice.{pick_case}
use Rattle.meaning.specs.Alternative.{SeqAlt}
use Rattle.meaning.specs.Root.{window_len}
use Rattle.alternative.proofs.Laws.{kept_texts}
use Rattle.pair.specs.declared.Pair.{Pair}
use Rattle.pair.specs.Pairs.{Fitted, pair_registers, pair_stores, pair_text, kept_pair_registers, kept_pair_stores, kept_pair_text, PlacedPair}
use Rattle.pair.proofs.Pairs.{registers_of_pair, stores_of_pair, text_of_pair, placed_pair}
use Rattle.alternative.specs.Alternatives.{text_in}
use Rattle.within.specs.AllPairs.{fitting, beside}
use Rattle.within.specs.Walk.{Steps, PairHeld}

module _ {S : Type 0} {P : Steps S} {work : List ℕ} {pair : Pair} {s : S × List ℕ} {y : SeqAlt} {f : Fitted} (H : PairHeld P work pair s y f) where
  same_fit : record { alternative = f.alternative; delays = pair.delays } ≡ f
  same_fit = ap (λ (d : ℕ). record f { delays = d }) H.delays

  pub held_registers : kept_pair_registers work pair ≡ pair_registers f
  held_registers = registers_of_pair pair H.one ∙ ap pair_registers same_fit

  pub held_next : pair.one.register + kept_pair_registers work pair ≡ P.register s.0 + pair_registers f
  held_next = omega (arith, H.one.register, held_registers)

  pub held_placed : P.register s.0 + pair_registers f ≤ 65536 → PlacedPair work pair
  held_placed small = placed_pair pair H.one (rw same_fit small)

  pub held_stores : kept_pair_stores work pair ≡ pair_stores f (P.register s.0)
  held_stores = stores_of_pair pair H.one ∙ ap (λ (g : Fitted). pair_stores g (P.register s.0)) same_fit

  pub held_text : (words : ℕ) → kept_pair_text work pair words ≡ pair_text words (text_in y pair.two.register) f (P.register s.0)
  held_text words =
      text_of_pair pair H.one words ∙ rw (kept_texts H.two, same_fit) refl

-- No more pairs are beside a row than seq1 has alternatives.
few_fit : (l : ℕ) (xs : List SeqAlt) → length (fitting l xs) ≤ length xs
unfolding fitting
few_fit l [] = omega arith
few_fit l (x ∷ xs) =
    pick_case (λ (fs : List Fitted). length fs ≤ length (x ∷ xs)) (leb (window_len x.steps) l) (λ yes. omega (arith, few_fit l xs)) (λ no. omega (arith, few_fit l xs))

pub few_beside : (xs : List SeqAlt) (y : SeqAlt) → length (beside xs y) ≤ length xs
few_beside xs y = few_fit (window_len y.steps) xs
