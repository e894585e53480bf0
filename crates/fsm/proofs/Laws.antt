-- The stores of the machines, as the code meets them. They assume nothing.
-- m is a machine, A are the words of its activation.
use mathlib.Core.Path.{◌≡◌, refl, ap}
use mathlib.Core.List.{List, [], ◌∷◌, ◌++◌, append-nil, append_assoc}
use Prim.Native.Nat.{ℕ, zero, suc, ◌+◌, ◌-◌, ◌<◌, ◌≤◌}
use native.Mathlib.Omega.{arith}
use native.Mathlib.Numerals.{add-one}
use lib.ListN.{length}
use Rattle.words.specs.Written.{Wrote}
use Rattle.words.proofs.Laws.{Going, go, done, two_parts, third_room, three_done}
use Rattle.step_text.specs.Text.{atom_word, register_word, any_word, or_word}
use Rattle.step_text.proofs.Parts.{parts}
use Rattle.fsm.specs.declared.Machine.{Machine}
use Rattle.fsm.specs.Stores.{available, goto_first, goto_end, goto_second, goto_stage, goto_stage_words, goto_store_words, run_stage, run_top, run_stage_words, run_store_words}

-- The second register of a goto, with the activation among its words; and a later one, over the register before it.
pub second_done : (m : Machine) {A o o₁ o₂ o₃ o₄ : List ℕ} {at p₁ p₂ p₃ p b q : ℕ} → b ≡ m.atom → q ≡ m.register + 1 → Wrote o o₁ at p₁ (atom_word m.atom ∷ any_word ∷ register_word m.register ∷ []) → Wrote o₁ o₂ p₁ p₂ A
    → Wrote o₂ o₃ p₂ p₃ (or_word ∷ []) → Wrote o₃ o₄ p₃ p (goto_end b q) → Wrote o o₄ at p (goto_second m A)
second_done m e f u v w x = two_parts u (two_parts (two_parts v w) (rw (← e, ← f) x))

pub later_done : (b r : ℕ) {o o₁ o₂ : List ℕ} {at p₁ p : ℕ} → Wrote o o₁ at p₁ (atom_word b ∷ any_word ∷ register_word (r - 1) ∷ []) → Wrote o₁ o₂ p₁ p (goto_end b r)
    → Wrote o o₂ at p (goto_stage b r (register_word (r - 1) ∷ []))
later_done b r u v = two_parts u v

-- The stages of a goto: one more, and none.
pub stages_ahead : (b r n : ℕ) (avail : List ℕ) → 0 < n → goto_stage_words b r n avail ≡ goto_stage b r avail ++ goto_stage_words b (r + 1) (n - 1) (register_word r ∷ [])
unfolding goto_stage_words
stages_ahead b r zero avail h = absurd (omega (arith, h))
stages_ahead b r (suc n) avail h = let e : suc n - 1 ≡ n = omega arith in rw (e, add-one r) refl

pub no_stages : (b r n : ℕ) (avail : List ℕ) → n ≡ 0 → goto_stage_words b r n avail ≡ []
unfolding goto_stage_words
no_stages b r n avail e = rw e refl

pub goto_words : (m : Machine) (A : List ℕ) → goto_store_words m A ≡ goto_first m A ++ goto_stage_words m.atom (m.register + 1) (m.count - 1) (available m.register A)
unfolding goto_store_words
goto_words m A = rw (add-one m.register) refl

pub ruleset stages = (parts, append-nil, stages_ahead, no_stages, goto_words)

-- The loop of `goto_fsm` from the i-th register on, which begins with the third.
abbrev later_stages : Machine → ℕ → List ℕ
later_stages m i = goto_stage_words m.atom (m.register + i) (m.count - i) (register_word (m.register + i - 1) ∷ [])

pub record Staging (m : Machine) (o : List ℕ) (at : ℕ) (o' : List ℕ) (p i : ℕ) : Type 0 where
  pub going : Going o at (later_stages m 2) o' p (later_stages m i)

pub staging_on : {m : Machine} {o : List ℕ} {at : ℕ} {o' o₁ : List ℕ} {p p₁ i b q : ℕ} → Staging m o at o' p i → i < m.count → b ≡ m.atom → q ≡ m.register + i
    → Wrote o' o₁ p p₁ (goto_stage b q (register_word (q - 1) ∷ [])) → Staging m o at o₁ p₁ (i + 1)
staging_on {m} {i = i} D h x y w =
    let avail = register_word (m.register + i - 1) ∷ [] in
    let e : m.count - i - 1 ≡ m.count - (i + 1) = omega arith in
    let f : m.register + i + 1 ≡ m.register + (i + 1) = omega arith in
    let g : m.register + (i + 1) - 1 ≡ m.register + i = omega arith in
    record { going = rw g (rw (← e, ← f) (go (goto_stage m.atom (m.register + i) avail) _ (rw (stages_ahead m.atom (m.register + i) (m.count - i) avail (omega (arith, h))) at D.going) (rw (x, y) at w))) }

goto_parts : (m : Machine) (A : List ℕ) → 2 ≤ m.count → goto_store_words m A ≡ goto_first m A ++ (goto_second m A ++ later_stages m 2)
goto_parts m A h =
    let e : m.count - 1 - 1 ≡ m.count - 2 = omega arith in
    let f : m.register + 1 + 1 ≡ m.register + 2 = omega arith in
    let g : m.register + 2 - 1 ≡ m.register + 1 = omega arith in
    rw (goto_words m A, stages_ahead m.atom (m.register + 1) (m.count - 1) (available m.register A) (omega (arith, h)), e, f, g) refl

module _ (m : Machine) (A : List ℕ) {at p₁ p₂ p i : ℕ} {o o₁ o₂ o₃ : List ℕ} (h : 2 ≤ m.count) (u : Wrote o o₁ at p₁ (goto_first m A)) (v : Wrote o₁ o₂ p₁ p₂ (goto_second m A))
    (D : Staging m o₂ p₂ o₃ p i) where
  pub later_room : at + length (goto_store_words m A) ≤ length o → i < m.count → p + 11 ≤ length o₃
  later_room z l =
      let rest : p₂ + length (later_stages m 2) ≤ length o₂ = third_room (goto_first m A) (goto_second m A) (later_stages m 2) (goto_parts m A h) z u v in
      let stage = ap length (stages_ahead m.atom (m.register + i) (m.count - i) (register_word (m.register + i - 1) ∷ []) (omega (arith, l))) in
      omega (arith, rest, stage, D.going.place, D.going.long)

  pub goto_done : m.count ≤ i → Wrote o o₃ at p (goto_store_words m A)
  goto_done l =
      three_done (goto_parts m A h) u v (done (rw (no_stages m.atom (m.register + i) (m.count - i) (register_word (m.register + i - 1) ∷ []) (omega (arith, l))) at D.going))

-- The registers of a run: one more, and the top one.
pub runs_ahead : (b r n : ℕ) → 0 < n → run_stage_words b r n ≡ run_stage b r ++ run_stage_words b (r + 1) (n - 1)
unfolding run_stage_words
runs_ahead b r zero h = absurd (omega (arith, h))
runs_ahead b r (suc n) h = let e : suc n - 1 ≡ n = omega arith in rw (e, add-one r) refl

pub only_top : (b r n : ℕ) → n ≡ 0 → run_stage_words b r n ≡ run_top b r
unfolding run_stage_words
only_top b r n e = rw e refl

pub run_words : (m : Machine) (A : List ℕ) → run_store_words m A ≡ A ++ run_stage_words m.atom m.register (m.count - 1)
unfolding run_store_words
run_words m A = refl

pub ruleset runs = (parts, runs_ahead, only_top, run_words)

-- The loop of `consec_run_fsm` from the i-th register on.
abbrev runs_from : Machine → ℕ → List ℕ
runs_from m i = run_stage_words m.atom (m.register + i) (m.count - 1 - i)

pub record Running (m : Machine) (o : List ℕ) (at : ℕ) (o' : List ℕ) (p i : ℕ) : Type 0 where
  pub going : Going o at (runs_from m 0) o' p (runs_from m i)

pub running_on : {m : Machine} {o : List ℕ} {at : ℕ} {o' o₁ : List ℕ} {p p₁ i top b q : ℕ} → Running m o at o' p i → top ≡ m.count - 1 → i < top → b ≡ m.atom → q ≡ m.register + i
    → Wrote o' o₁ p p₁ (run_stage b q) → Running m o at o₁ p₁ (i + 1)
running_on {m} {i = i} D t h x y w =
    let e : m.count - 1 - i - 1 ≡ m.count - 1 - (i + 1) = omega arith in
    let f : m.register + i + 1 ≡ m.register + (i + 1) = omega arith in
    record { going = rw (← e, ← f) (go (run_stage m.atom (m.register + i)) _ (rw (runs_ahead m.atom (m.register + i) (m.count - 1 - i) (omega (arith, h, t))) at D.going) (rw (x, y) at w)) }
