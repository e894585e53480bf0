-- Bounds that keep the sums within 64 bits, and the loop over the steps. They assume nothing.
use mathlib.Core.Path.{◌≡◌, refl, sym, ap₂, ◌∙◌}
use mathlib.Core.Bool.{Bool}
use mathlib.Core.List.{List}
use Prim.Native.Nat.{ℕ, zero, suc, ◌+◌, ◌*◌, ◌-◌, ◌<◌, ◌≤◌}
use native.Mathlib.Omega.{arith}
use native.Mathlib.Nat.{mul-le-mul}
use mir.Val.{Fits}
use mir.Syntax.{w64}
use lib.Dec.{eqb, ltb}
use lib.ListN.{length}
use Rattle.words.specs.Choice.{pick, pick_case}
use Rattle.term.specs.Steps.{term_count}
use Rattle.term.specs.declared.Kept.{Kept}
use Rattle.term.specs.Keeping.{step_of, guard_of}
use Rattle.term.proofs.Keeping.{length_of_guard}
use Rattle.meaning.specs.declared.SeqTerm.{SeqTerm}
use Rattle.meaning.specs.declared.SeqTerm.TheVariants.{Bool as BoolTerm, Goto, Nonconsec, ConsecAtLeast, Empty}
use Rattle.meaning.specs.declared.SeqHop.{SeqHop}
use Rattle.meaning.specs.declared.SeqHop.TheVariants.{Fixed, AtLeast}
use Rattle.meaning.specs.declared.SeqStep.{SeqStep}
use Rattle.step_text.specs.Text.{reach, hop_registers, term_registers, step_registers}
use Rattle.current.specs.Text.{registers_at}
use Rattle.step_text.proofs.Laws.{at_least_itself, term_count_small}
use Rattle.current.proofs.Walk.{registers_more, registers_grow, later_registers, lead_registers}
use Rattle.sizes.specs.Sizes.{hop_text_size, term_text_size, lead_text_size, delays_size, hop_stores_size, goto_size, term_stores_size, step_size, first_size, size_up_to_step, most_guard_words, most_text_words, most_activation_words, most_step_words, most_store_words, Countable}
use Rattle.sizes.specs.declared.Size.{Size}

-- Each choice is at most what both its branches are.
under : {x y m : ℕ} (b : Bool) → x ≤ m → y ≤ m → pick b x y ≤ m
under {m = m} b h k = pick_case (λ (z : ℕ). z ≤ m) b (λ e. h) (λ e. k)

pub hop_text_small : (g : ℕ) (h : SeqHop) (e : ℕ) → hop_text_size g h e ≤ e + 2 + g
unfolding hop_text_size
hop_text_small g (Fixed d) e = under (eqb d 0) (omega arith) (omega arith)
hop_text_small g (AtLeast m) e = under (eqb m 0) (omega arith) (omega arith)

pub term_text_small : (x : SeqTerm) (a : ℕ) → term_text_size x a ≤ a + 11
unfolding term_text_size
term_text_small (BoolTerm x) a = omega arith
term_text_small (Goto b count) a = under (ltb count 2) (omega arith) (omega arith)
term_text_small (Nonconsec b count) a = under (ltb count 2) (omega arith) (omega arith)
term_text_small (ConsecAtLeast b count) a = under (ltb count 2) (omega arith) (omega arith)
term_text_small Empty a = omega arith

pub lead_text_small : (x : SeqTerm) → lead_text_size x ≤ 12
unfolding lead_text_size
lead_text_small (BoolTerm x) = omega arith
lead_text_small (Goto b count) = term_text_small (Goto b count) 1
lead_text_small (Nonconsec b count) = term_text_small (Nonconsec b count) 1
lead_text_small (ConsecAtLeast b count) = term_text_small (ConsecAtLeast b count) 1
lead_text_small Empty = omega arith

product_small : (m g : ℕ) → m ≤ 65536 → g ≤ most_guard_words → m * (2 + g) ≤ 68719607808
product_small m g h k = let s : 2 + g ≤ 1048578 = omega (arith, k) in omega (arith, mul-le-mul h s)

pub delays_small : (g d e : ℕ) → g ≤ most_guard_words → d ≤ 65536 → delays_size g d e ≤ e + 68719607809
unfolding delays_size
delays_small g d e h k = under (eqb d 0) (omega arith) (omega (arith, product_small (d - 1) g (omega (arith, k)) h))

pub hop_stores_small : (g : ℕ) (h : SeqHop) (e : ℕ) → g ≤ most_guard_words → hop_registers h ≤ 65536 → hop_stores_size g h e ≤ e + 68719607809
unfolding hop_stores_size hop_registers
hop_stores_small g (Fixed d) e l k = delays_small g d e l k
hop_stores_small g (AtLeast m) e l k = omega (arith, k, at_least_itself m)

pub goto_small : (count a : ℕ) → goto_size count a ≤ a + a + 19 + count * 11
unfolding goto_size
goto_small count a = under (ltb count 2) (omega arith) (omega arith)

pub term_stores_small : (x : SeqTerm) (a : ℕ) → term_stores_size x a ≤ a + a + a + 31 + term_count x * 11
unfolding term_stores_size
term_stores_small (BoolTerm x) a = omega arith
term_stores_small (Goto b count) a = omega (arith, goto_small count a)
term_stores_small (Nonconsec b count) a = omega (arith, goto_small count a, term_text_small (Nonconsec b count) a)
term_stores_small (ConsecAtLeast b count) a = omega arith
term_stores_small Empty a = omega arith

-- `step_size`.
module _ (s : SeqStep) {h : SeqHop} (e : h ≡ reach s) (l : step_registers s ≤ 65536) where
  pub step_hop_small : hop_registers h ≤ 65536
  unfolding step_registers
  step_hop_small = rw e (omega (arith, l))

  pub step_term_small : term_count s.term ≤ 65536
  unfolding step_registers
  step_term_small = omega (arith, l, term_count_small s.term)

pub activation_small : (g : ℕ) (h : SeqHop) (e : ℕ) {a : ℕ} → a ≡ hop_text_size g h e → g ≤ most_guard_words → e ≤ most_text_words → a ≤ most_activation_words
activation_small g h e f k l = omega (arith, f, k, l, hop_text_small g h e)

module _ (s : SeqStep) {g x : ℕ} {h : SeqHop} {a u v : ℕ} (e : h ≡ reach s) (l : step_registers s ≤ 65536) (m : g ≤ most_guard_words) (n : x ≤ most_text_words)
    (f : a ≡ hop_text_size g h x) (i : u ≡ hop_stores_size g h x) (j : v ≡ term_stores_size s.term a) where
  step_stores_small : u + v ≤ most_step_words
  step_stores_small =
      omega (arith, n, i, j, hop_stores_small g h x m (step_hop_small s e l), term_stores_small s.term a, step_term_small s e l, activation_small g h x f m n)

  pub own_fits : Fits w64 (u + v)
  own_fits = omega (arith, step_stores_small)

  pub stores_fit : {z : ℕ} → z ≤ most_store_words → Fits w64 (z + (u + v))
  stores_fit q = omega (arith, step_stores_small, q)

pub ruleset step_sums = (step_hop_small, activation_small, own_fits, stores_fit)

-- The sizes after the k-th step.
first_text : (g : ℕ) (x : SeqTerm) → (first_size g x).text ≤ 16 + g
unfolding first_size
first_text g x = omega (arith, lead_text_small x)

first_stores : (g : ℕ) (x : SeqTerm) → term_registers x ≤ 65536 → (first_size g x).stores ≤ most_step_words
unfolding first_size
first_stores g x h = omega (arith, term_stores_small x 1, term_count_small x, h)

hop_fresh : (g : ℕ) (h : SeqHop) (e m : ℕ) → e ≤ m + g → hop_text_size g h e ≤ m + 2 + g
unfolding hop_text_size
hop_fresh g (Fixed d) e m l = under (eqb d 0) (omega (arith, l)) (omega arith)
hop_fresh g (AtLeast n) e m l = under (eqb n 0) (omega (arith, l)) (omega arith)

text_grows : (g : ℕ) (s : SeqStep) (z : Size) (m : ℕ) → z.text ≤ m + g → (step_size g s z).text ≤ m + 13 + g
unfolding step_size
text_grows g s z m l = omega (arith, hop_fresh g (reach s) z.text m l, term_text_small s.term (hop_text_size g (reach s) z.text))

stores_grow : (g : ℕ) (s : SeqStep) (z : Size) → step_registers s ≤ 65536 → g ≤ most_guard_words → z.text ≤ most_text_words → (step_size g s z).stores ≤ z.stores + most_step_words
unfolding step_size
stores_grow g s z l m n = omega (arith, step_stores_small s refl l m n refl refl refl)

pub text_small : (W : List ℕ) (a : Kept) (k : ℕ) → (size_up_to_step W a k).text ≤ 16 * (k + 1) + length (guard_of W a)
unfolding size_up_to_step
text_small W a zero = omega (arith, first_text (length (guard_of W a)) (step_of W a 0).term)
text_small W a (suc k) =
    omega (arith, text_grows (length (guard_of W a)) (step_of W a (suc k)) (size_up_to_step W a k) (16 * (k + 1)) (text_small W a k))

module _ {W : List ℕ} {a : Kept} (C : Countable W a) where
  registers_of_a_step : (k : ℕ) → k < a.steps → registers_at W a k ≤ 65536
  registers_of_a_step k h = omega (arith, C.registers, registers_more W a k, registers_grow W a (k + 1) a.steps (omega (arith, h)))

  text_low : (k : ℕ) → k < a.steps → (size_up_to_step W a k).text ≤ most_text_words
  text_low k h = omega (arith, text_small W a k, C.whole.many, C.short, h)

  pub stores_small : (k : ℕ) → k < a.steps → (size_up_to_step W a k).stores ≤ (k + 1) * most_step_words
  unfolding size_up_to_step
  stores_small zero h =
      omega (arith, first_stores (length (guard_of W a)) (step_of W a 0).term (omega (arith, registers_of_a_step 0 h, lead_registers W a 0 refl)))
  stores_small (suc k) h =
      let l : step_registers (step_of W a (suc k)) ≤ 65536 = omega (arith, registers_of_a_step (suc k) h, later_registers W a (suc k) (omega arith)) in
      omega (arith, stores_small k (omega (arith, h)), stores_grow (length (guard_of W a)) (step_of W a (suc k)) (size_up_to_step W a k) l C.short (text_low k (omega (arith, h))))

-- The loop of `sizes`: z are the sizes after the step before the k-th.
module _ {W : List ℕ} {a : Kept} (C : Countable W a) where
  guard_words : a.end - a.guard ≡ length (guard_of W a)
  guard_words = sym (length_of_guard C.whole)

  pub guard_short : a.end - a.guard ≤ most_guard_words
  guard_short = omega (arith, C.short, guard_words)

  pub sizing_begins : {z : Size} {s : SeqStep} → s ≡ step_of W a 0 → z ≡ first_size (a.end - a.guard) s.term → z ≡ size_up_to_step W a 0
  unfolding size_up_to_step
  sizing_begins w q = q ∙ rw (guard_words, w) refl

  module _ {z : Size} {k : ℕ} (e : z ≡ size_up_to_step W a (k - 1)) (h : k < a.steps) where
    pub sizing_text : z.text ≤ most_text_words
    sizing_text = rw e (text_low C (k - 1) (omega (arith, h)))

    pub sizing_stores : z.stores ≤ most_store_words
    sizing_stores = rw e (omega (arith, stores_small C (k - 1) (omega (arith, h)), C.whole.many, h))

    module _ (l : 1 ≤ k) {s : SeqStep} (w : s ≡ step_of W a k) where
      pub sizing_registers : step_registers s ≤ 65536
      sizing_registers = rw w (omega (arith, registers_of_a_step C k h, later_registers W a k l))

      pub sizing_on : {y : Size} → y ≡ step_size (a.end - a.guard) s z → y ≡ size_up_to_step W a (k + 1 - 1)
      unfolding size_up_to_step
      sizing_on q =
          let m : k + 1 - 1 ≡ suc (k - 1) = omega arith in
          let n : suc (k - 1) ≡ k = omega arith in
          q ∙ ap₂ (λ (x : ℕ) (v : Size). step_size x s v) guard_words e ∙ rw (m, n, w) refl
