-- The stores of a hop, of a step and of a kept alternative, as the code meets them. They assume nothing.
-- W are the words of work, a the alternative kept in them, G those of a guard, E a text before a hop.
use mathlib.Core.Path.{◌≡◌, refl, sym, ap, ◌∙◌}
use mathlib.Core.List.{List, [], ◌∷◌, ◌++◌, append_assoc}
use Prim.Native.Nat.{ℕ, suc, ◌+◌, ◌-◌, ◌<◌, ◌≤◌}
use native.Mathlib.Omega.{arith}
use native.Mathlib.Numerals.{add-one}
use lib.ListN.{length, length-append}
use borrow.Author.Tests.{lt-ltb, le-ltb}
use Rattle.words.specs.Choice.{pick_true, pick_false}
use Rattle.words.specs.Written.{Wrote}
use Rattle.words.proofs.Laws.{Going, begin, go, done, still_long, same_words, same_room, first_room, second_room, both_done, third_room, three_parts, three_done, nothing_written}
use Rattle.term.specs.declared.Kept.{Kept}
use Rattle.term.specs.Keeping.{step_of}
use Rattle.meaning.specs.Expression.{seq, arm}
use Rattle.meaning.specs.declared.SeqTerm.{SeqTerm}
use Rattle.meaning.specs.declared.SeqTerm.TheVariants.{Bool as BoolTerm, Goto, Nonconsec, ConsecAtLeast, Empty}
use Rattle.meaning.specs.declared.SeqHop.{SeqHop}
use Rattle.meaning.specs.declared.SeqHop.TheVariants.{Fixed, AtLeast}
use Rattle.meaning.specs.declared.SeqStep.{SeqStep}
use Rattle.step_text.specs.Text.{register_word, or_word, store_word, reach, hop_registers, term_registers, step_registers, TermFits, StepFits}
use Rattle.step_text.proofs.Laws.{at_least_some, at_least_itself}
use Rattle.step_text.proofs.StepParts.{term_small}
use Rattle.current.specs.Text.{registers_at, registers_before, activation_at}
use Rattle.current.specs.Walk.{Ready, Placed}
use Rattle.current.proofs.Walk.{registers_more, registers_less, registers_grow, piece_later, piece_first}
use Rattle.fsm.specs.Stores.{term_store_words}
use Rattle.pipeline.specs.Stores.{delay_store_words, more_delays, late_latch_words, hop_store_words, hop_stores_at, step_store_words, store_words_after, later_store_words, alternative_store_words}

-- A word in front of a text and others behind it.
pub after_one : {o o₁ o₂ o₃ E ws : List ℕ} {at p₁ p₂ p w : ℕ} → Wrote o o₁ at p₁ (w ∷ []) → Wrote o₁ o₂ p₁ p₂ E → Wrote o₂ o₃ p₂ p ws → Wrote o o₃ at p (w ∷ (E ++ ws))
after_one x y z = three_parts x y z

-- The loop of `delays`: i delays are written.
abbrev delay_words : List ℕ → ℕ → List ℕ
delay_words G r = register_word (r - 1) ∷ (G ++ (store_word seq r ∷ []))

pub record Delaying (G o : List ℕ) (at r d : ℕ) (o' : List ℕ) (p i : ℕ) : Type 0 where
  pub long : length o' ≡ length o
  pub going : Going o at (more_delays G r d) o' p (more_delays G (r + i) (d - i))

module _ {G o : List ℕ} {at r d : ℕ} {o' : List ℕ} {p i : ℕ} (D : Delaying G o at r d o' p i) where
  module _ (h : i < d) where
    delay_ahead : more_delays G (r + i) (d - i) ≡ delay_words G (r + i) ++ more_delays G (r + (i + 1)) (d - (i + 1))
    unfolding delay_store_words
    delay_ahead =
        let e : d - i ≡ suc (d - (i + 1)) = omega (arith, h) in
        let f : r + (i + 1) ≡ suc (r + i) = omega arith in
        let f' : suc (r + i) - 1 ≡ r + i = omega arith in
        rw (e, f, f') (ap (λ (l : List ℕ). register_word (r + i - 1) ∷ l) (sym (append_assoc G (store_word seq (r + i) ∷ []) (delay_store_words G (suc (r + i)) (d - (i + 1)) (register_word (r + i) ∷ G)))))

    delay_onward : Going o at (more_delays G r d) o' p (delay_words G (r + i) ++ more_delays G (r + (i + 1)) (d - (i + 1)))
    delay_onward = rw delay_ahead at D.going

    pub delaying_room : at + length (more_delays G r d) ≤ length o → p + (2 + length G) ≤ length o'
    delaying_room F =
        let all : p + length (delay_words G (r + i) ++ more_delays G (r + (i + 1)) (d - (i + 1))) ≤ length o' = omega (arith, delay_onward.place, D.long, F) in
        omega (arith, first_room p (delay_words G (r + i)) (more_delays G (r + (i + 1)) (d - (i + 1))) refl all, length-append G (store_word seq (r + i) ∷ []))

    pub delaying_on : {o₁ : List ℕ} {p₁ : ℕ} → Wrote o' o₁ p p₁ (register_word (r + i - 1) ∷ (G ++ (store_word seq (r + i) ∷ []))) → Delaying G o at r d o₁ p₁ (i + 1)
    delaying_on {o₁} {p₁} w = record { long = next.long; going = next }
      where
        next : Going o at (more_delays G r d) o₁ p₁ (more_delays G (r + (i + 1)) (d - (i + 1)))
        next = go (delay_words G (r + i)) _ delay_onward w

  pub delaying_ends : d ≤ i → Wrote o o' at p (more_delays G r d)
  unfolding delay_store_words
  delaying_ends h = let e : d - i ≡ 0 = omega (arith, h) in done (rw e at D.going)

-- `fixed`: the text before, its store, the other delays.
pub no_delays : (G : List ℕ) (r : ℕ) (E : List ℕ) {d : ℕ} (o : List ℕ) (at : ℕ) → d ≡ 0 → Wrote o o at at (delay_store_words G r d E)
unfolding delay_store_words
no_delays G r E o at e = rw e (nothing_written o at)

module _ (G : List ℕ) (r : ℕ) (E : List ℕ) {d : ℕ} (z : d ≡ 0 → ⊥) where
  fixed_parts : delay_store_words G r d E ≡ E ++ ((store_word seq r ∷ []) ++ more_delays G (r + 1) (d - 1))
  unfolding delay_store_words
  fixed_parts =
      let e : d ≡ suc (d - 1) = omega arith in
      let f : r + 1 - 1 ≡ r = omega arith in
      ap (λ (m : ℕ). delay_store_words G r m E) e ∙ rw (f, add-one r) refl

  pub fixed_text_room : (at : ℕ) {n : ℕ} → at + length (delay_store_words G r d E) ≤ n → at + length E ≤ n
  fixed_text_room at h = first_room at E ((store_word seq r ∷ []) ++ more_delays G (r + 1) (d - 1)) fixed_parts h

  pub fixed_store_room : {at a : ℕ} {o o₁ : List ℕ} → at + length (delay_store_words G r d E) ≤ length o → Wrote o o₁ at a E → a < length o₁
  fixed_store_room h u = omega (arith, second_room E ((store_word seq r ∷ []) ++ more_delays G (r + 1) (d - 1)) fixed_parts h u)

  pub fixed_rest_room : {at a b : ℕ} {o o₁ o₂ : List ℕ} → at + length (delay_store_words G r d E) ≤ length o → Wrote o o₁ at a E → Wrote o₁ o₂ a b (store_word seq r ∷ [])
      → b + length (more_delays G (r + 1) (d - 1)) ≤ length o₂
  fixed_rest_room h u v = third_room E (store_word seq r ∷ []) (more_delays G (r + 1) (d - 1)) fixed_parts h u v

  pub fixed_done : {at a b p : ℕ} {o o₁ o₂ o₃ : List ℕ} → Wrote o o₁ at a E → Wrote o₁ o₂ a b (store_word seq r ∷ [])
      → Wrote o₂ o₃ b p (more_delays G (r + 1) (d - 1)) → Wrote o o₃ at p (delay_store_words G r d E)
  fixed_done u v w = three_done fixed_parts u v w

-- `late_latch`: its delays have no guard.
module _ (r d : ℕ) (E : List ℕ) where
  pub late_delays_room : (at : ℕ) {n : ℕ} → at + (4 + length (delay_store_words [] r d E)) ≤ n → at + length (delay_store_words [] r d E) ≤ n
  late_delays_room at h = omega arith

  pub late_latch_room : {at p₁ : ℕ} {o o₁ : List ℕ} → Wrote o o₁ at p₁ (delay_store_words [] r d E) → at + (4 + length (delay_store_words [] r d E)) ≤ length o → p₁ + 4 ≤ length o₁
  late_latch_room u h = omega (arith, u.ends, still_long u)

-- `hop_over`: what each variant of the hop x puts.
module _ (r : ℕ) {x : SeqHop} where
  module _ {d : ℕ} (e : x ≡ Fixed d) where
    pub hop_small : r + hop_registers x ≤ 65536 → r + d ≤ 65536
    unfolding hop_registers
    hop_small h = rw e at h

    module _ (G E : List ℕ) where
      pub hop_room : (at : ℕ) {n : ℕ} → at + length (hop_store_words G r x E) ≤ n → at + length (delay_store_words G r d E) ≤ n
      unfolding hop_store_words
      hop_room at h = rw e at h

      pub hop_done : {at p : ℕ} {o o₁ : List ℕ} → Wrote o o₁ at p (delay_store_words G r d E) → Wrote o o₁ at p (hop_store_words G r x E)
      unfolding hop_store_words
      hop_done w = rw e w

  module _ {m : ℕ} (e : x ≡ AtLeast m) where
    pub latch_small : r + hop_registers x ≤ 65536 → r < 65536
    unfolding hop_registers
    latch_small h = omega (arith, rw e at h, at_least_some m)

    pub late_small : r + hop_registers x ≤ 65536 → r + m ≤ 65536
    unfolding hop_registers
    late_small h = omega (arith, rw e at h, at_least_itself m)

    module _ (G E : List ℕ) where
      latch_words : m < 2 → hop_store_words G r x E ≡ register_word r ∷ (E ++ (or_word ∷ store_word arm r ∷ []))
      unfolding hop_store_words
      latch_words h = rw e (pick_true _ _ (lt-ltb m 2 h))

      pub latch_room : (at : ℕ) {n : ℕ} → m < 2 → at + length (hop_store_words G r x E) ≤ n → at + (3 + length E) ≤ n
      latch_room at {n} h q =
          let q' : at + length (register_word r ∷ (E ++ (or_word ∷ store_word arm r ∷ []))) ≤ n = same_room at (latch_words h) q in
          omega (arith, q', length-append E (or_word ∷ store_word arm r ∷ []))

      pub latch_done : {at p : ℕ} {o o₁ : List ℕ} → m < 2 → Wrote o o₁ at p (register_word r ∷ (E ++ (or_word ∷ store_word arm r ∷ []))) → Wrote o o₁ at p (hop_store_words G r x E)
      latch_done h w = same_words (sym (latch_words h)) w

      -- The number k of the arm before, which did not take the hop, is that of this one.
      module _ {k : ℕ} (f : x ≡ AtLeast k) (l : 2 ≤ k) where
        late_stores_are : hop_store_words G r x E ≡ delay_store_words [] r (m - 1) E ++ late_latch_words r m
        unfolding hop_store_words
        late_stores_are = let same : k ≡ m = cc in rw e (pick_false _ _ (le-ltb m 2 (omega arith)))

        pub late_room : (at : ℕ) {n : ℕ} → at + length (hop_store_words G r x E) ≤ n → at + (4 + length (delay_store_words [] r (m - 1) E)) ≤ n
        late_room at {n} q =
            let q' : at + length (delay_store_words [] r (m - 1) E ++ late_latch_words r m) ≤ n = same_room at late_stores_are q in
            omega (arith, q', length-append (delay_store_words [] r (m - 1) E) (late_latch_words r m))

        pub late_done : {at p : ℕ} {o o₁ : List ℕ} → Wrote o o₁ at p (delay_store_words [] r (m - 1) E ++ late_latch_words r m) → Wrote o o₁ at p (hop_store_words G r x E)
        late_done w = same_words (sym late_stores_are) w

-- A term that has no register stores nothing.
no_machine : (x : SeqTerm) (q : ℕ) (activation : List ℕ) → term_registers x ≡ 0 → term_store_words q x activation ≡ []
unfolding term_registers term_store_words
no_machine (BoolTerm b) q activation e = refl
no_machine (Goto b count) q activation e = absurd (omega (arith, at_least_some count, e))
no_machine (Nonconsec b count) q activation e = absurd (omega (arith, e))
no_machine (ConsecAtLeast b count) q activation e = absurd (omega (arith, at_least_some count, e))
no_machine Empty q activation e = refl

-- `later`: the k-th step read as s, its hop h, its term's first register q.
module _ {W : List ℕ} {a : Kept} {k r : ℕ} {s : SeqStep} (R : Ready W a k r) (z : 0 < k) (w : s ≡ step_of W a k) where
  later_fits : StepFits r s
  later_fits = piece_later (record { whole = R.whole; among = R.among; high = R.high }) w z

  pub later_small : r + step_registers s ≤ 65536
  later_small = later_fits.high

  module _ {q : ℕ} (i : q ≡ r + hop_registers (reach s)) where
    pub later_term_fits : TermFits q s.term
    later_term_fits = term_small s r i later_fits

    module _ {h : SeqHop} (e : h ≡ reach s) where
      step_parts : step_store_words W a k r ≡ hop_stores_at W a k r h ++ term_store_words q s.term (activation_at W a k r)
      unfolding step_store_words
      step_parts = rw (e, i, w) refl

      pub later_hop_room : (at : ℕ) {n : ℕ} → at + length (step_store_words W a k r) ≤ n → at + length (hop_stores_at W a k r h) ≤ n
      later_hop_room at l = first_room at (hop_stores_at W a k r h) (term_store_words q s.term (activation_at W a k r)) step_parts l

      module _ {at p₁ : ℕ} {o o₁ : List ℕ} (u : Wrote o o₁ at p₁ (hop_stores_at W a k r h)) where
        pub later_term_room : at + length (step_store_words W a k r) ≤ length o → p₁ + length (term_store_words q s.term (activation_at W a k r)) ≤ length o₁
        later_term_room l = second_room (hop_stores_at W a k r h) (term_store_words q s.term (activation_at W a k r)) step_parts l u

        pub later_done : {p : ℕ} {o₂ : List ℕ} → Wrote o₁ o₂ p₁ p (term_store_words q s.term (activation_at W a k r)) → Wrote o o₂ at p (step_store_words W a k r)
        later_done v = both_done step_parts u v

        pub later_without_machine : {m : ℕ} → m ≡ term_registers s.term → m ≡ 0 → Wrote o o₁ at p₁ (step_store_words W a k r)
        later_without_machine e f = later_done (same_words (sym (no_machine s.term q (activation_at W a k r) (sym e ∙ f))) (nothing_written o₁ p₁))

-- The loop of `laters`: the stores of the steps before the k-th are written, and r is its first register.
pub record Storing (W : List ℕ) (a : Kept) (o : List ℕ) (at : ℕ) (o' : List ℕ) (p k r : ℕ) : Type 0 where
  pub register : r ≡ a.register + registers_before W a k
  pub long : length o' ≡ length o
  pub going : Going o at (later_store_words W a) o' p (store_words_after W a (k - 1) (a.register + registers_before W a (k - 1)) (a.steps - k))

module _ {W : List ℕ} {a : Kept} (P : Placed W a) where
  -- Registers up to the k-th step.
  registers_high : (k : ℕ) → k < a.steps → a.register + registers_before W a k + registers_at W a k ≤ 65536
  registers_high k h = omega (arith, P.registers, registers_more W a k, registers_grow W a (k + 1) a.steps (omega (arith, h)))

  none_before : registers_before W a 0 ≡ 0
  unfolding registers_before
  none_before = refl

  pub first_high : a.register + registers_at W a 0 ≤ 65536
  first_high = omega (arith, registers_high 0 P.whole.some, none_before)

  pub storing_begins : (o : List ℕ) (at : ℕ) {r : ℕ} → r ≡ a.register + registers_at W a 0 → Storing W a o at o at 1 r
  storing_begins o at e = record {
    register = omega (arith, e, registers_more W a 0, none_before);
    long = refl;
    going = let f : a.register + registers_before W a (1 - 1) ≡ a.register = omega (arith, none_before) in rw f (begin o at (later_store_words W a));
  }

  pub ready_at : (k : ℕ) {r : ℕ} → k < a.steps → r ≡ a.register + registers_before W a k → Ready W a k r
  ready_at k h e = record { whole = P.whole; among = h; low = omega (arith, e); high = omega (arith, e, registers_high k h) }

  module _ {o : List ℕ} {at : ℕ} {o' : List ℕ} {p k r : ℕ} (D : Storing W a o at o' p k r) where
    module _ (z : 0 < k) (h : k < a.steps) where
      pub storing_high : r + registers_at W a k ≤ 65536
      storing_high = omega (arith, D.register, registers_high k h)

      pub storing_ready : Ready W a k r
      storing_ready = ready_at k h D.register

      abbrev steps_behind : List ℕ
      steps_behind = store_words_after W a (k + 1 - 1) (a.register + registers_before W a (k + 1 - 1)) (a.steps - (k + 1))

      steps_onward : Going o at (later_store_words W a) o' p (step_store_words W a k r ++ steps_behind)
      unfolding store_words_after
      steps_onward =
          let e : a.steps - k ≡ suc (a.steps - (k + 1)) = omega (arith, h) in
          let f : suc (k - 1) ≡ k = omega arith in
          let g : a.register + registers_before W a (k - 1) + registers_at W a (k - 1) ≡ r = omega (arith, D.register, registers_less W a k z) in
          let i : k + 1 - 1 ≡ k = omega arith in
          rw (i, ← D.register) (rw (e, f, g) at D.going)

      pub storing_room : at + length (later_store_words W a) ≤ length o → p + length (step_store_words W a k r) ≤ length o'
      storing_room F = first_room p (step_store_words W a k r) steps_behind refl (omega (arith, steps_onward.place, D.long, F))

      pub storing_on : {o₁ : List ℕ} {p₁ q : ℕ} → q ≡ r + registers_at W a k → Wrote o' o₁ p p₁ (step_store_words W a k r) → Storing W a o at o₁ p₁ (k + 1) q
      storing_on {o₁} {p₁} {q} e w = record {
        register = omega (arith, e, D.register, registers_more W a k);
        long = next.long;
        going = next;
      }
        where
          next : Going o at (later_store_words W a) o₁ p₁ steps_behind
          next = go (step_store_words W a k r) steps_behind steps_onward w

    pub storing_ends : a.steps ≤ k → Wrote o o' at p (later_store_words W a)
    unfolding store_words_after
    storing_ends h = let e : a.steps - k ≡ 0 = omega (arith, h) in done (rw e at D.going)

  -- `stores`: the first term's, then the later steps'.
  pub seed_ready : Ready W a 0 a.register
  seed_ready = ready_at 0 P.whole.some (omega (arith, none_before))

  module _ {s : SeqStep} (w : s ≡ step_of W a 0) where
    pub seed_fits : TermFits a.register s.term
    seed_fits = piece_first (record { whole = P.whole; among = P.whole.some; high = first_high }) w refl

    abbrev seed_words : List ℕ
    seed_words = term_store_words a.register s.term (activation_at W a 0 a.register)

    all_parts : alternative_store_words W a ≡ seed_words ++ later_store_words W a
    unfolding alternative_store_words activation_at
    all_parts = rw w refl

    pub seed_room : (at : ℕ) {n : ℕ} → at + length (alternative_store_words W a) ≤ n → at + length seed_words ≤ n
    seed_room at h = first_room at seed_words (later_store_words W a) all_parts h

    module _ {at p₁ : ℕ} {o o₁ : List ℕ} (u : Wrote o o₁ at p₁ seed_words) where
      pub laters_room : at + length (alternative_store_words W a) ≤ length o → p₁ + length (later_store_words W a) ≤ length o₁
      laters_room h = second_room seed_words (later_store_words W a) all_parts h u

      pub stores_done : {p : ℕ} {o₂ : List ℕ} → Wrote o₁ o₂ p₁ p (later_store_words W a) → Wrote o o₂ at p (alternative_store_words W a)
      stores_done v = both_done all_parts u v
