-- What is read of a kept alternative is what the alternative adds to the listing: its registers, its assignments and its text; with the bounds that
-- keep their sums in 64 bits. And the lengths of these do not depend on the register that they begin with.
use mathlib.Core.Path.{◌≡◌, refl, sym, ap, subst, ◌∙◌}
use mathlib.Core.List.{List, [], ◌∷◌, ◌++◌}
use Prim.Native.Nat.{ℕ, zero, suc, ◌+◌, ◌*◌, ◌-◌, ◌<◌, ◌≤◌}
use native.Mathlib.Omega.{arith}
use lib.ListN.{length, length-append, get_or-append}
use lib.Seq.{take_all, drop-append_seam}
use Rattle.meaning.specs.declared.SeqHop.TheVariants.{Fixed}
use Rattle.meaning.specs.declared.SeqStep.{SeqStep}
use Rattle.meaning.specs.Alternative.{Guard, unguarded, SeqAlt, alternative, step, rehop}
use Rattle.meaning.specs.Expression.{Synth}
use Rattle.meaning.specs.Pipeline.{synth_seq_pipeline}
use Rattle.meaning.specs.Listing.{expression_words, store_words}
use Rattle.meaning.specs.Refusals.{steps_fit}
use Rattle.meaning.specs.Root.{window_len}
use Rattle.meaning.proofs.Counting.{length-rehop}
use Rattle.term.specs.declared.Kept.{Kept}
use Rattle.term.specs.Steps.{steps_words}
use Rattle.term.specs.Keeping.{step_of, steps_from, steps_of, guard_of, Stored}
use Rattle.term.specs.Guards.{guard_words}
use Rattle.term.proofs.Keeping.{length_of_guard, stored_words, steps_are}
use Rattle.current.specs.Text.{registers_before, text_at}
use Rattle.current.specs.Walk.{Placed}
use Rattle.current.proofs.Bridge.{the_current_expression_is_the_text, the_registers_are_counted}
use Rattle.pipeline.specs.Stores.{alternative_store_words}
use Rattle.pipeline.proofs.Bridge.{the_stores_are_the_words}
use Rattle.sizes.specs.declared.Size.{Size}
use Rattle.sizes.specs.Sizes.{step_size, size_up_to_step, Countable, most_store_words, most_words}
use Rattle.sizes.proofs.Laws.{text_small, stores_small}
use Rattle.sizes.proofs.Lengths.{the_text_has_its_size, the_stores_have_their_size}
use Rattle.expand.specs.ByNumber.{alternatives_of}
use Rattle.expand.proofs.Room.{size_within_entries}
use Rattle.alternative.specs.Alternatives.{alternative_synth, registers_in, stores_in, text_in}
use Rattle.alternative.specs.Keeping.{chosen, Keepable, Holds, Keeps, Ended, kept_text, kept_size}

-- The steps that are read are kept, and as many as were asked for.
stored_from : (W : List ℕ) (a : Kept) (k count : ℕ) → Stored W a k (steps_from W a k count)
unfolding steps_from
stored_from W a k zero = tt
stored_from W a k (suc count) = (refl, stored_from W a (suc k) count)

length-steps_from : (W : List ℕ) (a : Kept) (k count : ℕ) → length (steps_from W a k count) ≡ count
unfolding steps_from
length-steps_from W a k zero = refl
length-steps_from W a k (suc count) = ap suc (length-steps_from W a (suc k) count)

-- The first hop is never taken.
rehopped : (g : Guard) (ss : List SeqStep) (r : ℕ) → synth_seq_pipeline g (rehop (Fixed 0) ss) r ≡ synth_seq_pipeline g ss r
rehopped g [] r = refl
rehopped g (s ∷ ss) r = refl

fits_rehopped : (ss : List SeqStep) → steps_fit (rehop (Fixed 0) ss) ≡ steps_fit ss
fits_rehopped [] = refl
fits_rehopped (s ∷ ss) = refl

window_rehopped : (ss : List SeqStep) → window_len (rehop (Fixed 0) ss) ≡ window_len ss
window_rehopped [] = refl
window_rehopped (s ∷ ss) = refl

-- The text of a kept alternative has the size that is counted for it.
kept_text_size : (W : List ℕ) (a : Kept) → length (kept_text W a) ≡ (size_up_to_step W a (a.steps - 1)).text
unfolding kept_text
kept_text_size W a = the_text_has_its_size W a (a.steps - 1) (a.register + registers_before W a (a.steps - 1))

-- What is read of a kept alternative, where its steps and its guard are those of an alternative.
module _ (W : List ℕ) (a : Kept) (y : SeqAlt) (same_steps : steps_of W a ≡ rehop (Fixed 0) y.steps) (some : 1 ≤ a.steps) where
  as_many_steps : a.steps ≡ length y.steps
  as_many_steps = sym (length-steps_from W a 0 a.steps) ∙ ap length same_steps ∙ length-rehop (Fixed 0) y.steps

  steps_stored : Stored W a 0 (rehop (Fixed 0) y.steps)
  steps_stored = subst (Stored W a 0) same_steps (stored_from W a 0 a.steps)

  by_steps : (P : List SeqStep → Type 0) → ((s : SeqStep) (ss : List SeqStep) → Stored W a 0 (s ∷ ss) → a.steps ≡ suc (length ss) → P (s ∷ ss)) → P (rehop (Fixed 0) y.steps)
  by_steps P f = split (rehop (Fixed 0) y.steps) steps_stored (as_many_steps ∙ sym (length-rehop (Fixed 0) y.steps))
    where
      split : (ss : List SeqStep) → Stored W a 0 ss → a.steps ≡ length ss → P ss
      split [] S e = absurd (omega (arith, some))
      split (s ∷ ss) S e = f s ss S e

  registers_read : (r : ℕ) → length (alternative_synth y r).stores ≡ registers_before W a a.steps
  registers_read r =
      sym (ap (λ (o : Synth). length o.stores) (rehopped y.guard y.steps r))
      ∙ by_steps (λ (ss : List SeqStep). length (synth_seq_pipeline y.guard ss r).stores ≡ registers_before W a a.steps)
      (λ s ss S e. the_registers_are_counted W a y.guard r s ss S ∙ ap (registers_before W a) (sym e))

  module _ (same_guard : guard_of W a ≡ guard_words y.guard) where
    stores_read : stores_in y a.register ≡ alternative_store_words W a
    unfolding stores_in
    stores_read =
        sym (ap (λ (o : Synth). store_words a.register o.stores) (rehopped y.guard y.steps a.register))
        ∙ by_steps (λ (ss : List SeqStep). store_words a.register (synth_seq_pipeline y.guard ss a.register).stores ≡ alternative_store_words W a)
        (λ s ss S e. the_stores_are_the_words W a y.guard same_guard s ss S e)

    text_read : text_in y a.register ≡ kept_text W a
    unfolding text_in kept_text
    text_read =
        sym (ap (λ (o : Synth). expression_words o.cur) (rehopped y.guard y.steps a.register))
        ∙ by_steps (λ (ss : List SeqStep). expression_words (synth_seq_pipeline y.guard ss a.register).cur ≡ text_at W a (a.steps - 1) (a.register + registers_before W a (a.steps - 1)))
        (λ s ss S e.
        let l : a.steps - 1 ≡ length ss = omega (arith, e) in
        rw l (the_current_expression_is_the_text W a y.guard a.register same_guard s ss S))

-- What is read of a kept alternative is what the alternative has that it holds.
module _ {W : List ℕ} {a : Kept} {y : SeqAlt} {r : ℕ} (H : Holds W a y r) where
  pub kept_many : a.steps ≡ length y.steps
  kept_many = as_many_steps W a y H.steps H.whole.some

  pub kept_steps : Stored W a 0 (rehop (Fixed 0) y.steps)
  kept_steps = steps_stored W a y H.steps H.whole.some

  pub kept_registers : registers_before W a a.steps ≡ registers_in y
  unfolding registers_in
  kept_registers = sym (registers_read W a y H.steps H.whole.some 0)

  pub kept_stores : alternative_store_words W a ≡ stores_in y r
  kept_stores = rw (← H.register) (sym (stores_read W a y H.steps H.whole.some H.guard))

  pub kept_texts : kept_text W a ≡ text_in y r
  kept_texts = rw (← H.register) (sym (text_read W a y H.steps H.whole.some H.guard))

  pub kept_fits : steps_fit (steps_of W a) ≡ steps_fit y.steps
  kept_fits = ap steps_fit H.steps ∙ fits_rehopped y.steps

  pub kept_window : window_len (steps_of W a) ≡ window_len y.steps
  kept_window = ap window_len H.steps ∙ window_rehopped y.steps

  -- The registers of a kept alternative are small enough for words where those of the alternative are.
  pub placed : r + registers_in y ≤ 65536 → Placed W a
  placed few = record { whole = H.whole; registers = omega (arith, H.register, kept_registers) }

  -- The register behind those of a kept alternative is the one behind the alternative's.
  pub next_in : {next : ℕ} → next ≡ a.register + registers_before W a a.steps → next ≡ r + registers_in y
  next_in e = omega (arith, H.register, kept_registers)

  pub ended : {next : ℕ} → r + registers_in y ≤ 65536 → next ≡ r + registers_in y → Ended W a next
  ended few e = record { placed = placed few; behind = omega (arith, H.register, kept_registers) }

-- An alternative that was just kept can be counted: a guard takes five words an entry at most, and entries are few.
pub kept_is_countable : {t outline : List ℕ} {n i at len r : ℕ} {before after : List ℕ} {a : Kept} → Keepable t outline n at len → i < length (alternatives_of t n)
    → Keeps (chosen t n i) r before after at a → registers_in (chosen t n i) ≤ 65536 → Countable after a
kept_is_countable {t} {n = n} {i} {a = a} K h S few = record {
  whole = S.holds.whole;
  registers = rw (kept_registers S.holds) few;
  short = omega (arith, length_of_guard S.holds.whole, S.short, S.from, S.holds.behind, size_within_entries (alternatives_of t n) i h, K.few);
}

-- The words of a kept alternative that can be counted.
module _ {W : List ℕ} {a : Kept} (C : Countable W a) where
  -- Each of at most 65,536 steps adds at most 2^37 words of assignments.
  pub few_stores : length (alternative_store_words W a) ≤ most_store_words
  few_stores =
      omega (arith, the_stores_have_their_size W a, stores_small C (a.steps - 1) (omega (arith, C.whole.some)), C.whole.many, C.whole.some)

  -- Each of at most 65,536 steps adds at most 16 words to the text, in which the guard stands at most once.
  pub short_text : length (kept_text W a) ≤ 2097152
  short_text = omega (arith, kept_text_size W a, text_small W a (a.steps - 1), C.whole.many, C.whole.some, C.short)

  -- `size`.
  module _ {z : Size} (e : z ≡ size_up_to_step W a (a.steps - 1)) where
    pub sized : z ≡ kept_size W a
    unfolding kept_size
    sized = e ∙ rw (kept_text_size W a, the_stores_have_their_size W a) refl

    pub sized_small : z.text + z.stores ≤ most_words
    unfolding kept_size
    sized_small = rw sized (omega (arith, few_stores, short_text))

-- The words of steps and behind them those of a guard, by themselves, keep an alternative, whatever its register.
module _ (s : SeqStep) (ss : List SeqStep) (g : Guard) where
  abbrev its_steps : List SeqStep
  its_steps = step s.term (Fixed 0) ∷ ss

  abbrev its_words : List ℕ
  its_words = steps_words its_steps ++ guard_words g

  abbrev itself : ℕ → Kept
  itself r = record { from = 0; steps = length its_steps; guard = length (steps_words its_steps); end = length its_words; register = r }

  abbrev its_alternative : SeqAlt
  its_alternative = alternative (s ∷ ss) g

  its_steps_are : (r : ℕ) → steps_of its_words (itself r) ≡ its_steps
  its_steps_are r =
      steps_are its_words (itself r) its_steps 0
      (stored_words its_steps its_words (itself r) 0
      (λ j h.
      let p : 0 + 0 * 5 + j ≡ j = omega arith in
      rw p (get_or-append (steps_words its_steps) (guard_words g) 0 j h)))

  its_guard_is : (r : ℕ) → guard_of its_words (itself r) ≡ guard_words g
  unfolding guard_of
  its_guard_is r =
      let long = length-append (steps_words its_steps) (guard_words g) in
      rw (drop-append_seam (steps_words its_steps) (guard_words g)) (take_all (length its_words - length (steps_words its_steps)) (guard_words g) (omega arith))

  -- The sizes of a kept alternative do not depend on its register.
  its_size : (k r : ℕ) → size_up_to_step its_words (itself r) k ≡ size_up_to_step its_words (itself 0) k
  unfolding size_up_to_step guard_of
  its_size zero r = refl
  its_size (suc k) r = ap (step_size (length (guard_of its_words (itself 0))) (step_of its_words (itself 0) (suc k))) (its_size k r)

  as_many : (r : ℕ) → length (alternative_synth its_alternative r).stores ≡ length (alternative_synth its_alternative 0).stores
  as_many r =
      let read = registers_read its_words (itself 0) its_alternative (its_steps_are 0) (omega arith) in
      read r ∙ sym (read 0)

  as_long : (r : ℕ) → length (stores_in its_alternative r) ≡ (size_up_to_step its_words (itself 0) (length its_steps - 1)).stores
  as_long r =
      ap length (stores_read its_words (itself r) its_alternative (its_steps_are r) (omega arith) (its_guard_is r))
      ∙ the_stores_have_their_size its_words (itself r)
      ∙ ap (λ (z : Size). z.stores) (its_size (length its_steps - 1) r)

  text_as_long : (r : ℕ) → length (text_in its_alternative r) ≡ (size_up_to_step its_words (itself 0) (length its_steps - 1)).text
  text_as_long r =
      ap length (text_read its_words (itself r) its_alternative (its_steps_are r) (omega arith) (its_guard_is r))
      ∙ kept_text_size its_words (itself r)
      ∙ ap (λ (z : Size). z.text) (its_size (length its_steps - 1) r)

-- From any register on an alternative has as many registers, and as many words.
pub as_many_registers : (y : SeqAlt) (r : ℕ) → length (alternative_synth y r).stores ≡ registers_in y
unfolding registers_in
as_many_registers y r = from y.steps
  where
    from : (ss : List SeqStep) → length (synth_seq_pipeline y.guard ss r).stores ≡ length (synth_seq_pipeline y.guard ss 0).stores
    from [] = refl
    from (s ∷ ss) = as_many s ss y.guard r

pub as_long_stores : (y : SeqAlt) (r : ℕ) → length (stores_in y r) ≡ length (stores_in y 0)
unfolding stores_in
as_long_stores y r = from y.steps
  where
    from : (ss : List SeqStep) → length (stores_in (alternative ss y.guard) r) ≡ length (stores_in (alternative ss y.guard) 0)
    from [] = refl
    from (s ∷ ss) = as_long s ss y.guard r ∙ sym (as_long s ss y.guard 0)

pub as_long_a_text : (y : SeqAlt) (r : ℕ) → length (text_in y r) ≡ length (text_in y 0)
unfolding text_in
as_long_a_text y r = from y.steps
  where
    from : (ss : List SeqStep) → length (text_in (alternative ss y.guard) r) ≡ length (text_in (alternative ss y.guard) 0)
    from [] = refl
    from (s ∷ ss) = text_as_long s ss y.guard r ∙ sym (text_as_long s ss y.guard 0)

-- The pipeline of an alternative that has no guard.
pub unguarded_synth : (y : SeqAlt) (r : ℕ) → y.guard ≡ unguarded → synth_seq_pipeline unguarded y.steps r ≡ alternative_synth y r
unguarded_synth y r e = ap (λ (g : Guard). synth_seq_pipeline g y.steps r) (sym e)
