-- An alternative that `keep` has put is held: its steps stand from the place on, its guard behind them. It is held as long as the words up to its
-- end stay as they are.
use mathlib.Core.Path.{◌≡◌, refl, sym, ap, ap₂, ◌∙◌}
use mathlib.Core.List.{List, [], ◌∷◌}
use Prim.Native.Nat.{ℕ, zero, suc, ◌+◌, ◌*◌, ◌-◌, ◌<◌, ◌≤◌, ◌/◌}
use native.Mathlib.Nat.{zero-add}
use native.Mathlib.Omega.{arith}
use lib.Dec.{ltb}
use lib.ListN.{length, set, get_or, take, drop, length-append, take-append-drop}
use lib.Seq.{length-take-le, take-set-le, get_or-take, take-take, take-add, drop_at}
use borrow.Author.Tests.{ltb-true}
use Rattle.words.specs.Choice.{pick_case}
use Rattle.words.specs.Written.{written, Wrote}
use Rattle.words.proofs.Laws.{still_long, read_back, written_below, written_part}
use Rattle.meaning.specs.declared.SeqHop.TheVariants.{Fixed}
use Rattle.meaning.specs.declared.SeqStep.{SeqStep}
use Rattle.meaning.specs.Tree.{tree_at}
use Rattle.meaning.specs.Alternative.{SeqAlt, rehop, expand}
use Rattle.meaning.specs.Refusals.{guard_atoms, entries, room_of}
use Rattle.meaning.proofs.Counting.{length-rehop}
use Rattle.term.specs.declared.Kept.{Kept}
use Rattle.term.specs.Steps.{steps_words}
use Rattle.term.specs.Keeping.{step_of, steps_from, guard_of, Stored, Whole}
use Rattle.term.specs.Guards.{guard_words}
use Rattle.term.proofs.Round.{same_step}
use Rattle.term.proofs.Keeping.{stored_words, steps_are, stored_atoms}
use Rattle.outline.specs.Outline.{count_in}
use Rattle.outline.proofs.Readers.{inside_outline}
use Rattle.expand.specs.ByNumber.{alternatives_of, alternative_words, OutlinedNumber}
use Rattle.expand.proofs.ByKind.{few_alternatives}
use Rattle.expand.proofs.Every.{has_step, each_expanded, each_nth}
use Rattle.expand.proofs.Outlines.{count_known}
use Rattle.expand.proofs.Room.{size_within_entries, length_of_alternative}
use Rattle.expand.proofs.SmallAtoms.{small_rehop, an_alternative_has_small_atoms}
use Rattle.guards.specs.GuardText.{closed_guard}
use Rattle.guards.proofs.Room.{length_of_guard}
use Rattle.alternative.specs.Keeping.{chosen, Keepable, Holds, Keeps}

-- Words put from a place on leave those before it as they were.
front_stays : (ws o : List ℕ) (at place : ℕ) → at ≤ place → take at (written o place ws) ≡ take at o
unfolding written
front_stays [] o at place h = refl
front_stays (w ∷ ws) o at place h = front_stays ws (set o place w) at (suc place) (omega arith) ∙ take-set-le at o place w h

-- 16 words of work for each entry that the walk lets pass, so that an alternative finds room, and beside it one of another node.
pub room_in_work : (work : ℕ) → room_of work * 16 ≤ work
unfolding room_of
room_in_work work = pick_case (λ (r : ℕ). r * 16 ≤ work) (ltb 65536 (work / 16)) (λ e. omega (arith, ltb-true 65536 (work / 16) e)) (λ e. omega arith)

-- A pass over the alternatives of a node: how many there are is read from its outline, and each is kept in the same room.
module _ {t outline : List ℕ} {n at len : ℕ} (K : Keepable t outline n at len) where
  pub outline_is_there : n < length outline
  outline_is_there = inside_outline K.node K.known

  pub few_to_keep : length (alternatives_of t n) ≤ 256
  few_to_keep = few_alternatives K.node

  pub all_counted : {count : ℕ} → count ≡ count_in outline n → count ≡ length (alternatives_of t n)
  all_counted e = e ∙ count_known K.node K.known

  pub keepable_again : {len₁ : ℕ} → len₁ ≡ len → Keepable t outline n at len₁
  keepable_again same = rw same K

-- `keep`: the room for the steps, and behind them that for the guard. An entry takes five words at most.
module _ {t outline : List ℕ} {n i at len : ℕ} (K : Keepable t outline n at len) (h : i < length (alternatives_of t n)) where
  pub its_number : OutlinedNumber t outline n i
  its_number = record { numbered = record { node = K.node; index = h }; known = K.known }

  steps_long : length (alternative_words (Fixed 0) (alternatives_of t n) i) ≡ 5 * length (chosen t n i).steps
  steps_long = length_of_alternative (Fixed 0) (alternatives_of t n) i

  entries_many : length (chosen t n i).steps + guard_atoms (chosen t n i).guard ≤ entries (alternatives_of t n)
  entries_many = size_within_entries (alternatives_of t n) i h

  guard_long : length (closed_guard (alternatives_of t n) i) ≡ 3 * guard_atoms (chosen t n i).guard
  unfolding alternatives_of
  guard_long = length_of_guard (tree_at t n) i

  pub room_for_steps : at + length (alternative_words (Fixed 0) (alternatives_of t n) i) ≤ len
  room_for_steps = omega (arith, K.room, steps_long, entries_many)

  -- The guard stands behind the steps.
  module _ {W W₁ : List ℕ} {g : ℕ} (same : length W ≡ len) (w : Wrote W W₁ at g (alternative_words (Fixed 0) (alternatives_of t n) i)) where
    in_order : at ≤ g
    in_order = omega (arith, w.ends)

    guard_at : g ≡ at + length (chosen t n i).steps * 5
    guard_at = omega (arith, w.ends, steps_long)

    guard_inside : g + length (closed_guard (alternatives_of t n) i) ≤ len
    guard_inside = omega (arith, guard_at, guard_long, entries_many, K.room)

    pub room_for_guard : length W₁ ≡ length W → g + length (closed_guard (alternatives_of t n) i) ≤ length W₁
    room_for_guard still = omega (arith, guard_inside)

    module _ {W₂ : List ℕ} {e : ℕ} (r : ℕ) (v : Wrote W₁ W₂ g e (closed_guard (alternatives_of t n) i)) where
      abbrev a : Kept
      a = record { from = at; steps = (g - at) / 5; guard = g; end = e; register = r }

      abbrev y : SeqAlt
      y = chosen t n i

      abbrev steps : List SeqStep
      steps = rehop (Fixed 0) y.steps

      as_many_steps : a.steps ≡ length steps
      as_many_steps = omega (arith, guard_at, length-rehop (Fixed 0) y.steps)

      as_long : length W₂ ≡ len
      as_long = still_long v ∙ still_long w ∙ same

      -- The words of the steps are read back: those of the guard stand behind them.
      stored : Stored W₂ a 0 steps
      unfolding alternative_words
      stored =
          let ws = steps_words steps in
          stored_words steps W₂ a 0
          (λ j h.
          let p : at + 0 * 5 + j ≡ at + j = omega arith in
          rw (p, v.holds, w.holds)
          (written_below (closed_guard (alternatives_of t n) i) (written W at ws) g (at + j) (omega (arith, w.ends))
          ∙ read_back W at ws j (omega (arith, room_for_steps)) h))

      guard_read : guard_of W₂ a ≡ guard_words y.guard
      unfolding guard_of closed_guard
      guard_read =
          let long : e - g ≡ length (guard_words y.guard) = omega (arith, v.ends) in
          rw (long, v.holds) (written_part W₁ g (guard_words y.guard) (omega (arith, guard_inside, still_long w)))

      whole : Whole W₂ a
      unfolding alternatives_of
      whole = record {
        some = omega (arith, as_many_steps, length-rehop (Fixed 0) y.steps, each_nth has_step (expand (tree_at t n)) i (each_expanded has_step (tree_at t n)));
        many = omega (arith, as_many_steps, length-rehop (Fixed 0) y.steps, entries_many, K.few);
        inside = omega (arith, guard_at, guard_inside, as_long);
        order = omega (arith, v.ends);
        ends = omega (arith, v.ends, guard_inside, as_long);
        atoms = λ k h.
            let small = small_rehop (Fixed 0) y.steps (an_alternative_has_small_atoms t n i K.node.formed K.node.inside its_number.numbered.index) in
            rw (← zero-add k) (stored_atoms W₂ a steps 0 stored small k (omega (arith, as_many_steps)));
      }

      pub is_kept : Keeps (chosen t n i) r W W₂ at a
      is_kept = record {
        holds = record {
          whole = whole;
          steps = ap (steps_from W₂ a 0) as_many_steps ∙ steps_are W₂ a steps 0 stored;
          behind = omega (arith, guard_at);
          guard = guard_read;
          register = refl;
        };
        from = refl;
        short = omega (arith, v.ends, guard_at, guard_long);
        front = rw (v.holds, w.holds) (front_stays _ _ at g in_order ∙ front_stays _ W at at (omega arith));
        long = still_long v ∙ still_long w;
      }

-- Work that is the same up to the alternative's end.
module _ {before : List ℕ} {a : Kept} {y : SeqAlt} {r : ℕ} (H : Holds before a y r) (after : List ℕ) (same : take a.end after ≡ take a.end before) where
  end_inside : a.end ≤ length after
  end_inside =
      let there = length-take-le a.end before H.whole.ends in
      let all = length-append (take a.end after) (drop a.end after) in
      omega (arith, ap length same, ap length (take-append-drop a.end after))

  same_word : (p : ℕ) → p < a.end → get_or after p 0 ≡ get_or before p 0
  same_word p h = sym (get_or-take a.end after p 0 h) ∙ ap (λ (l : List ℕ). get_or l p 0) same ∙ get_or-take a.end before p 0 h

  same_steps : (k : ℕ) → k < a.steps → step_of after a k ≡ step_of before a k
  same_steps k h = same_step after before (a.from + k * 5) (a.from + k * 5) (λ j l. same_word (a.from + k * 5 + j) (omega (arith, H.behind, H.whole.order)))

  same_steps_from : (k count : ℕ) → k + count ≤ a.steps → steps_from after a k count ≡ steps_from before a k count
  unfolding steps_from
  same_steps_from k zero h = refl
  same_steps_from k (suc count) h = ap₂ (λ (s : SeqStep) (ss : List SeqStep). s ∷ ss) (same_steps k (omega arith)) (same_steps_from (suc k) count (omega arith))

  -- The guard is what the words up to its end have behind its beginning.
  guard_among : (W : List ℕ) → a.end ≤ length W → guard_of W a ≡ drop a.guard (take a.end W)
  unfolding guard_of
  guard_among W h =
      let ends : a.guard + (a.end - a.guard) ≡ a.end = omega (arith, H.whole.order) in
      let behind = drop_at (take a.guard W) (take (a.end - a.guard) (drop a.guard W)) a.guard (length-take-le a.guard W (omega (arith, H.whole.order))) in
      sym (ap (λ (p : ℕ). drop a.guard (take p W)) (sym ends) ∙ ap (drop a.guard) (take-add a.guard (a.end - a.guard) W) ∙ behind)

  held_on : Holds after a y r
  held_on = record {
    whole = record {
      some = H.whole.some;
      many = H.whole.many;
      inside = omega (arith, H.behind, H.whole.order, end_inside);
      order = H.whole.order;
      ends = end_inside;
      atoms = λ k h. rw (same_steps k h) (H.whole.atoms k h);
    };
    steps = same_steps_from 0 a.steps (omega arith) ∙ H.steps;
    behind = H.behind;
    guard = guard_among after end_inside ∙ ap (drop a.guard) same ∙ sym (guard_among before H.whole.ends) ∙ H.guard;
    register = H.register;
  }

-- A change of work behind a kept alternative's end leaves it held.
pub still_holds : {before after : List ℕ} {a : Kept} {y : SeqAlt} {r e : ℕ} → take e after ≡ take e before → a.end ≤ e → Holds before a y r → Holds after a y r
still_holds {before} {after} {a} {e = e} same inside H =
    held_on H after (sym (take-take a.end e after inside) ∙ ap (take a.end) same ∙ take-take a.end e before inside)
