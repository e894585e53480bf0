-- Lowering as the code meets it: what a survey, a count and a written listing are in the definition of the whole answer, and
-- that each return of the code is that answer.
use mathlib.Core.Bool.{Bool, true, false}
use mathlib.Core.Path.{◌≡◌, refl, sym, ap, ◌∙◌}
use mathlib.Core.List.{List}
use Prim.Native.Nat.{ℕ, ◌+◌, ◌≤◌, ◌<◌}
use native.Mathlib.Omega.{arith}
use lib.Dec.{ltb}
use lib.ListN.{length, take}
use lib.Seq.{length-take-le}
use borrow.Author.Tests.{lt-ltb, le-ltb, ltb-false}
use Rattle.std.specs.Prelude.{Result, Ok, Err}
use Rattle.words.specs.Choice.{pick, pick_true, pick_false}
use Rattle.words.specs.Written.{Wrote}
use Rattle.words.proofs.Laws.{length-written, front_written}
use Rattle.meaning.specs.Tree.{nodes, root}
use Rattle.meaning.specs.Listing.{deepest}
use Rattle.meaning.specs.Refusals.{table, walk_root, room_of, Found, at, nowhere, misplaced}
use Rattle.meaning.specs.Answers.{formed, listed}
use Rattle.meaning.specs.Lower.{words_of, fits, after_walk, after_table, after_nothing, lower, output_after}
use Rattle.meaning.specs.Lowerable.{FormedTable}
use Rattle.meaning.specs.declared.Counts.{Counts}
use Rattle.meaning.specs.declared.Listing.{Listing}
use Rattle.meaning.specs.declared.refusal.Refusal.{Refusal}
use Rattle.meaning.specs.declared.refusal.Refusal.TheVariants.{TooManyRegisters, OutputTooShort}
use Rattle.meaning.proofs.Ranges.{a_formed_root_is_ranged}
use Rattle.tree.proofs.Checks.{a_checked_table_is_formed}
use Rattle.outline.specs.Outline.{KnownRoot}
use Rattle.listing.specs.Operands.{OperandsFound}
use Rattle.choice.specs.ChoiceWords.{survey_by}
use Rattle.choice.proofs.Surveys.{survey_registers}
use Rattle.lower.specs.Answers.{Answers, Finishes}
use Rattle.lower.specs.declared.Root.{Root}
use Rattle.lower.specs.Stages.{root_of, register_count, survey_root, Outlines, Placed, Rooted}
use Rattle.lower.proofs.Operands.{a_lowering_finds_its_operands}
use Rattle.lower.proofs.AtRoot.{as_many_registers, as_many_words}

-- Work holds something else after each pass, and is as long as it was.
pub rooted_again : {t o : List ℕ} {r : Root} {work work₁ : ℕ} → Rooted t o r work → work₁ ≡ work → Rooted t o r work₁
rooted_again R same = rw same R

-- Past 12: what is left to be decided by, the registers and the words.
past_12 : {t o : List ℕ} {work : ℕ} → Outlines t o work → (first out : ℕ) → misplaced (root t) ≡ nowhere
    → after_walk (misplaced (root t)) t first out ≡ fits (register_count t) (words_of t first) first out
unfolding after_walk
past_12 {t} O first out placed = rw placed (ap (λ (k : ℕ). fits k (words_of t first) first out) (as_many_registers O first))

-- ---- `lowered_root`

-- 12 is answered as the survey found it.
found_refused : (found : Found) (registers : ℕ) {refusal : Refusal} (t : List ℕ) (first out : ℕ) → survey_by found registers ≡ Err refusal
    → Err refusal ≡ after_walk found t first out
unfolding after_walk
found_refused (at i) registers t first out e = ap Err cc
found_refused nowhere registers t first out e = absurd (let z : ◌≡◌ {A = ℕ} 0 1 = cc in omega arith)

module _ {t o : List ℕ} {work : ℕ} (O : Outlines t o work) (first : ℕ) {survey : Result ℕ Refusal} (s : survey ≡ survey_root t) where
  pub finishes_misplaced : (out : List ℕ) {refusal : Refusal} → survey ≡ Err refusal → Finishes t first out (Err refusal) out
  unfolding survey_root output_after
  finishes_misplaced out q = record { answers = found_refused (misplaced (root t)) (register_count t) t first (length out) (sym s ∙ q); holds = refl }

  -- Where the survey names none, 13 is decided by its registers.
  module _ {registers : ℕ} (q : survey ≡ Ok registers) where
    none : (misplaced (root t) ≡ nowhere) × (registers ≡ register_count t)
    unfolding survey_root
    none = survey_registers (misplaced (root t)) (sym s ∙ q)

    pub finishes_too_many : (out : List ℕ) {b : Bool} → b ≡ ltb 65536 (first + registers) → b ≡ true
        → Finishes t first out (Err TooManyRegisters) out
    unfolding fits output_after
    finishes_too_many out c d = record {
      answers = sym (past_12 O first (length out) none.0 ∙ pick_true _ _ (sym (ap (λ (k : ℕ). ltb 65536 (first + k)) none.1) ∙ sym c ∙ d));
      holds = refl;
    }

    pub is_placed : {b : Bool} → b ≡ ltb 65536 (first + registers) → b ≡ false → Placed t first registers
    is_placed c d = record { placed = none.0; counted = none.1; few = ltb-false 65536 (first + registers) (sym c ∙ d) }

-- ---- `listed_root`

-- The part in front is as long as it is asked for.
pub part_is_as_long : (words : ℕ) (out : List ℕ) → words ≤ length out → words ≡ length (take words out)
part_is_as_long words out h = sym (length-take-le words out h)

module _ {t o : List ℕ} {work first registers : ℕ} (O : Outlines t o work) (P : Placed t first registers) where
  few : first + register_count t ≤ 65536
  few = omega (arith, P.counted, P.few)

  past_13 : (out : ℕ) → after_walk (misplaced (root t)) t first out
      ≡ pick (ltb out (length (words_of t first))) (Err OutputTooShort) (listed registers (length (words_of t first)) (deepest (words_of t first)))
  unfolding fits
  past_13 out = rw P.counted (past_12 O first out P.placed ∙ pick_false _ _ (le-ltb 65536 (first + register_count t) few))

  module _ (out : List ℕ) {words : ℕ} (w : words ≡ length (words_of t 0)) where
    as_counted : words ≡ length (words_of t first)
    as_counted = w ∙ sym (as_many_words O first)

    pub finishes_too_short : length out < words → Finishes t first out (Err OutputTooShort) out
    unfolding output_after
    finishes_too_short h = record {
      answers = sym (past_13 (length out) ∙ pick_true _ _ (lt-ltb (length out) (length (words_of t first)) (omega (arith, as_counted))));
      holds = refl;
    }

    module _ (h : words ≤ length out) where
      pub words_fit : length (words_of t first) ≤ length out
      words_fit = omega (arith, as_counted)

      module _ {out₁ : List ℕ} {end : ℕ} (v : Wrote out out₁ 0 end (words_of t first)) where
        pub end_inside : end ≤ length out₁
        end_inside = omega (arith, v.ends, ap length v.holds, length-written out 0 (words_of t first), words_fit)

        pub operands_found : OperandsFound 0 (take end out₁)
        operands_found =
            rw (front_written v words_fit)
            (a_lowering_finds_its_operands t first (a_formed_root_is_ranged t O.formed) (omega (arith, as_many_registers O first, few)))

        pub finishes_listed : {deep : ℕ} → deep ≡ deepest (take end out₁)
            → Finishes t first out (Ok (record { registers = registers; words = end; deepest = deep })) out₁
        unfolding output_after
        finishes_listed d =
            let long : end ≡ length (words_of t first) = omega (arith, v.ends) in
            let same : listed registers end (deepest (take end out₁)) ≡ listed registers (length (words_of t first)) (deepest (words_of t first)) = rw (front_written v words_fit, long) refl in
            rw d record {
              answers = same ∙ sym (past_13 (length out) ∙ pick_false _ _ (le-ltb (length out) (length (words_of t first)) words_fit));
              holds = v.holds;
            }

-- ---- `answered` and `walked_root`: what the checks of the table and the walk answer is handed up.

module _ (t : List ℕ) {checked : Result (Unit {0}) Refusal} (p : checked ≡ table t) where
  pub answers_misformed : (first work : ℕ) (out : List ℕ) {refusal : Refusal} → checked ≡ Err refusal → Answers t first work out (Err refusal) out
  unfolding lower after_nothing output_after
  answers_misformed first work out e = record { answers = rw (← p, e) refl; holds = refl }

  module _ {u : Unit {0}} (e : checked ≡ Ok u) where
    pub passed : table t ≡ formed
    passed = sym p ∙ e

    -- 1: a table has at most 4,096 nodes.
    pub long_enough : nodes t ≤ 4096
    long_enough = (a_checked_table_is_formed t p e).few

module _ (t : List ℕ) (f : table t ≡ formed) where
  pub table_is_formed : FormedTable t
  table_is_formed = a_checked_table_is_formed t refl f

  module _ {work : ℕ} {walked : Result Counts Refusal} (w : walked ≡ walk_root (room_of work) (root t)) where
    pub answers_stopped : (first : ℕ) (out : List ℕ) {refusal : Refusal} → walked ≡ Err refusal → Answers t first work out (Err refusal) out
    unfolding lower after_nothing after_table output_after
    answers_stopped first out e = record { answers = rw (f, ← w, e) refl; holds = refl }

    module _ {c : Counts} (e : walked ≡ Ok c) where
      pub answers_finished : {first : ℕ} {out out₁ : List ℕ} {r : Result Listing Refusal} → Finishes t first out r out₁ → Answers t first work out r out₁
      unfolding lower after_nothing after_table
      answers_finished F = record { answers = F.answers ∙ rw (f, ← w, e) refl; holds = F.holds }

      pub table_is_rooted : {o : List ℕ} {r : Root} → KnownRoot t o → r ≡ root_of t → Rooted t o r work
      table_is_rooted known same = record {
        outlines = record { formed = table_is_formed; counts = c; walks = sym e ∙ w; known = known };
        told = same;
      }
