-- The checks of a table one after the other: what each asks of the one before, and which answer it leaves.
use mathlib.Core.Path.{◌≡◌, sym, ◌∙◌, ap}
use mathlib.Core.Bool.{Bool}
use mathlib.Core.List.{List}
use Prim.Native.Nat.{ℕ, zero, suc, ◌-◌, ◌<◌, ◌≤◌}
use native.Mathlib.Omega.{arith}
use lib.ListN.{length, get_or, get_or-replicate}
use borrow.Author.Tests.{ne_eqb, le-ltb, eq-eqb}
use lib.Dec.{eqb}
use Rattle.std.specs.Prelude.{Result, Err}
use Rattle.words.specs.Choice.{pick_true, pick_false}
use Rattle.meaning.specs.Tree.{node_at, nodes, below}
use Rattle.meaning.specs.Refusals.{lowest_failing, formed_node, used_once, range_node, table}
use Rattle.meaning.specs.Lowerable.{FormedTable}
use Rattle.meaning.specs.Answers.{formed}
use Rattle.meaning.specs.declared.refusal.Refusal.{Refusal}
use Rattle.meaning.specs.declared.refusal.Refusal.TheVariants.{Malformed, NotUsedOnce, OutOfOrder}
use Rattle.meaning.proofs.Formed.{each_passes, p_is_lower, q_is_lower, a_formed_table}
use Rattle.tree.specs.Checks.{Checkable}
use Rattle.tree.specs.Uses.{used_by, AllOperandsWithin}
use Rattle.tree.proofs.Lowest.{then_follows, refused_first, same_lowest}
use Rattle.tree.proofs.Uses.{once_counted}

-- The tests of 1, 2 and 3, as the code makes them: 2 by the list of all uses.
abbrev pub formed_at : List ℕ → ℕ → Bool
formed_at t n = formed_node n (node_at t n)

abbrev pub once_in : List ℕ → ℕ → Bool
once_in counted k = eqb (get_or counted k 0) 1

abbrev pub in_range_at : List ℕ → ℕ → Bool
in_range_at t n = range_node (node_at t n)

-- The searches one after the other, as the code makes them.
module _ {t used : List ℕ} {count : ℕ} (c : Checkable t used count) where
  abbrev ranges : Result (Unit {0}) Refusal
  ranges = lowest_failing OutOfOrder (in_range_at t) (nodes t) 0 formed

  abbrev once : Result (Unit {0}) Refusal → Result (Unit {0}) Refusal
  once then = lowest_failing NotUsedOnce (used_once t) (below (nodes t)) 0 then

  -- Past the length, the three searches are left.
  whole : table t ≡ lowest_failing Malformed (formed_at t) (nodes t) 0 (once ranges)
  unfolding table
  whole =
      pick_true _ _ (eq-eqb _ _ c.fives) ∙ pick_false _ _ (ne_eqb (length t) 0 (λ e. omega (arith, c.some, c.whole)))
      ∙ pick_false _ _ (le-ltb _ _ c.few)

  -- A refusal by 1 is the table's answer.
  pub unformed_refused : {r : Result (Unit {0}) Refusal} {why : Refusal} → r ≡ lowest_failing Malformed (formed_at t) count 0 formed → r ≡ Err why → Err why ≡ table t
  unformed_refused e q = sym (whole ∙ refused_first Malformed (formed_at t) (once ranges) (nodes t) 0 (rw (← c.whole) (sym e ∙ q)))

  -- A table that 1 lets pass is left to 2 and 3.
  module _ {f : Result (Unit {0}) Refusal} (e : f ≡ lowest_failing Malformed (formed_at t) count 0 formed) (q : f ≡ formed) where
    all_formed : lowest_failing Malformed (formed_at t) count 0 formed ≡ formed
    all_formed = sym e ∙ q

    passed_1 : table t ≡ once ranges
    passed_1 = whole ∙ then_follows Malformed (formed_at t) (once ranges) (nodes t) 0 (rw (← c.whole) all_formed)

    -- Every operand has a place in the list, so its uses can be counted.
    pub operands_within : AllOperandsWithin (length used) t count
    operands_within = record {
      inside = omega (arith, c.whole, c.fives);
      few = omega (arith, c.whole, c.few);
      each = λ n h.
          let formed = each_passes Malformed (formed_at t) count 0 formed all_formed n (omega arith) (omega arith) in
          record {
            left = λ u. let l = p_is_lower n (node_at t n) formed u in omega (arith, c.long);
            right = λ u. let l = q_is_lower n (node_at t n) formed u in omega (arith, c.long);
          };
    }

    module _ {counted : List ℕ} (u : counted ≡ used_by t count used) where
      -- 2 is decided by the list of all uses.
      once_by_the_list : (k : ℕ) → k < length used → once_in counted k ≡ used_once t k
      once_by_the_list k h =
          let unused : get_or used k 0 ≡ 0 = ap (λ (l : List ℕ). get_or l k 0) c.clear ∙ get_or-replicate {A = ℕ} (length used) k 0 0 h in
          rw (u, ← c.whole) (once_counted t used k count operands_within unused)

      last_but_one : count - 1 ≡ below (nodes t)
      last_but_one = rw (← c.whole) (one_less count c.some)
        where
          one_less : (m : ℕ) → 1 ≤ m → m - 1 ≡ below m
          one_less zero h = absurd (omega arith)
          one_less (suc m) h = omega arith

      same_once : lowest_failing NotUsedOnce (once_in counted) (count - 1) 0 formed ≡ once formed
      same_once =
          same_lowest NotUsedOnce (once_in counted) (used_once t) formed (count - 1) 0 (λ k h. once_by_the_list k (omega (arith, c.long)))
          ∙ ap (λ m. lowest_failing NotUsedOnce (used_once t) m 0 formed) last_but_one

      -- A refusal by 2 is the table's answer.
      pub misused_refused : {r : Result (Unit {0}) Refusal} {why : Refusal} → r ≡ lowest_failing NotUsedOnce (once_in counted) (count - 1) 0 formed → r ≡ Err why → Err why ≡ table t
      misused_refused e₂ q₂ = sym (passed_1 ∙ refused_first NotUsedOnce (used_once t) ranges (below (nodes t)) 0 (sym (e₂ ∙ same_once) ∙ q₂))

      -- Where 2 lets the table pass, 3 is the answer.
      pub ranges_left : {o r : Result (Unit {0}) Refusal} → o ≡ lowest_failing NotUsedOnce (once_in counted) (count - 1) 0 formed → o ≡ formed
          → r ≡ lowest_failing OutOfOrder (in_range_at t) count 0 formed → r ≡ table t
      ranges_left e₂ q₂ e₃ =
          e₃ ∙ rw c.whole (sym (passed_1 ∙ then_follows NotUsedOnce (used_once t) ranges (below (nodes t)) 0 (sym (e₂ ∙ same_once) ∙ q₂)))

-- What a caller has of a table that passed.
pub a_checked_table_is_formed : (t : List ℕ) {r : Result (Unit {0}) Refusal} → r ≡ table t → r ≡ formed → FormedTable t
a_checked_table_is_formed t e q = a_formed_table t (sym e ∙ q)
