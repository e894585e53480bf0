-- What the functions without recursion give, as the code meets it: the loops over copies, and answers under other names.
use mathlib.Core.Path.{◌≡◌, refl, sym, ◌∙◌}
use mathlib.Core.Bool.{false}
use Prim.Native.Nat.{ℕ, suc, ◌+◌, ◌-◌, ◌≤◌, ◌<◌}
use native.Mathlib.Omega.{arith}
use lib.Dec.{eqb, ltb}
use borrow.Author.Tests.{ltb-false}
use Rattle.words.specs.Choice.{pick, pick_case}
use Rattle.std.specs.Prelude.{Result, IfOk}
use Rattle.meaning.specs.declared.refusal.Refusal.{Refusal}
use Rattle.meaning.specs.declared.Node.{Node}
use Rattle.meaning.specs.declared.Counts.{Counts}
use Rattle.count.specs.Capped.{nothing, bool_term, other_term, Small, product, sum, copied, summed, with_empty, guarded_each}
use Rattle.count.specs.Nodes.{limit, delay_counts, consec_counts, repeated, covered, over_node, unvisited, unrepeated}
use Rattle.count.proofs.Bounds.{product_is_small, sum_is_small}

-- i of k copies are made, and it remains to make the others.
pub record Copying (base : Counts) (k : ℕ) (copies : Counts) (i : ℕ) : Type 0 where
  pub small : Small copies
  pub rest : copied base base k ≡ copied base copies (k - i)

-- At first the base is the only copy.
pub copying_begins : (base : Counts) (k : ℕ) → Small base → Copying base k base 0
copying_begins base k s = record { small = s; rest = let e : k - 0 ≡ k = omega arith in rw e refl }

-- Each turn makes one copy more.
pub copying_on : {base copies next : Counts} {k i : ℕ} → Copying base k copies i → i < k → next ≡ product copies base → Copying base k next (i + 1)
unfolding copied
copying_on {base} {copies} {next} {k} {i} g h e = record {
  small = product_is_small copies base e;
  rest = let m : k - i ≡ suc (k - (i + 1)) = omega arith in g.rest ∙ rw (m, e) refl;
}

-- At the end all copies are made.
pub copying_ends : {base copies : Counts} {k i : ℕ} → Copying base k copies i → k ≤ i → copies ≡ copied base base k
unfolding copied
copying_ends {base} {copies} {k} {i} g h = let m : k - i ≡ 0 = omega arith in sym (g.rest ∙ rw m refl)

-- i of count lists of copies are summed up, and it remains to add the others.
pub record Summing (base first : Counts) (count : ℕ) (total copies : Counts) (i : ℕ) : Type 0 where
  pub small_total : Small total
  pub small_copies : Small copies
  pub rest : summed base nothing first count ≡ summed base total copies (count - i)

-- At first the total is nothing.
pub summing_begins : (base first : Counts) (count : ℕ) → Small first → Summing base first count nothing first 0
summing_begins base first count s = record {
  small_total = record { few = omega arith; short = omega arith };
  small_copies = s;
  rest = let e : count - 0 ≡ count = omega arith in rw e refl;
}

-- Each turn adds the copies and makes one more of each.
pub summing_on : {base first total copies total' copies' : Counts} {count i : ℕ} → Summing base first count total copies i → i < count
    → total' ≡ sum total copies → copies' ≡ product copies base → Summing base first count total' copies' (i + 1)
unfolding summed
summing_on {base} {first} {total} {copies} {total'} {copies'} {count} {i} g h e q = record {
  small_total = sum_is_small total copies e;
  small_copies = product_is_small copies base q;
  rest = let m : count - i ≡ suc (count - (i + 1)) = omega arith in g.rest ∙ rw (m, e, q) refl;
}

-- At the end all copies are added.
pub summing_ends : {base first total copies : Counts} {count i : ℕ} → Summing base first count total copies i → count ≤ i
    → total ≡ summed base nothing first count
unfolding summed
summing_ends {count = count} {i = i} g h = let m : count - i ≡ 0 = omega arith in sym (g.rest ∙ rw m refl)

-- ---- a node's answer, and its word

-- 10: what is not refused has few alternatives.
abbrev pub FewCounted : Result Counts Refusal → Type 0
FewCounted z = IfOk z (λ c. c.alternatives ≤ 256)

few_limited : (room n : ℕ) (c : Counts) → FewCounted (limit room n c)
unfolding limit
few_limited room n c =
    pick_case FewCounted (ltb 256 c.alternatives) (λ _. tt)
    (λ many. pick_case FewCounted (ltb room c.entries) (λ _. tt) (λ _. ltb-false 256 c.alternatives many))

few_covered : (room n : ℕ) (s : Counts) → FewCounted (covered room n s)
unfolding covered
few_covered room n s = pick_case FewCounted s.plain (λ _. few_limited room n (guarded_each s)) (λ _. tt)

few_unvisited : (room n : ℕ) (v under : Node) → FewCounted (unvisited room n v under)
unfolding unvisited over_node
few_unvisited room n v under =
    pick_case FewCounted (eqb v.kind 7) (λ _. tt)
    (λ _. pick_case FewCounted (eqb v.kind 1) (λ _. few_limited room n bool_term)
    (λ _. pick_case FewCounted (pick (eqb v.kind 3) (eqb v.max 0) false) (λ _. few_limited room n other_term)
    (λ _. pick_case FewCounted (ltb 256 v.min) (λ _. tt)
    (λ _. pick_case FewCounted (eqb under.kind 1) (λ _. few_limited room n (with_empty v.min other_term)) (λ _. tt)))))

module _ (room n : ℕ) (v : Node) (c : Counts) where
  pub few_repeated : FewCounted (repeated room n v c)
  unfolding repeated
  few_repeated = pick_case FewCounted (ltb 256 v.max) (λ _. tt) (λ _. few_limited room n (consec_counts v c))

  pub few_unrepeated : (under : Node) → FewCounted (unrepeated room n v under c)
  unfolding unrepeated
  few_unrepeated under =
      pick_case FewCounted (eqb v.kind 2) (λ _. few_limited room n (delay_counts v c))
      (λ _. pick_case FewCounted (eqb v.kind 6) (λ _. few_covered room n c) (λ _. few_unvisited room n v under))
