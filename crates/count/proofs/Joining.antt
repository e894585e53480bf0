-- The loop of `walked` over the operands that are visited: what it knows before each of them, that a refusal of one is the answer, and
-- that behind the last the node's own answer is the walk's and its word is noted.
use mathlib.Core.Path.{◌≡◌, refl, sym, ap, ◌∙◌}
use mathlib.Core.Bool.{true, false}
use mathlib.Core.List.{List}
use Prim.Native.Nat.{ℕ, ◌+◌, ◌≤◌, ◌<◌}
use native.Mathlib.Omega.{arith}
use native.Mathlib.Decide.{ℕ_discrete}
use lib.ListN.{length}
use borrow.Author.Tests.{eq-eqb, ne_eqb}
use Rattle.words.specs.Choice.{pick_true, pick_false}
use Rattle.std.specs.Prelude.{Result, Ok, Err, OnOk}
use Rattle.meaning.specs.declared.refusal.Refusal.{Refusal}
use Rattle.meaning.specs.Tree.{node_at, tree_at, nodes}
use Rattle.meaning.specs.Refusals.{and_then, walk}
use Rattle.meaning.specs.declared.Node.{Node}
use Rattle.meaning.specs.declared.Counts.{Counts}
use Rattle.outline.specs.Outline.{is_repeated, bare, noted, Known, Notes}
use Rattle.outline.proofs.Laws.{Repetition}
use Rattle.outline.proofs.ByWords.{is_delay, is_finite, is_throughout}
use Rattle.outline.proofs.Readers.{bare_known}
use Rattle.outline.proofs.Noting.{alone, alone_notes, delay_notes, throughout_notes, repeated_notes}
use Rattle.count.specs.Capped.{neutral, Small, product}
use Rattle.count.specs.Nodes.{Countable, limit, delay_counts, repeated, covered, unvisited, unrepeated, answer, left_of, visits, operand_at}
use Rattle.count.proofs.Bounds.{product_is_small}
use Rattle.count.proofs.NotVisited.{not_visited_walk}
use Rattle.count.proofs.Walking.{where_counted, Visiting, both, covered_one, repeated_one, none, visiting, words, operand_expandable, operand_alone, delay_walk, delay_decided, throughout_walk, throughout_decided, repetition_walk, repetition_decided}

-- Of the node with the words v, k operands were walked: their counts, joined, are c, and their words stand in o', before which there was o.
pub data Joined (t : List ℕ) (v : Node) (room d : ℕ) (o : List ℕ) (k : ℕ) (c : Counts) (o' : List ℕ) : Type 0 where
  nothing_yet : k ≡ 0 → c ≡ neutral → o' ≡ o → Joined t v room d o k c o'
  first : k ≡ 1 → walk room (d + 1) (tree_at t (operand_at v 0)) ≡ Ok c → Notes t (operand_at v 0) o o' → Joined t v room d o k c o'
  second : (l r : Counts) (o₁ : List ℕ) → k ≡ 2 → walk room (d + 1) (tree_at t (operand_at v 0)) ≡ Ok l → Notes t (operand_at v 0) o o₁
      → walk room (d + 1) (tree_at t (operand_at v 1)) ≡ Ok r → Notes t (operand_at v 1) o₁ o' → c ≡ product l r → Joined t v room d o k c o'

pub record Joining (t : List ℕ) (n room d : ℕ) (o : List ℕ) (k : ℕ) (c : Counts) (o' : List ℕ) : Type 0 where
  pub turn : k ≤ visits (node_at t n)
  pub small : Small c
  pub long : length o' ≡ length o
  pub joined : Joined t (node_at t n) room d o k c o'

-- At first no operand was walked.
pub joining_begins : (t : List ℕ) (n room d : ℕ) (o : List ℕ) → Joining t n room d o 0 neutral o
joining_begins t n room d o = record {
  turn = omega arith;
  small = record { few = omega arith; short = omega arith };
  long = refl;
  joined = nothing_yet refl refl refl;
}

module _ {t : List ℕ} {n room d : ℕ} (S : Countable t n room d) (h : d ≤ 256) where
  abbrev v : Node
  v = node_at t n

  -- ---- an operand more: p is the k-th, x its answer

  module _ {m k p : ℕ} (e : m ≡ visits (node_at t n)) (more : k < m) (q : p ≡ operand_at (node_at t n) k) where
    low : p < n
    low = by (visiting v)
      where
        by : Visiting v → p < n
        by (both kind r' two left right) = elim (ℕ_discrete k 0) [
          | yes z ↦ rw (q, z, left) ((words S h).delay_left kind)
          | no z ↦ (let one : k ≡ 1 = omega arith in rw (q, one, right) ((words S h).delay_right kind))
        ]
        by (covered_one kind g r' one under) = let z : k ≡ 0 = omega arith in rw (q, z, under) ((words S h).throughout_under kind)
        by (repeated_one R r' one under) = let z : k ≡ 0 = omega arith in rw (q, z, under) ((words S h).consec_under R.kind)
        by (none f g r' zero) = absurd (omega arith)

    -- The operand is lower, where u is the measure at entry, and one deeper, which 4 will look at.
    pub operand_lower : {u : ℕ} → n ≡ u → p < u
    operand_lower z = omega (arith, low)

    pub operand_countable : Countable t p room (d + 1)
    operand_countable = record { formed = S.formed; inside = omega (arith, low, S.inside); rooms = S.rooms; deep = omega arith }

    module _ {o o' : List ℕ} {c : Counts} (J : Joining t n room d o k c o') {x : Result Counts Refusal} (a : x ≡ walk room (d + 1) (tree_at t p)) where
      -- A refusal is the answer.
      pub operand_refused : {why : Refusal} → x ≡ Err why → Err why ≡ walk room d (tree_at t n)
      unfolding and_then
      operand_refused {why} refused = by (visiting v) J.joined
        where
          below_p : walk room (d + 1) (tree_at t p) ≡ Err why
          below_p = sym a ∙ refused

          by : Visiting v → Joined t v room d o k c o' → Err why ≡ walk room d (tree_at t n)
          by (both kind r' two left right) (nothing_yet z _ _) =
              let is : p ≡ v.p = q ∙ rw (z, left) refl in sym (delay_walk S h kind ∙ rw (rw is at below_p) refl)
          by (both kind r' two left right) (first z counts _) =
              let is : p ≡ v.q = q ∙ rw (z, right) refl in
              sym (delay_walk S h kind ∙ rw (rw left at counts, rw is at below_p) refl)
          by (both kind r' two left right) (second l r o₁ z _ _ _ _ _) = absurd (omega arith)
          by (covered_one kind g r' one under) J = let is : p ≡ v.q = q ∙ rw ((let z : k ≡ 0 = omega arith in z), under) refl in sym (throughout_walk S h kind ∙ rw (rw is at below_p) refl)
          by (repeated_one R r' one under) J = let is : p ≡ v.p = q ∙ rw ((let z : k ≡ 0 = omega arith in z), under) refl in sym (repetition_walk S h R ∙ rw (rw is at below_p) refl)
          by (none f g r' zero) J = absurd (omega arith)

      -- The counts of an operand that is not refused are joined to those before it.
      pub joining_on : {s c' : Counts} {o'' : List ℕ} → x ≡ Ok s → Notes t p o' o'' → c' ≡ product c s → length o'' ≡ length o'
          → Joining t n room d o (k + 1) c' o''
      joining_on {s} {c'} {o''} counts N made same = record {
        turn = omega arith;
        small = product_is_small c s made;
        long = same ∙ J.long;
        joined = by J.joined;
      }
        where
          below_p : walk room (d + 1) (tree_at t p) ≡ Ok s
          below_p = sym a ∙ counts

          by : Joined t v room d o k c o' → Joined t v room d o (k + 1) c' o''
          by (nothing_yet z blank start) =
              let is : p ≡ operand_at v 0 = q ∙ rw z refl in
              let alone : c' ≡ s = made ∙ operand_alone S h low below_p blank in
              first (omega arith) (rw alone (rw is at below_p)) (rw (is, start) at N)
          by (first z counts₀ N₀) =
              let is : p ≡ operand_at v 1 = q ∙ rw z refl in
              second c s o' (omega arith) counts₀ N₀ (rw is at below_p) (rw is at N) made
          by (second l r o₁ z _ _ _ _ _) = absurd (few (visiting v))
            where
              few : Visiting v → ⊥
              few (both kind r' two left right) = omega arith
              few (covered_one kind g r' one under) = omega arith
              few (repeated_one R r' one under) = omega arith
              few (none f g r' zero) = omega arith

  -- ---- behind the last operand: the node's own answer

  delay_answer : (c : Counts) → (node_at t n).kind ≡ 2 → is_repeated (node_at t n) ≡ false → answer room n v (node_at t v.p) c ≡ limit room n (delay_counts v c)
  unfolding answer unrepeated
  delay_answer c k r = pick_false _ _ r ∙ pick_true _ _ (eq-eqb _ _ k)

  covered_answer : (c : Counts) → (node_at t n).kind ≡ 6 → ((node_at t n).kind ≡ 2 → ⊥) → is_repeated (node_at t n) ≡ false
      → answer room n v (node_at t v.p) c ≡ covered room n c
  unfolding answer unrepeated
  covered_answer c k f r = pick_false _ _ r ∙ pick_false _ _ (ne_eqb _ _ f) ∙ pick_true _ _ (eq-eqb _ _ k)

  repeated_answer : (c : Counts) → is_repeated (node_at t n) ≡ true → answer room n v (node_at t v.p) c ≡ repeated room n v c
  unfolding answer
  repeated_answer c r = pick_true _ _ r

  unvisited_answer : (c : Counts) → ((node_at t n).kind ≡ 2 → ⊥) → ((node_at t n).kind ≡ 6 → ⊥) → is_repeated (node_at t n) ≡ false
      → answer room n v (node_at t v.p) c ≡ unvisited room n v (node_at t v.p)
  unfolding answer unrepeated
  unvisited_answer c f g r = pick_false _ _ r ∙ pick_false _ _ (ne_eqb _ _ f) ∙ pick_false _ _ (ne_eqb _ _ g)

  -- What is left of the node.
  itself : (o : List ℕ) → is_repeated (node_at t n) ≡ false → left_of o n v ≡ n
  unfolding left_of
  itself o r = pick_false _ _ r

  copied_left : {o : List ℕ} {c : Counts} (R : Repetition (node_at t n)) → is_repeated (node_at t n) ≡ true → walk room (d + 1) (tree_at t v.p) ≡ Ok c
      → Known t o v.p → left_of o n v ≡ bare (tree_at t n)
  unfolding left_of bare
  copied_left R r e K =
      pick_true _ _ r
      ∙ rw (bare_known (operand_expandable S h ((words S h).consec_under R.kind) e) K, is_finite S.formed S.inside refl R.kind R.limited) refl

  module _ {m k : ℕ} (e : m ≡ visits (node_at t n)) (last : m ≤ k) {o o' : List ℕ} {c : Counts} (J : Joining t n room d o k c o') where
    pub answer_done : {z : Result Counts Refusal} → z ≡ answer room n (node_at t n) (node_at t (node_at t n).p) c → z ≡ walk room d (tree_at t n)
    unfolding and_then
    answer_done {z} u = by (visiting v) J.joined
      where
        by : Visiting v → Joined t v room d o k c o' → z ≡ walk room d (tree_at t n)
        by (both kind r' two left right) (second l r o₁ _ one _ other _ made) =
            let one' = rw left at one in
            let other' = rw right at other in
            u ∙ delay_answer c kind r' ∙ ap (λ (x : Counts). limit room n (delay_counts v x)) made ∙ delay_decided S h kind one' other' ∙ sym (delay_walk S h kind ∙ rw (one', other') refl)
        by (both kind r' two left right) (nothing_yet z' _ _) = absurd (omega arith)
        by (both kind r' two left right) (first z' _ _) = absurd (omega arith)
        by (covered_one kind f r' one under) (first _ counts _) =
            let counts' = rw under at counts in
            u ∙ covered_answer c kind f r' ∙ throughout_decided S h kind counts' ∙ sym (throughout_walk S h kind ∙ rw counts' refl)
        by (covered_one kind f r' one under) (nothing_yet z' _ _) = absurd (omega arith)
        by (covered_one kind f r' one under) (second l r o₁ z' _ _ _ _ _) = absurd (omega (arith, J.turn))
        by (repeated_one R r' one under) (first _ counts _) =
            let counts' = rw under at counts in
            u ∙ repeated_answer c r' ∙ repetition_decided S h R counts' ∙ sym (repetition_walk S h R ∙ rw counts' refl)
        by (repeated_one R r' one under) (nothing_yet z' _ _) = absurd (omega arith)
        by (repeated_one R r' one under) (second l r o₁ z' _ _ _ _ _) = absurd (omega (arith, J.turn))
        by (none f g r' zero) J = u ∙ unvisited_answer c f g r' ∙ sym (not_visited_walk S h refl f g r')

    -- The node's word stands behind those of its operands.
    pub answer_noted : {z : Result Counts Refusal} {o'' : List ℕ} → nodes t ≤ length o → z ≡ walk room d (tree_at t n) → o'' ≡ noted o' n (left_of o' n (node_at t n)) z → OnOk z (Notes t n o o'')
    unfolding bare
    answer_noted {z} {o''} long own put = where_counted z (λ counts is. by counts is (visiting v) J.joined)
      where
        by : (counts : Counts) → z ≡ Ok counts → Visiting v → Joined t v room d o k c o' → Notes t n o o''
        by counts is (both kind r' two left right) (second l r o₁ _ _ N _ N' _) =
            let tree = is_delay S.formed S.inside refl kind in
            delay_notes t n o' (left_of o' n v) room d S.inside (itself o' r' ∙ sym (ap bare tree)) own is put tree (rw left at N) (rw right at N')
        by counts is (both kind r' two left right) (nothing_yet z' _ _) = absurd (omega arith)
        by counts is (both kind r' two left right) (first z' _ _) = absurd (omega arith)
        by counts is (covered_one kind f r' one under) (first _ _ N) =
            let tree = is_throughout S.formed S.inside refl kind in
            throughout_notes t n o' (left_of o' n v) room d S.inside (itself o' r' ∙ sym (ap bare tree)) own is put tree (rw under at N)
        by counts is (covered_one kind f r' one under) (nothing_yet z' _ _) = absurd (omega arith)
        by counts is (covered_one kind f r' one under) (second l r o₁ z' _ _ _ _ _) = absurd (omega (arith, J.turn))
        by counts is (repeated_one R r' one under) (first _ e₁ N) =
            let tree = is_finite S.formed S.inside refl R.kind R.limited in
            let N' = rw under at N in
            repeated_notes t n o' (left_of o' n v) room d S.inside (copied_left R r' (rw under at e₁) N'.known) own is put tree R.live N'
        by counts is (repeated_one R r' one under) (nothing_yet z' _ _) = absurd (omega arith)
        by counts is (repeated_one R r' one under) (second l r o₁ z' _ _ _ _ _) = absurd (omega (arith, J.turn))
        by counts is (none f g r' zero) (nothing_yet _ _ start) =
            let A = alone S.formed S.inside refl f g r' in
            rw start at (alone_notes t n o' (left_of o' n v) room d S.inside (itself o' r' ∙ A.itself) own is put (omega (arith, J.long)) A)
        by counts is (none f g r' zero) (first z' _ _) = absurd (omega (arith, J.turn))
        by counts is (none f g r' zero) (second l r o₁ z' _ _ _ _ _) = absurd (omega (arith, J.turn))
