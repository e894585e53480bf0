-- The ends of a node's runs are added from its operands' tables and from the rows, as the code meets them: what each kind asks for, and
-- that it adds the ends of what its tree matches.
use mathlib.Core.Path.{◌≡◌, refl}
use mathlib.Core.Logic.{◌⊎◌, inl, inr, ⊎_elim}
use mathlib.Core.List.{List}
use Prim.Native.Nat.{ℕ, ◌*◌, ◌≤◌, ◌<◌}
use native.Mathlib.Omega.{arith}
use native.Mathlib.Decide.{ℕ_discrete}
use lib.Dec.{eqb}
use lib.ListN.{length}
use borrow.Author.Tests.{eq-eqb, ne_eqb}
use Rattle.words.specs.Choice.{pick}
use Rattle.meaning.specs.Tree.{node_at, nodes, tree_at}
use Rattle.meaning.specs.Kinds.{columns}
use Rattle.meaning.specs.Match.{Occurs, Match}
use Rattle.meaning.specs.Lowerable.{WellFormed}
use Rattle.meaning.specs.declared.Node.{Node}
use denote.Ref.{Bor}
use Rattle.runs.specs.Ends.{Gains, Stands}
use Rattle.runs.specs.Tables.{RunsOf}
use Rattle.runs.specs.declared.Table.{Table}
use Rattle.runs.proofs.Laws.{gains_as}
use Rattle.joined_runs.specs.Joined.{Delayed, Within}
use Rattle.repeated_runs.specs.Repeated.{Repeated}
use Rattle.recorded_runs.specs.Recorded.{recorded, Counted, Throughout}
use Rattle.matches.specs.Tables.{table_of, TableOf, Ready}
use Rattle.matches.proofs.TablesApart.{ends_before}
use Rattle.matches.proofs.NodesOfRightTables.{occurs_matched, delayed_matched, repeated_matched, goto_matched, nonconsec_matched, throughout_matched, inside_matched}

-- Of the kinds from 4 to 5 each is a goto or a nonconsecutive repetition.
pub counts_on : (kind : ℕ) → 4 ≤ kind → kind ≤ 5 → (kind ≡ 4) ⊎ (kind ≡ 5)
counts_on kind low high = elim (ℕ_discrete kind 4) [ yes e ↦ inl e | no e ↦ inr (omega arith) ]

module _ {tree rows : List ℕ} {width side : ℕ} {tables : List ℕ} {n : ℕ} (ready : Ready tree rows width side tables n) where
  -- A lower node is one of few.
  pub operand_few : {k : ℕ} → k < n → k < 64
  operand_few l = omega (arith, ready.inside, ready.fillable.few)

  -- The table of a lower node stands among the others.
  pub operand_stands : {k : ℕ} → k < n → Stands tables (table_of side k) side
  operand_stands {k} l =
      omega (arith, ready.fillable.enough, ends_before (side * side) {k = k} {n = nodes tree} (omega (arith, ready.inside)))

  module _ {v : Node} (w : v ≡ node_at tree n) where
    -- The node's words, v, are in order.
    formed : WellFormed n v
    formed = rw w (ready.fillable.formed.each n ready.inside)

    -- An atom stands in the row.
    pub atom_recorded : v.kind ≡ 1 → v.p < width
    unfolding columns pick
    atom_recorded k = rw w (ready.fillable.atoms n ready.inside (rw (← w, k) refl))

    -- Both operands of a delay are lower.
    pub delay_left_below : v.kind ≡ 2 → v.p < n
    delay_left_below k = formed.delay_left k

    pub delay_right_below : v.kind ≡ 2 → v.q < n
    delay_right_below k = formed.delay_right k

    pub condition_recorded : v.kind ≡ 6 → v.p < width
    unfolding columns pick
    condition_recorded k = rw w (ready.fillable.atoms n ready.inside (rw (← w, k) refl))

    -- Both operands of a within are lower.
    pub one_below : v.kind ≡ 7 → v.p < n
    one_below k = formed.within_one k

    pub two_below : v.kind ≡ 7 → v.q < n
    two_below k = formed.within_two k

    -- The node is of one of the seven kinds.
    pub known : (1 ≤ v.kind) × (v.kind ≤ 7)
    known = formed.known

    module _ (counts : (v.kind ≡ 4) ⊎ (v.kind ≡ 5)) where
      -- The operand of a goto or nonconsecutive repetition is lower.
      counted_below : v.p < n
      counted_below = ⊎_elim formed.goto_under formed.nonconsec_under counts

      -- A goto or nonconsecutive repetition counts one at least.
      pub counted_some : 0 < v.min
      counted_some = ⊎_elim (λ k. omega (arith, formed.goto_count k)) (λ k. omega (arith, formed.nonconsec_count k)) counts

      -- The operand of a goto or nonconsecutive repetition, with the words u, is an atom that stands in the row.
      pub counted_recorded : {u : Node} → u ≡ node_at tree v.p → u.p < width
      unfolding columns pick
      counted_recorded z =
          let inside : v.p < nodes tree = omega (arith, counted_below, ready.inside) in
          let atom = ready.fillable.over_atoms n ready.inside (rw w at counts) in
          rw (z, w) (ready.fillable.atoms (node_at tree n).p (rw w at inside) (rw atom refl))

-- The ends added of an atom are those that its tree matches.
pub occurs_added : {tree rows : List ℕ} {width : ℕ} {tables row row' : List ℕ} {n i : ℕ} {v : Node} → Ready tree rows width (length row) tables n
    → v ≡ node_at tree n → v.kind ≡ 1 → Gains row row' (Occurs (recorded rows width) v.p i)
    → Gains row row' (Match (recorded rows width) (tree_at tree n) i)
occurs_added {tree} {rows} {width} {tables} {row} {n = n} {i} ready w k g =
    gains_as (λ j l. rw w (occurs_matched tree rows width (length row) tables n ready (rw w at k) i j l)) g

-- The ends added from the tables of a node's operands are those of what the node's tree matches.
module _ {tree rows : List ℕ} {width : ℕ} {tables : Bor (List ℕ)} {row row' : List ℕ} {n i : ℕ} {v : Node}
    (ready : Ready tree rows width (length row) tables.now n) (w : v ≡ node_at tree n) where
  -- The ends added of a delay are those that its tree matches.
  pub delayed_added : {left right : Table} → v.kind ≡ 2 → TableOf left tables (length row) v.p → TableOf right tables (length row) v.q
      → Gains row row' (Delayed (RunsOf left) (RunsOf right) v.min v.max i) → Gains row row' (Match (recorded rows width) (tree_at tree n) i)
  delayed_added k l r g = gains_as
      (λ j h. rw (l.bytes, l.place, l.side_is, r.bytes, r.place, r.side_is, w) (delayed_matched tree rows width (length row) tables.now n ready (rw w at k) i j h))
      g

  -- The ends added of a consecutive repetition are those that its tree matches.
  pub repeated_added : {under : Table} → v.kind ≡ 3 → TableOf under tables (length row) v.p → Gains row row' (Repeated (RunsOf under) v.min v.max i)
      → Gains row row' (Match (recorded rows width) (tree_at tree n) i)
  repeated_added k u g =
      gains_as (λ j h. rw (u.bytes, u.place, u.side_is, w) (repeated_matched tree rows width (length row) tables.now n ready (rw w at k) i j h)) g

  -- The ends added of a throughout are those that its tree matches.
  pub throughout_added : {under : Table} → v.kind ≡ 6 → TableOf under tables (length row) v.q
      → Gains row row' (Throughout (RunsOf under) (recorded rows width) v.p i) → Gains row row' (Match (recorded rows width) (tree_at tree n) i)
  throughout_added k u g =
      gains_as (λ j h. rw (u.bytes, u.place, u.side_is, w) (throughout_matched tree rows width (length row) tables.now n ready (rw w at k) i j h)) g

  -- The ends added of a within are those that its tree matches.
  pub inside_added : {one two : Table} → v.kind ≡ 7 → TableOf one tables (length row) v.p → TableOf two tables (length row) v.q
      → Gains row row' (Within (RunsOf one) (RunsOf two) i) → Gains row row' (Match (recorded rows width) (tree_at tree n) i)
  inside_added k l r g = gains_as
      (λ j h. rw (l.bytes, l.place, l.side_is, r.bytes, r.place, r.side_is, w) (inside_matched tree rows width (length row) tables.now n ready (rw w at k) i j h))
      g

-- The ends added of a goto or nonconsecutive repetition, whose operand has the words u, are those that its tree matches.
pub counted_added : {tree rows : List ℕ} {width : ℕ} {tables row row' : List ℕ} {n : ℕ} {v u : Node} (i : ℕ)
    → Ready tree rows width (length row) tables n → v ≡ node_at tree n → (v.kind ≡ 4) ⊎ (v.kind ≡ 5) → u ≡ node_at tree v.p
    → Gains row row' (Counted (eqb v.kind 5) (recorded rows width) u.p v.min i)
    → Gains row row' (Match (recorded rows width) (tree_at tree n) i)
counted_added {tree} {rows} {width} {tables} {row} {n = n} {v} i ready w (inl k) z g =
    gains_as (λ j h. rw (ne_eqb v.kind 5 (λ e. omega arith), z, w) (goto_matched tree rows width (length row) tables n ready (rw w at k) i j h)) g
counted_added {tree} {rows} {width} {tables} {row} {n = n} {v} i ready w (inr k) z g =
    gains_as (λ j h. rw (eq-eqb v.kind 5 k, z, w) (nonconsec_matched tree rows width (length row) tables n ready (rw w at k) i j h)) g
