-- What a node's runs are where its operands' tables are right: those that its tree matches, below the side of the tables. One law a kind.
use mathlib.Core.Path.{◌≡◌}
use mathlib.Core.Bool.{true, false}
use mathlib.Core.Logic.{◌↔◌, inl, inr}
use mathlib.Core.List.{List}
use Prim.Native.Nat.{ℕ, ◌≤◌, ◌<◌}
use native.Mathlib.Omega.{arith}
use native.Mathlib.Decide.{dec_le}
use Rattle.meaning.specs.Tree.{node_at, tree_at, unlimited, max_of}
use Rattle.meaning.specs.Match.{Runs, UpTo, Join, Times, Occurs, Match}
use Rattle.meaning.specs.Lowerable.{WellFormed}
use Rattle.meaning.specs.declared.Node.{Node}
use Rattle.meaning.proofs.RunLaws.{Forward}
use Rattle.meaning.proofs.MatchForward.{match_forward}
use Rattle.meaning.proofs.MatchDecided.{delay_below}
use Rattle.meaning.proofs.Nodes.{at_atom, at_delay, at_consec, at_goto, at_nonconsec, at_throughout, at_within}
use Rattle.runs.specs.Ends.{Kept}
use Rattle.joined_runs.specs.Joined.{Delayed, Within}
use Rattle.repeated_runs.specs.Repeated.{Repeated}
use Rattle.repeated_runs.proofs.Copies.{past_the_ticks}
use Rattle.recorded_runs.specs.Recorded.{recorded, Counted, Throughout}
use Rattle.matches.specs.Tables.{table_of, Ready}
use Rattle.matches.proofs.RunsBelowASide.{SameBelow, times_same, join_same, inside_same, up_to_the_word, up_to_the_maximum}

-- A count that a maximum lets pass can be lowered to one that its word lets pass: of so many copies some are empty.
count_by_the_word : (R : Runs) → Forward R → (min max i j c : ℕ) → min ≤ unlimited → j < unlimited → min ≤ c → UpTo c (max_of max) → Times c R i j
    → (d : ℕ) × (min ≤ d) × (d ≤ max) × Times d R i j
count_by_the_word R f min max i j c p q l u xs =
    elim (dec_le c unlimited) [
      | yes low ↦ (c, l, up_to_the_maximum c max u c (omega arith) low, xs)
      | no high ↦ (
        unlimited,
        p,
        up_to_the_maximum c max u unlimited (omega arith) (omega arith),
        (past_the_ticks R f unlimited c i j (omega arith) (omega arith)).1 xs,
      )
    ]

module _ (tree rows : List ℕ) (width side : ℕ) (tables : List ℕ) (n : ℕ) (ready : Ready tree rows width side tables n) where
  -- The node's words.
  abbrev v : Node
  v = node_at tree n

  -- The node's words are in order.
  formed : WellFormed n v
  formed = ready.fillable.formed.each n ready.inside

  -- The runs of the node's tree.
  abbrev matched : Runs
  matched = Match (recorded rows width) (tree_at tree n)

  -- The runs of every tree go forward.
  forward : (k : ℕ) → Forward (Match (recorded rows width) (tree_at tree k))
  forward k = match_forward (recorded rows width) (tree_at tree k)

  -- An atom's runs are read off the rows.
  pub occurs_matched : v.kind ≡ 1 → SameBelow side (Occurs (recorded rows width) v.p) matched
  occurs_matched e i j h = rw (at_atom tree n e) (λ x. x, λ x. x)

  -- A delay's runs join the operands' runs.
  pub delayed_matched : v.kind ≡ 2 → SameBelow side (Delayed (Kept tables (table_of side v.p) side) (Kept tables (table_of side v.q) side) v.min v.max) matched
  delayed_matched e i j h = rw (at_delay tree n e (formed.delay_left e) (formed.delay_right e)) (
    λ (d, l, u, x). (d, l, up_to_the_word d v.max u, (joined d).0 x),
    λ (d, l, u, x). (
      d,
      l,
      up_to_the_maximum d v.max u d (omega arith) (omega (arith, ready.fillable.short, delay_below d left right (forward v.q) i j x)),
      (joined d).1 x,
    ),
  )
    where
      left : Runs
      left = Match (recorded rows width) (tree_at tree v.p)

      right : Runs
      right = Match (recorded rows width) (tree_at tree v.q)

      joined : (d : ℕ) → Join d (Kept tables (table_of side v.p) side) (Kept tables (table_of side v.q) side) i j ↔ Join d left right i j
      joined d = join_same side _ right (ready.right (inl e)).runs (forward v.q) d _ left (ready.left (inl e)).runs i j h

  -- A consecutive repetition's runs repeat the operand's runs.
  pub repeated_matched : v.kind ≡ 3 → SameBelow side (Repeated (Kept tables (table_of side v.p) side) v.min v.max) matched
  repeated_matched e i j h = rw (at_consec tree n e (formed.consec_under e)) (
    λ (c, l, u, xs). (c, l, up_to_the_word c v.max u, (copies c).0 xs),
    λ (c, l, u, xs).
        let few : v.min ≤ unlimited = omega (arith, formed.consec_min e) in
        let short : j < unlimited = omega (arith, ready.fillable.short) in
        let (d, low, high, ys) = count_by_the_word under (forward v.p) v.min v.max i j c few short l u xs in
        (d, low, high, (copies d).1 ys),
  )
    where
      under : Runs
      under = Match (recorded rows width) (tree_at tree v.p)

      copies : (c : ℕ) → Times c (Kept tables (table_of side v.p) side) i j ↔ Times c under i j
      copies c = times_same side _ under (ready.repeated e).runs (forward v.p) c i j h

  -- A goto repetition's runs go from one tick of its atom to the next.
  pub goto_matched : v.kind ≡ 4 → SameBelow side (Counted false (recorded rows width) (node_at tree v.p).p v.min) matched
  goto_matched e i j h =
      rw (at_goto tree n e (formed.goto_under e), at_atom tree v.p (ready.fillable.over_atoms n ready.inside (inl e))) (λ x. x, λ x. x)

  -- A nonconsecutive repetition's runs may go on behind the last tick of its atom.
  pub nonconsec_matched : v.kind ≡ 5 → SameBelow side (Counted true (recorded rows width) (node_at tree v.p).p v.min) matched
  nonconsec_matched e i j h =
      rw (at_nonconsec tree n e (formed.nonconsec_under e), at_atom tree v.p (ready.fillable.over_atoms n ready.inside (inr e))) (λ x. x, λ x. x)

  -- A throughout's runs are the operand's runs at every tick of which the condition holds.
  pub throughout_matched : v.kind ≡ 6 → SameBelow side (Throughout (Kept tables (table_of side v.q) side) (recorded rows width) v.p) matched
  throughout_matched e i j h =
      let under = (ready.under e).runs i j h in
      rw (at_throughout tree n e (formed.throughout_under e)) (λ (x, y). (under.0 x, y), λ (x, y). (under.1 x, y))

  -- A within's runs are the runs of its second operand that one of the first lies in.
  pub inside_matched : v.kind ≡ 7 → SameBelow side (Within (Kept tables (table_of side v.p) side) (Kept tables (table_of side v.q) side)) matched
  inside_matched e i j h =
      rw (at_within tree n e (formed.within_one e) (formed.within_two e))
      (inside_same side _ _ _ _ (ready.left (inr e)).runs (ready.right (inr e)).runs i j h)
