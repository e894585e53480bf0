-- DEMAND 3 with its premise about throughout as the user has it in hand: of the words of the table that was lowered, and not of the
-- tree that they stand for. From TheStandardIsMet, and from what an accepted table passed (crates/meaning/proofs/OnTopInTheTable.antt).
use mathlib.Core.Path.{sym}
use mathlib.Core.List.{List}
use Prim.Native.Nat.{ℕ, ◌<◌}
use lib.ListN.{length}
use Rattle.meaning.specs.Tree.{root}
use Rattle.meaning.specs.Demand3.{ThroughoutOnTop, OnTopInTheTable}
use Rattle.meaning.proofs.ListingAnswer.{a_listed_table_is_formed}
use Rattle.meaning.proofs.OnTopInTheTable.{the_premise_is_the_tables}
use Rattle.lower.specs.Answers.{Lowers}
use Rattle.demands.specs.Shipped.{RunsAsShipped, MeetsTheStandard}
use Rattle.demands.specs.ShippedForC.{RunsForC, MeetsTheStandardForC}
use Rattle.demands.proofs.TheStandardIsMet.{lower_and_tick_meet_the_standard}
use Rattle.demands.proofs.RunsForC.{a_run_for_C_is_a_run}
use Rattle.demands.proofs.TheStandardIsMetForC.{sva_lower_and_sva_tick_meet_the_standard}
use Rattle.std.specs.Prelude.{Result}
use Rattle.meaning.specs.Answers.{listed}
use Rattle.meaning.specs.declared.refusal.TickRefusal.{TickRefusal}

-- What the words of an accepted table say holds of its tree.
pub on_top_in_the_tree : {tree work work' out out' : List ℕ} {registers words deepest : ℕ} → Lowers tree 0 work out (listed registers words deepest) work' out'
    → OnTopInTheTable tree → ThroughoutOnTop (root tree)
on_top_in_the_tree {tree} {work} {work'} {out} {out'} {registers} {words} {deepest} lowered =
    (the_premise_is_the_tables tree (a_listed_table_is_formed tree (length work) (length out) 0 registers words deepest (sym lowered.answers))).1

-- DEMAND 3, of the table's words.
pub lower_and_tick_meet_the_standard_of_the_table :
    {ticks : ℕ} {tree work work' out out' : List ℕ} {registers words deepest : ℕ} {cur atoms next next' stack stack' : ℕ → List ℕ} {answer : ℕ → Result ℕ TickRefusal}
    → RunsAsShipped ticks tree work work' out out' registers words deepest cur atoms next next' stack stack' answer
    → OnTopInTheTable tree → (n : ℕ) → n < ticks → MeetsTheStandard tree atoms n (answer n)
lower_and_tick_meet_the_standard_of_the_table run said = lower_and_tick_meet_the_standard run (on_top_in_the_tree run.lowered said)

-- DEMAND 3, of the table's words, of what C calls.
pub sva_lower_and_sva_tick_meet_the_standard_of_the_table :
    {ticks : ℕ} {tree work work' out out' : List ℕ} {registers words deepest fault : ℕ} {cur atoms next next' stack stack' : ℕ → List ℕ}
    {held number matched place : ℕ → ℕ}
    → RunsForC ticks tree work work' out out' registers words deepest fault cur atoms next next' stack stack' held number matched place
    → OnTopInTheTable tree → (n : ℕ) → n < ticks → MeetsTheStandardForC tree atoms n (number n) (matched n)
sva_lower_and_sva_tick_meet_the_standard_of_the_table run said =
    sva_lower_and_sva_tick_meet_the_standard run (on_top_in_the_tree (a_run_for_C_is_a_run run).lowered said)
