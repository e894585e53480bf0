-- One outcome: what the matcher is made of. A contract of a row that gains ends says of each of its bytes what it is.
use mathlib.Core.Path.{◌≡◌, refl, sym, subst, ◌∙◌}
use mathlib.Core.Logic.{inl, inr}
use mathlib.Core.List.{List}
use Prim.Native.Nat.{ℕ, ◌+◌, ◌-◌, ◌≤◌, ◌<◌}
use native.Mathlib.Omega.{arith}
use native.Mathlib.Decide.{dec_le}
use lib.ListN.{length, get_or}
use lib.Seq.{get_or-drop, ext_get_or}
use seplogic.Ra.Ura.{Ura}
use base.Logic.{SProp, ent, sep}
use prog.Memory.{Memory}
use prog.Routine.{Routine}
use types.Logic.{Logic}
use contract.Monad.{Fun, fact}
use Rattle.recording.specs.contracts.judged as judged
use Rattle.runs.specs.Ends.{Gains}
use Rattle.runs.proofs.Laws.{gains_once}
use Rattle.runs.specs.contracts.table.Table.row as row_of_table
use Rattle.runs.specs.contracts.add_ends as add_ends
use Rattle.runs.specs.contracts.reach as reach
use Rattle.joined_runs.specs.contracts.delayed as delayed
use Rattle.joined_runs.specs.contracts.inside as inside
use Rattle.repeated_runs.specs.contracts.repeated as repeated
use Rattle.recorded_runs.specs.contracts.Rows.holds as holds
use Rattle.recorded_runs.specs.contracts.occurs as occurs
use Rattle.recorded_runs.specs.contracts.counted as counted
use Rattle.recorded_runs.specs.contracts.throughout as throughout
use Rattle.matches.specs.Answers.{Says, Answered, Holds, Matches}
use Rattle.matches.specs.contracts.matches as matches
use Rattle.demands.specs.OneOutcome.{OneOutcome, OneOutcomeUpTo}
use Rattle.demands.proofs.OneOutcome.{outcome, same, same_outcome, same_outcome_of_two, from_both, from_all, by_an_equation}
use Rattle.std.specs.Prelude.{Result, Ok, Err}
use Rattle.meaning.specs.declared.refusal.Refusal.{Refusal}

-- A byte that says whether something holds is one byte.
says_once : {byte byte' : ℕ} {P : Type 0} → Says byte P → Says byte' P → byte ≡ byte'
says_once (inl (e, p)) (inl (e', p')) = e ∙ sym e'
says_once (inl (e, p)) (inr (e', n')) = absurd (n' p)
says_once (inr (e, n)) (inl (e', p')) = absurd (n p')
says_once (inr (e, n)) (inr (e', n')) = e ∙ sym e'

-- The answers are one list: each byte of a tick says whether a match ends there, and the later ones are as they were.
answered_once : {tree rows before after after' : List ℕ} {width ticks : ℕ} → Answered tree rows width ticks before after
    → Answered tree rows width ticks before after' → after ≡ after'
answered_once {before = before} {after} {after'} {ticks = ticks} x x' = ext_get_or 0 after after' (x.long ∙ sym x'.long) byte
  where
    later : (j : ℕ) → ticks ≤ j → get_or after j 0 ≡ get_or after' j 0
    later j l =
        let at : ticks + (j - ticks) ≡ j = omega arith in
        rw (← at, ← get_or-drop ticks after (j - ticks) 0, ← get_or-drop ticks after' (j - ticks) 0, x.later, x'.later) refl

    byte : (j : ℕ) → j < length after → get_or after j 0 ≡ get_or after' j 0
    byte j l = elim (dec_le ticks j) [ yes h ↦ later j h | no h ↦ says_once (x.says j (omega arith)) (x'.says j (omega arith)) ]

-- So are they for any answer, a refusal included.
pub holds_once : (answer : Result ℕ Refusal) (tree rows : List ℕ) (width : ℕ) (before : List ℕ) {after after' : List ℕ} → Holds answer tree rows width before after
    → Holds answer tree rows width before after' → after ≡ after'
holds_once (Ok ticks) tree rows width before x x' = answered_once x x'
holds_once (Err refusal) tree rows width before e e' = e ∙ sym e'

-- Two calls of `matches` with the same arguments leave the same answers.
matches_once : {tree rows before after after' work work' work'' : List ℕ} {width : ℕ} {answer answer' : Result ℕ Refusal}
    → Matches tree rows width before after work work' answer → Matches tree rows width before after' work work'' answer' → after ≡ after'
matches_once {tree} {rows} {before} {after} {after'} {width = width} {answer} m m' =
    holds_once answer tree rows width before m.holds
    (subst (λ (x : Result ℕ Refusal). Holds x tree rows width before after') (same m'.answer_is m.answer_is) m'.holds)

module _ {M : Type 1} {𝓤 : Ura M} (𝓛 : Logic 𝓤) (mem : Memory → SProp 𝓤) (run : Routine → Fun 𝓤) where
  -- Nothing is returned, and a row gains ends.
  by_gaining : {R L : Type 0} (leaving : List ℕ → L) {r : R} {before after after' : List ℕ} {P : ℕ → Type 0}
      → ent 𝓤 (sep 𝓤 (fact 𝓤 (Gains before after P)) (fact 𝓤 (Gains before after' P))) (fact 𝓤 (outcome r (leaving after) ≡ outcome r (leaving after')))
  by_gaining leaving = from_both 𝓤 (λ g g'. same_outcome leaving refl (gains_once g g'))

  -- What is refused.
  pub recording_judged_has_one_outcome : OneOutcome 𝓤 judged.ended (judged.clauses 𝓛 mem run)
  recording_judged_has_one_outcome κs a g o o' = by_an_equation 𝓤

  -- A row of a table, and ends that are added and reached.
  pub runs_row_has_one_outcome : OneOutcomeUpTo 𝓤 row_of_table.ended (row_of_table.clauses 𝓛 mem run) (λ κs a o o'. o.result.now ≡ o'.result.now)
  runs_row_has_one_outcome κs a g o o' = from_all 𝓤 (λ p b p' b'. same p p')

  pub runs_add_ends_has_one_outcome : OneOutcome 𝓤 add_ends.ended (add_ends.clauses 𝓛 mem run)
  runs_add_ends_has_one_outcome κs a g o o' = by_gaining (λ row. (tt, (tt, (row, tt))))

  pub runs_reach_has_one_outcome : OneOutcome 𝓤 reach.ended (reach.clauses 𝓛 mem run)
  runs_reach_has_one_outcome κs a g o o' = by_gaining (λ row. (tt, (tt, (tt, (tt, (row, tt))))))

  -- A delay and a within.
  pub joined_runs_delayed_has_one_outcome : OneOutcome 𝓤 delayed.ended (delayed.clauses 𝓛 mem run)
  joined_runs_delayed_has_one_outcome κs a g o o' = by_gaining (λ row. (tt, (tt, (tt, (tt, (tt, (row, tt)))))))

  pub joined_runs_inside_has_one_outcome : OneOutcome 𝓤 inside.ended (inside.clauses 𝓛 mem run)
  joined_runs_inside_has_one_outcome κs a g o o' = by_gaining (λ row. (tt, (tt, (tt, (row, tt)))))

  -- A repetition.
  pub repeated_runs_repeated_has_one_outcome : OneOutcome 𝓤 repeated.ended (repeated.clauses 𝓛 mem run)
  repeated_runs_repeated_has_one_outcome κs a g o o' = by_gaining (λ row. (tt, (tt, (tt, (tt, (row, tt))))))

  -- What is read off recorded rows.
  pub recorded_runs_holds_has_one_outcome : OneOutcome 𝓤 holds.ended (holds.clauses 𝓛 mem run)
  recorded_runs_holds_has_one_outcome κs a g o o' = by_an_equation 𝓤

  pub recorded_runs_occurs_has_one_outcome : OneOutcome 𝓤 occurs.ended (occurs.clauses 𝓛 mem run)
  recorded_runs_occurs_has_one_outcome κs a g o o' = by_gaining (λ row. (tt, (tt, (tt, (row, tt)))))

  pub recorded_runs_counted_has_one_outcome : OneOutcome 𝓤 counted.ended (counted.clauses 𝓛 mem run)
  recorded_runs_counted_has_one_outcome κs a g o o' = by_gaining (λ row. (tt, (tt, (tt, (tt, (tt, (row, tt)))))))

  pub recorded_runs_throughout_has_one_outcome : OneOutcome 𝓤 throughout.ended (throughout.clauses 𝓛 mem run)
  recorded_runs_throughout_has_one_outcome κs a g o o' = by_gaining (λ row. (tt, (tt, (tt, (tt, (row, tt))))))

  -- The matcher: what it returns, the answers, and work.
  pub matches_has_one_outcome : OneOutcome 𝓤 matches.ended (matches.clauses 𝓛 mem run)
  matches_has_one_outcome κs a g o o' =
      from_both 𝓤 (λ m m'.
      same_outcome_of_two (λ answers work. (tt, (tt, (tt, (answers, (work, tt))))))
      (same m.answer_is m'.answer_is)
      (matches_once m m')
      (same m.cleared m'.cleared))
