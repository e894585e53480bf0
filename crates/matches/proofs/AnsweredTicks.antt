-- What was judged to have so many ticks can be matched: tables can be filled for it, and there is room for the answers.
use mathlib.Core.Path.{◌≡◌, sym, ◌∙◌}
use mathlib.Core.List.{List}
use Prim.Native.Nat.{ℕ, ◌+◌, ◌≤◌}
use native.Mathlib.Omega.{arith}
use native.Mathlib.Nat.{add-sub_cancel}
use Rattle.recording.specs.Refusals.{judged}
use Rattle.recording.specs.Matchable.{Matchable}
use Rattle.std.specs.Prelude.{Result, Ok}
use Rattle.meaning.specs.declared.refusal.Refusal.{Refusal}
use Rattle.recording.proofs.Laws.{an_answer_is_matchable}
use Rattle.matches.specs.Tables.{Fillable}

-- What was judged to have so many ticks.
module _ (tree rows : List ℕ) (width answers work : ℕ) {answer : Result ℕ Refusal} {ticks : ℕ}
    (e : answer ≡ judged tree rows width answers work) (q : answer ≡ Ok ticks) where
  -- What was judged to have so many ticks can be matched.
  matchable : Matchable tree rows width ticks answers work
  matchable = an_answer_is_matchable tree rows width answers work (sym e ∙ q)

  -- Tables can be filled for what was judged to have so many ticks.
  pub ticks_fillable : Fillable tree rows width (ticks + 1) work
  ticks_fillable = record {
    formed = matchable.formed;
    few = matchable.few;
    atoms = matchable.atoms;
    over_atoms = matchable.over_atoms;
    covers = record { begins = omega arith; reaches = rw (add-sub_cancel ticks 1) (omega (arith, matchable.even)) };
    short = omega (arith, matchable.short);
    enough = matchable.enough;
  }

  -- There is a byte of the answers for each tick.
  pub ticks_have_room : ticks ≤ answers
  ticks_have_room = matchable.answered
