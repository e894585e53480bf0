-- What the survey tells: 12 falls on the alternative that it names, or on none, and then it has the registers of all.
use mathlib.Core.Path.{◌≡◌, refl, ap, ◌∙◌}
use mathlib.Core.Bool.{Bool, true, false}
use mathlib.Core.List.{List, [], ◌∷◌}
use Prim.Native.Nat.{ℕ, suc, ◌+◌}
use native.Mathlib.Nat.{add-zero, zero-add}
use native.Mathlib.Numerals.{add-one}
use native.Mathlib.Omega.{arith}
use Rattle.std.specs.Prelude.{Result, Ok, Err}
use Rattle.words.specs.Choice.{pick}
use Rattle.meaning.specs.Alternative.{SeqAlt}
use Rattle.meaning.specs.Refusals.{steps_fit, Found, at, nowhere, first_misplaced}
use Rattle.meaning.specs.declared.refusal.Refusal.{Refusal}
use Rattle.meaning.specs.declared.refusal.Refusal.TheVariants.{MisplacedEmpty}
use Rattle.alternative.specs.Alternatives.{registers_in}
use Rattle.choice.specs.ChoiceWords.{all_registers, survey_from, survey_of, survey_by}

by_one_more : (b : Bool) (i total : ℕ) (found : Found) → pick b (survey_by found total) (Err (MisplacedEmpty i)) ≡ survey_by (pick b found (at i)) total
unfolding pick
by_one_more true i total found = refl
by_one_more false i total found = refl

survey_goes_on : (i : ℕ) (alts : List SeqAlt) (total : ℕ) → survey_from i alts total ≡ survey_by (first_misplaced i alts) (total + all_registers alts)
unfolding survey_from first_misplaced all_registers
survey_goes_on i [] total = rw add-zero
survey_goes_on i (y ∷ ys) total =
    let sum : total + registers_in y + all_registers ys ≡ total + (registers_in y + all_registers ys) = omega arith in
    let more = survey_goes_on (i + 1) ys (total + registers_in y) in
    ap (λ (x : Result ℕ Refusal). pick (steps_fit y.steps) x (Err (MisplacedEmpty i)))
    (more ∙ ap (λ (k : ℕ). survey_by (first_misplaced k ys) (total + registers_in y + all_registers ys)) (add-one i) ∙ ap (survey_by (first_misplaced (suc i) ys)) sum)
    ∙ by_one_more (steps_fit y.steps) i (total + (registers_in y + all_registers ys)) (first_misplaced (suc i) ys)

pub the_survey : (alts : List SeqAlt) → survey_of alts ≡ survey_by (first_misplaced 0 alts) (all_registers alts)
unfolding survey_of
the_survey alts = survey_goes_on 0 alts 0 ∙ ap (survey_by (first_misplaced 0 alts)) (zero-add (all_registers alts))

-- A survey, read backwards.
pub survey_misplaced : (found : Found) (registers : ℕ) {i : ℕ} → survey_by found registers ≡ Err (MisplacedEmpty i) → found ≡ at i
survey_misplaced (at k) registers {i} e = ap at (let same : k ≡ i = cc in same)
survey_misplaced nowhere registers e = absurd (let z : ◌≡◌ {A = ℕ} 0 1 = cc in omega arith)

pub survey_registers : (found : Found) {r registers : ℕ} → survey_by found registers ≡ Ok r → (found ≡ nowhere) × (r ≡ registers)
survey_registers (at k) e = absurd (let z : ◌≡◌ {A = ℕ} 0 1 = cc in omega arith)
survey_registers nowhere e = (refl, cc)
