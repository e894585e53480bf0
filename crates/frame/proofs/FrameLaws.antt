-- Laws of a frame that is watched, as the code meets them: the rows and the position in the map that the code keeps play no part in
-- what is said. They assume nothing.
use mathlib.Core.Path.{◌≡◌, refl, sym, ap, ◌∙◌}
use mathlib.Core.List.{List}
use Prim.Native.Nat.{ℕ, suc, ◌+◌, ◌-◌, ◌≤◌, ◌<◌}
use native.Mathlib.Omega.{arith}
use native.Mathlib.Decide.{dec_le}
use lib.ListN.{length, take, replicate, length-replicate}
use lib.Seq.{length-take-le}
use borrow.Author.Tests.{lt-ltb, le-ltb, le-leb, lt-leb, eq-eqb, ne_eqb}
use Rattle.words.specs.Choice.{pick_true, pick_false}
use Rattle.words.specs.Written.{Wrote}
use Rattle.words.proofs.Laws.{front_written, length-written, still_long}
use Rattle.meaning.specs.Tick.{tick, next_after, stack_left}
use Rattle.tick.specs.Stepped.{Stepped as Ticks}
use Rattle.correction.specs.Map.{Reached}
use Rattle.correction.specs.Rows.{row_of, column_of, Stepped}
use Rattle.correction.specs.Picture.{Ran, begun, ticked}
use Rattle.correction.specs.declared.Output.{Output}
use Rattle.correction.proofs.Frame.{rows_stay_two, what_leaves_is_corrected}
use Rattle.sensor.specs.Sensor.{reads_at}
use Rattle.frame.specs.Atoms.{atoms_at}
use Rattle.frame.specs.Assertions.{tree_of, listed}
use Rattle.frame.specs.Advanced.{Advanced}
use Rattle.frame.specs.Watched.{picture, pixel_of, leaving_at, atoms_of, said, watched_from, verdict_on, verdict_of}
use Rattle.frame.specs.declared.Verdict.{Verdict}
use Rattle.frame.specs.declared.Verdict.TheVariants.{Quiet, Alarm, Refused}
use Rattle.frame.proofs.AssertionLaws.{listed_fits}
use Rattle.std.specs.Prelude.{Result, Ok, Err}
use Rattle.meaning.specs.declared.refusal.TickRefusal.{TickRefusal}

-- What the sensor reads, during the frame and after it.
pub after_the_frame : (t : ℕ) → 360960 ≤ t → 0 ≡ pixel_of t
unfolding picture
after_the_frame t h = sym (pick_true _ _ (le-leb 480 (row_of t) (omega arith)))

pub during_the_frame : (t : ℕ) {row column r : ℕ} → t < 360960 → row ≡ row_of t → column ≡ column_of t → r ≡ reads_at row column → r ≡ pixel_of t
unfolding picture
during_the_frame t h e f q = q ∙ rw (e, f) (sym (pick_false _ _ (lt-leb 480 (row_of t) (omega arith))))

-- A tick whose registers are copied.
pub advanced : {ws cur atoms next next' stack stack' cur' : List ℕ} {r : Result ℕ TickRefusal} → Ticks ws cur atoms next next' stack stack' r → cur' ≡ next'
    → Advanced ws cur cur' atoms next next' stack stack' r
advanced s e = record { answer = s.answer; next_holds = s.next_holds; cur_holds = e; stack_holds = s.stack_holds }

length-next : (r : Result ℕ TickRefusal) (ws cur atoms next : List ℕ) → length (next_after r ws cur atoms next) ≡ length next
unfolding next_after
length-next (Ok bit) ws cur atoms next = length-written next 0 _
length-next (Err refusal) ws cur atoms next = refl

length_stack : (r : Result ℕ TickRefusal) (stack : List ℕ) → length (stack_left r stack) ≡ length stack
unfolding stack_left
length_stack (Ok bit) stack = length-replicate {A = ℕ} (length stack) 0
length_stack (Err refusal) stack = refl

-- Both slices of registers are as long after a tick as before, and so is the stack.
pub next_stays_long : {ws cur cur' atoms next next' stack stack' : List ℕ} {r : Result ℕ TickRefusal} → Advanced ws cur cur' atoms next next' stack stack' r
    → length next' ≡ length next
next_stays_long {ws} {cur} {atoms = atoms} {next} {r = r} A = ap length A.next_holds ∙ length-next r ws cur atoms next

-- One tick of the definition.
one_tick : (atoms : ℕ → List ℕ) (ws : List ℕ) {left ticks : ℕ} (t : ℕ) (registers : List ℕ) → left ≡ suc ticks
    → watched_from atoms ws left t registers
    ≡ said (tick ws registers (atoms t) 64 64) t
    (watched_from atoms ws ticks (t + 1) (next_after (tick ws registers (atoms t) 64 64) ws registers (atoms t) registers))
unfolding watched_from
one_tick atoms ws t registers e = rw e refl

no_tick : (atoms : ℕ → List ℕ) (ws : List ℕ) {left : ℕ} (t : ℕ) (registers : List ℕ) → left ≡ 0 → watched_from atoms ws left t registers ≡ Quiet
unfolding watched_from
no_tick atoms ws t registers e = rw e refl

-- The frame until a tick: the rows are those of the picture so far, and what is left to say is the whole verdict.
pub record Watching (map ws rows cur next stack : List ℕ) (reached t : ℕ) : Type 0 where
  pub rows_long : length rows ≡ 1504
  pub cur_long : length cur ≡ 64
  pub next_long : length next ≡ 64
  pub stack_long : length stack ≡ 64
  pub reaches : Reached map reached (t - 2)
  pub ran : Ran map picture t rows
  pub same : next ≡ cur
  pub rest : verdict_on map ws ≡ watched_from (atoms_of map) ws (360962 - t) t cur

pub watching_begins : {map : List ℕ} (ws rows stack : List ℕ) → Reached map 0 0 → length rows ≡ 1504 → length stack ≡ 64
    → Watching map ws rows (replicate 64 0) (replicate 64 0) stack 0 0
unfolding verdict_on
watching_begins ws rows stack R r s = record {
  rows_long = r;
  cur_long = length-replicate {A = ℕ} 64 0;
  next_long = length-replicate {A = ℕ} 64 0;
  stack_long = s;
  reaches = R;
  ran = begun r;
  same = refl;
  rest = refl;
}

-- A tick of a frame that is watched.
module _ {map ws rows cur next stack : List ℕ} {reached t : ℕ} (W : Watching map ws rows cur next stack reached t) (h : t < 360962)
    {rows' : List ℕ} {pixel : ℕ} {given : Output} (p : pixel ≡ pixel_of t) (S : Stepped map rows rows' t pixel given)
    {atoms : List ℕ} (a : atoms ≡ atoms_at t pixel given.leaving)
    {cur' next' stack' : List ℕ} {r : Result ℕ TickRefusal} (A : Advanced ws cur cur' atoms next next' stack stack' r) where
  stepped : Stepped map rows rows' t (pixel_of t) given
  stepped = rw (← p) S

  leaves : given.leaving ≡ leaving_at map t
  unfolding leaving_at
  leaves = elim (dec_le 2 t) [
    | yes k ↦ what_leaves_is_corrected W.ran stepped k ∙ sym (pick_false _ _ (le-ltb t 2 k))
    | no k ↦ S.leaves ∙ pick_true _ _ (lt-ltb t 2 (omega arith)) ∙ sym (pick_true _ _ (lt-ltb t 2 (omega arith)))
  ]

  atoms_are : atoms ≡ atoms_of map t
  unfolding atoms_of
  atoms_are = a ∙ rw (p, leaves) refl

  answer_is : r ≡ tick ws cur (atoms_of map t) 64 64
  answer_is = A.answer ∙ rw (atoms_are, W.next_long, W.stack_long) refl

  registers_are : cur' ≡ next_after r ws cur (atoms_of map t) cur
  registers_are = A.cur_holds ∙ A.next_holds ∙ rw (atoms_are, W.same) refl

  this_tick : verdict_on map ws ≡ said r t (watched_from (atoms_of map) ws (360962 - (t + 1)) (t + 1) cur')
  this_tick =
      let e : 360962 - t ≡ suc (360962 - (t + 1)) = omega arith in
      W.rest ∙ one_tick (atoms_of map) ws t cur e ∙ rw (← answer_is, ← registers_are) refl

  pub refused_there : {refusal : TickRefusal} → r ≡ Err refusal → Refused ≡ verdict_on map ws
  unfolding said
  refused_there e = sym (this_tick ∙ rw e refl)

  pub alarm_there : {bit : ℕ} → r ≡ Ok bit → bit ≡ 1 → Alarm t ≡ verdict_on map ws
  unfolding said
  alarm_there {bit} e q = sym (this_tick ∙ rw e (pick_true _ _ (eq-eqb bit 1 q)))

  pub watching_on : {bit : ℕ} → r ≡ Ok bit → (bit ≡ 1 → ⊥) → Watching map ws rows' cur' next' stack' given.reached (t + 1)
  unfolding said
  watching_on {bit} e n =
      let now_ran : Ran map picture (t + 1) rows' = ticked W.ran stepped in
      let long : length next' ≡ 64 = next_stays_long A ∙ W.next_long in
      record {
        rows_long = rows_stay_two now_ran;
        cur_long = rw A.cur_holds long;
        next_long = long;
        stack_long = rw A.stack_holds (length_stack r stack) ∙ W.stack_long;
        reaches = S.reaches;
        ran = now_ran;
        same = sym A.cur_holds;
        rest = this_tick ∙ rw e (pick_false _ _ (ne_eqb bit 1 n));
      }

pub quiet_there : {map ws rows cur next stack : List ℕ} {reached t : ℕ} → Watching map ws rows cur next stack reached t → 360962 ≤ t → Quiet ≡ verdict_on map ws
quiet_there {map} {ws} {cur = cur} {t = t} W h = sym (W.rest ∙ no_tick (atoms_of map) ws t cur (omega arith))

-- The assertion's listing stands in front of the 256 words that it was put into.
module _ (number work : ℕ) {o out : List ℕ} {words : ℕ} (w : Wrote o out 0 words (listed (tree_of number) work (length o))) (long : length o ≡ 256) where
  pub listing_inside : words ≤ length out
  listing_inside = omega (arith, w.ends, still_long w, long, listed_fits (tree_of number) work (length o))

  pub listing_as_long : words ≡ length (take words out)
  listing_as_long = sym (length-take-le words out listing_inside)

  pub assertion_watched : (map : List ℕ) {verdict : Verdict} → work ≡ 1024 → verdict ≡ verdict_on map (take words out) → verdict ≡ verdict_of map number
  unfolding verdict_of
  assertion_watched map k e =
      e ∙ rw (front_written w (listed_fits (tree_of number) work (length o)), k, long) refl
