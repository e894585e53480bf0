-- Assignments of a listing: what the searching loops know at each place, and what the reader's walk from assignment to
-- assignment finds. The laws of a loop stand as the code meets them. They assume nothing.
use mathlib.Core.Path.{◌≡◌, refl, sym, ap, subst, ◌∙◌}
use mathlib.Core.Bool.{Bool, true, false, not, cond}
use mathlib.Core.List.{List, [], ◌∷◌, ◌++◌, append_assoc}
use Prim.Native.Nat.{ℕ, suc, ◌+◌, ◌-◌, ◌<◌, ◌≤◌, max}
use native.Mathlib.Decide.{dec_le}
use native.Mathlib.Omega.{arith}
use lib.Dec.{T, eqb, ltb}
use lib.ListN.{length, get_or, take, drop, length-take, length-drop, drop_of_length-le}
use lib.Seq.{drop-drop, get_or-drop, take_all}
use borrow.Author.Tests.{lt-ltb, ltb-true, ltb-false}
use Rattle.words.specs.Choice.{pick, pick_true, pick_false, pick_case}
use Rattle.words.proofs.Taken.{second_holds}
use Rattle.meaning.specs.Listing.{is_store, argument}
use Rattle.meaning.specs.Check.{stretch_from}
use Rattle.std.proofs.Common.{Option, Some, None, Bor}
use Rattle.std.specs.Option.{unwrap_or}
use Rattle.std.specs.Slice.{IsGetRangeResult}
use Rattle.std.specs.List.{position, position_or_len}
use Rattle.stretch.specs.Assignment.{assignment, drives, assignment_at, another_at}

-- A test does not come out both ways.
pub never : {A : Type 0} → true ≡ false → A
never e = absurd (subst T e tt)

-- What is known of words whose first store is looked for at the place k: it tells whether their assignment is of a register, and ends it.
record Sought (ws : List ℕ) (k : ℕ) : Type 0 where
  found : k < length ws → ((r : ℕ) → drives ws r ≡ eqb (argument (get_or ws k 0)) r) × (length (assignment ws) ≡ k + 1)
  missing : length ws ≤ k → ((r : ℕ) → drives ws r ≡ false) × (length (assignment ws) ≡ length ws)

-- A word more in front: it is a store, or the search goes on behind it.
sought_here : (w : ℕ) (ws : List ℕ) (k : ℕ) → Sought ws k → (b : Bool) → is_store w ≡ b → Sought (w ∷ ws) (cond (not b) (1 + k) 0)
unfolding drives assignment
sought_here w ws k g true e = record {
  found = λ _. ((λ (r : ℕ). pick_true _ _ e), rw (pick_true [] (assignment ws) e) refl);
  missing = λ h. absurd (omega arith);
}
sought_here w ws k g false e =
    let next : 1 + k ≡ suc k = omega arith in
    record {
      found = λ h.
          let f = g.found (omega arith) in ((λ (r : ℕ). pick_false _ _ e ∙ f.0 r ∙ rw next refl), rw (pick_false [] (assignment ws) e) (omega (arith, f.1)));
      missing = λ h. let f = g.missing (omega arith) in ((λ (r : ℕ). pick_false _ _ e ∙ f.0 r), rw (pick_false [] (assignment ws) e) (omega (arith, f.1)));
    }

sought : (ws : List ℕ) → Sought ws (position_or_len is_store ws)
unfolding drives assignment
sought [] = record { found = λ h. absurd (omega arith); missing = λ _. ((λ (r : ℕ). refl), refl) }
sought (w ∷ ws) = sought_here w ws (position_or_len is_store ws) (sought ws) (is_store w) refl

-- What a search by position gave.
position_there : (b : Bool) {p k : ℕ} → cond b (Some p) None ≡ Some k → (b ≡ true) × (p ≡ k)
position_there true e = (refl, (cc))
position_there false e = absurd (let z : ◌≡◌ {A = ℕ} 0 1 = cc in omega arith)

position_missing : (b : Bool) (p : ℕ) → cond b (Some p) None ≡ None → b ≡ false
position_missing true p e = absurd (let z : ◌≡◌ {A = ℕ} 0 1 = cc in omega arith)
position_missing false p e = refl

-- The first store from the place on stands there.
module _ {o : Option ℕ} {k : ℕ} (listing : List ℕ) (place : ℕ) (e : o ≡ position is_store (drop place listing)) (q : o ≡ Some k) where
  there : (ltb (position_or_len is_store (drop place listing)) (length (drop place listing)) ≡ true) × (position_or_len is_store (drop place listing) ≡ k)
  there = position_there _ (sym e ∙ q)

  inside : k < length (drop place listing)
  inside = omega (arith, ltb-true _ _ there.0, there.1)

  known : ((r : ℕ) → drives (drop place listing) r ≡ eqb (argument (get_or (drop place listing) k 0)) r) × (length (assignment (drop place listing)) ≡ k + 1)
  known = (rw there.1 at (sought (drop place listing))).found inside

  -- Its word lies within the listing.
  pub store_inside : place + k < length listing
  store_inside = omega (arith, inside, length-drop place listing)

  -- It answers `another_at`.
  pub another_found : (r : ℕ) → not (eqb (argument (get_or listing (place + k) 0)) r) ≡ another_at listing place r
  unfolding another_at pick
  another_found r =
      rw (known.0 r, get_or-drop place listing k 0, lt-ltb place (length listing) (omega (arith, store_inside))) (not_is_choice (eqb (argument (get_or listing (place + k) 0)) r))
    where
      not_is_choice : (b : Bool) → not b ≡ pick b false true
      not_is_choice true = refl
      not_is_choice false = refl

  -- Behind it the assignment is over.
  pub assignment_stops : place + k + 1 ≡ place + length (assignment_at listing place)
  unfolding assignment_at
  assignment_stops = omega (arith, known.1)

-- No store stands from the place on.
module _ {o : Option ℕ} (listing : List ℕ) (place : ℕ) (e : o ≡ position is_store (drop place listing)) (q : o ≡ None) where
  past : length (drop place listing) ≤ position_or_len is_store (drop place listing)
  past = ltb-false _ _ (position_missing _ _ (sym e ∙ q))

  -- Only whether a word stands there is left.
  pub another_unfound : (r : ℕ) → ltb place (length listing) ≡ another_at listing place r
  unfolding another_at
  another_unfound r = sym (pick_false _ _ (((sought (drop place listing)).missing past).0 r))

  -- The assignment runs to the listing's end.
  pub assignment_runs_out : {end : ℕ} → end ≡ max place (length listing) → end ≡ place + length (assignment_at listing place)
  unfolding assignment_at
  assignment_runs_out m = omega (arith, ((sought (drop place listing)).missing past).1, length-drop place listing)

-- An assignment is the front of the words that it is taken from.
assignment_is_front : (ws : List ℕ) → take (length (assignment ws)) ws ≡ assignment ws
unfolding assignment
assignment_is_front [] = refl
assignment_is_front (w ∷ ws) =
    ap (λ (xs : List ℕ). w ∷ xs) (pick_case (λ (xs : List ℕ). take (length xs) ws ≡ xs) (is_store w) (λ _. refl) (λ _. assignment_is_front ws))

-- An assignment has no more words than it is taken from.
assignment_is_no_longer : (ws : List ℕ) → length (assignment ws) ≤ length ws
assignment_is_no_longer ws = omega (arith, ap length (assignment_is_front ws), length-take (length (assignment ws)) ws)

-- The part from the place on, where the place lies in the listing, is what stands there.
pub part_is_rest : (listing : List ℕ) (place : ℕ) (part : Bor (List ℕ)) → IsGetRangeResult listing place (length listing) (Some part) → part.now ≡ drop place listing
part_is_rest listing place part h = h.0.2 ∙ take_all _ (drop place listing) (omega (arith, length-drop place listing))

-- The part up to the end is the assignment; there is no such part where the place is past the listing's own end, and no word stands.
pub part_is_assignment : (listing : List ℕ) (place : ℕ) {end : ℕ} (part : Option (Bor (List ℕ))) (none : Bor (List ℕ)) → end ≡ place + length (assignment_at listing place)
    → IsGetRangeResult listing place end part → none.now ≡ [] → (unwrap_or part none).now ≡ assignment_at listing place
unfolding assignment_at assignment
part_is_assignment listing place {end} (Some part) none e h z =
    let k : end - place ≡ length (assignment (drop place listing)) = omega arith in
    h.0.2 ∙ rw k (assignment_is_front (drop place listing))
part_is_assignment listing place {end} None none e h z =
    elim (dec_le (length listing) place) [
      | yes m ↦ rw (z, drop_of_length-le listing m) refl
      | no m ↦ absurd (let inside : end ≤ length listing = omega (arith, assignment_is_no_longer (drop place listing), length-drop place listing) in never (sym (h.1 (omega arith, inside))))
    ]

-- `driven` and `not_driven`, below, by what the first word is: a store or not, and of r or not.
driven_by : (w : ℕ) (since fresh behind : List ℕ) {more : List ℕ} {later : Bool} (store same : Bool)
    → (later ≡ true → more ≡ (since ++ (w ∷ [])) ++ behind) → pick store same later ≡ true
    → pick store (pick same (since ++ (w ∷ [])) fresh) more ≡ since ++ (w ∷ pick store [] behind)
unfolding pick
driven_by w since fresh behind true true f e = refl
driven_by w since fresh behind true false f e = never (sym e)
driven_by w since fresh behind false same f e = f e ∙ append_assoc since (w ∷ []) behind

not_driven_by : (here behind ws : List ℕ) {more : List ℕ} {later : Bool} (store same : Bool) (r : ℕ)
    → (later ≡ false → more ≡ stretch_from [] (drop (length behind) ws) r) → pick store same later ≡ false
    → pick store (pick same here (stretch_from [] ws r)) more ≡ stretch_from [] (drop (length (pick store [] behind)) ws) r
unfolding pick
not_driven_by here behind ws true true r f e = never e
not_driven_by here behind ws true false r f e = refl
not_driven_by here behind ws false same r f e = f e

-- An assignment of r is its stretch.
driven : (ws since : List ℕ) (r : ℕ) → drives ws r ≡ true → stretch_from since ws r ≡ since ++ assignment ws
unfolding drives assignment stretch_from
driven [] since r e = never (sym e)
driven (w ∷ ws) since r e = driven_by w since _ (assignment ws) (is_store w) (eqb (argument w) r) (driven ws (since ++ (w ∷ [])) r) e

-- Behind an assignment that is not of r the search goes on, with nothing in hand.
not_driven : (ws since : List ℕ) (r : ℕ) → drives ws r ≡ false → stretch_from since ws r ≡ stretch_from [] (drop (length (assignment ws)) ws) r
unfolding drives assignment stretch_from
not_driven [] since r e = refl
not_driven (w ∷ ws) since r e = not_driven_by (since ++ (w ∷ [])) (assignment ws) ws (is_store w) (eqb (argument w) r) r (not_driven ws (since ++ (w ∷ [])) r) e

-- Where a word stands, the assignment has one.
assignment_is_some : (ws : List ℕ) → 0 < length ws → 0 < length (assignment ws)
unfolding assignment
assignment_is_some [] h = h
assignment_is_some (w ∷ ws) h = omega arith

-- The reader's test, as `another_at` chooses, fails if the assignment is of r, or no word is here.
pub test_fails : {A : Type 0} (of_r here : Bool) → pick of_r false here ≡ false → (of_r ≡ true → A) → (here ≡ false → A) → A
unfolding pick
test_fails true here e f g = f refl
test_fails false here e f g = g e

-- The reader's walk at the position at: what it passed holds no assignment of r.
pub record Walking (listing : List ℕ) (r at : ℕ) : Type 0 where
  pub inside : at ≤ length listing
  pub rest : stretch_from [] listing r ≡ stretch_from [] (drop at listing) r

-- Nothing is passed yet.
pub walking_begins : (listing : List ℕ) (r : ℕ) → Walking listing r 0
walking_begins listing r = record { inside = omega arith; rest = refl }

module _ {listing : List ℕ} {r at : ℕ} (g : Walking listing r at) where
  module _ (e : another_at listing at r ≡ true) where
    -- Where the test holds, the assignment is passed.
    pub passed : (drives (drop at listing) r ≡ false) × (at < length listing)
    unfolding another_at
    passed = let t = second_holds (drives (drop at listing) r) e in (t.0, ltb-true _ _ t.1)

    -- The walk goes on behind the assignment.
    pub walking_on : Walking listing r (at + length (assignment_at listing at))
    unfolding assignment_at
    walking_on = record {
      inside = omega (arith, g.inside, assignment_is_no_longer (drop at listing), length-drop at listing);
      rest = g.rest ∙ not_driven (drop at listing) [] r passed.0 ∙ ap (λ (ws : List ℕ). stretch_from [] ws r) (drop-drop (length (assignment (drop at listing))) at listing);
    }

    -- Behind the assignment the walk has fewer words left.
    pub walking_nearer : length listing - (at + length (assignment_at listing at)) < length listing - at
    unfolding assignment_at
    walking_nearer =
        let more : 0 < length (drop at listing) = rw (length-drop at listing) (omega (arith, passed.1)) in
        omega (arith, passed.1, assignment_is_some (drop at listing) more)

  -- Where the test fails, the assignment at the position is the stretch of r, or both are empty.
  pub walking_ends : another_at listing at r ≡ false → assignment_at listing at ≡ stretch_from [] listing r
  unfolding another_at assignment_at assignment stretch_from
  walking_ends e =
      test_fails (drives (drop at listing) r) (ltb at (length listing)) e
      (λ d. sym (g.rest ∙ driven (drop at listing) [] r d))
      (λ l. sym (g.rest ∙ rw (drop_of_length-le listing (ltb-false _ _ l)) refl))
