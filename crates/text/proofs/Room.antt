-- What a caller learns of a page: a text that is said to be printed is written and ends inside the page, and where there is room it is printed.
use Rattle.std.proofs.Common.{◌≡◌, List, ℕ, ◌+◌, ◌*◌, ◌≤◌, arith, length, Option, Some, None, Result}
use Rattle.words.specs.Written.{Wrote}
use Rattle.words.proofs.Laws.{still_long}
use Rattle.meaning.specs.declared.Listing.{Listing}
use Rattle.meaning.specs.declared.refusal.Refusal.{Refusal}
use Rattle.text.specs.Text.{words_listed, answer_text}
use Rattle.text.specs.Page.{has_room, room_for, printed, page_after, Prints}
use Rattle.text.proofs.Laws.{choices}
use Rattle.text.proofs.ListingLines.{answer_few}

module _ {answer : Result Listing Refusal} {listing page : List ℕ} {r : Option ℕ} {page' : List ℕ} (p : Prints answer listing page r page') where
  pub printed_is_written : {end : ℕ} → r ≡ Some end → Wrote page page' 0 end (answer_text answer listing)
  unfolding printed page_after
  printed_is_written e = record { holds = grind (arith, choices); ends = grind (arith, choices) }

  pub printed_ends_inside : {end : ℕ} → r ≡ Some end → end ≤ length page'
  unfolding printed room_for has_room
  printed_ends_inside e =
      let w = printed_is_written e in
      let long = still_long w in
      grind (arith, choices, answer_few)

  pub room_is_used : words_listed answer ≤ length listing → 128 + 32 * words_listed answer ≤ length page → r ≡ None → ⊥
  unfolding printed room_for has_room
  room_is_used stand long e = grind (arith, choices)
