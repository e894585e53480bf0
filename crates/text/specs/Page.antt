-- What becomes of an answer's text on a page that is lent: it stands there in front, or the page is as it was.
-- Example: the text of `a ##1 b`, of eight words, asks for a listing of eight words and a page of 384 bytes.
use Rattle.std.specs.Prelude.{Bool, false, ◌≡◌, List, ℕ, ◌+◌, ◌*◌, leb, length, Option, Some, None, Result}
use Rattle.words.specs.Choice.{pick}
use Rattle.words.specs.Written.{written}
use Rattle.meaning.specs.declared.Listing.{Listing}
use Rattle.meaning.specs.declared.refusal.Refusal.{Refusal}
use Rattle.text.specs.Text.{words_listed, answer_text}

-- The words that an answer counts stand in a listing of such a length, and a page of such a length has 128 bytes and 32 a word:
-- more than any text of so many words takes.
unfoldable pub has_room : ℕ → ℕ → ℕ → Bool
has_room words listed page = pick (leb words listed) (leb (128 + 32 * words) page) false

unfoldable pub room_for : Result Listing Refusal → List ℕ → List ℕ → Bool
room_for answer listing page = has_room (words_listed answer) (length listing) (length page)

-- How many bytes the text has, or that there is no room for it.
unfoldable pub printed : Result Listing Refusal → List ℕ → List ℕ → Option ℕ
printed answer listing page = pick (room_for answer listing page) (Some (length (answer_text answer listing))) None

-- The page afterwards: the text from its front on, or what it held.
unfoldable pub page_after : Result Listing Refusal → List ℕ → List ℕ → List ℕ
page_after answer listing page = pick (room_for answer listing page) (written page 0 (answer_text answer listing)) page

-- What `text` promises.
pub record Prints (answer : Result Listing Refusal) (listing page : List ℕ) (r : Option ℕ) (page' : List ℕ) : Type 0 where
  pub answers : r ≡ printed answer listing page
  pub holds : page' ≡ page_after answer listing page
