-- The exit status of an answer.
use Rattle.std.specs.Prelude.{Result, Ok, Err, ℕ}
use Rattle.meaning.specs.declared.Listing.{Listing}
use Rattle.meaning.specs.declared.refusal.Refusal.{Refusal}

-- 0 with a listing, 1 with a refusal.
unfoldable pub status_of : Result Listing Refusal → ℕ
status_of (Ok listing) = 0
status_of (Err refusal) = 1
