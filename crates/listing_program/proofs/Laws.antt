-- What an answer, or its lost output, ends the program with.
use Rattle.std.proofs.Common.{Result, Ok, Err, ◌≡◌, ◌⊎◌, inl, inr, ℕ, ◌≤◌, arith}
use Rattle.meaning.specs.declared.Listing.{Listing}
use Rattle.meaning.specs.declared.refusal.Refusal.{Refusal}
use Rattle.listing_program.specs.Status.{status_of}

-- The status is 0 or 1, and 2 where the output is lost.
pub ends_within : (answer : Result Listing Refusal) {status r : ℕ} → status ≡ status_of answer → (r ≡ status) ⊎ (r ≡ 2) → r ≤ 2
unfolding status_of
ends_within (Ok listing) e (inl own) = omega (arith, e, own)
ends_within (Err refusal) e (inl own) = omega (arith, e, own)
ends_within answer e (inr lost) = omega (arith, lost)
