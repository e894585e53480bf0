-- Words whose stack can be counted: each operation is one of the fourteen and finds what it takes. Every described listing
-- is of this kind (proofs/Laws.antt, `described_operands_found`). Example: a0 not is, from height 0 on; not alone is not.
use Rattle.std.specs.Prelude.{List, [], ◌∷◌, ℕ, ◌≤◌}
use Rattle.meaning.specs.Listing.{operation, row_of, height}

-- One word that finds what it takes, at height h.
pub record OperandFound (h w : ℕ) : Type 0 where
  pub known : 1 ≤ operation w
  pub last : operation w ≤ 14
  pub found : (row_of (operation w)).takes ≤ h

-- Words that find what they take, from height h on.
unfoldable pub OperandsFound : ℕ → List ℕ → Type 0
OperandsFound h [] = Unit {0}
OperandsFound h (w ∷ ws) = OperandFound h w × OperandsFound (height h w) ws
