-- The tables of a node and of all below it are filled, the operands' first: each call fills one table more, and none that was right is lost.
use mathlib.Core.Path.{◌∙◌}
use mathlib.Core.List.{List}
use Prim.Native.Nat.{ℕ}
use native.Mathlib.Omega.{arith}
use native.Mathlib.Decide.{ℕ_discrete}
use Rattle.matches.specs.Tables.{TableFilled, Filled}
use Rattle.matches.proofs.TablesApart.{apart}

module _ {tree rows : List ℕ} {width side : ℕ} where
  -- To fill one table spoils none that is right.
  pub filled_alone : {before after : List ℕ} {n : ℕ} → TableFilled tree rows width side before after n → Filled tree rows width side before after n
  filled_alone {n = n} t = record {
    long = t.replaced.long;
    right = t.right;
    stays = λ k r. elim (ℕ_discrete k n) [ yes e ↦ rw e t.right | no other ↦ apart k t.replaced (omega arith) other r ];
  }

  -- One filling after another spoils no table that is right.
  filled_then : {before mid after : List ℕ} {k n : ℕ} → Filled tree rows width side before mid k → Filled tree rows width side mid after n
      → Filled tree rows width side before after n
  filled_then x y = record { long = y.long ∙ x.long; right = y.right; stays = λ k r. y.stays k (x.stays k r) }

  -- A table is filled after that of one operand.
  pub filled_after : {before mid after : List ℕ} {k n : ℕ} → Filled tree rows width side before mid k
      → TableFilled tree rows width side mid after n → Filled tree rows width side before after n
  filled_after x t = filled_then x (filled_alone t)

  -- A table is filled after those of two operands.
  pub filled_after_two : {before mid later after : List ℕ} {k l n : ℕ} → Filled tree rows width side before mid k
      → Filled tree rows width side mid later l → TableFilled tree rows width side later after n → Filled tree rows width side before after n
  filled_after_two x y t = filled_then x (filled_after y t)
