-- How many bytes a call may say that it moved.
use Rattle.std.specs.Prelude.{IfOk, Result, ℕ, ◌≤◌}
use Rattle.std.specs.declared.io.Error.{Error}

-- No more than there are.
abbrev pub Within : Result ℕ Error → ℕ → Type 0
Within moved most = IfOk moved (λ count. count ≤ most)
