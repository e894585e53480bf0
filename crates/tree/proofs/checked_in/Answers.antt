-- The three searches, one after the other, are the table's checks.
use Rattle.std.proofs.Common.{rules}
use Rattle.std.proofs.lemmas.Result.{err_from_is_err_and}
use Rattle.meaning.specs.declared.refusal.Refusal.TheVariants.{Malformed, NotUsedOnce, OutOfOrder}
use Rattle.tree.proofs.Checks.{formed_at, in_range_at, once_in, unformed_refused, operands_within, misused_refused, ranges_left}
use Rattle.tree.proofs.checked_in.Goals as goal

pub returns-in_err-lowest_failing : goal.returns-in_err-lowest_failing
returns-in_err-lowest_failing c =
    let e = c.lowest_failing.ensures Malformed (formed_at c.args.t.now) (λ n a h p. search rules) (λ n a h p. search rules) in
    let p = err_from_is_err_and c.from_residual.result c.from_residual.ensures.1 in rw (p.1, p.2) (unformed_refused c.requires e c.in_err-lowest_failing.was)

pub count_uses-requires : goal.count_uses-requires
count_uses-requires c =
    let e = c.lowest_failing.ensures Malformed (formed_at c.args.t.now) (λ n a h p. search rules) (λ n a h p. search rules) in
    operands_within c.requires e c.in_ok-lowest_failing.was

pub returns-in_err-lowest_failing-2 : goal.returns-in_err-lowest_failing-2
returns-in_err-lowest_failing-2 c =
    let e = c.lowest_failing.ensures Malformed (formed_at c.args.t.now) (λ n a h p. search rules) (λ n a h p. search rules) in
    let e₂ = c.lowest_failing-2.ensures NotUsedOnce (once_in c.count_uses.new.used) (λ n a h p. search rules) (λ n a h p. search rules) in
    let p = err_from_is_err_and c.from_residual-in_err-lowest_failing-2.result c.from_residual-in_err-lowest_failing-2.ensures.1 in rw (p.1, p.2) (misused_refused c.requires e c.in_ok-lowest_failing.was c.count_uses.ensures e₂ c.in_err-lowest_failing-2.was)

pub returns : goal.returns
returns c =
    let e = c.lowest_failing.ensures Malformed (formed_at c.args.t.now) (λ n a h p. search rules) (λ n a h p. search rules) in
    let e₂ = c.lowest_failing-2.ensures NotUsedOnce (once_in c.count_uses.new.used) (λ n a h p. search rules) (λ n a h p. search rules) in
    let e₃ = c.lowest_failing-3.ensures OutOfOrder (in_range_at c.args.t.now) (λ n a h p. search rules) (λ n a h p. search rules) in
    ranges_left c.requires e c.in_ok-lowest_failing.was c.count_uses.ensures e₂ c.in_ok-lowest_failing-2.was e₃
