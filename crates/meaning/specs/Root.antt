-- The choice at the root (`synth_seq_match`, `synth_within` and `window_len` of the source).
-- Example: `a[*1:2]` is `any a0` or `any (r0 & a)`; a lone `a` stays bare.
use Rattle.std.specs.Prelude.{List, [], ◌∷◌, ◌++◌, ℕ, zero, suc, ◌+◌, ◌-◌, leb, length}
use Rattle.words.specs.Choice.{pick}
use Rattle.meaning.specs.Tree.{Seq, Rooted, a_within, another, rooted}
use Rattle.meaning.specs.Expression.{Expr, a·, r·, zero·, any, and·, or·, seq, Store, store, Synth, synth, also, chained}
use Rattle.meaning.specs.Alternative.{Guard, unguarded, guard, SeqAlt, step, expand}
use Rattle.meaning.specs.Pipeline.{synth_seq_pipeline}
use Rattle.meaning.specs.declared.SeqTerm.{SeqTerm}
use Rattle.meaning.specs.declared.SeqTerm.TheVariants.{Bool as BoolTerm, Goto, Nonconsec, ConsecAtLeast, Empty}
use Rattle.meaning.specs.declared.SeqHop.{SeqHop}
use Rattle.meaning.specs.declared.SeqHop.TheVariants.{Fixed, AtLeast}
use Rattle.meaning.specs.declared.SeqStep.{SeqStep}

-- The assignments of several alternatives, and the signal of each.
pub record Signals : Type 0 where
  pub stores : List Store
  pub curs : List Expr

abbrev pub signals : List Store → List Expr → Signals
signals ss es = record { stores = ss; curs = es }

-- "a lone unguarded Bool stays the bare atom"
abbrev pub lone_or_pipeline : Guard → List SeqStep → ℕ → Synth
lone_or_pipeline unguarded [] n = synth_seq_pipeline unguarded [] n
lone_or_pipeline unguarded (s ∷ []) n = lone s.term
  where
    lone : SeqTerm → Synth
    lone (BoolTerm a) = synth [] (a· a)
    lone (Goto b k) = synth_seq_pipeline unguarded (step (Goto b k) (Fixed zero) ∷ []) n
    lone (Nonconsec b k) = synth_seq_pipeline unguarded (step (Nonconsec b k) (Fixed zero) ∷ []) n
    lone (ConsecAtLeast b k) = synth_seq_pipeline unguarded (step (ConsecAtLeast b k) (Fixed zero) ∷ []) n
    lone Empty = synth_seq_pipeline unguarded (step Empty (Fixed zero) ∷ []) n
lone_or_pipeline unguarded (s ∷ r ∷ ss) n = synth_seq_pipeline unguarded (s ∷ r ∷ ss) n
lone_or_pipeline (guard x) ss n = synth_seq_pipeline (guard x) ss n

-- One alternative after the other, each with registers of its own.
abbrev pub match_sigs : List SeqAlt → ℕ → Signals
match_sigs [] n = signals [] []
match_sigs (y ∷ ys) n =
    let o = lone_or_pipeline y.guard y.steps n in
    let p = match_sigs ys (n + length o.stores) in
    signals (o.stores ++ p.stores) (o.cur ∷ p.curs)

-- "Of two or more, each is reduced by OR, and they are joined by OR from the left"
abbrev pub or_reduced : Expr → List Expr → Expr
or_reduced acc [] = acc
or_reduced acc (e ∷ es) = or_reduced (or· acc (any e)) es

abbrev pub any_of : List Expr → Expr
any_of [] = zero·
any_of (e ∷ []) = e
any_of (e ∷ f ∷ es) = or_reduced (any e) (f ∷ es)

-- The choice over the alternatives of a root that is no within.
abbrev pub choice : List SeqAlt → ℕ → Synth
choice alts n = let p = match_sigs alts n in synth p.stores (any_of p.curs)

-- `window_len`: the ticks of an alternative of Bool terms and fixed hops, "summed exactly".
abbrev pub hop_length : SeqHop → ℕ
hop_length (Fixed d) = d
hop_length (AtLeast m) = zero

abbrev pub hop_sum : List SeqStep → ℕ
hop_sum [] = zero
hop_sum (s ∷ ss) = hop_length s.hop + hop_sum ss

abbrev pub window_len : List SeqStep → ℕ
window_len [] = suc zero
window_len (s ∷ ss) = suc (hop_sum ss)

-- "l - k1 further delays", each ORed in.
abbrev pub slide : ℕ → ℕ → Expr → Expr → Synth
slide n zero acc cur = synth [] acc
slide n (suc d) acc cur = also (store seq cur) (slide (suc n) d (or· acc (r· n)) (r· n))

-- One pair: match_2 & (match_1 at one of the last l - k1 + 1 ticks). Seq1's pipeline is built anew for each pair.
abbrev pub fitting_pair : ℕ → Expr → List SeqStep → ℕ → Synth
fitting_pair l match_2 s₁ n =
    let o = chained n (synth_seq_pipeline unguarded s₁ n) (λ n' match-1. slide n' (l - window_len s₁) match-1 match-1) in
    synth o.stores (and· match_2 o.cur)

-- "Each alternative of seq1 whose window k1 is not above l"
abbrev pub pairs : ℕ → Expr → List SeqAlt → ℕ → Signals
pairs l match_2 [] n = signals [] []
pairs l match_2 (y ∷ ys) n =
    let skipped = pairs l match_2 ys n in
    let o = fitting_pair l match_2 y.steps n in
    let rest = pairs l match_2 ys (n + length o.stores) in
    pick (leb (window_len y.steps) l) (signals (o.stores ++ rest.stores) (o.cur ∷ rest.curs)) skipped

-- "goes through the alternatives of seq2."; its registers exist even where no pair fits.
abbrev pub all_pairs : List SeqAlt → List SeqAlt → ℕ → Signals
all_pairs s₁ [] n = signals [] []
all_pairs s₁ (y ∷ ys) n =
    let o = synth_seq_pipeline unguarded y.steps n in
    let p = pairs (window_len y.steps) o.cur s₁ (n + length o.stores) in
    let q = all_pairs s₁ ys (n + length o.stores + length p.stores) in
    signals (o.stores ++ (p.stores ++ q.stores)) (p.curs ++ q.curs)

-- The pairs are ORed as they are; "without a pair that fits the match is 0".
abbrev pub or_all : Expr → List Expr → Expr
or_all acc [] = acc
or_all acc (e ∷ es) = or_all (or· acc e) es

abbrev pub one_of : List Expr → Expr
one_of [] = zero·
one_of (e ∷ es) = or_all e es

-- `synth_within`.
abbrev pub synth_within : List SeqAlt → List SeqAlt → ℕ → Synth
synth_within s₁ s₂ n = let p = all_pairs s₁ s₂ n in synth p.stores (one_of p.curs)

-- `synth_seq_match` after resolution, from register n on.
abbrev pub synth_rooted : Rooted → ℕ → Synth
synth_rooted (a_within k x y) n = synth_within (expand x) (expand y) n
synth_rooted (another s) n = choice (expand s) n

abbrev pub synth_seq_match : Seq → ℕ → Synth
synth_seq_match s n = synth_rooted (rooted s) n
