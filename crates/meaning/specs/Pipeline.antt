-- One alternative as a shift register (`synth_seq_pipeline` and `seq_delay_reg` of the source).
-- Example: [a, b after 2] stores a into r0 and r0 into r1, and matches where `r1 & b` is 1.
use Rattle.std.specs.Prelude.{List, [], ◌∷◌, ℕ, zero, suc}
use Rattle.meaning.specs.Tree.{below}
use Rattle.meaning.specs.Expression.{Expr, r·, zero·, one·, and·, or·, seq, arm, store, Synth, synth, also, chained}
use Rattle.meaning.specs.Alternative.{Guard, unguarded, guard}
use Rattle.meaning.specs.Machines.{bb, goto_fsm, nonconsec_fsm, consec_run_fsm}
use Rattle.meaning.specs.declared.SeqTerm.{SeqTerm}
use Rattle.meaning.specs.declared.SeqTerm.TheVariants.{Bool as BoolTerm, Goto, Nonconsec, ConsecAtLeast, Empty}
use Rattle.meaning.specs.declared.SeqHop.{SeqHop}
use Rattle.meaning.specs.declared.SeqHop.TheVariants.{Fixed, AtLeast}
use Rattle.meaning.specs.declared.SeqStep.{SeqStep}

-- The source's closure `guard_and`.
abbrev pub guard_and : Guard → Expr → Expr
guard_and unguarded e = e
guard_and (guard x) e = and· e x

-- d times `seq_delay_reg`, with the guard ANDed after each register.
abbrev pub delays : Guard → ℕ → ℕ → Expr → Synth
delays g zero n e = synth [] e
delays g (suc d) n e = also (store seq e) (delays g d (suc n) (guard_and g (r· n)))

-- The latch of an "at least" hop: it holds from the tick after e was 1 on. "With m of 1 or more the new value is the latch alone."
abbrev pub latch : ℕ → Expr → Synth
latch n e = synth (store arm (or· (r· n) e) ∷ []) (r· n)

-- "with m of 0 it is the latch OR the value before it".
abbrev pub latch_or_now : ℕ → Expr → Synth
latch_or_now n e = synth (store arm (or· (r· n) e) ∷ []) (or· (r· n) e)

-- The source's `match hop`: "'At least m' is m - 1 delays, none for m of 0 or 1, and then a latch", which take no guard.
abbrev pub hop_over : Guard → SeqHop → ℕ → Expr → Synth
hop_over g (Fixed d) n e = delays g d n e
hop_over g (AtLeast zero) n e = latch_or_now n e
hop_over g (AtLeast (suc m)) n e = chained n (delays unguarded m n e) latch

-- The source's last `match term`: a later term on its activation. Empty never gets here (`unreachable!`).
abbrev pub apply_term : SeqTerm → ℕ → Expr → Synth
apply_term (BoolTerm a) n act = synth [] (and· act (bb a))
apply_term (Goto b k) n act = goto_fsm b k n act
apply_term (Nonconsec b k) n act = nonconsec_fsm b k n act
apply_term (ConsecAtLeast b k) n act = consec_run_fsm b k n act
apply_term Empty n act = synth [] zero·

-- The source's `seed`: the first term; a machine is activated at every tick. A leading Empty is refused with 12.
abbrev pub seed : SeqTerm → ℕ → Synth
seed (BoolTerm a) n = synth [] (bb a)
seed (Goto b k) n = goto_fsm b k n one·
seed (Nonconsec b k) n = nonconsec_fsm b k n one·
seed (ConsecAtLeast b k) n = consec_run_fsm b k n one·
seed Empty n = synth [] zero·

-- A later step: the hop, then the term. "Empty behind a fixed hop of d, d at least 1, makes d - 1 delays"; its other hops are refused with 12.
abbrev pub later : Guard → SeqTerm → SeqHop → ℕ → Expr → Synth
later g (BoolTerm a) h n e = chained n (hop_over g h n e) (apply_term (BoolTerm a))
later g (Goto b k) h n e = chained n (hop_over g h n e) (apply_term (Goto b k))
later g (Nonconsec b k) h n e = chained n (hop_over g h n e) (apply_term (Nonconsec b k))
later g (ConsecAtLeast b k) h n e = chained n (hop_over g h n e) (apply_term (ConsecAtLeast b k))
later g Empty (Fixed d) n e = delays g (below d) n e
later g Empty (AtLeast m) n e = synth [] e

abbrev pub laters : Guard → List SeqStep → ℕ → Expr → Synth
laters g [] n e = synth [] e
laters g (s ∷ ss) n e = chained n (later g s.term s.hop n e) (laters g ss)

-- `synth_seq_pipeline`. "ANDed to the seed and to the value behind each delay register of a fixed hop."
abbrev pub synth_seq_pipeline : Guard → List SeqStep → ℕ → Synth
synth_seq_pipeline g [] n = synth [] zero·
synth_seq_pipeline g (s ∷ ss) n =
    let o = seed s.term n in chained n (synth o.stores (guard_and g o.cur)) (laters g ss)
