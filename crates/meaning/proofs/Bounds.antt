-- What a lowered tree uses: registers that it makes itself, and atoms of the tree, which are below 65,536. So each argument
-- fits its word, and tick's check finds every register below the count of stores.
-- Example: `a ##1 b` from register n on stores into n, and uses no register but n.
use mathlib.Core.List.{List, [], ◌∷◌, ◌++◌}
use Prim.Native.Nat.{ℕ, zero, suc, ◌+◌, ◌-◌, ◌≤◌, ◌<◌}
use native.Mathlib.Omega.{arith}
use lib.Dec.{leb}
use lib.ListN.{length, length-append}
use Rattle.words.specs.Choice.{pick_case}
use Rattle.meaning.specs.Tree.{finite, unbounded, Seq, atom, delay, consec, goto, nonconsec, throughout, within, operand, below}
use Rattle.meaning.specs.Lowerable.{Ranged}
use Rattle.meaning.specs.Expression.{Expr, a·, r·, one·, any, and·, or·, seq, arm, gto, ncx, crl, Store, store, Synth, synth, also, chained}
use Rattle.meaning.specs.Alternative.{Guard, unguarded, guard, and_opt, SeqAlt, step, single, rehop, join_rights, join_lefts, join_hops, hops, copies, copies_from, with_empty, over, consec_unbounded, guard_each, expand}
use Rattle.meaning.specs.Machines.{bb, nbb, goto_stages, goto_fsm, extension, nonconsec_fsm, run_stages}
use Rattle.meaning.specs.Pipeline.{guard_and, delays, latch, hop_over, apply_term, seed, later, laters, synth_seq_pipeline}
use Rattle.meaning.specs.Root.{Signals, signals, lone_or_pipeline, match_sigs, or_reduced, any_of, choice, window_len, slide, fitting_pair, pairs, all_pairs, or_all, one_of, synth_rooted, synth_seq_match}
use Rattle.meaning.specs.declared.SeqTerm.{SeqTerm}
use Rattle.meaning.specs.declared.SeqTerm.TheVariants.{Bool as BoolTerm, Goto, Nonconsec, ConsecAtLeast, Empty}
use Rattle.meaning.specs.declared.SeqHop.{SeqHop}
use Rattle.meaning.specs.declared.SeqHop.TheVariants.{Fixed, AtLeast}
use Rattle.meaning.specs.declared.SeqStep.{SeqStep}
use Rattle.meaning.proofs.Roots.{by_root}
use Rattle.meaning.proofs.Uses.{Each, each_append, Uses, StoreUses, SynthUses}

-- The atom of a term is below 65,536.
abbrev pub TermSmall : SeqTerm → Type 0
TermSmall (BoolTerm a) = a < 65536
TermSmall (Goto b k) = b < 65536
TermSmall (Nonconsec b k) = b < 65536
TermSmall (ConsecAtLeast b k) = b < 65536
TermSmall Empty = Unit {0}

-- The atom of a step's term is below 65,536.
abbrev pub StepSmall : SeqStep → Type 0
StepSmall s = TermSmall s.term

module _ (R : ℕ) where
  -- Registers below R and atoms below 65,536.
  abbrev pub Small : Expr → Type 0
  Small e = Uses R 65536 e

  -- A guard, and an alternative, with registers below R and atoms below 65,536.
  abbrev pub GuardSmall : Guard → Type 0
  GuardSmall unguarded = Unit {0}
  GuardSmall (guard x) = Small x

  abbrev pub AltSmall : SeqAlt → Type 0
  AltSmall y = GuardSmall y.guard × Each StepSmall y.steps

  -- With all its registers, from n on, below R, a part of the lowering uses no others.
  abbrev Bounded : ℕ → Synth → Type 0
  Bounded n o = n + length o.stores ≤ R → SynthUses R 65536 o

  -- With all their registers, from n on, below R, several alternatives use no others.
  abbrev SignalsBounded : ℕ → Signals → Type 0
  SignalsBounded n p = n + length p.stores ≤ R → Each (StoreUses R 65536) p.stores × Each Small p.curs

  -- A store in front: its expression may name register n itself.
  also_bounded : (n : ℕ) (s : Store) (o : Synth) → (n < R → Small s.from × Bounded (suc n) o) → Bounded n (also s o)
  also_bounded n s o p l =
      let (from, rest) = p (omega arith) in
      let (stores, cur) = rest (omega arith) in ((from, stores), cur)

  -- The room of two lists of stores is room for each.
  room_parts : (xs ys : List Store) (n : ℕ) → n + length (xs ++ ys) ≤ R → (n + length xs ≤ R) × (n + length xs + length ys ≤ R)
  room_parts xs ys n l = let e = length-append xs ys in (omega arith, omega arith)

  -- The one function, then the other on its expression.
  then_bounded : (n : ℕ) (o : Synth) (f : ℕ → Expr → Synth) → Bounded n o → ((m : ℕ) → Small o.cur → Bounded m (f m o.cur))
      → Bounded n (chained n o f)
  then_bounded n o f p q l =
      let m = n + length o.stores in
      let (room, room') = room_parts o.stores (f m o.cur).stores n l in
      let (stores, cur) = p room in
      let (stores', cur') = q m cur room' in (each_append (StoreUses R 65536) o.stores (f m o.cur).stores stores stores', cur')

  -- The three machines, over the Boolean b and a small activation.
  module _ (b : ℕ) (s : b < 65536) where
    goto_stages_bounded : (k n : ℕ) (avail : Expr) → Small avail → Bounded n (goto_stages b n k avail)
    goto_stages_bounded zero n avail p = λ l. (tt, (s, p))
    goto_stages_bounded (suc k) n avail p =
        also_bounded n (store gto (or· (and· (bb b) avail) (and· (nbb b) (r· n)))) (goto_stages b (suc n) k (r· n))
        (λ i. (((s, p), (s, i)), goto_stages_bounded k (suc n) (r· n) i))

    goto_bounded : (count n : ℕ) (act : Expr) → Small act → Bounded n (goto_fsm b count n act)
    goto_bounded count n act p =
        let avail = or· (r· n) act in
        also_bounded n (store gto (and· avail (nbb b))) (goto_stages b (suc n) (below count) avail)
        (λ i. (((i, p), s), goto_stages_bounded (below count) (suc n) avail (i, p)))

    extension_bounded : (n : ℕ) (match : Expr) → Small match → Bounded n (extension b n match)
    extension_bounded n match p =
        let cur = or· match (and· (r· n) (nbb b)) in
        also_bounded n (store ncx cur) (synth [] cur) (λ i. ((p, (i, s)), λ l. (tt, (p, (i, s)))))

    nonconsec_bounded : (count n : ℕ) (act : Expr) → Small act → Bounded n (nonconsec_fsm b count n act)
    nonconsec_bounded count n act p =
        let o = goto_fsm b count n act in
        then_bounded n o (extension b) (goto_bounded count n act p) (λ m q. extension_bounded m o.cur q)

    run_bounded : (k n : ℕ) (prior : Expr) → Small prior → Bounded n (run_stages b k n prior)
    run_bounded zero n prior p =
        let cur = and· (or· prior (r· n)) (bb b) in
        also_bounded n (store crl cur) (synth [] cur) (λ i. (((p, i), s), λ l. (tt, ((p, i), s))))
    run_bounded (suc k) n prior p =
        also_bounded n (store crl (and· prior (bb b))) (run_stages b k (suc n) (r· n)) (λ i. ((p, s), run_bounded k (suc n) (r· n) i))

  -- The pipeline: guards, delays and latches, terms, steps; small where what they are given is.
  guard_and_small : (g : Guard) (e : Expr) → GuardSmall g → Small e → Small (guard_and g e)
  guard_and_small unguarded e p q = q
  guard_and_small (guard x) e p q = (q, p)

  delays_bounded : (g : Guard) → GuardSmall g → (d n : ℕ) (e : Expr) → Small e → Bounded n (delays g d n e)
  delays_bounded g p zero n e q = λ l. (tt, q)
  delays_bounded g p (suc d) n e q =
      let cur = guard_and g (r· n) in
      also_bounded n (store seq e) (delays g d (suc n) cur) (λ i. (q, delays_bounded g p d (suc n) cur (guard_and_small g (r· n) p i)))

  hop_bounded : (g : Guard) → GuardSmall g → (h : SeqHop) (n : ℕ) (e : Expr) → Small e → Bounded n (hop_over g h n e)
  hop_bounded g p (Fixed d) n e q = delays_bounded g p d n e q
  hop_bounded g p (AtLeast zero) n e q = also_bounded n (store arm (or· (r· n) e)) (synth [] (or· (r· n) e)) (λ i. ((i, q), λ l. (tt, (i, q))))
  hop_bounded g p (AtLeast (suc m)) n e q =
      let o = delays unguarded m n e in
      then_bounded n o latch (delays_bounded unguarded tt m n e q)
      (λ n' q'. also_bounded n' (store arm (or· (r· n') o.cur)) (synth [] (r· n')) (λ i. ((i, q'), λ l. (tt, i))))

  apply_bounded : (x : SeqTerm) → TermSmall x → (n : ℕ) (act : Expr) → Small act → Bounded n (apply_term x n act)
  apply_bounded (BoolTerm a) s n act p = λ l. (tt, (p, s))
  apply_bounded (Goto b k) s n act p = goto_bounded b s k n act p
  apply_bounded (Nonconsec b k) s n act p = nonconsec_bounded b s k n act p
  apply_bounded (ConsecAtLeast b k) s n act p = run_bounded b s (below k) n act p
  apply_bounded Empty s n act p = λ l. (tt, tt)

  seed_bounded : (x : SeqTerm) → TermSmall x → (n : ℕ) → Bounded n (seed x n)
  seed_bounded (BoolTerm a) s n = λ l. (tt, s)
  seed_bounded (Goto b k) s n = goto_bounded b s k n one· tt
  seed_bounded (Nonconsec b k) s n = nonconsec_bounded b s k n one· tt
  seed_bounded (ConsecAtLeast b k) s n = run_bounded b s (below k) n one· tt
  seed_bounded Empty s n = λ l. (tt, tt)

  module _ (g : Guard) (p : GuardSmall g) where
    -- A later term that is not Empty.
    term_bounded : (x : SeqTerm) → TermSmall x → (h : SeqHop) (n : ℕ) (e : Expr) → Small e
        → Bounded n (chained n (hop_over g h n e) (apply_term x))
    term_bounded x s h n e q =
        let o = hop_over g h n e in
        then_bounded n o (apply_term x) (hop_bounded g p h n e q) (λ m q'. apply_bounded x s m o.cur q')

    later_bounded : (x : SeqTerm) → TermSmall x → (h : SeqHop) (n : ℕ) (e : Expr) → Small e → Bounded n (later g x h n e)
    later_bounded (BoolTerm a) s h n e q = term_bounded (BoolTerm a) s h n e q
    later_bounded (Goto b k) s h n e q = term_bounded (Goto b k) s h n e q
    later_bounded (Nonconsec b k) s h n e q = term_bounded (Nonconsec b k) s h n e q
    later_bounded (ConsecAtLeast b k) s h n e q = term_bounded (ConsecAtLeast b k) s h n e q
    later_bounded Empty s (Fixed d) n e q = delays_bounded g p (below d) n e q
    later_bounded Empty s (AtLeast m) n e q = λ l. (tt, q)

    laters_bounded : (ss : List SeqStep) → Each StepSmall ss → (n : ℕ) (e : Expr) → Small e → Bounded n (laters g ss n e)
    laters_bounded [] s n e q = λ l. (tt, q)
    laters_bounded (x ∷ ss) s n e q =
        let o = later g x.term x.hop n e in
        then_bounded n o (laters g ss) (later_bounded x.term s.0 x.hop n e q) (λ m q'. laters_bounded ss s.1 m o.cur q')

    pipeline_bounded : (ss : List SeqStep) → Each StepSmall ss → (n : ℕ) → Bounded n (synth_seq_pipeline g ss n)
    pipeline_bounded [] s n = λ l. (tt, tt)
    pipeline_bounded (x ∷ ss) s n =
        let o = seed x.term n in
        let cur = guard_and g o.cur in
        then_bounded n (synth o.stores cur) (laters g ss)
        (λ l. let (stores, q) = seed_bounded x.term s.0 n l in (stores, guard_and_small g o.cur p q))
        (λ m q. laters_bounded ss s.1 m cur q)

  -- The alternatives of a tree have its atoms: joined, copied and guarded ones too.
  abbrev pub AltsSmall : List SeqAlt → Type 0
  AltsSmall alts = Each AltSmall alts

  and_opt_small : (g h : Guard) → GuardSmall g → GuardSmall h → GuardSmall (and_opt g h)
  and_opt_small unguarded h p q = q
  and_opt_small (guard x) unguarded p q = p
  and_opt_small (guard x) (guard y) p q = (p, q)

  rehop_small : (h : SeqHop) (ss : List SeqStep) → Each StepSmall ss → Each StepSmall (rehop h ss)
  rehop_small h [] s = tt
  rehop_small h (x ∷ ss) s = s

  join_rights_small : (h : SeqHop) (l : SeqAlt) (rs : List SeqAlt) → AltSmall l → AltsSmall rs → AltsSmall (join_rights h l rs)
  join_rights_small h l [] p q = tt
  join_rights_small h l (r ∷ rs) p q = (
    (and_opt_small l.guard r.guard p.0 q.0.0, each_append StepSmall l.steps (rehop h r.steps) p.1 (rehop_small h r.steps q.0.1)),
    join_rights_small h l rs p q.1,
  )

  join_lefts_small : (h : SeqHop) (ls rs : List SeqAlt) → AltsSmall ls → AltsSmall rs → AltsSmall (join_lefts h ls rs)
  join_lefts_small h [] rs p q = tt
  join_lefts_small h (l ∷ ls) rs p q =
      each_append AltSmall (join_rights h l rs) (join_lefts h ls rs) (join_rights_small h l rs p.0 q) (join_lefts_small h ls rs p.1 q)

  join_hops_small : (hs : List SeqHop) (ls rs : List SeqAlt) → AltsSmall ls → AltsSmall rs → AltsSmall (join_hops hs ls rs)
  join_hops_small [] ls rs p q = tt
  join_hops_small (h ∷ hs) ls rs p q =
      each_append AltSmall (join_lefts h ls rs) (join_hops hs ls rs) (join_lefts_small h ls rs p q) (join_hops_small hs ls rs p q)

  copies_small : (base : List SeqAlt) → AltsSmall base → (k : ℕ) → AltsSmall (copies base k)
  copies_small base p zero = p
  copies_small base p (suc k) = join_lefts_small (Fixed 1) (copies base k) base (copies_small base p k) p

  copies_from_small : (base : List SeqAlt) → AltsSmall base → (k count : ℕ) → AltsSmall (copies_from base k count)
  copies_from_small base p k zero = tt
  copies_from_small base p k (suc count) =
      each_append AltSmall (copies base k) (copies_from base (suc k) count) (copies_small base p k) (copies_from_small base p (suc k) count)

  with_empty_small : (m : ℕ) (alts : List SeqAlt) → AltsSmall alts → AltsSmall (with_empty m alts)
  with_empty_small zero alts p = ((tt, (tt, tt)), p)
  with_empty_small (suc m) alts p = p

  single_small : (x : SeqTerm) → TermSmall x → AltsSmall (single x ∷ [])
  single_small x s = ((tt, (s, tt)), tt)

  guard_each_small : (c : ℕ) → c < 65536 → (alts : List SeqAlt) → AltsSmall alts → AltsSmall (guard_each c alts)
  guard_each_small c s [] p = tt
  guard_each_small c s (y ∷ ys) p =
      ((and_opt_small y.guard (guard (any (a· c))) p.0.0 s, p.0.1), guard_each_small c s ys p.1)

  -- Goto, nonconsecutive and [*m:$] have the atom of their operand, whose node is one of the tree.
  over_small : (s : Seq) → Ranged s → (f : ℕ → List SeqAlt) → ((b : ℕ) → b < 65536 → AltsSmall (f b)) → AltsSmall (over (operand s) f)
  unfolding Ranged
  over_small (atom n a) u f p = p a u
  over_small (delay n l r m x) u f p = tt
  over_small (consec n s m x) u f p = tt
  over_small (goto n s k) u f p = tt
  over_small (nonconsec n s k) u f p = tt
  over_small (throughout n c s) u f p = tt
  over_small (within n s₁ s₂) u f p = tt

  -- All alternatives of a tree.
  pub expand_small : (s : Seq) → Ranged s → AltsSmall (expand s)
  unfolding Ranged
  expand_small (atom n a) u = single_small (BoolTerm a) u
  expand_small (delay n l r m x) u =
      join_hops_small (hops m x) (expand l) (expand r) (expand_small l u.0) (expand_small r u.1)
  expand_small (consec n s m (finite zero)) u = single_small Empty tt
  expand_small (consec n s m (finite (suc x))) u =
      with_empty_small m (copies_from (expand s) (below m) (suc x - below m))
      (copies_from_small (expand s) (expand_small s u.0) (below m) (suc x - below m))
  expand_small (consec n s m unbounded) u =
      over_small s u.0 (consec_unbounded m)
      (λ b l. let run = ConsecAtLeast b (suc (below m)) in with_empty_small m (single run ∷ []) (single_small run l))
  expand_small (goto n s k) u = over_small s u.0 (λ b. single (Goto b k) ∷ []) (λ b l. single_small (Goto b k) l)
  expand_small (nonconsec n s k) u = over_small s u.0 (λ b. single (Nonconsec b k) ∷ []) (λ b l. single_small (Nonconsec b k) l)
  expand_small (throughout n c s) u = guard_each_small c u.0 (expand s) (expand_small s u.1)
  expand_small (within n s₁ s₂) u = tt

  -- The choice at the root: one alternative after the other, then their OR.
  lone_bounded : (g : Guard) → GuardSmall g → (ss : List SeqStep) → Each StepSmall ss → (n : ℕ) → Bounded n (lone_or_pipeline g ss n)
  lone_bounded unguarded p [] s n = pipeline_bounded unguarded tt [] s n
  lone_bounded unguarded p (x ∷ []) s n = go x.term s.0
    where
      lone : SeqTerm → Synth
      lone y = lone_or_pipeline unguarded (step y x.hop ∷ []) n

      go : (y : SeqTerm) → TermSmall y → Bounded n (lone y)
      go (BoolTerm a) u = λ l. (tt, u)
      go (Goto b k) u = pipeline_bounded unguarded tt (step (Goto b k) (Fixed zero) ∷ []) (u, tt) n
      go (Nonconsec b k) u = pipeline_bounded unguarded tt (step (Nonconsec b k) (Fixed zero) ∷ []) (u, tt) n
      go (ConsecAtLeast b k) u = pipeline_bounded unguarded tt (step (ConsecAtLeast b k) (Fixed zero) ∷ []) (u, tt) n
      go Empty u = pipeline_bounded unguarded tt (step Empty (Fixed zero) ∷ []) (u, tt) n
  lone_bounded unguarded p (x ∷ y ∷ ss) s n = pipeline_bounded unguarded tt (x ∷ y ∷ ss) s n
  lone_bounded (guard e) p ss s n = pipeline_bounded (guard e) p ss s n

  -- One alternative's signal in front of the others'.
  signals_bounded : (n : ℕ) (o : Synth) (p : Signals) → Bounded n o → SignalsBounded (n + length o.stores) p
      → SignalsBounded n (signals (o.stores ++ p.stores) (o.cur ∷ p.curs))
  signals_bounded n o p first later l =
      let (room, room') = room_parts o.stores p.stores n l in
      let (stores, cur) = first room in
      let (stores', curs) = later room' in (each_append (StoreUses R 65536) o.stores p.stores stores stores', (cur, curs))

  match_sigs_bounded : (alts : List SeqAlt) → AltsSmall alts → (n : ℕ) → SignalsBounded n (match_sigs alts n)
  match_sigs_bounded [] s n = λ l. (tt, tt)
  match_sigs_bounded (y ∷ ys) s n =
      let o = lone_or_pipeline y.guard y.steps n in
      let m = n + length o.stores in
      signals_bounded n o (match_sigs ys m) (lone_bounded y.guard s.0.0 y.steps s.0.1 n) (match_sigs_bounded ys s.1 m)

  or_reduced_small : (es : List Expr) (acc : Expr) → Small acc → Each Small es → Small (or_reduced acc es)
  or_reduced_small [] acc p q = p
  or_reduced_small (e ∷ es) acc p q = or_reduced_small es (or· acc (any e)) (p, q.0) q.1

  any_of_small : (es : List Expr) → Each Small es → Small (any_of es)
  any_of_small [] q = tt
  any_of_small (e ∷ []) q = q.0
  any_of_small (e ∷ f ∷ es) q = or_reduced_small (f ∷ es) (any e) q.0 q.1

  choice_bounded : (alts : List SeqAlt) → AltsSmall alts → (n : ℕ) → Bounded n (choice alts n)
  choice_bounded alts s n l =
      let (stores, curs) = match_sigs_bounded alts s n l in (stores, any_of_small (match_sigs alts n).curs curs)

  -- A root within: the further delays, a pair, the pairs of one alternative of seq2, all pairs, then their OR.
  slide_bounded : (d n : ℕ) (acc cur : Expr) → Small acc → Small cur → Bounded n (slide n d acc cur)
  slide_bounded zero n acc cur p q = λ l. (tt, p)
  slide_bounded (suc d) n acc cur p q =
      also_bounded n (store seq cur) (slide (suc n) d (or· acc (r· n)) (r· n))
      (λ i. (q, slide_bounded d (suc n) (or· acc (r· n)) (r· n) (p, i) i))

  pair_bounded : (window : ℕ) (match_2 : Expr) → Small match_2 → (ss : List SeqStep) → Each StepSmall ss → (n : ℕ)
      → Bounded n (fitting_pair window match_2 ss n)
  pair_bounded window match_2 p ss s n l =
      let o = synth_seq_pipeline unguarded ss n in
      let further = window - window_len ss in
      let (stores, cur) = then_bounded n o (λ m match-1. slide m further match-1 match-1) (pipeline_bounded unguarded tt ss s n)
      (λ m q. slide_bounded further m o.cur o.cur q q) l in
      (stores, (p, cur))

  pairs_bounded : (window : ℕ) (match_2 : Expr) → Small match_2 → (alts : List SeqAlt) → AltsSmall alts → (n : ℕ)
      → SignalsBounded n (pairs window match_2 alts n)
  pairs_bounded window match_2 p [] s n = λ l. (tt, tt)
  pairs_bounded window match_2 p (y ∷ ys) s n =
      let o = fitting_pair window match_2 y.steps n in
      let m = n + length o.stores in
      pick_case (SignalsBounded n) (leb (window_len y.steps) window)
      (λ _. signals_bounded n o (pairs window match_2 ys m) (pair_bounded window match_2 p y.steps s.0.1 n) (pairs_bounded window match_2 p ys s.1 m))
      (λ _. pairs_bounded window match_2 p ys s.1 n)

  all_pairs_bounded : (alts₁ alts₂ : List SeqAlt) → AltsSmall alts₁ → AltsSmall alts₂ → (n : ℕ) → SignalsBounded n (all_pairs alts₁ alts₂ n)
  all_pairs_bounded alts₁ [] s₁ s₂ n = λ l. (tt, tt)
  all_pairs_bounded alts₁ (y ∷ ys) s₁ s₂ n = λ l.
      let o = synth_seq_pipeline unguarded y.steps n in
      let n₁ = n + length o.stores in
      let p = pairs (window_len y.steps) o.cur alts₁ n₁ in
      let n₂ = n₁ + length p.stores in
      let q = all_pairs alts₁ ys n₂ in
      let (room, rooms) = room_parts o.stores (p.stores ++ q.stores) n l in
      let (room₁, room₂) = room_parts p.stores q.stores n₁ rooms in
      let (stores, cur) = pipeline_bounded unguarded tt y.steps s₂.0.1 n room in
      let (stores₁, curs₁) = pairs_bounded (window_len y.steps) o.cur cur alts₁ s₁ n₁ room₁ in
      let (stores₂, curs₂) = all_pairs_bounded alts₁ ys s₁ s₂.1 n₂ room₂ in
      let later = each_append (StoreUses R 65536) p.stores q.stores stores₁ stores₂ in
      (each_append (StoreUses R 65536) o.stores (p.stores ++ q.stores) stores later, each_append Small p.curs q.curs curs₁ curs₂)

  or_all_small : (es : List Expr) (acc : Expr) → Small acc → Each Small es → Small (or_all acc es)
  or_all_small [] acc p q = p
  or_all_small (e ∷ es) acc p q = or_all_small es (or· acc e) (p, q.0) q.1

  one_of_small : (es : List Expr) → Each Small es → Small (one_of es)
  one_of_small [] q = tt
  one_of_small (e ∷ es) q = or_all_small es e q.0 q.1

  -- A lowered tree uses registers that it makes itself, and atoms below 65,536.
  pub a_lowered_tree_is_bounded : (s : Seq) → Ranged s → (n : ℕ) → n + length (synth_seq_match s n).stores ≤ R
      → SynthUses R 65536 (synth_seq_match s n)
  unfolding Ranged
  a_lowered_tree_is_bounded =
      by_root (λ s v. Ranged s → (n : ℕ) → n + length (synth_rooted v n).stores ≤ R → SynthUses R 65536 (synth_rooted v n))
      (λ k x y u n l.
      let (stores, curs) = all_pairs_bounded (expand x) (expand y) (expand_small x u.0) (expand_small y u.1) n l in
      (stores, one_of_small (all_pairs (expand x) (expand y) n).curs curs))
      (λ s u n l. choice_bounded (expand s) (expand_small s u) n l)
