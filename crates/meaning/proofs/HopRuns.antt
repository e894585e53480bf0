-- Hops in registers: the signal of a hop is on at the ticks that the hop reaches from a tick at which its expression was on.
-- Example: two delays are on two ticks later; under a guard, only if it held at both ticks.
-- Assumes that the stores drive their registers, and that a hop under a guard is fixed (refusal 7).
use mathlib.Core.Bool.{Bool}
use mathlib.Core.Path.{◌≡◌, refl, subst}
use mathlib.Core.Logic.Iff
use mathlib.Core.Logic.{◌↔◌, ◌⊎◌, inl, inr}
use Prim.Native.Nat.{ℕ, zero, suc, ◌+◌, ◌-◌, ◌≤◌, ◌<◌}
use native.Mathlib.Omega.{arith}
use native.Mathlib.Decide.{ℕ_discrete, dec_le}
use lib.ListN.{length}
use lib.Dec.{T}
use Rattle.meaning.specs.Expression.{Expr, r·, or·, Synth}
use Rattle.meaning.specs.Alternative.{Guard, unguarded, guard}
use Rattle.meaning.specs.Pipeline.{guard_and, delays, latch, hop_over}
use Rattle.meaning.specs.declared.SeqHop.{SeqHop}
use Rattle.meaning.specs.declared.SeqHop.TheVariants.{Fixed, AtLeast}
use Rattle.meaning.proofs.Values.{Driven, Drives}
use Rattle.meaning.proofs.Acceptable.{IsFixed}
use Rattle.meaning.proofs.On.{On, a_delay_register_is_one_tick_late, drives_first, drives_rest}
use Rattle.meaning.proofs.Since.{Since, a_held_register}
use Rattle.meaning.proofs.Joining.{Reaches}

-- 7, of a hop: under a guard it is fixed.
abbrev pub FixedIfGuarded : Guard → SeqHop → Type 0
FixedIfGuarded unguarded h = Unit {0}
FixedIfGuarded (guard c) h = IsFixed h

module _ (σ Reg : ℕ → ℕ → Bool) where
  -- The guard holds at the tick.
  abbrev pub GuardOn : Guard → ℕ → Type 0
  GuardOn unguarded t = Unit {0}
  GuardOn (guard c) t = On σ Reg c t

  -- The guard holds at each tick after u, up to s.
  abbrev pub GuardAfter : Guard → ℕ → ℕ → Type 0
  GuardAfter g u s = (m : ℕ) → u < m → m ≤ s → GuardOn g m

  -- A guarded expression is on where it is on and the guard holds.
  pub guard_and_is_both : (g : Guard) (e : Expr) (t : ℕ) → On σ Reg (guard_and g e) t ↔ (On σ Reg e t × GuardOn g t)
  guard_and_is_both unguarded e t = (λ h. (h, tt), λ h. h.0)
  guard_and_is_both (guard c) e t = Iff.rfl

  -- d delay registers are d ticks late; a guard must hold at each of these ticks.
  pub delays_are_late : (g : Guard) (d n : ℕ) (e : Expr) → Drives σ Reg n (delays g d n e).stores → (s : ℕ)
      → On σ Reg (delays g d n e).cur s ↔ ((u : ℕ) × On σ Reg e u × (s ≡ u + d) × GuardAfter g u s)
  delays_are_late g zero n e D s =
      (λ h. (s, h, omega arith, λ m p q. absurd (omega arith)), λ (u, x, w, G). subst (On σ Reg e) (omega arith) x)
  delays_are_late g (suc d) n e D s =
      let later = delays_are_late g d (suc n) (guard_and g (r· n)) D.1 s in
      (λ h. outward (later.0 h), λ h. later.1 (inward h))
    where
      register : (v : ℕ) → T (Reg v n) ↔ ((u : ℕ) × (v ≡ suc u) × On σ Reg e u)
      register v = a_delay_register_is_one_tick_late σ Reg n e D.0 v

      outward : (v : ℕ) × On σ Reg (guard_and g (r· n)) v × (s ≡ v + d) × GuardAfter g v s
          → (u : ℕ) × On σ Reg e u × (s ≡ u + suc d) × GuardAfter g u s
      outward (v, h, w, G) =
          let (p, y) = (guard_and_is_both g (r· n) v).0 h in
          let (u, q, x) = (register v).0 p in (
            u,
            x,
            omega arith,
            λ m l l'. elim (ℕ_discrete v m) [ yes z ↦ subst (GuardOn g) z y | no z ↦ G m (omega arith) l' ],
          )

      inward : (u : ℕ) × On σ Reg e u × (s ≡ u + suc d) × GuardAfter g u s
          → (v : ℕ) × On σ Reg (guard_and g (r· n)) v × (s ≡ v + d) × GuardAfter g v s
      inward (u, x, w, G) = (
        suc u,
        (guard_and_is_both g (r· n) (suc u)).1 ((register (suc u)).1 (u, refl, x), G (suc u) (omega arith) (omega arith)),
        omega arith,
        λ m l l'. G m (omega arith) l',
      )

  -- The latch is 1 from the tick after its expression was on.
  pub the_latch_holds : (r : ℕ) (e : Expr) → Driven σ Reg r (or· (r· r) e) → (t : ℕ)
      → T (Reg t r) ↔ ((u : ℕ) × On σ Reg e u × (u < t))
  the_latch_holds r e d t = (
    λ h. let (u, x, l, K) = register.0 h in (u, x, l),
    λ (u, x, l). register.1 (u, x, l, λ m p q. tt),
  )
    where
      form : (t : ℕ) → (T (Reg t r) ⊎ On σ Reg e t) ↔ (On σ Reg e t ⊎ (T (Reg t r) × Unit {0}))
      form t = (
        λ h. elim h [ inl p ↦ inr (p, tt) | inr x ↦ inl x ],
        λ h. elim h [ inl x ↦ inr x | inr p ↦ inl p.0 ],
      )

      register : T (Reg t r) ↔ Since (On σ Reg e) (λ m. Unit {0}) t
      register = a_held_register σ Reg r (or· (r· r) e) d (On σ Reg e) (λ m. Unit {0}) form t

  -- The expression was on at a tick u from which the hop reaches s, and the guard held from there on.
  abbrev pub HopFrom : Guard → SeqHop → Expr → ℕ → Type 0
  HopFrom g h e s = (u : ℕ) × On σ Reg e u × Reaches h u s × GuardAfter g u s

  -- The signal of a hop is on at the ticks that the hop reaches.
  pub a_hop_reaches : (g : Guard) (h : SeqHop) → FixedIfGuarded g h → (n : ℕ) (e : Expr)
      → Drives σ Reg n (hop_over g h n e).stores → (s : ℕ)
      → On σ Reg (hop_over g h n e).cur s ↔ HopFrom g h e s
  a_hop_reaches g (Fixed d) F n e D s =
      let late = delays_are_late g d n e D s in (
        λ v. let (u, x, w, G) = late.0 v in (u, x, (d, refl, w), G),
        λ (u, x, (c, q, w), G). late.1 (u, x, omega arith, G),
      )
  a_hop_reaches (guard c) (AtLeast m) F n e D s = absurd F
  a_hop_reaches unguarded (AtLeast zero) F n e D s = (outward, inward)
    where
      outward : T (Reg s n) ⊎ On σ Reg e s → HopFrom unguarded (AtLeast zero) e s
      outward (inl p) = let (u, x, l) = (the_latch_holds n e D.0 s).0 p in (u, x, (s - u, omega arith, omega arith), λ m p q. tt)
      outward (inr x) = (s, x, (zero, omega arith, omega arith), λ m p q. tt)

      inward : HopFrom unguarded (AtLeast zero) e s → T (Reg s n) ⊎ On σ Reg e s
      inward (u, x, (d, q, w), G) =
          elim (dec_le s u) [ yes z ↦ inr (subst (On σ Reg e) (omega arith) x) | no z ↦ inl ((the_latch_holds n e D.0 s).1 (u, x, omega arith)) ]
  a_hop_reaches unguarded (AtLeast (suc m)) F n e D s = (outward, inward)
    where
      o : Synth
      o = delays unguarded m n e

      n' : ℕ
      n' = n + length o.stores

      late : (v : ℕ) → On σ Reg o.cur v ↔ ((u : ℕ) × On σ Reg e u × (v ≡ u + m) × GuardAfter unguarded u v)
      late = delays_are_late unguarded m n e (drives_first σ Reg o.stores (latch n' o.cur).stores n D)

      held : T (Reg s n') ↔ ((v : ℕ) × On σ Reg o.cur v × (v < s))
      held = the_latch_holds n' o.cur (drives_rest σ Reg o.stores (latch n' o.cur).stores n D).0 s

      outward : T (Reg s n') → HopFrom unguarded (AtLeast (suc m)) e s
      outward p =
          let (v, y, l) = held.0 p in
          let (u, x, w, G) = (late v).0 y in
          (u, x, (s - u, omega arith, omega arith), λ m p q. tt)

      inward : HopFrom unguarded (AtLeast (suc m)) e s → T (Reg s n')
      inward (u, x, (d, q, w), G) = held.1 (u + m, (late (u + m)).1 (u, x, refl, λ m p q. tt), omega arith)
