-- A delay's runs are those that are reached from where its right operand may begin, and for ##0 those that overlap. It assumes nothing.
use mathlib.Core.Path.{◌≡◌, refl, subst, ◌∙◌}
use mathlib.Core.Logic.{◌⊎◌, inl, inr, ◌↔◌}
use mathlib.Core.List.{List, ◌++◌}
use Prim.Native.Nat.{ℕ, zero, suc, ◌+◌, ◌≤◌, ◌<◌}
use native.Mathlib.Omega.{arith}
use lib.ListN.{length, take}
use lib.Seq.{length-take-le, take_at}
use Rattle.meaning.specs.Match.{Runs}
use Rattle.runs.specs.Ends.{Gains, In, Reached}
use Rattle.runs.specs.Tables.{RunsOf}
use Rattle.runs.specs.declared.table.Table.{Table}
use Rattle.runs.proofs.Laws.{gains_as, gains_then, in_gained_blank, Blank, part_blank}
use Rattle.joined_runs.specs.Joined.{Ahead, Later, Overlapped, Delayed}

-- The ends that are reached from where the right operand may begin, kept in the first bytes of a local row, are those of a delay of at
-- least one tick.
pub reached_later : (left right : Table) (min max i : ℕ) {starts before after : List ℕ} (row rest : List ℕ) → Blank row
    → length before ≤ length row → length before ≡ left.side → length before ≡ right.side
    → Gains (take (length before) row) starts (Ahead (RunsOf left) min max i)
    → Gains before after (Reached (RunsOf right) (take (length before) (starts ++ rest)) i 0)
    → Gains before after (Later (RunsOf left) (RunsOf right) min max i)
reached_later left right min max i {starts} {before} {after} row rest b h l r s g = gains_as (λ j l. (there j, back j)) g'
  where
    long : length (take (length before) row) ≡ length before
    long = length-take-le (length before) row h

    g' : Gains before after (Reached (RunsOf right) starts i 0)
    g' = rw (take_at starts rest (length before) (s.long ∙ long)) at g

    begins : (m : ℕ) → m < length before → In starts m ↔ Ahead (RunsOf left) min max i m
    begins m l = in_gained_blank (part_blank (length before) row b) s m (omega (arith, long))

    there : (j : ℕ) → Reached (RunsOf right) starts i 0 j → Later (RunsOf left) (RunsOf right) min max i j
    there j (m, p, q, o, f) =
        let (k, d, u, v, e, z) = (begins m (omega (arith, f.0, f.1))).0 q in
        (d, u, v, (k, e, subst (λ y. RunsOf right y j) z f))

    back : (j : ℕ) → Later (RunsOf left) (RunsOf right) min max i j → Reached (RunsOf right) starts i 0 j
    back j (d, u, v, (k, e, f)) = (
      k + d,
      omega (arith, e.0),
      (begins (k + d) (omega (arith, f.0, f.1))).1 (k, d, u, v, e, refl),
      omega (arith, f.0),
      f,
    )

-- A delay that may be ##0 has the ends of both kinds.
pub delayed_overlapped : (left right : Runs) (min max i : ℕ) {before middle after : List ℕ} → min ≡ 0
    → Gains before middle (Later left right min max i) → Gains middle after (Overlapped left right i)
    → Gains before after (Delayed left right min max i)
delayed_overlapped left right min max i z g h = gains_as (λ j l. (both j, apart j)) (gains_then g h)
  where
    apart : (j : ℕ) → Delayed left right min max i j → Later left right min max i j ⊎ Overlapped left right i j
    apart j (zero, p, q, x) = inr x
    apart j (suc d, p, q, x) = inl (d, p, q, x)

    both : (j : ℕ) → Later left right min max i j ⊎ Overlapped left right i j → Delayed left right min max i j
    both j (inl (d, p, q, x)) = (suc d, p, q, x)
    both j (inr x) = (0, omega arith, omega arith, x)

-- A delay that is never ##0 has the ends of the later kind alone.
pub delayed_later : (left right : Runs) (min max i : ℕ) {before after : List ℕ} → (min ≡ 0 → ⊥)
    → Gains before after (Later left right min max i) → Gains before after (Delayed left right min max i)
delayed_later left right min max i n g = gains_as (λ j l. (λ (d, p, q, x). (suc d, p, q, x), apart j)) g
  where
    apart : (j : ℕ) → Delayed left right min max i j → Later left right min max i j
    apart j (zero, p, q, x) = absurd (n (omega arith))
    apart j (suc d, p, q, x) = (d, p, q, x)
