-- What a match is, felt clause by clause: a table of runs, each worked out by hand from SPECIFICATION, "What a match is", and from IEEE 1800 16.7
-- and 16.9, and one statement about all of them. No tree that demand 3 speaks of has an empty side of ##0, an empty seq1, a within or a
-- throughout under another kind, or a goto over no Boolean, so that no other theorem would notice a clause of `Match` that is wrong there.
use mathlib.Core.Path.{◌≡◌, refl, sym}
use mathlib.Core.Bool.{Bool, true, false, ◌||◌}
use mathlib.Core.List.{List, [], ◌∷◌, ◌++◌, map}
use Prim.Native.Nat.{ℕ}
use native.Mathlib.Decide.{ℕ_discrete, dec_le}
use lib.Dec.{eqb}
use lib.ListN.{get_or}
use Rattle.words.proofs.Taken.{false_is_not_true}
use Rattle.meaning.specs.Tree.{finite, unbounded, Seq, atom, delay, consec, goto, nonconsec, throughout, within as within·}
use Rattle.meaning.specs.Match.{Match}
use Rattle.meaning.proofs.MatchDecided.{match_decided}

-- A run [from, upto), and the atoms that hold at tick 0, tick 1 and so on; at later ticks none does.
pub record Run : Type 0 where
  pub ticks : List (List ℕ)
  pub from : ℕ
  pub upto : ℕ

-- A row: a sequence, a run, and whether the sequence matches it.
pub record MatchRow : Type 0 where
  pub sequence : Seq
  pub run : Run
  pub matches : Bool

-- Which atoms hold at which tick.
abbrev among : ℕ → List ℕ → Bool
among a [] = false
among a (x ∷ xs) = eqb a x || among a xs

abbrev pub trace_of : Run → ℕ → ℕ → Bool
trace_of r t a = among a (get_or r.ticks t [])

-- Sequences, nearly as the standard writes them. No match depends on the nodes' numbers, so all are 0.
infix 40 ◌##◌·◌ ◌##[◌:$]◌ ◌within◌
infix 50 ◌[*]◌ ◌[*◌:$] ◌[->]◌ ◌[=]◌
abbrev a : Seq
a = atom 0 0

abbrev b : Seq
b = atom 0 1

abbrev c : Seq
c = atom 0 2

abbrev ◌##◌·◌ : Seq → ℕ → Seq → Seq
l ## d · r = delay 0 l r d (finite d)

abbrev ◌##[◌:$]◌ : Seq → ℕ → Seq → Seq
l ##[ m :$] r = delay 0 l r m unbounded

abbrev ◌[*]◌ : Seq → ℕ → Seq
s [*] n = consec 0 s n (finite n)

abbrev ◌[*◌:$] : Seq → ℕ → Seq
s [* m :$] = consec 0 s m unbounded

abbrev ◌[->]◌ : Seq → ℕ → Seq
s [->] n = goto 0 s n

abbrev ◌[=]◌ : Seq → ℕ → Seq
s [=] n = nonconsec 0 s n

abbrev c_throughout : Seq → Seq
c_throughout s = throughout 0 2 s

abbrev ◌within◌ : Seq → Seq → Seq
s₁ within s₂ = within· 0 s₁ s₂

-- Ticks: the atoms that hold.
abbrev none : List ℕ
none = []

abbrev A : List ℕ
A = 0 ∷ []

abbrev B : List ℕ
B = 1 ∷ []

abbrev C : List ℕ
C = 2 ∷ []

abbrev AB : List ℕ
AB = 0 ∷ 1 ∷ []

abbrev Ac : List ℕ
Ac = 0 ∷ 2 ∷ []

abbrev BC : List ℕ
BC = 1 ∷ 2 ∷ []

abbrev on : List (List ℕ) → ℕ → ℕ → Run
on ticks from upto = record { ticks = ticks; from = from; upto = upto }

-- The rows of one sequence: first runs that match, then runs that do not.
abbrev of : Seq → List Run → List Run → List MatchRow
of s matching others =
    map (λ r. record { sequence = s; run = r; matches = true }) matching ++ map (λ r. record { sequence = s; run = r; matches = false }) others

-- A Boolean: one tick, at which it holds.
abbrev booleans : List MatchRow
booleans = of a (on (A ∷ []) 0 1 ∷ []) (on (B ∷ []) 0 1 ∷ on (A ∷ A ∷ []) 0 2 ∷ on (A ∷ []) 0 0 ∷ [])

-- ##0: one tick shared, so neither side is empty, wherever the run is looked for.
abbrev overlaps : List MatchRow
overlaps =
    of (a ## 0 · b) (on (AB ∷ []) 0 1 ∷ []) (on (A ∷ B ∷ []) 0 2 ∷ on (A ∷ []) 0 1 ∷ [])
    ++ of ((a ## 1 · b) ## 0 · (c ## 1 · a)) (on (A ∷ BC ∷ A ∷ []) 0 3 ∷ []) (on (A ∷ B ∷ C ∷ A ∷ []) 0 4 ∷ [])
    ++ of ((b [*] 0) ## 0 · a) [] (on (A ∷ []) 0 1 ∷ on (A ∷ A ∷ []) 1 1 ∷ on (A ∷ []) 0 0 ∷ [])
    ++ of (a ## 0 · (b [*] 0)) [] (on (A ∷ []) 0 1 ∷ on (A ∷ []) 0 0 ∷ on (A ∷ []) 0 2 ∷ [])
    ++ of ((b [*] 0) ## 0 · (b [*] 0)) [] (on [] 0 0 ∷ on [] 0 1 ∷ on [] 1 1 ∷ [])
    ++ of (consec 0 a 0 (finite 1) ## 0 · b) (on (AB ∷ []) 0 1 ∷ []) (on (B ∷ []) 0 1 ∷ [])

-- ##d: d - 1 free ticks between; from an empty left side, or up to an empty right one, too.
abbrev delays : List MatchRow
delays =
    of (a ## 1 · b) (on (A ∷ B ∷ []) 0 2 ∷ on (none ∷ A ∷ B ∷ []) 1 3 ∷ []) (on (AB ∷ []) 0 1 ∷ on (A ∷ none ∷ B ∷ []) 0 3 ∷ [])
    ++ of (a ## 2 · b) (on (A ∷ none ∷ B ∷ []) 0 3 ∷ on (A ∷ AB ∷ B ∷ []) 0 3 ∷ []) (on (A ∷ B ∷ []) 0 2 ∷ [])
    ++ of ((b [*] 0) ## 1 · a) (on (A ∷ []) 0 1 ∷ []) (on (none ∷ A ∷ []) 0 2 ∷ on (A ∷ []) 0 0 ∷ [])
    ++ of ((b [*] 0) ## 2 · a) (on (none ∷ A ∷ []) 0 2 ∷ []) (on (A ∷ []) 0 1 ∷ on (none ∷ none ∷ A ∷ []) 0 3 ∷ [])
    ++ of (a ## 1 · (b [*] 0)) (on (A ∷ []) 0 1 ∷ []) (on (A ∷ []) 0 2 ∷ on (A ∷ []) 0 0 ∷ [])
    ++ of (a ## 2 · (b [*] 0)) (on (A ∷ []) 0 2 ∷ []) (on (A ∷ []) 0 1 ∷ on (A ∷ []) 0 3 ∷ [])
    ++ of ((a ## 2 · (b [*] 0)) ## 1 · c) (on (A ∷ none ∷ C ∷ []) 0 3 ∷ []) (on (A ∷ C ∷ []) 0 2 ∷ on (A ∷ none ∷ none ∷ C ∷ []) 0 4 ∷ [])
    ++ of ((a [*] 0) ## 1 · (b [*] 0)) (on [] 0 0 ∷ []) (on (AB ∷ []) 0 1 ∷ [])

-- Ranges: ##[1:$] needs a later tick, ##[0:$] does not.
abbrev ranges : List MatchRow
ranges =
    of (delay 0 a b 1 (finite 2))
    (on (A ∷ B ∷ []) 0 2 ∷ on (A ∷ none ∷ B ∷ []) 0 3 ∷ [])
    (on (AB ∷ []) 0 1 ∷ on (A ∷ none ∷ none ∷ B ∷ []) 0 4 ∷ [])
    ++ of (a ##[ 0 :$] b) (on (AB ∷ []) 0 1 ∷ on (A ∷ none ∷ none ∷ B ∷ []) 0 4 ∷ []) (on (A ∷ B ∷ none ∷ []) 0 3 ∷ [])
    ++ of (a ##[ 1 :$] b) (on (A ∷ B ∷ []) 0 2 ∷ on (A ∷ none ∷ none ∷ B ∷ []) 0 4 ∷ []) (on (AB ∷ []) 0 1 ∷ [])
    ++ of ((b [*] 0) ##[ 0 :$] a) (on (A ∷ []) 0 1 ∷ on (none ∷ A ∷ []) 0 2 ∷ []) (on (A ∷ []) 0 0 ∷ on (A ∷ none ∷ []) 0 2 ∷ [])

-- [*]: joined by ##1; [*0] is the empty run alone, and an operand's empty runs take no tick.
abbrev repetitions : List MatchRow
repetitions =
    of (a [*] 0) (on [] 0 0 ∷ on (A ∷ A ∷ []) 1 1 ∷ []) (on (A ∷ []) 0 1 ∷ on [] 0 1 ∷ [])
    ++ of (a [*] 2) (on (A ∷ A ∷ []) 0 2 ∷ []) (on (A ∷ none ∷ A ∷ []) 0 3 ∷ on (A ∷ []) 0 1 ∷ [])
    ++ of (consec 0 a 0 (finite 1)) (on [] 0 0 ∷ on (A ∷ []) 0 1 ∷ []) (on (A ∷ A ∷ []) 0 2 ∷ on (B ∷ []) 0 1 ∷ [])
    ++ of ((a ## 1 · b) [*] 2) (on (A ∷ B ∷ A ∷ B ∷ []) 0 4 ∷ []) (on (A ∷ B ∷ none ∷ A ∷ B ∷ []) 0 5 ∷ on (A ∷ B ∷ []) 0 2 ∷ [])
    ++ of (a [* 0 :$]) (on [] 0 0 ∷ on (A ∷ A ∷ A ∷ []) 0 3 ∷ []) (on (A ∷ none ∷ A ∷ []) 0 3 ∷ [])
    ++ of (a [* 2 :$]) (on (A ∷ A ∷ A ∷ []) 0 3 ∷ []) (on (A ∷ []) 0 1 ∷ on [] 0 0 ∷ [])
    ++ of ((a ## 1 · b) [* 1 :$]) (on (A ∷ B ∷ A ∷ B ∷ []) 0 4 ∷ []) (on (A ∷ B ∷ A ∷ []) 0 3 ∷ on [] 0 0 ∷ [])
    ++ of ((a [*] 0) [*] 3) (on [] 0 0 ∷ []) (on (A ∷ A ∷ A ∷ []) 0 3 ∷ [])
    ++ of (consec 0 a 0 (finite 1) [* 2 :$]) (on (A ∷ []) 0 1 ∷ on (A ∷ A ∷ A ∷ []) 0 3 ∷ []) (on (A ∷ none ∷ []) 0 2 ∷ [])

-- [->n]: ends at the n-th b from the run's own first tick, and only over a Boolean.
abbrev gotos : List MatchRow
gotos =
    of (b [->] 1)
    (on (B ∷ []) 0 1 ∷ on (none ∷ none ∷ B ∷ []) 0 3 ∷ on (B ∷ none ∷ B ∷ []) 1 3 ∷ [])
    (on (B ∷ none ∷ B ∷ []) 0 3 ∷ on (none ∷ none ∷ []) 0 2 ∷ on (B ∷ []) 0 0 ∷ [])
    ++ of (b [->] 2)
    (on (B ∷ none ∷ B ∷ []) 0 3 ∷ on (none ∷ B ∷ B ∷ []) 0 3 ∷ [])
    (on (none ∷ none ∷ B ∷ []) 0 3 ∷ on (B ∷ B ∷ B ∷ []) 0 3 ∷ on (B ∷ B ∷ none ∷ []) 0 3 ∷ [])
    ++ of (a ## 1 · (b [->] 1)) (on (AB ∷ none ∷ B ∷ []) 0 3 ∷ []) (on (A ∷ B ∷ B ∷ []) 0 3 ∷ [])
    ++ of ((a ## 1 · b) [->] 1) [] (on (A ∷ B ∷ []) 0 2 ∷ on [] 0 0 ∷ [])
    ++ of ((b [*] 1) [->] 1) [] (on (B ∷ []) 0 1 ∷ [])

-- [=n]: as [->n], and on while b is 0.
abbrev nonconsecutives : List MatchRow
nonconsecutives =
    of (b [=] 1)
    (on (B ∷ []) 0 1 ∷ on (none ∷ B ∷ none ∷ none ∷ []) 0 4 ∷ [])
    (on (B ∷ none ∷ B ∷ []) 0 3 ∷ on (none ∷ none ∷ []) 0 2 ∷ [])
    ++ of (b [=] 2) (on (B ∷ none ∷ B ∷ none ∷ []) 0 4 ∷ []) (on (B ∷ none ∷ []) 0 2 ∷ [])
    ++ of ((b [=] 1) ## 1 · c) (on (B ∷ none ∷ C ∷ []) 0 3 ∷ on (B ∷ BC ∷ []) 0 2 ∷ []) (on (B ∷ B ∷ C ∷ []) 0 3 ∷ [])
    ++ of ((a ## 1 · b) [=] 1) [] (on (A ∷ B ∷ []) 0 2 ∷ on [] 0 0 ∷ [])

-- Throughout: the condition at every tick of the operand's own run, and at no other; an empty run has none.
abbrev conditions : List MatchRow
conditions =
    of (c_throughout (a ## 2 · b))
    (on (Ac ∷ C ∷ BC ∷ []) 0 3 ∷ on (none ∷ Ac ∷ C ∷ BC ∷ none ∷ []) 1 4 ∷ [])
    (on (A ∷ C ∷ BC ∷ []) 0 3 ∷ on (Ac ∷ none ∷ BC ∷ []) 0 3 ∷ on (Ac ∷ C ∷ B ∷ []) 0 3 ∷ on (C ∷ C ∷ C ∷ []) 0 3 ∷ [])
    ++ of (c_throughout (b [*] 0)) (on [] 0 0 ∷ []) (on (BC ∷ []) 0 1 ∷ [])
    ++ of (a ## 1 · c_throughout b) (on (A ∷ BC ∷ []) 0 2 ∷ []) (on (Ac ∷ B ∷ []) 0 2 ∷ [])
    ++ of (a ## 2 · c_throughout b) (on (A ∷ none ∷ BC ∷ []) 0 3 ∷ []) (on (Ac ∷ C ∷ B ∷ []) 0 3 ∷ [])
    ++ of (c_throughout a ## 1 · b) (on (Ac ∷ B ∷ []) 0 2 ∷ []) (on (A ∷ BC ∷ []) 0 2 ∷ [])

-- Within: seq1's run lies in seq2's, an empty one in any, and the ends of the two may meet.
abbrev withins : List MatchRow
withins =
    of (a within (b ## 1 · c))
    (on (AB ∷ C ∷ []) 0 2 ∷ on (B ∷ Ac ∷ []) 0 2 ∷ [])
    (on (B ∷ C ∷ []) 0 2 ∷ on (A ∷ B ∷ C ∷ []) 1 3 ∷ on (B ∷ C ∷ A ∷ []) 0 2 ∷ on (A ∷ A ∷ []) 0 2 ∷ [])
    ++ of ((a ## 1 · b) within c) [] (on (Ac ∷ BC ∷ []) 0 1 ∷ on (Ac ∷ BC ∷ []) 0 2 ∷ [])
    ++ of ((a ## 1 · b) within (c [*] 2)) (on (Ac ∷ BC ∷ []) 0 2 ∷ []) (on (Ac ∷ C ∷ B ∷ []) 0 2 ∷ [])
    ++ of ((a [*] 0) within b) (on (B ∷ []) 0 1 ∷ []) (on (A ∷ []) 0 1 ∷ on (B ∷ []) 0 0 ∷ [])
    ++ of (a within (b [*] 0)) [] (on (AB ∷ []) 0 0 ∷ on (AB ∷ []) 0 1 ∷ [])
    ++ of ((a [*] 0) within (b [*] 0)) (on [] 0 0 ∷ on [] 2 2 ∷ []) (on (B ∷ []) 0 1 ∷ [])
    ++ of ((a within (b [*] 2)) ## 1 · c) (on (AB ∷ B ∷ C ∷ []) 0 3 ∷ on (B ∷ AB ∷ C ∷ []) 0 3 ∷ []) (on (B ∷ B ∷ Ac ∷ []) 0 3 ∷ [])
    ++ of (a ## 1 · (b within (c [*] 2))) (on (A ∷ C ∷ BC ∷ []) 0 3 ∷ []) (on (AB ∷ C ∷ C ∷ []) 0 3 ∷ [])

-- The whole table.
pub rows : List MatchRow
rows = booleans ++ overlaps ++ delays ++ ranges ++ repetitions ++ gotos ++ nonconsecutives ++ conditions ++ withins

-- What a row says.
abbrev Says : Bool → Type 0 → Type 0
Says true M = M
Says false M = M → ⊥

abbrev pub Holds : MatchRow → Type 0
Holds row = let r = row.run in Says row.matches (Match (trace_of r) row.sequence r.from r.upto)

abbrev pub Each : (MatchRow → Type 0) → List MatchRow → Type 0
Each P [] = Unit {0}
Each P (row ∷ rest) = P row × Each P rest

-- What is found by trying all that `Match` lets one choose.
abbrev is_yes : {M : Type 0} → Dec M → Bool
is_yes (yes m) = true
is_yes (no f) = false

abbrev found : MatchRow → Bool
found row = let r = row.run in is_yes (match_decided (trace_of r) row.sequence r.from r.upto)

-- What is found as a row says is as the row says, of one row and of all rows.
as_found : {M : Type 0} (d : Dec M) (said : Bool) → is_yes d ≡ said → Says said M
as_found (yes m) true e = m
as_found (yes m) false e = absurd (false_is_not_true (sym e))
as_found (no f) true e = absurd (false_is_not_true e)
as_found (no f) false e = f

all_as_found : (rs : List MatchRow) → map found rs ≡ map (λ row. row.matches) rs → Each Holds rs
all_as_found [] e = tt
all_as_found (row ∷ rest) e =
    let r = row.run in
    (as_found (match_decided (trace_of r) row.sequence r.from r.upto) row.matches (cc), all_as_found rest (cc))

-- Every row of the table holds: this run matches, that one does not.
pub every_row_holds : Each Holds rows
unfolding rows ℕ_discrete dec_le
every_row_holds = all_as_found rows refl
