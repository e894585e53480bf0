-- The outline of a tree: one word for each node that its alternatives are made of, put by the walk that counts them, before the
-- first alternative is written. It says how many alternatives the node has, so that a number is taken apart without counting;
-- which node is left of it without the [*1] over it, so that these are passed at one stroke; and whether an alternative has a
-- guard, so that guards are looked for only where there are some.
-- Example: of the outline of `a[*1] ##[3:4] b`, the words of a and a[*1] are the same: 1 alternative, node 0, no guard.
use Rattle.std.specs.Prelude.{Result, Ok, Err, Bool, false, not, ◌≡◌, List, [], ◌∷◌, ℕ, zero, suc, ◌+◌, ◌*◌, ◌<◌, ◌≤◌, ◌/◌, ◌%◌, eqb, length, get_or}
use Rattle.words.specs.Choice.{pick}
use Rattle.words.specs.Written.{written}
use Rattle.meaning.specs.declared.Node.{Node}
use Rattle.meaning.specs.declared.Counts.{Counts}
use Rattle.meaning.specs.declared.refusal.Refusal.{Refusal}
use Rattle.meaning.specs.Tree.{Max, finite, unbounded, Seq, atom, delay, consec, goto, nonconsec, throughout, within, node_at, unlimited, tree_at, nodes, below}
use Rattle.meaning.specs.Alternative.{expand}
use Rattle.meaning.specs.Refusals.{guarded, counts}
use Rattle.meaning.specs.Lowerable.{FormedTable, Walkable}

-- A finite [*] other than [*0]: of the repetitions, it alone is made of its operand's alternatives.
unfoldable pub is_repeated : Node → Bool
is_repeated v = pick (eqb v.kind 3) (pick (not (eqb v.max 0)) (not (eqb v.max unlimited)) false) false

-- [*1]: one copy, whose alternatives are the operand's own.
unfoldable pub is_once : ℕ → Max → Bool
is_once m (finite x) = pick (eqb m 1) (eqb x 1) false
is_once m unbounded = false

-- The node that is left of a tree without the [*1] over it.
unfoldable pub bare : Seq → ℕ
bare (atom n a) = n
bare (delay n l r m x) = n
bare (consec n s m x) = pick (is_once m x) (bare s) n
bare (goto n s k) = n
bare (nonconsec n s k) = n
bare (throughout n c s) = n
bare (within n s₁ s₂) = n

-- The word of what was counted at a node: its alternatives, at most 256 of them, the node that is left of it, below 4,096, and
-- 1 where an alternative has a guard.
unfoldable pub counted_word : Counts → ℕ → ℕ
counted_word c bare = c.alternatives + 512 * (bare + 4096 * pick c.guarded 1 0)

-- The word of a tree.
unfoldable pub outline_word : Seq → ℕ
outline_word s = counted_word (counts (expand s)) (bare s)

-- Whether one of a tree's alternatives has a guard: 1 or 0.
unfoldable pub guard_flag : Seq → ℕ
guard_flag s = pick (guarded (expand s)) 1 0

-- The three parts, read back from the word of node n.
unfoldable pub count_in : List ℕ → ℕ → ℕ
count_in o n = get_or o n 0 % 512

unfoldable pub bare_in : List ℕ → ℕ → ℕ
bare_in o n = get_or o n 0 / 512 % 4096

unfoldable pub flag_in : List ℕ → ℕ → ℕ
flag_in o n = get_or o n 0 / 2097152

-- The outline with the word of node n, where its alternatives were counted.
unfoldable pub noted : List ℕ → ℕ → ℕ → Result Counts Refusal → List ℕ
noted o n bare (Ok c) = written o n (counted_word c bare ∷ [])
noted o n bare (Err refusal) = o

-- The word of node n of the table is in the outline.
abbrev pub Noted : List ℕ → List ℕ → ℕ → Type 0
Noted t o n = get_or o n 0 ≡ outline_word (tree_at t n)

-- The word of every node that the walk visits in the tree is in the outline.
unfoldable pub Outlined : List ℕ → List ℕ → Seq → Type 0
Outlined t o (atom n a) = Noted t o n
Outlined t o (delay n l r m x) = Outlined t o l × Outlined t o r × Noted t o n
Outlined t o (consec n s m (finite zero)) = Noted t o n
Outlined t o (consec n s m (finite (suc x))) = Outlined t o s × Noted t o n
Outlined t o (consec n s m unbounded) = Noted t o n
Outlined t o (goto n s k) = Noted t o n
Outlined t o (nonconsec n s k) = Noted t o n
Outlined t o (throughout n c s) = Outlined t o s × Noted t o n
Outlined t o (within n s₁ s₂) = Noted t o n

-- A node that the checks and the walk let pass: not more than 256 alternatives, here and at every node visited below.
pub record Expandable (t : List ℕ) (n : ℕ) : Type 0 where
  pub formed : FormedTable t
  pub inside : n < nodes t
  pub room : ℕ
  pub walkable : Walkable room (tree_at t n)

-- What a caller hands down: an outline that is long enough for the table, and has the words of node n and below.
pub record Known (t o : List ℕ) (n : ℕ) : Type 0 where
  pub long : nodes t ≤ length o
  pub outline : Outlined t o (tree_at t n)

-- What the walk below node n makes of an outline: the words of node n and below are there, and no right word is lost. Nodes may be
-- shared: every word put is its node's own, whoever's operand the node is.
pub record Notes (t : List ℕ) (n : ℕ) (before after : List ℕ) : Type 0 where
  pub known : Known t after n
  pub kept : (m : ℕ) → Noted t before m → Noted t after m

-- What the walk from the root makes of an outline: the root's words are there, or those of both operands of a root within.
pub record KnownRoot (t o : List ℕ) : Type 0 where
  pub whole : ((node_at t (below (nodes t))).kind ≡ 7 → ⊥) → Known t o (below (nodes t))
  pub one : (node_at t (below (nodes t))).kind ≡ 7 → Known t o (node_at t (below (nodes t))).p
  pub two : (node_at t (below (nodes t))).kind ≡ 7 → Known t o (node_at t (below (nodes t))).q
