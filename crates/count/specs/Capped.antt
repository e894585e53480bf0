-- Counts that never pass their bounds: 257 alternatives stand for any number above 256, and 65,537 entries for any above
-- 65,536. What they are compared with is never larger: 256, and a room of at most 65,536.
-- Example: 200 alternatives repeated three times count 200, then 257 for 40,000, then 257 for 8,000,000; 10 refuses each.
use Rattle.std.specs.Prelude.{Bool, true, false, ℕ, zero, suc, ◌+◌, ◌*◌, ◌≤◌, eqb, ltb}
use Rattle.words.specs.Choice.{pick}
use Rattle.meaning.specs.declared.Counts.{Counts}

-- Counts by their four parts.
abbrev pub counts_of : ℕ → ℕ → Bool → Bool → Counts
counts_of alternatives entries plain guarded = record { alternatives = alternatives; entries = entries; plain = plain; guarded = guarded }

-- No alternative; one with nothing in it, which joined with others leaves them as they are; one of a Bool term; one of any other term.
abbrev pub nothing : Counts
nothing = counts_of 0 0 true false

abbrev pub neutral : Counts
neutral = counts_of 1 0 true false

abbrev pub bool_term : Counts
bool_term = counts_of 1 1 true false

abbrev pub other_term : Counts
other_term = counts_of 1 1 false false

-- Where there are too many alternatives, the entries are not looked at.
unfoldable pub capped : ℕ → ℕ → Bool → Bool → Counts
capped alternatives entries plain guarded =
    pick (ltb 256 alternatives)
    (counts_of 257 0 plain guarded)
    (pick (ltb 65536 entries) (counts_of alternatives 65537 plain guarded) (counts_of alternatives entries plain guarded))

-- Counts within the bounds of `capped`: the sums and products of two are far below 2^64.
pub record Small (c : Counts) : Type 0 where
  pub few : c.alternatives ≤ 257
  pub short : c.entries ≤ 65537

-- SPECIFICATION, "Alternatives": "as many alternatives as hops times lefts times rights", every left with every right, for one hop.
unfoldable pub product : Counts → Counts → Counts
product l r =
    capped (l.alternatives * r.alternatives) (l.entries * r.alternatives + l.alternatives * r.entries) (pick l.plain r.plain false)
    (pick l.guarded true r.guarded)

-- One list of alternatives after another.
unfoldable pub sum : Counts → Counts → Counts
sum l r =
    capped (l.alternatives + r.alternatives) (l.entries + r.entries) (pick l.plain r.plain false) (pick l.guarded true r.guarded)

-- A list of alternatives once for each of several hops.
unfoldable pub times : ℕ → Counts → Counts
times hops c = capped (hops * c.alternatives) (hops * c.entries) c.plain c.guarded

-- Copies of the base, and k more joined to them.
unfoldable pub copied : Counts → Counts → ℕ → Counts
copied base copies zero = copies
copied base copies (suc k) = copied base (product copies base) k

-- The total, then the copies, then one copy more, and so on, count times.
unfoldable pub summed : Counts → Counts → Counts → ℕ → Counts
summed base total copies zero = total
summed base total copies (suc count) = summed base (sum total copies) (product copies base) count

-- SPECIFICATION, "Alternatives": "if m is 0, Empty comes first".
unfoldable pub with_empty : ℕ → Counts → Counts
with_empty m c = pick (eqb m 0) (sum other_term c) c

-- Reached by an "at least" hop, a right operand is no longer plain.
abbrev pub not_plain : Counts → Counts
not_plain c = counts_of c.alternatives c.entries false c.guarded

-- SPECIFICATION, "Alternatives", throughout: "the guard of each gains the condition", one entry more for each alternative.
unfoldable pub guarded_each : Counts → Counts
guarded_each c = capped c.alternatives (c.entries + c.alternatives) c.plain true
