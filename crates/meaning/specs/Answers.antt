-- What lowering, the check, a tick and the matcher answer: what was asked for, or a refusal, whose number and place SPECIFICATION, "Refusals", has.
-- Example: the answer for `a ##1 b` is `listed 1 8 2`; that for `a ##[0:256] b` is `Err (TooManyAlternatives 2)`, number 10 at place 2.
use Rattle.std.specs.Prelude.{Result, Ok, Err, ℕ}
use Rattle.meaning.specs.declared.Counts.{Counts}
use Rattle.meaning.specs.declared.Listing.{Listing}
use Rattle.meaning.specs.declared.refusal.Refusal.{Refusal}
use Rattle.meaning.specs.declared.refusal.Refusal.TheVariants.{Malformed, NotUsedOnce, OutOfOrder, TooDeep, CountTooHigh, NotOverAnAtom, ThroughoutNotPlain, WithinBelowRoot, WithinNotPlain, TooManyAlternatives, TooManyEntries, MisplacedEmpty, TooManyRegisters, OutputTooShort, BadRows, LentTooShort}
use Rattle.meaning.specs.declared.refusal.Fault.{Fault}
use Rattle.meaning.specs.declared.refusal.TickRefusal.{TickRefusal}
use Rattle.meaning.specs.declared.refusal.TickRefusal.TheVariants.{NotDescribed, LentTooShort as TickLentTooShort, NotBits}

-- The table's numbers of trees and recordings.
abbrev pub number : Refusal → ℕ
number (Malformed n) = 1
number (NotUsedOnce n) = 2
number (OutOfOrder n) = 3
number (TooDeep n) = 4
number (CountTooHigh n) = 5
number (NotOverAnAtom n) = 6
number (ThroughoutNotPlain n) = 7
number (WithinBelowRoot n) = 8
number (WithinNotPlain n) = 9
number (TooManyAlternatives n) = 10
number (TooManyEntries n) = 11
number (MisplacedEmpty n) = 12
number TooManyRegisters = 13
number OutputTooShort = 14
number BadRows = 17
number LentTooShort = 18

-- Their places. "Places are 0 where nothing else is said."
abbrev pub place : Refusal → ℕ
place (Malformed n) = n
place (NotUsedOnce n) = n
place (OutOfOrder n) = n
place (TooDeep n) = n
place (CountTooHigh n) = n
place (NotOverAnAtom n) = n
place (ThroughoutNotPlain n) = n
place (WithinBelowRoot n) = n
place (WithinNotPlain n) = n
place (TooManyAlternatives n) = n
place (TooManyEntries n) = n
place (MisplacedEmpty n) = n
place TooManyRegisters = 0
place OutputTooShort = 0
place BadRows = 0
place LentTooShort = 0

-- The table's numbers of ticks, and their places.
abbrev pub tick_number : TickRefusal → ℕ
tick_number (NotDescribed at) = 21
tick_number TickLentTooShort = 22
tick_number NotBits = 23

abbrev pub tick_place : TickRefusal → ℕ
tick_place (NotDescribed at) = at
tick_place TickLentTooShort = 0
tick_place NotBits = 0

-- A table that passed its checks; what the walk counted; a listing of so many registers and words, whose deepest stack is the third.
abbrev pub formed : Result (Unit {0}) Refusal
formed = Ok tt

abbrev pub counted : Counts → Result Counts Refusal
counted c = Ok c

abbrev pub listed : ℕ → ℕ → ℕ → Result Listing Refusal
listed registers words deepest = Ok (record { registers = registers; words = words; deepest = deepest })

-- A listing that is as described, one whose first faulty word is that one, and the match bit of a tick.
abbrev pub described : Result (Unit {0}) Fault
described = Ok tt

abbrev pub faulty : ℕ → Result (Unit {0}) Fault
faulty at = Err (record { place = at })

abbrev pub ticked : ℕ → Result ℕ TickRefusal
ticked bit = Ok bit
