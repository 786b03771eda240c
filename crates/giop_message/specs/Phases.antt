-- What the padding before a number is counted by, at each offset of a message: its phase. The
-- number is aligned if the phase is a multiple of the number's size (CDR Transfer Syntax,
-- Alignment; meaning).
use Rattle.std.specs.Prelude.{◌≡◌, ℕ, ◌+◌, ◌-◌, ◌%◌, ◌<◌, cond, ltb}

abbrev pub Phase : Type 0
Phase = ℕ → ℕ

-- that of a message in one piece: the offset itself
abbrev pub unbroken : Phase
unbroken at = at

-- that of a message to which the payload of a Fragment of 1.1 is joined at this offset: the payload
-- begins after the 12 octets of the Fragment's header, and its octets are counted from the first of
-- these (GIOP Message Formats, Fragment Message)
abbrev pub seamed : (phase_before_seam : Phase) (seam_offset : ℕ) → Phase
seamed phase here at = cond (ltb at here) (phase at) (12 + (at - here))

-- the two phases are the same before this offset
abbrev pub AgreeBefore : (end_offset : ℕ) (phase other : Phase) → Type 0
AgreeBefore end phase other = (at : ℕ) → at < end → phase at ≡ other at

-- From this offset on, the phase is the offset and what the offset lacks, modulo 8: no payload is
-- joined after it.
abbrev pub IsShiftedFrom : (phase : Phase) (shift_mod_8 from_offset : ℕ) → Type 0
IsShiftedFrom phase lacks here = (k : ℕ) → phase (here + k) % 8 ≡ (here + lacks + k) % 8
