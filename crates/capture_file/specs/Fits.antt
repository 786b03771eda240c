-- The parts that a capture has room for (state).
use Rattle.std.specs.Prelude.{ℕ, ◌≤◌}
use Rattle.capture_file.specs.declared.part.Part.{Part}
use Rattle.capture_file.specs.declared.part.Part.TheVariants as parts
use Rattle.capture_file.specs.declared.part.Outcome.{Outcome}
use Rattle.capture_file.specs.declared.part.Outcome.TheVariants.{Continues, EndsPacket, Fails}
use Rattle.capture_file.specs.Parts.{front}

-- the greatest number of octets that are held of a packet: 262,144, and 4 for the original length
abbrev pub room : ℕ
room = 262148

-- how many interfaces are added at the end of the block that this part is of
abbrev pub interfaces_added : Part → ℕ
interfaces_added (parts.InterfaceHeader block) = 1
interfaces_added (parts.OptionHeader block interface skip) = 1
interfaces_added (parts.TimeUnit block interface) = 1
interfaces_added (parts.InterfaceEnd block interface) = 1
interfaces_added _ = 0

-- there is room for the packet at the part's front, and the part adds at most this number of
-- interfaces
abbrev pub HasRoom : (most_interfaces_added : ℕ) (part : Part) → Type 0
HasRoom more part = (front part ≤ room) × (interfaces_added part ≤ more)

abbrev pub Fits : (most_interfaces_added : ℕ) (outcome : Outcome) → Type 0
Fits more (Continues part) = HasRoom more part
Fits more (EndsPacket info part) = HasRoom more part
Fits more (Fails kind) = Unit {0}
