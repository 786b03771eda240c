-- What holds of every capture (meaning).
use Rattle.std.specs.Prelude.{◌≡◌, ℕ, List, ◌++◌, Some}
use Rattle.capture_file.specs.declared.fault.CaptureFault.{CaptureFault}
use Rattle.capture_file.specs.Reading.{PacketRecord, packets, fault, reading}

-- the packets of a longer list begin with the packets of the shorter one
abbrev pub PacketsBegin : Type 0
PacketsBegin = (p q : List ℕ) → (more : List PacketRecord) × (packets (p ++ q) ≡ packets p ++ more)

-- after a fault nothing is read
abbrev pub FaultStays : Type 0
FaultStays = (p q : List ℕ) (f : CaptureFault) → fault p ≡ Some f → reading (p ++ q) ≡ reading p
