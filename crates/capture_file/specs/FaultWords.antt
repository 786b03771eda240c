-- The words of a capture's faults (docs/FORMATS.md, Capture files; meaning).
use Rattle.std.specs.Prelude.{ℕ, List, codes}
use Rattle.capture_file.specs.declared.fault.FaultKind.{FaultKind}
use Rattle.capture_file.specs.declared.fault.FaultKind.TheVariants.{Magic, Format, Length, Version, Interface, Truncated}

abbrev pub fault_word : FaultKind → List ℕ
fault_word (Magic file) = codes "magic"
fault_word Format = codes "format"
fault_word Length = codes "length"
fault_word Version = codes "version"
fault_word Interface = codes "interface"
fault_word Truncated = codes "truncated"
