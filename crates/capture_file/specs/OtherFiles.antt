-- What a file is, if it doesn't begin as a capture does, by its first four octets (meaning).
use Rattle.std.specs.Prelude.{ℕ, ◌==◌, List, if◌then◌else◌}
use Rattle.capture_file.specs.declared.others.OtherFile.{OtherFile}
use Rattle.capture_file.specs.declared.others.OtherFile.TheVariants as files
use Rattle.capture_file.specs.declared.part.ByteOrder.TheVariants.{Big, Little}
use Rattle.capture_file.specs.Numbers.{two_at, four_at}

-- gzip (RFC 1952), Zstandard (RFC 8878), xz (the .xz file format), snoop (RFC 1761), and pcap files
-- whose records have more fields, in either byte order
unfoldable pub other_file : (octets : List ℕ) → OtherFile
other_file octets =
    if two_at Big 0 octets == 0x1f8b then files.Gzip else
    (if four_at Big 0 octets == 0x28b52ffd then files.Zstandard else
    (if four_at Big 0 octets == 0xfd377a58 then files.Xz else
    (if four_at Big 0 octets == 0x736e6f6f then files.Snoop else
    (if four_at Big 0 octets == 0xa1b2cd34 then files.ModifiedPcap else
    (if four_at Little 0 octets == 0xa1b2cd34 then files.ModifiedPcap else files.Unknown)))))
