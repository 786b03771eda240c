-- What the program says about a file that is no capture (docs/FORMATS.md, The program giopcap;
-- meaning).
use Rattle.std.specs.Prelude.{ℕ, List, codes}
use Rattle.capture_file.specs.declared.others.OtherFile.{OtherFile}
use Rattle.capture_file.specs.declared.others.OtherFile.TheVariants.{Gzip, Zstandard, Xz, Snoop, ModifiedPcap, Unknown}

abbrev pub hint : OtherFile → List ℕ
hint Gzip = codes "compressed: zcat FILE | giopcap"
hint Zstandard = codes "compressed: zstdcat FILE | giopcap"
hint Xz = codes "compressed: xzcat FILE | giopcap"
hint Snoop = codes "snoop: tshark -r FILE -w - | giopcap"
hint ModifiedPcap = codes "modified pcap: tshark -r FILE -w - | giopcap"
hint Unknown = codes "not a capture"
