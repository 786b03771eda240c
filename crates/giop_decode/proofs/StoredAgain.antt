-- A restored decoder fits, reads what the stored one read, and is stored in the same octets.
use Rattle.std.proofs.Common.{true, arith, ◌≡◌, ℕ, List, Option, Some, None, refl}
use Rattle.giop_decode.specs.declared.decoder.Decoder.{Decoder}
use Rattle.giop_decode.specs.declared.leaf.Leaf.{Leaf as Innermost}
use Rattle.giop_decode.specs.declared.notes.Buffer.{Buffer}
use Rattle.giop_decode.specs.declared.notes.Buffer.TheVariants as buffers
use Rattle.giop_decode.specs.declared.notes.Notes.{Notes}
use Rattle.giop_decode.specs.NameBuffer.{NameBufferFits}
use Rattle.giop_decode.specs.Noted.{Noted}
use Rattle.giop_decode.specs.SeenState.{Fits, BufferHolds, KeepsNoted, Reads, HoldsNoted, read_by_fields}
use Rattle.giop_decode.specs.ReadResult.{Coding, ValueAt, Read}
use Rattle.giop_decode.specs.Stored.{AreSavedNotes, IsRestored, Stored, saved_fixed, saved_name}
use Rattle.giop_print.specs.declared.path.Root.{Root}
use Rattle.giop_sig.specs.Table.{Table}
use Rattle.giop_sig.specs.Types.{Ty}

kept_fits : (root : Root) (at : Option ℕ) (b : Buffer) (octets : List ℕ) →
    NameBufferFits root at b octets → NameBufferFits root at b (saved_name b octets)
kept_fits root None buffers.TooLong octets fits = fits
kept_fits root (Some offset) buffers.TooLong octets fits = (fits.0, refl)
kept_fits root at buffers.Begun octets fits = fits
kept_fits root at buffers.Whole octets fits = fits
kept_fits root at buffers.Key octets fits = fits
kept_fits root None buffers.LongKey octets fits = refl
kept_fits root (Some offset) buffers.LongKey octets fits = (refl, fits.1)

pub restored_fits : (C : Table) (d e : Decoder) → IsRestored d e → Fits C d → Fits C e
restored_fits C d e r h = search (arith, kept_fits)

-- ---- readings

kept_held : (b : Buffer) (octets so_far key : List ℕ) (name : Option (List ℕ)) →
    BufferHolds b octets name so_far key → BufferHolds b (saved_name b octets) name so_far key
kept_held buffers.TooLong octets so_far key name held = (held.0, refl, held.2, held.3)
kept_held buffers.LongKey octets so_far key name held = (held.0, held.1, refl, held.3)
kept_held buffer octets so_far key name held = held

recalls_again : (C : Table) (m n : Notes) (h : Noted) → AreSavedNotes m n → HoldsNoted C true m h →
    HoldsNoted C true n h
recalls_again C m n h kept recalls = search (arith, kept_held)

keeps_noted_again : (C : Table) (root : Root) (d e : Decoder) (r : Read) → IsRestored d e →
    KeepsNoted C root d r → KeepsNoted C root e r
keeps_noted_again C root d e r restored keeps_noted = search (arith, recalls_again)

standing_again : (C : Table) (d e : Decoder) (lines : List ValueAt) (at : ℕ) → IsRestored d e →
    read_by_fields C d lines at ≡ read_by_fields C e lines at
standing_again C d e lines at r = search (arith)

pub restored_reads : (C : Table) (d e : Decoder) (T : Ty) (coding : Coding) (at message : ℕ)
    (root : Root) (s : List ℕ) → IsRestored d e → Reads C T coding at message root d s →
    Reads C T coding at message root e s
restored_reads C d e T coding at message root s r reads = search (
  arith,
  standing_again,
  keeps_noted_again,
)

-- ---- octets

kept_again : (b : Buffer) (name : List ℕ) → saved_name b (saved_name b name) ≡ saved_name b name
kept_again buffers.Begun name = refl
kept_again buffers.Key name = refl
kept_again buffer name = refl

fixed_again : (d e : Decoder) (leaf : Innermost) → IsRestored d e →
    saved_fixed e leaf ≡ saved_fixed d leaf
unfolding saved_fixed
fixed_again d e leaf r = search (arith, kept_again)

-- both decoders are stored in the same octets
pub stored_same : (d e : Decoder) (fixed frames fixed_e frames_e : List ℕ) → IsRestored d e →
    Stored d fixed frames → Stored e fixed_e frames_e → (fixed_e ≡ fixed) × (frames_e ≡ frames)
stored_same d e fixed frames fixed_e frames_e r h k = search (arith, fixed_again)

pub stored_by : (d : Decoder) (fixed frames fixed_d frames_d : List ℕ) → Stored d fixed_d frames_d →
    fixed_d ≡ fixed → frames_d ≡ frames → Stored d fixed frames
stored_by d fixed frames fixed_d frames_d h e f = rw (← e, ← f) h
