-- A message to which the payload of a Fragment of 1.1 is joined: it follows the same octets, with
-- padding counted by the Fragment from there on.
use Rattle.std.proofs.Common.{◌≡◌, ◌↔◌, IsTrue, ℕ, ◌+◌, ◌-◌, ◌%◌, ◌<◌, ◌≤◌, List, length, refl, sym, ap, ◌∙◌, arith, length-append, lt-ltb, le-ltb}
use Rattle.std.specs.Prelude.{◌==◌}
use Rattle.std.proofs.lemmas.Bool.{eqb-true}
use Rattle.giop_print.specs.declared.path.Root.{Root}
use Rattle.giop_sig.specs.Types.{Ty}
use Rattle.giop_sig.specs.Table.{Table}
use Rattle.giop_decode.specs.declared.decoder.Decoder.{Decoder}
use Rattle.giop_decode.specs.DecoderState as decoders
use Rattle.giop_decode.specs.ReadResult as readings
use Rattle.giop_decode.specs.ReadResult.{Coding}
use Rattle.giop_message.specs.declared.message.Message.{Message as Struct_of}
use Rattle.giop_message.specs.declared.part.Part.{Part}
use Rattle.giop_message.specs.declared.part.Part.TheVariants as parts
use Rattle.giop_message.specs.Phases.{Phase, AgreeBefore, IsShiftedFrom, seamed}
use Rattle.giop_message.specs.Signatures.{Answers, signatures_of}
use Rattle.giop_message.specs.Messages.{with_front, read_message}
use Rattle.giop_message.specs.MessageState.{PartFollows, Follows}
use Rattle.giop_message.proofs.Followings.{counted_now}
use Rattle.giop_message.proofs.Phased.{message_phased, whole_alike}

seam_agrees : (phase : Phase) (here : ℕ) → AgreeBefore here phase (seamed phase here)
seam_agrees phase here at before = rw (lt-ltb at here before) refl

seam_counted : (phase : Phase) (here lacks : ℕ) → lacks ≡ (12 - here % 8) % 8 →
    IsShiftedFrom (seamed phase here) lacks here
seam_counted phase here lacks is k =
    let after : here ≤ here + k = omega arith in
    rw (le-ltb (here + k) here after) (omega (arith, is))

-- an offset lacks nothing exactly if padding there is counted by the offset
pub lacks_nothing : (phase : Phase) (lacks here : ℕ) → lacks < 8 → IsShiftedFrom phase lacks here →
    IsTrue (lacks == 0) ↔ (phase here % 8 ≡ here % 8)
lacks_nothing phase lacks here few counted =
    let now = counted_now phase lacks here counted in (
      λ none. omega (arith, now, eqb-true lacks 0 none),
      λ same. let none : lacks ≡ 0 = omega (arith, few, now, same) in rw none refl,
    )

-- the other decoder reads the same octets, with a seam after them
abbrev pub ReadsSeamed : (C : Table) (d e : Decoder) → Type 0
ReadsSeamed C d e = (T : Ty) (coding : Coding) (at message : ℕ) (root : Root) (octets : List ℕ) →
    decoders.Reads C T coding at message root d octets →
    decoders.Reads C T (readings.fragment_aligned_from coding (at + length octets)) at message root
    e octets

module _ (C : Table) (answers : Answers) (phase : Phase) (number : ℕ) (header s : List ℕ) where
  abbrev Here : ℕ
  Here = 12 + length s

  same_message : read_message (signatures_of C (answers number) (seamed phase Here)) header s
      ≡ read_message (signatures_of C (answers number) phase) header s
  same_message = sym (message_phased C (answers number) phase (seamed phase Here) header s
      (seam_agrees phase Here))

  seam_stands : (d e : Decoder) (p : Part) → ReadsSeamed C d e →
      PartFollows C answers phase number header s d p →
      PartFollows C answers (seamed phase Here) number header s e p
  unfolding signatures_of
  seam_stands d e (parts.Typed section) on h =
      let ends : (12 + length h.front) + length h.octets ≡ Here =
      omega (arith, ap length h.since, length-append h.front h.octets) in
      record {
        T = h.T;
        before = h.before;
        front = h.front;
        octets = h.octets;
        since = h.since;
        is = same_message ∙ (h.is ∙ ap (with_front h.before)
            (whole_alike (signatures_of C (answers number) phase) (seamed phase Here) header Here
            (seam_agrees phase Here) section h.T (12 + length h.front) h.octets ends));
        first = h.first;
        reads = rw ends at (on h.T _ _ _ _ h.octets h.reads);
      }
  seam_stands d e (parts.Padding body_type_id) on h = (h.0, same_message ∙ h.1)
  seam_stands d e (parts.Rest r) on h = (h.0, same_message ∙ h.1)

  pub seam_follows : {m n : Struct_of} → Follows C answers phase number header m s →
      n.number ≡ m.number → n.header ≡ m.header → n.id ≡ m.id → n.at ≡ m.at → n.part ≡ m.part →
      n.lacks ≡ (12 - m.at % 8) % 8 → ReadsSeamed C m.decoder n.decoder →
      Follows C answers (seamed phase Here) number header n s
  seam_follows {m} {n} f same_number same_header id at part lacks on =
      let place : n.at ≡ Here = at ∙ f.at in
      record {
        same_number = same_number ∙ f.same_number;
        same_header = same_header ∙ f.same_header;
        id = rw (id, part, same_message) f.id;
        at = place;
        counted = rw place (seam_counted phase Here n.lacks (rw f.at at lacks));
        stands = rw part (seam_stands m.decoder n.decoder m.part on f.stands);
      }
