-- If the name buffer has only what it can have, so it does after each octet.
use Rattle.std.proofs.Common.{◌<◌, ◌∷◌, ◌≡◌, ℕ, ◌≤◌, ◌&&◌, Bool, true, false, List, [], length, Option, Some, None, lit<, refl, sym, ◌∙◌, arith, length-append}
use Rattle.std.specs.Prelude.{cond, replicate, codes}
use Rattle.std.proofs.lemmas.List.{length-replicate}
use Rattle.giop_decode.specs.declared.leaf.Transition.{Transition}
use Rattle.giop_decode.specs.declared.leaf.Transition.TheVariants as transitions
use Rattle.giop_decode.specs.declared.leaf.Output.{Output}
use Rattle.giop_decode.specs.declared.leaf.Output.TheVariants as outputs
use Rattle.giop_decode.specs.declared.notes.Buffer.{Buffer}
use Rattle.giop_decode.specs.declared.notes.Buffer.TheVariants as buffers
use Rattle.giop_decode.specs.declared.notes.Notes.{Notes}
use Rattle.giop_decode.specs.SeenState.{NotesFitRoot, HoldsNoKey, HoldsNoted, BufferHolds, key_octets_held, status_of}
use Rattle.giop_decode.specs.DecoderSteps.{IsNotRefused}
use Rattle.giop_decode.specs.NameBuffer.{NameBufferFits, IsNotedCount}
use Rattle.giop_decode.specs.Noted.{Noted, expects_after, note_key, note_value, note_lines, nothing_noted, with_expects, without_name_if, is_key_path, is_member}
use Rattle.giop_decode.specs.NotingSteps.{OffsetMoves, StringGoesOn, clears_name, transition_offset}
use Rattle.giop_decode.specs.ReadResult.{PathSegment, ValueAt, Value, Number, Piece}
use Rattle.giop_decode.specs.Transitions.{IsOutput}
use Rattle.giop_decode.proofs.NotedKeys.{same_but_key}
use Rattle.giop_print.specs.declared.path.Root.{Root}
use Rattle.giop_print.specs.declared.path.Root.TheVariants as roots
use Rattle.giop_sig.specs.Table.{Table, has_keys}
use Rattle.giop_sig.specs.Types.{Scalar, Plain, Enum, Ty, Text, Marked}

-- ---- the buffer and what it stands for

-- what is noted of a name if no piece of a string is under way, or if one is that begins at this
-- offset
abbrev AreNoted : (root : Root) (offset : Option ℕ) (name : Option (List ℕ)) (so_far : List ℕ) →
    Type 0
AreNoted root None name so_far = so_far ≡ []
AreNoted root (Some offset) name so_far = (name ≡ None) × IsNotedCount root offset (length so_far)

record BufferStands (C : Table) (root : Root) (at : Option ℕ) (buffer : Buffer) (octets : List ℕ)
    : Type 0 where
  name : Option (List ℕ)
  so_far : List ℕ
  key_so_far : List ℕ
  held : BufferHolds buffer octets name so_far (key_octets_held C key_so_far)
  noted : AreNoted root at name so_far

all_noted : (root : Root) (offset : ℕ) → IsNotedCount root offset offset
all_noted roots.Body offset = omega arith
all_noted root offset = refl

-- if the table has KEYs, all octets of a key are held
all_held : (C : Table) (octets : List ℕ) → has_keys C ≡ true → key_octets_held C octets ≡ octets
all_held C [] has = refl
all_held C (x ∷ octets) has = rw has refl

-- no octets of a key are held, or the table has KEYs
abbrev MayHold : Table → Buffer → Type 0
MayHold C buffer = has_keys C ≡ false → HoldsNoKey buffer

keys_by : (C : Table) (b : Bool) → has_keys C ≡ b → (has_keys C ≡ false → ⊥) → has_keys C ≡ true
keys_by C true is some = is
keys_by C false is some = absurd (some is)

long_held : (C : Table) → MayHold C buffers.LongKey →
    128 < length (key_octets_held C (replicate 129 0))
long_held C may = rw (all_held C (replicate 129 0) (keys_by C (has_keys C) refl may)) (lit< tt)

stands : (C : Table) (root : Root) (at : Option ℕ) (buffer : Buffer) (octets : List ℕ) →
    MayHold C buffer → NameBufferFits root at buffer octets → BufferStands C root at buffer octets
stands C root None buffers.Begun octets may fits = search (arith)
stands C root None buffers.Whole octets may fits = search (arith)
stands C root None buffers.TooLong octets may fits = absurd fits
stands C root (Some offset) buffers.Begun octets may fits = search (arith)
stands C root (Some offset) buffers.Whole octets may fits = absurd fits
stands C root (Some offset) buffers.TooLong octets may fits =
    let zero : ℕ = 0 in
    let size : length (replicate offset zero) ≡ offset = length-replicate offset zero in
    record {
      name = None;
      so_far = replicate offset zero;
      key_so_far = [];
      held = (refl, fits.1, rw size fits.0, refl);
      noted = (refl, rw size (all_noted root offset));
    }
stands C root None buffers.Key octets may fits =
    record {
      name = None;
      so_far = [];
      key_so_far = octets;
      held = (refl, refl, fits, all_held C octets (keys_by C (has_keys C) refl may));
      noted = refl;
    }
stands C root (Some offset) buffers.Key octets may fits =
    record {
      name = None;
      so_far = [];
      key_so_far = octets;
      held = (refl, refl, fits.0, all_held C octets (keys_by C (has_keys C) refl may));
      noted = (refl, fits.1);
    }
stands C root None buffers.LongKey octets may fits =
    record {
      name = None;
      so_far = [];
      key_so_far = replicate 129 0;
      held = (refl, refl, fits, long_held C may);
      noted = refl;
    }
stands C root (Some offset) buffers.LongKey octets may fits =
    record {
      name = None;
      so_far = [];
      key_so_far = replicate 129 0;
      held = (refl, refl, fits.0, long_held C may);
      noted = (refl, fits.1);
    }

most_noted : (root : Root) (offset n : ℕ) → IsNotedCount root offset n → n ≤ offset
most_noted roots.Body offset n h = h
most_noted root offset n h = omega (arith, h)

fits_name : (root : Root) (at : Option ℕ) (buffer : Buffer) (octets so_far key : List ℕ)
    (name : Option (List ℕ)) → BufferHolds buffer octets name so_far key →
    AreNoted root at name so_far → NameBufferFits root at buffer octets
fits_name root None buffers.Begun octets so_far key name held is = sym held.1 ∙ is
fits_name root None buffers.Whole octets so_far key name held is = tt
fits_name root None buffers.TooLong octets so_far key name held is = search (arith)
fits_name root (Some offset) buffers.Begun octets so_far key name held is = search (arith)
fits_name root (Some offset) buffers.Whole octets so_far key name held is = search (arith)
fits_name root (Some offset) buffers.TooLong octets so_far key name held is = search (
  arith,
  most_noted,
)
fits_name root None buffers.Key octets so_far key name held is = held.2
fits_name root (Some offset) buffers.Key octets so_far key name held is =
    (held.2, rw held.1 at is.1)
fits_name root None buffers.LongKey octets so_far key name held is = held.2
fits_name root (Some offset) buffers.LongKey octets so_far key name held is =
    (held.2, rw held.1 at is.1)

-- ---- one octet

number_noted : (is_id : Bool) (h : Noted) (scalar : Scalar) (n : ℕ) →
    (note_value is_id h (Number scalar n)).so_far ≡ h.so_far
number_noted is_id h (Plain p) n = search (arith)
number_noted is_id h (Enum count names) n = refl
number_noted is_id h (Marked mark) n = refl

piece_more : (is_id : Bool) (root : Root) (T : Ty) (was next : Option ℕ) (offset at : ℕ)
    (piece : List ℕ) (h : Noted) →
    OffsetMoves T was next (outputs.Piece offset true) (length piece) →
    AreNoted root was h.name h.so_far →
    (let k = note_value is_id h (Piece T offset piece true) in AreNoted root next k.name k.so_far)
piece_more is_id root (Text bound) was next offset at piece h moves is = search (
  arith,
  length-append,
)
piece_more is_id root _ was next offset at piece h moves is = rw moves.1 (rw moves.0 at is)

piece_last : (is_id : Bool) (root : Root) (T : Ty) (was next : Option ℕ) (offset : ℕ)
    (piece : List ℕ) (h : Noted) →
    OffsetMoves T was next (outputs.Piece offset false) (length piece) →
    AreNoted root was h.name h.so_far →
    (let k = note_value is_id h (Piece T offset piece false) in AreNoted root next k.name k.so_far)
piece_last is_id root (Text bound) was next offset piece h moves is = rw moves.1 refl
piece_last is_id root _ was next offset piece h moves is = rw moves.1 (rw moves.0 at is)

moves_on : (T : Ty) (was : Option ℕ) (transition : Transition) (output : Output) (n : ℕ) →
    IsNotRefused transition → StringGoesOn T was transition output n →
    OffsetMoves T was (transition_offset T transition) output n
moves_on T was (transitions.Refused kind) output n going h = absurd going
moves_on T was (transitions.More leaf) output n going h = h
moves_on T was _ output n going h = h

-- an object key doesn't change what is noted of strings
key_quiet : (root : Root) (next : Option ℕ) (is_key : Bool) (k : Noted) (expects : Option Bool)
    (value : Value) → AreNoted root next k.name k.so_far →
    (let h = note_key is_key (with_expects k expects) value in AreNoted root next h.name h.so_far)
key_quiet root next is_key k expects value is =
    let same = same_but_key is_key (with_expects k expects) value in
    rw (same.name, same.so_far) is

-- after the line of an octet, what is noted of a name agrees with the string that goes on then
output_noted : (header : Bool) (root : Root) (T : Ty) (was next : Option ℕ) (output : Output)
    (path : List PathSegment) (at : ℕ) (piece : List ℕ) (lines : List ValueAt) (h : Noted) →
    OffsetMoves T was next output (length piece) → IsOutput T path at output piece lines →
    AreNoted root was h.name h.so_far →
    (let k = without_name_if (clears_name output) (note_lines header h lines) in
    AreNoted root next k.name k.so_far)
output_noted header root T was next outputs.Nothing path at piece lines h moves says is =
    rw (says, moves) is
output_noted header root T was next outputs.Length path at piece lines h moves says is = search
    (arith, all_noted)
output_noted header root T was next (outputs.Number number) path at piece lines h moves says is =
    search (arith, number_noted)
output_noted header root T was next (outputs.Switch number) path at piece lines h moves says is =
    search (arith, number_noted)
output_noted header root T was next (outputs.Piece offset true) path at piece lines h moves says
    is =
    rw says (key_quiet root next (header && is_key_path path)
    (note_value (header && is_member (codes "request_id") path) h (Piece T offset piece true))
    (expects_after header path (Piece T offset piece true) h.expects_reply)
    (Piece T offset piece true)
    (piece_more (header && is_member (codes "request_id") path) root T was next offset at piece h
    moves is))
output_noted header root T was next (outputs.Piece offset false) path at piece lines h moves says
    is =
    rw says (key_quiet root next (header && is_key_path path)
    (note_value (header && is_member (codes "request_id") path) h (Piece T offset piece false))
    (expects_after header path (Piece T offset piece false) h.expects_reply)
    (Piece T offset piece false)
    (piece_last (header && is_member (codes "request_id") path) root T was next offset piece h
    moves is))
output_noted header root T was next output path at piece lines h moves says is = search (arith)

-- If the name buffer has what it can have, so it does after one more octet.
pub name_kept : (C : Table) (header : Bool) (root : Root) (T : Ty) (was next : Option ℕ)
    (transition : Transition) (output : Output) (path : List PathSegment) (at : ℕ) (piece : List ℕ)
    (lines : List ValueAt) (old new : Notes) →
    IsNotRefused transition → StringGoesOn T was transition output (length piece) →
    next ≡ transition_offset T transition →
    IsOutput T path at output piece lines → MayHold C old.buffer →
    NameBufferFits root was old.buffer old.name.items →
    ((h : Noted) → HoldsNoted C false old h → HoldsNoted C false new
    (without_name_if (clears_name output) (note_lines header h lines))) →
    NameBufferFits root next new.buffer new.name.items
name_kept C header root T was next transition output path at piece lines old new going moves leads
    says may fits notes =
    let s = stands C root was old.buffer old.name.items may fits in
    let h : Noted = record {
      request_id = old.request_id;
      status = status_of old.last;
      expects_reply = old.expects_reply;
      name = s.name;
      so_far = s.so_far;
      key = None;
      key_so_far = s.key_so_far;
    } in
    let k = without_name_if (clears_name output) (note_lines header h lines) in
    let held = notes h (record {
      request_id = refl;
      status = refl;
      interface = tt;
      expects_reply = refl;
      name = s.held;
    }) in
    rw leads (fits_name root (transition_offset T transition) new.buffer new.name.items k.so_far
    (key_octets_held C k.key_so_far) k.name held.name
    (output_noted header root T was (transition_offset T transition) output path at piece lines h
    (moves_on T was transition output (length piece) going moves) says s.noted))

-- before the first octet the name buffer has what it can have
pub nothing_fits : (C : Table) (root : Root) (m : Notes) → HoldsNoted C true m nothing_noted →
    NameBufferFits root None m.buffer m.name.items
nothing_fits C root m held = search (arith, fits_name)

pub nothing_of_root : (C : Table) (root : Root) (m : Notes) → HoldsNoted C true m nothing_noted →
    HoldsNoKey m.buffer → NotesFitRoot C root m
nothing_of_root C root m held none =
    record {
      id = λ body. held.request_id;
      no_interface = λ body. held.interface;
      no_key = λ body. none;
      keyless = λ keys. none;
      interface = rw held.interface tt;
    }

pub none_either : (b : Bool) (o : Option ℕ) → cond b None (cond b o None) ≡ None
none_either true o = refl
none_either false o = refl
