-- At which offsets the fields of a stored decoder are.
use Rattle.std.proofs.Common.{◌≡◌, ℕ, ◌+◌, ◌≤◌, List, [], ◌∷◌, ◌++◌, length, drop, refl, ap, ◌∙◌, append_assoc, arith, length-append}
use Rattle.giop_decode.specs.declared.decoder.Decoder.{Decoder}
use Rattle.giop_decode.specs.declared.frame.Frame.{Frame}
use Rattle.giop_decode.specs.declared.leaf.Leaf.{Leaf as Innermost}
use Rattle.giop_decode.specs.declared.leaf.Leaf.TheVariants as innermost
use Rattle.giop_decode.specs.declared.notes.Last.{Last}
use Rattle.giop_decode.specs.declared.notes.Last.TheVariants as lasts
use Rattle.giop_decode.specs.declared.notes.Notes.{Notes}
use Rattle.giop_decode.specs.declared.notes.Buffer.{Buffer}
use Rattle.giop_decode.specs.declared.notes.Buffer.TheVariants as buffers
use Rattle.giop_decode.specs.Stored.{saved_forbids_wide, saved_order, saved_root, saved_leaf, saved_buffer, saved_last, saved_expects_reply, saved_name, saved_name_octets, saved_notes, saved_fixed, frame_size, saved_frame, HasRange}
use Rattle.giop_octets.specs.Fields.{four, eight, optional, held}
use Rattle.giop_octets.proofs.FieldLaws.{eight_long, optional_long, held_long, behind}

-- the octets of a field are at this offset
abbrev pub FieldIsAt : (at : ℕ) (octets field : List ℕ) → Type 0
FieldIsAt at octets field = (rest : List ℕ) × (drop at octets ≡ field ++ rest)

pub leaf_long : (leaf : Innermost) → length (saved_leaf leaf) ≡ 13
unfolding four
leaf_long (innermost.Number of) = refl
leaf_long leaf = refl

last_long : (last : Last) → length (saved_last last) ≡ 5
unfolding four
last_long lasts.Nothing = refl
last_long last = refl

pub frame_long : (f : Frame) → length (saved_frame f) ≡ frame_size
unfolding four
frame_long f = refl

pub kept_short : (b : Buffer) (name : List ℕ) → length name ≤ 128 → length (saved_name b name) ≤ 128
kept_short buffers.TooLong name few = omega arith
kept_short buffers.LongKey name few = omega arith
kept_short buffer name few = few

pub record NotesAreAt (m : Notes) (at : ℕ) (octets : List ℕ) : Type 0 where
  pub request_id : FieldIsAt at octets (optional m.request_id)
  pub last : FieldIsAt (at + 5) octets (saved_last m.last)
  pub buffer : FieldIsAt (at + 10) octets (saved_buffer m.buffer ∷ [])
  pub name : FieldIsAt (at + 11) octets (saved_name_octets m)
  pub expects_reply : FieldIsAt (at + 140) octets (saved_expects_reply m.expects_reply ∷ [])

-- the same offset, counted from an earlier one
pub further : (at a b c : ℕ) (octets xs : List ℕ) → a + b ≡ c → drop (at + a + b) octets ≡ xs →
    drop (at + c) octets ≡ xs
further at a b c octets xs e is = search (arith, drop)

pub three : (a b c d : List ℕ) → (a ++ b ++ c) ++ d ≡ a ++ (b ++ (c ++ d))
three a b c d = simp append_assoc

four_behind : (a b c d e : List ℕ) → (a ++ b ++ c ++ d) ++ e ≡ a ++ (b ++ (c ++ (d ++ e)))
four_behind a b c d e = simp append_assoc

pub memory_stands : (m : Notes) (at : ℕ) (octets rest : List ℕ) → length m.name.items ≤ 128 →
    drop at octets ≡ saved_notes m ++ rest → NotesAreAt m at octets
memory_stands m at octets rest short is =
    let behind_name : List ℕ = saved_expects_reply m.expects_reply ∷ rest in
    let id : drop at octets ≡ optional m.request_id
    ++ (saved_last m.last ++ ((saved_buffer m.buffer ∷ saved_name_octets m) ++ behind_name)) = is
    ∙ four_behind (optional m.request_id) (saved_last m.last)
    (saved_buffer m.buffer ∷ saved_name_octets m) (saved_expects_reply m.expects_reply ∷ []) rest in
    let last : drop (at + 5) octets ≡ saved_last m.last
    ++ ((saved_buffer m.buffer ∷ saved_name_octets m) ++ behind_name) =
    behind at 5 octets _ _ id (optional_long m.request_id) in
    let buffer : drop (at + 10) octets ≡ (saved_buffer m.buffer ∷ [])
    ++ (saved_name_octets m ++ behind_name) =
    further at 5 5 10 octets _ refl (behind (at + 5) 5 octets _ _ last (last_long m.last))
    in
    let name : drop (at + 11) octets ≡ saved_name_octets m ++ behind_name =
    further at 10 1 11 octets _ refl
    (behind (at + 10) 1 octets (saved_buffer m.buffer ∷ []) _ buffer refl) in
    let expects : drop (at + 140) octets ≡ (saved_expects_reply m.expects_reply ∷ []) ++ rest =
    further at 11 129 140 octets _ refl
    (behind (at + 11) 129 octets (saved_name_octets m) _ name
    (held_long 128 (saved_name m.buffer m.name.items) (kept_short m.buffer m.name.items short)))
    in
    record {
      request_id = (_, id);
      last = (_, last);
      buffer = (_, buffer);
      name = (_, name);
      expects_reply = (_, expects);
    }

notes_long : (m : Notes) → length m.name.items ≤ 128 → length (saved_notes m) ≡ 141
notes_long m short =
    let id : List ℕ = optional m.request_id in
    let last : List ℕ = saved_last m.last in
    let name : List ℕ = saved_buffer m.buffer ∷ saved_name_octets m in
    let end : List ℕ = saved_expects_reply m.expects_reply ∷ [] in
    omega (
      arith,
      length-append (id ++ last ++ name) end,
      length-append (id ++ last) name,
      length-append id last,
      optional_long m.request_id,
      last_long m.last,
      held_long 128 (saved_name m.buffer m.name.items) (kept_short m.buffer m.name.items short),
    )

pub record FieldsAreAt (d : Decoder) (inner : Innermost) (fixed : List ℕ) : Type 0 where
  pub order : FieldIsAt 0 fixed (saved_order d.order ∷ [])
  pub root : FieldIsAt 1 fixed (saved_root d.head.root ∷ [])
  pub message : FieldIsAt 2 fixed (eight d.head.message)
  pub at : FieldIsAt 10 fixed (d.at ∷ [])
  pub leaf : FieldIsAt 11 fixed (saved_leaf inner)
  pub carry : FieldIsAt 24 fixed (held 8 d.carry)
  pub piece : FieldIsAt 33 fixed (held 32 d.piece.items)
  pub notes : FieldIsAt 66 fixed (saved_notes d.notes)
  pub forbids_wide : FieldIsAt 207 fixed (saved_forbids_wide d.forbids_wide ∷ [])

six : (a b c d e f : List ℕ) → a ++ b ++ c ++ d ++ e ++ f ≡ a ++ (b ++ (c ++ (d ++ (e ++ f))))
six a b c d e f = simp append_assoc

pub fields_stand : (d : Decoder) (leaf : Innermost) (fixed : List ℕ) → fixed ≡ saved_fixed d leaf →
    HasRange d → FieldsAreAt d leaf fixed
unfolding saved_fixed
fields_stand d leaf fixed is range =
    let last : List ℕ = saved_forbids_wide d.forbids_wide ∷ [] in
    let memory_on : List ℕ = saved_notes d.notes ++ last in
    let piece_on : List ℕ = held 32 d.piece.items ++ memory_on in
    let carry_on : List ℕ = held 8 d.carry ++ piece_on in
    let message : drop 2 fixed ≡ eight d.head.message ++ ((d.at ∷ saved_leaf leaf) ++ carry_on) =
    ap (drop 2) is ∙ six (eight d.head.message) (d.at ∷ saved_leaf leaf) (held 8 d.carry)
    (held 32 d.piece.items) (saved_notes d.notes) last in
    let at : drop 10 fixed ≡ (d.at ∷ []) ++ (saved_leaf leaf ++ carry_on) =
    behind 2 8 fixed _ _ message (eight_long d.head.message) in
    let inner : drop 11 fixed ≡ saved_leaf leaf ++ carry_on =
    behind 10 1 fixed (d.at ∷ []) _ at refl in
    let carry : drop 24 fixed ≡ held 8 d.carry ++ piece_on =
    behind 11 13 fixed _ _ inner (leaf_long leaf) in
    let piece : drop 33 fixed ≡ held 32 d.piece.items ++ memory_on =
    behind 24 9 fixed (held 8 d.carry) _ carry (held_long 8 d.carry range.carry) in
    let notes : drop 66 fixed ≡ saved_notes d.notes ++ last =
    behind 33 33 fixed (held 32 d.piece.items) _ piece
    (held_long 32 d.piece.items range.piece) in
    let forbids_wide : drop 207 fixed ≡ (saved_forbids_wide d.forbids_wide ∷ []) ++ [] =
    behind 66 141 fixed (saved_notes d.notes) _ notes (notes_long d.notes range.notes.name) in
    record {
      order = (_, is);
      root = (_, ap (drop 1) is);
      message = (_, message);
      at = (_, at);
      leaf = (_, inner);
      carry = (_, carry);
      piece = (_, piece);
      notes = (_, notes);
      forbids_wide = (_, forbids_wide);
    }

-- the octets after all fields were written, one after the other
pub fields_written : (d : Decoder) (leaf : Innermost) (carry piece o0 o1 o2 o3 o4 o5 o6 o7 o8
    o9 : List ℕ) → carry ≡ d.carry → piece ≡ d.piece.items → o0 ≡ [] →
    o1 ≡ o0 ++ saved_order d.order ∷ [] → o2 ≡ o1 ++ saved_root d.head.root ∷ [] →
    o3 ≡ o2 ++ eight d.head.message → o4 ≡ o3 ++ d.at ∷ [] → o5 ≡ o4 ++ saved_leaf leaf →
    o6 ≡ o5 ++ held 8 carry → o7 ≡ o6 ++ held 32 piece → o8 ≡ o7 ++ saved_notes d.notes →
    o9 ≡ o8 ++ saved_forbids_wide d.forbids_wide ∷ [] → o9 ≡ saved_fixed d leaf
unfolding saved_fixed
fields_written d leaf carry piece o0 o1 o2 o3 o4 o5 o6 o7 o8 o9 a b e0 e1 e2 e3 e4 e5 e6 e7 e8 e9 =
    search (arith, append_assoc)

-- the octets after all fields of a frame were put, one after the other
pub put_together : (o a b c z : List ℕ) (i t : ℕ) →
    (((((o ++ a) ++ b) ++ c) ++ i ∷ []) ++ t ∷ []) ++ z ≡ o ++ (a ++ b ++ c ++ i ∷ t ∷ z)
put_together o a b c z i t = simp append_assoc
