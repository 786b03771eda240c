-- A piece of an object key changes nothing but what is noted of keys.
use Rattle.std.proofs.Common.{◌≡◌, Bool, true, false, List, ℕ, refl}
use Rattle.std.specs.Prelude.{cond}
use Rattle.giop_decode.specs.Noted.{Noted, with_key_ended, note_key, with_key_piece}
use Rattle.giop_decode.specs.ReadResult.{Value, Piece}
use Rattle.giop_sig.specs.Types.{Octets, Raw}

-- two notes are the same but for the object key
pub record SameButKey (k h : Noted) : Type 0 where
  pub request_id : k.request_id ≡ h.request_id
  pub status : k.status ≡ h.status
  pub expects_reply : k.expects_reply ≡ h.expects_reply
  pub name : k.name ≡ h.name
  pub so_far : k.so_far ≡ h.so_far

same : (h : Noted) → SameButKey h h
same h = record {
  request_id = refl;
  status = refl;
  expects_reply = refl;
  name = refl;
  so_far = refl;
}

same_piece : (is_key may more : Bool) (h : Noted) (octets : List ℕ) → SameButKey
    (cond is_key
    (cond may (cond more (with_key_piece h octets) (with_key_ended (with_key_piece h octets))) h) h)
    h
same_piece false may more h octets = same h
same_piece true false more h octets = same h
same_piece true true true h octets = record {
  request_id = refl;
  status = refl;
  expects_reply = refl;
  name = refl;
  so_far = refl;
}
same_piece true true false h octets = record {
  request_id = refl;
  status = refl;
  expects_reply = refl;
  name = refl;
  so_far = refl;
}

pub same_but_key : (is_key : Bool) (h : Noted) (value : Value) →
    SameButKey (note_key is_key h value) h
same_but_key is_key h (Piece (Octets (Raw bound)) offset octets more) =
    same_piece is_key _ more h octets
same_but_key is_key h value = same h
