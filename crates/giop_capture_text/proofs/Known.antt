-- What is known of a reader at its end, of a writer with an empty buffer, and of a dump at every
-- port.
use Rattle.std.proofs.Common.{◌≡◌, ℕ, Bool, List, [], ◌++◌, length, Option, Some, None, ◌⊎◌, inl, inr, append_assoc, append-nil, sym, ap, subst, ◌∙◌}
use Rattle.std.specs.Io.KnownBytes.{Consumes, IsAtEnd, append_known}
use Rattle.capture_file.specs.Reading.{packets}
use Rattle.tcp_connections.specs.Connections.{none_known}
use Rattle.giop_conversation.specs.Followed.{stream_reader}
use Rattle.giop_capture.specs.Arrivals.{capture_ended}
use Rattle.giop_capture.specs.Text.{HasText}
use Rattle.giop_capture_text.specs.Dumps.{plain_setup}

-- of known octets, these were read; either nothing is left of them, or there is another reason to
-- stop
pub record Front (X : Type 0) (all read : List ℕ) : Type 0 where
  pub rest : List ℕ
  pub parts : all ≡ read ++ rest
  pub over : (rest ≡ []) ⊎ X

front_by : {X : Type 0} (after : Option (List ℕ)) (all given read rest : List ℕ) →
    Consumes (Some all) after given
    → given ≡ read ++ rest → (IsAtEnd after × (rest ≡ [])) ⊎ X → Front X all read
front_by None all given read rest consumed parts over = absurd consumed
front_by (Some left) all given read rest consumed parts (inl over) = record {
  rest = rest ++ left;
  parts = consumed ∙ ap (λ xs. xs ++ left) parts ∙ append_assoc read rest left;
  over = inl (rw over.1 over.0);
}
front_by (Some left) all given read rest consumed parts (inr x) = record {
  rest = rest ++ left;
  parts = consumed ∙ ap (λ xs. xs ++ left) parts ∙ append_assoc read rest left;
  over = inr x;
}

pub front : {X : Type 0} (before after : Option (List ℕ)) (all given read rest : List ℕ) →
    before ≡ Some all
    → Consumes before after given → given ≡ read ++ rest → (IsAtEnd after × (rest ≡ [])) ⊎ X →
    Front X all read
front before after all given read rest known consumed parts over =
    front_by after all given read rest (subst (λ b. Consumes b after given) known consumed) parts
    over

-- if the buffer of a writer is empty, the writer has all octets that were put
pub held : (put : Option (List ℕ)) (items kept text : List ℕ) → put ≡ Some text
    → append_known (Some items) kept ≡ put → kept ≡ [] → Some items ≡ Some text
held put items kept text known seen none =
    ap Some (sym (append-nil items)) ∙ subst (λ k. append_known (Some items) k ≡ put) none seen
    ∙ known

-- the text of a capture, if streams begin at these ports
abbrev pub TextAt : (ports read : List ℕ) (faulty : Bool) (put : Option (List ℕ)) → Type 0
TextAt ports read faulty put =
    HasText plain_setup [] (capture_ended stream_reader (none_known ports 16384 1024 [])
    read).events
    (length (packets read)) (length read) faulty put

pub at_every_port : (ports read : List ℕ) (faulty : Bool) (put : Option (List ℕ)) → ports ≡ [] →
    TextAt ports read faulty put
    → TextAt [] read faulty put
at_every_port ports read faulty put none h = subst (λ it. TextAt it read faulty put) none h
