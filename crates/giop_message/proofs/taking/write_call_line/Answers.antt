use Rattle.std.proofs.Common.{◌≡◌, true, sym, ◌∙◌, ℕ, Bool, false, List, [], Option, Some, None, refl}
use Rattle.giop_print.proofs.Writing.{wrote-nil}
use Rattle.giop_decode.specs.Noted.{noted_of, Noted}
use Rattle.giop_print.specs.declared.path.Root.TheVariants as roots
use Rattle.giop_message.specs.Phases.{Phase}
use Rattle.giop_message.specs.Headers.{kind}
use Rattle.giop_message.proofs.taking.write_call_line.Goals as goal
use Rattle.std.specs.Prelude.{if◌then◌else◌}
use Rattle.std.proofs.lemmas.Bool.{ne_eqb}
use Rattle.std.specs.Option.{option_map}
use Rattle.giop_sig.specs.declared.types.InterfaceId.{InterfaceId}
use Rattle.giop_sig.specs.Table.{Table, interface_name}
use Rattle.giop_decode.specs.DecoderState.{interface_of_key}
use Rattle.giop_message.specs.Signatures.{Answer, Signatures, signatures_of}
use Rattle.giop_message.specs.Messages.{is_request, is_graphic_name}
use Rattle.giop_message.specs.MessageSteps.{call_line_if_shown, call_line_of_request, call_line_with}

no_request : (S : Signatures) (number : ℕ) (header : List ℕ) (h : Noted) →
    (kind header ≡ 0 → ⊥) → call_line_of_request S number header h ≡ []
unfolding call_line_of_request is_request
no_request S number header h other = rw (ne_eqb (kind header) 0 other) refl

no_id : (S : Signatures) (number : ℕ) (header : List ℕ) (h : Noted) → h.request_id ≡ None →
    call_line_of_request S number header h ≡ []
unfolding call_line_of_request call_line_if_shown
no_id S number header h e = go (is_request header)
  where
    go : (test : Bool) →
        (if test then call_line_if_shown number h.request_id h.name (S.interface h.key) else [])
        ≡ []
    go true = rw e refl
    go false = refl

no_name : (S : Signatures) (number : ℕ) (header : List ℕ) (h : Noted) → h.name ≡ None →
    call_line_of_request S number header h ≡ []
unfolding call_line_of_request call_line_if_shown
no_name S number header h e = rw e (go (is_request header) h.request_id)
  where
    go : (test : Bool) (id : Option ℕ) →
        (if test then call_line_if_shown number id None (S.interface h.key) else []) ≡ []
    go true None = refl
    go true (Some id) = refl
    go false id = refl

request_called : (S : Signatures) (number : ℕ) (header : List ℕ) (h : Noted) (id : ℕ)
    (name : List ℕ) → kind header ≡ 0 → h.request_id ≡ Some id → h.name ≡ Some name →
    call_line_of_request S number header h
    ≡ (if is_graphic_name name then call_line_with number id name (S.interface h.key) else [])
unfolding call_line_of_request is_request call_line_if_shown
request_called S number header h id name is e f = rw (is, e, f) refl

-- the call names the interface that the table gives for the object key
interface_called : (C : Table) (answer : Answer) (phase : Phase) (number : ℕ) (header : List ℕ)
    (h : Noted) (id : ℕ) (name : List ℕ) (shown : Bool) (interface : Option InterfaceId) →
    kind header ≡ 0 → h.request_id ≡ Some id → h.name ≡ Some name → shown ≡ is_graphic_name name →
    interface ≡ interface_of_key C h.key →
    call_line_of_request (signatures_of C answer phase) number header h ≡ (if shown then
    call_line_with number id name (option_map (λ i. interface_name C i.0) interface) else [])
unfolding signatures_of
interface_called C answer phase number header h id name shown interface is e f test same =
    rw (test, same) (request_called (signatures_of C answer phase) number header h id name is e f)

pub returns-then-kind_of-ne0 : goal.returns-then-kind_of-ne0
returns-then-kind_of-ne0 g c answer phase r keeps_noted =
    rw (no_request (signatures_of c.args.catalogue.now answer phase) c.args.number c.args.header.now
    (noted_of true r) (λ e. c.if-kind_of-ne0.true (c.kind_of.ensures ∙ e))) (wrote-nil _)

pub returns-in_default : goal.returns-in_default
returns-in_default g c answer phase r keeps_noted =
    let C = c.args.catalogue.now in
    rw (no_id (signatures_of C answer phase) c.args.number c.args.header.now (noted_of true r)
    (sym (c.in_default.ensures C roots.Header r keeps_noted))) (wrote-nil _)

pub returns-in_default-name : goal.returns-in_default-name
returns-in_default-name g c answer phase r keeps_noted =
    let C = c.args.catalogue.now in
    rw (no_name (signatures_of C answer phase) c.args.number c.args.header.now (noted_of true r)
    (sym (c.in_default-name.ensures C roots.Header r keeps_noted))) (wrote-nil _)

pub returns-then-not-is_graphic_name : goal.returns-then-not-is_graphic_name
returns-then-not-is_graphic_name g c answer phase r keeps_noted =
    let C = c.args.catalogue.now in
    rw (
      interface_called C answer phase c.args.number c.args.header.now (noted_of true r) c.in-Some.id
          c.in-Some-name.operation.now c.is_graphic_name.result _
          (sym c.kind_of.ensures ∙ c.if-kind_of-ne0.false)
          (sym (c.in-Some.ensures C roots.Header r keeps_noted))
          (sym (c.in-Some-name.ensures C roots.Header r keeps_noted)) c.is_graphic_name.ensures
          refl,
      c.if-not-is_graphic_name.true,
    ) (wrote-nil _)

pub returns-in-None : goal.returns-in-None
returns-in-None g c answer phase r keeps_noted =
    let C = c.args.catalogue.now in
    let same = rw c.in-None.is at (c.interface.ensures.is roots.Header r keeps_noted) in
    rw (
      interface_called C answer phase c.args.number c.args.header.now (noted_of true r) c.in-Some.id
          c.in-Some-name.operation.now c.is_graphic_name.result None
          (sym c.kind_of.ensures ∙ c.if-kind_of-ne0.false)
          (sym (c.in-Some.ensures C roots.Header r keeps_noted))
          (sym (c.in-Some-name.ensures C roots.Header r keeps_noted)) c.is_graphic_name.ensures
          same,
      c.if-not-is_graphic_name.false,
    ) c.call_line.ensures

pub returns-in-Some-interface : goal.returns-in-Some-interface
returns-in-Some-interface g c answer phase r keeps_noted =
    let C = c.args.catalogue.now in
    let interface = c.in-Some-interface.interface in
    let same = rw c.in-Some-interface.is at (c.interface.ensures.is roots.Header r keeps_noted) in
    rw (
      interface_called C answer phase c.args.number c.args.header.now (noted_of true r) c.in-Some.id
          c.in-Some-name.operation.now c.is_graphic_name.result (Some interface)
          (sym c.kind_of.ensures ∙ c.if-kind_of-ne0.false)
          (sym (c.in-Some.ensures C roots.Header r keeps_noted))
          (sym (c.in-Some-name.ensures C roots.Header r keeps_noted)) c.is_graphic_name.ensures
          same,
      c.if-not-is_graphic_name.false,
      ← c.interface_name.ensures.is,
    ) c.interface_call_line.ensures
