-- What `save` writes: the fixed part, and then an entry for each open message and for the current
-- one.
use Rattle.std.proofs.Common.{◌≡◌, Bool, true, false, nat_le, cond, ℕ, zero, suc, ◌+◌, ◌<◌, ◌≤◌, get_or, List, [], ◌∷◌, ◌++◌, length, take, flat_map, replicate, Option, Some, None, Result, Ok, Err, IsErr, refl, sym, ap, subst, ◌∙◌, append_assoc, append-nil, arith}
use Rattle.std.specs.List.{AllByRecursion as Each}
use Rattle.std.proofs.lemmas.List.{take_all}
use Rattle.std.proofs.lemmas.Grind.{take_at_read}
use Rattle.giop_message.specs.declared.message.Message.{Message}
use Rattle.giop_checkpoint.specs.declared.record.Record.{Record}
use Rattle.giop_checkpoint.specs.Records.{StoredRecord, RecordHasRange, own_octets, stored_record_octets}
use Rattle.giop_checkpoint.proofs.Puts.{then}
use Rattle.giop_sig.specs.Table.{Table}
use Rattle.giop_message.specs.MessageState.{Fits}
use Rattle.giop_message.specs.Signatures.{RequestTable}
use Rattle.giop_checkpoint.specs.Layouts.{layout_of, reads_layout}
use Rattle.giop_checkpoint.specs.declared.layout.Layout.TheVariants.{Third, Latest}
use Rattle.giop_checkpoint.specs.Fixed.{fixed_octets}
use Rattle.giop_stream.specs.SlotsRepresent.{OpenEntry, current_of}
use Rattle.giop_stream.specs.SlotsRepresent.{IsReady}
use Rattle.std.specs.Result.{IfOk}
use Rattle.std.proofs.lemmas.Bool.{false≢true}
use Rattle.giop_print.specs.declared.sink.OutFault.{OutFault}
use Rattle.giop_print.specs.Output.{OutLog, WroteFront}
use Rattle.giop_print.proofs.Writing.{wrote-nil, wrote-front, front-append}
use Rattle.giop_stream.specs.declared.fault.Stop.{Stop}
use Rattle.giop_stream.specs.EngineHolds.{Holds, StopWrites}
use Rattle.giop_stream.specs.EngineView.{FramingView, EngineView}
use Rattle.giop_checkpoint.specs.declared.record.RecordKind.TheVariants as record_kinds
use Rattle.giop_stream.proofs.Restored.LoadRanges.{few_slots}
use Rattle.giop_stream.proofs.Restored.SavedSizes.{HasRoom, whole_long, whole_within}
use Rattle.giop_stream.specs.Checkpoint.{counts_of, open_kind, over_kind, open_record_kind, StoresOrZeros, IsOpen, IsMessageRecord, IsCurrent, IsPutOne, IsPut, AreOpen, AreEntries, fixed_of, checkpoint_octets, IsPutWhole, Puts, PutsSuch, Spells, Saves}

pub flat_append : (xs ys : List StoredRecord) → flat_map stored_record_octets (xs ++ ys)
    ≡ flat_map stored_record_octets xs
    ++ flat_map stored_record_octets ys
flat_append [] ys = refl
flat_append (x ∷ xs) ys = search (arith, append_assoc, flat_map, flat_append xs ys)

pub flat_one : (e : StoredRecord) → flat_map stored_record_octets (e ∷ []) ≡ stored_record_octets e
flat_one e = append-nil (stored_record_octets e)

-- the entries, after one more open message
pub entries_push : (slots : List OpenEntry) (slot : OpenEntry) (es : List StoredRecord)
    (e : StoredRecord) →
    AreOpen slots es → IsOpen slot e
    → AreOpen (slots ++ slot ∷ []) (es ++ e ∷ [])
entries_push [] slot [] e are is = (is, tt)
entries_push [] slot (f ∷ es) e are is = absurd are
entries_push (s ∷ slots) slot [] e are is = absurd are
entries_push (s ∷ slots) slot (f ∷ es) e are is = (are.0, entries_push slots slot es e are.1 is)

-- the entries, with the current message at the end
pub entries_own : (slots : List OpenEntry) (m : Message) (es : List StoredRecord) (e : StoredRecord)
    →
    AreOpen slots es → IsCurrent m e → AreEntries slots (Some m) (es ++ e ∷ [])
entries_own [] m [] e are is = (is, refl)
entries_own [] m (f ∷ es) e are is = absurd are
entries_own (s ∷ slots) m [] e are is = absurd are
entries_own (s ∷ slots) m (f ∷ es) e are is = (are.0, entries_own slots m es e are.1 is)

pub put_more : (slots : List OpenEntry) (slot : OpenEntry) (before between after : List ℕ) →
    IsPut before between (AreOpen slots) → IsPutOne between after (IsOpen slot)
    → IsPut before after (AreOpen (slots ++ slot ∷ []))
put_more slots slot before between after some one = record {
  entries = some.entries ++ one.entry ∷ [];
  are = entries_push slots slot some.entries one.entry some.are one.is;
  put = then before between after (flat_map stored_record_octets some.entries)
      (stored_record_octets one.entry)
      some.put one.put
      ∙ ap (λ (xs : List ℕ). before ++ xs) (sym
      (flat_append some.entries (one.entry ∷ [])
      ∙ ap (λ (xs : List ℕ). flat_map stored_record_octets some.entries ++ xs)
      (flat_one one.entry)));
}

-- a message that is over is written as zeros, after the record's own octets
pub over_is : (slot : OpenEntry) (r : Record) (before between after : List ℕ) →
    slot.value.message ≡ None → RecordHasRange r
    → r.frames ≡ 0 → r.record_kind ≡ over_kind slot.key → r.number ≡ slot.value.number →
    r.header ≡ slot.value.header
    → between ≡ before ++ own_octets r → after ≡ between ++ replicate 224 0 →
    IsPutOne before after (IsOpen slot)
over_is slot r before between after none range few record_kind number header put zeros = record {
  entry = record { record_is = r; message = replicate 224 0; frames = [] };
  is = record {
    range = record { own = range; message = refl; frames = omega (arith, few) };
    record_kind = record_kind ∙ ap (λ (m : Option Message). open_record_kind m slot.key) (sym none);
    number = number;
    header = header;
    message = stored_over slot.value.message none;
  };
  put = then before between after (own_octets r) (replicate 224 0) put zeros
      ∙ ap (λ (xs : List ℕ). before ++ xs) (sym (append-nil (own_octets r ++ replicate 224 0)));
}
  where
    stored_over : (m : Option Message) → m ≡ None →
        StoresOrZeros m (record { record_is = r; message = replicate 224 0; frames = [] })
    stored_over None e = (refl, refl)
    stored_over (Some m) e = absurd (let no : Some m ≡ None = e in cc)

-- a message that isn't over is written with its record
pub open_is : (slot : OpenEntry) (m : Message) (before after : List ℕ) → slot.value.message ≡ Some m
    → IsPutOne before after (IsMessageRecord (open_kind slot.key) slot.value.number
    slot.value.header m)
    → IsPutOne before after (IsOpen slot)
open_is slot m before after some put = search (arith)

-- an entry's three parts are written one after another
pub kept_put : (before a b after : List ℕ) (e : StoredRecord) → a ≡ before ++ own_octets e.record_is
    →
    b ≡ a ++ e.message
    → after ≡ b ++ e.frames → after ≡ before ++ stored_record_octets e
kept_put before a b after e first second third = search (arith, then)

pub ready_fits : (C : Table) (at : ℕ) (o : Option Message) (m : Message) → o ≡ Some m →
    IsReady C at o → Fits C m
ready_fits C at None m e ready = search (arith)
ready_fits C at (Some n) m e ready = search (arith)

-- ---- the whole checkpoint

abbrev pub fixed_in : (C : Table) (request_table : RequestTable) (fields : FramingView) → List ℕ
fixed_in C l m = fixed_octets (layout_of C.version) (fixed_of C l m)

-- the fixed part is written in the layout of the table's version
pub written_fixed : (C : Table) (l : RequestTable) (m : FramingView) →
    fixed_octets (layout_of (fixed_of C l m).counts.version) (fixed_of C l m) ≡ fixed_in C l m
unfolding fixed_of counts_of
written_fixed C l m = refl

pub whole_is : (C : Table) (l : RequestTable) (m : FramingView) (fixed after : List ℕ) →
    current_of m.slots.owner ≡ None → fixed ≡ fixed_in C l m
    → IsPut fixed after (AreOpen m.slots.slots.entries) →
    IsPutWhole (layout_of C.version) C l m after
unfolding checkpoint_octets
whole_is C l m fixed after none e p = search (arith, flat_map)

pub whole_own : (C : Table) (l : RequestTable) (m : FramingView) (x : Message)
    (fixed between after : List ℕ) → current_of m.slots.owner ≡ Some x
    → fixed ≡ fixed_in C l m
    → IsPut fixed between (AreOpen m.slots.slots.entries) → IsPutOne between after (IsCurrent x) →
    IsPutWhole (layout_of C.version) C l m after
unfolding checkpoint_octets
whole_own C l m x fixed between after some e p one = record {
  entries = p.entries ++ one.entry ∷ [];
  are = own_some (current_of m.slots.owner) some;
  put = one.put
      ∙ ap (λ (xs : List ℕ). xs ++ stored_record_octets one.entry)
      (p.put ∙ ap (λ (xs : List ℕ). xs ++ flat_map stored_record_octets p.entries) e)
      ∙ append_assoc (fixed_in C l m) (flat_map stored_record_octets p.entries)
      (stored_record_octets one.entry)
      ∙ ap (λ (xs : List ℕ). fixed_in C l m ++ xs)
      (sym (flat_append p.entries (one.entry ∷ [])
      ∙ ap (λ (xs : List ℕ). flat_map stored_record_octets p.entries ++ xs) (flat_one one.entry)));
}
  where
    same : (y : Message) → Some y ≡ Some x → y ≡ x
    same y e = cc

    own_some : (o : Option Message) → o ≡ Some x →
        AreEntries m.slots.slots.entries o (p.entries ++ one.entry ∷ [])
    own_some None e = absurd (let no : None ≡ Some x = e in cc)
    own_some (Some y) e =
        let P : Message → Type 0 = λ z. AreEntries m.slots.slots.entries (Some z)
        (p.entries ++ one.entry ∷ []) in
        subst P (sym (same y e)) (entries_own m.slots.slots.entries x p.entries one.entry p.are
        one.is)

-- ---- the loop over the open messages

pub put_read : (slots : List OpenEntry) (i : ℕ) (slot : OpenEntry) (before between after : List ℕ) →
    i < length slots
    → slot ≡ get_or slots i slot → IsPut before between (AreOpen (take i slots)) →
    IsPutOne between after (IsOpen slot)
    → IsPut before after (AreOpen (take (i + 1) slots))
put_read slots i slot before between after low is some one = search (
  arith,
  take,
  take_at_read,
  put_more,
)

pub ready_at : (C : Table) (at : ℕ) (slots : List OpenEntry) (i : ℕ) (slot : OpenEntry) →
    i < length slots
    → slot ≡ get_or slots i slot → Each (λ s. IsReady C at s.value.message) slots →
    IsReady C at slot.value.message
ready_at C at slots i slot low is ready = let P : OpenEntry → Type 0 =
    λ s. IsReady C at s.value.message in subst P (sym is) (read slots i low ready)
  where
    read : (xs : List OpenEntry) (j : ℕ) → j < length xs →
        Each (λ s. IsReady C at s.value.message) xs → IsReady C at (get_or xs j slot).value.message
    read [] j low ready = absurd (omega (arith, low))
    read (x ∷ xs) zero low ready = ready.0
    read (x ∷ xs) (suc j) low ready = read xs j (omega (arith, low)) ready.1

pub current_is : (m : Message) (number : ℕ) (header before after : List ℕ) → number ≡ m.number →
    header ≡ m.header
    → IsPutOne before after (IsMessageRecord record_kinds.Current number header m) →
    IsPutOne before after (IsCurrent m)
current_is m number header before after n h put = search (arith)

-- ---- what calls put

pub put_none_yet : (a : OutLog) → Puts (Ok 0) a a []
put_none_yet a = search (arith, wrote-nil)

-- a record that was composed by itself is put after others
pub put_after : (none front octets items : List ℕ) (Is : StoredRecord → Type 0) → none ≡ [] →
    octets ≡ items → IsPutOne none items Is
    → IsPutOne front (front ++ octets) Is
put_after none front octets items Is e value one = search (arith)

-- the records of all the open messages
pub puts_all : (slots : List OpenEntry) (i : ℕ) (result : Result ℕ OutFault) (before after : OutLog)
    (front : List ℕ) → length slots ≤ i
    → PutsSuch result before after (λ octets. IsPut front octets (AreOpen (take i slots)))
    → PutsSuch result before after (λ octets. IsPut front octets (AreOpen slots))
puts_all slots i result before after front high some = search (arith, take_all)

pub ok_within : (r : Result ℕ OutFault) (a b : ℕ) → a ≤ b → IfOk r (λ n. n ≤ a) →
    IfOk r (λ n. n ≤ b)
ok_within (Ok n) a b h c = omega (arith, h, c)
ok_within (Err f) a b h c = tt

-- a put had failed before the call
pub puts_failed : (w r : Result ℕ OutFault) (before after : OutLog) (front octets : List ℕ)
    (f : OutFault) → w ≡ Err f
    → IsErr r → Puts w before after front → Puts r before after (front ++ octets)
puts_failed (Ok n) r before after front octets f e is puts = search (arith)
puts_failed (Err h) (Ok n) before after front octets f e is puts = absurd (false≢true is)
puts_failed (Err h) (Err i) before after front octets f e is puts = search (arith, front-append)

-- a put fails in the call
pub puts_stopped : (w r : Result ℕ OutFault) (before between after : OutLog) (front octets : List ℕ)
    (n : ℕ) → w ≡ Ok n
    → IsErr r → Puts w before between front → WroteFront between after octets →
    Puts r before after (front ++ octets)
puts_stopped (Err h) r before between after front octets n e is puts front_is = search (arith)
puts_stopped (Ok m) (Ok k) before between after front octets n e is puts front_is =
    absurd (false≢true is)
puts_stopped (Ok m) (Err i) before between after front octets n e is puts front_is = search (
  arith,
  wrote-front,
)

-- ---- an engine's checkpoint

written_read : (version : ℕ) (new : Bool) → nat_le 3 version ≡ new →
    reads_layout version (cond new Latest Third) ≡ true
written_read version true e = e
written_read version false e = search (arith)

pub saved_is : (e v : EngineView) (p octets : List ℕ) (result : Result ℕ Stop)
    (before after : OutLog) → e ≡ v
    → v.stream.slots.slots.most ≡ v.most → Holds e p →
    IsPutWhole (layout_of v.table.version) v.table v.request_table v.stream octets
    → HasRoom (layout_of v.table.version) v.table v.request_table v.stream →
    StopWrites result before after octets
    → IfOk result (λ n. n ≡ length octets) →
    Saves result before after e.table e.request_table e.most p
saved_is e v p octets result before after same limit holds put room written count =
    let whole = subst (λ x. IsPutWhole (layout_of x.table.version) x.table x.request_table x.stream
    octets) (sym same) put in
    let here = subst (λ x. HasRoom (layout_of x.table.version) x.table x.request_table x.stream)
    (sym same) room in
    let layout = layout_of e.table.version in
    let limit_here = subst (λ (x : EngineView). x.stream.slots.slots.most ≡ x.most) (sym same) limit
    in
    let size = whole_long layout e.table e.request_table e.stream octets whole here in
    let spells : Spells octets e.table e.request_table e.most p = record {
      layout = layout;
      is_read = written_read e.table.version _ refl;
      memory = e.stream;
      entries = whole.entries;
      octets_are = whole.put;
      allows = rw (sym limit_here) here.allows;
      limit = limit_here;
      entries_are = whole.are;
      stream = holds.octets;
      shows = holds.shows;
      ready = here.ready;
    } in
    let few = few_slots octets p e.table e.request_table e.most spells in
    record {
      octets = octets;
      spells = spells;
      layout = refl;
      written = written;
      count = count;
      size = size;
      within = omega (
        arith,
        size,
        whole_within layout e.table e.request_table e.stream e.most octets
            whole here few,
      );
    }
