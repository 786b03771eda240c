-- What an exchange answers are operations of its table. After each header it answers at most what
-- it answered before (laws).
use Rattle.std.proofs.Common.{◌≡◌, ℕ, cond, ltb, ◌<◌, ◌==◌, Bool, true, false, List, [], ◌∷◌, length, Option, Some, None, IfSome, option_and_then, refl, sym, ◌∙◌}
use Rattle.std.specs.List.{find}
use Rattle.std.specs.Option.{option_map}
use Rattle.std.proofs.lemmas.Bool.{eqb-true, eqb-false, ltb-true}
use Rattle.giop_entry_table.specs.declared.entry_table.Entry.{Entry}
use Rattle.giop_calls.specs.declared.calls.Call.{Call}
use Rattle.giop_calls.specs.Outstanding.{without}
use Rattle.giop_sig.specs.Table.{Table, op_id}
use Rattle.giop_message.specs.MessageState.{AreKnown}
use Rattle.giop_message.specs.HeaderEnds.{CallEvent, Requested, Replied, Raised, HasKnownOperation}
use Rattle.giop_conversation.specs.Exchanges.{ExchangeView, answer_of, outstanding_call, notified, operation_numbered}

-- after the entry of an id is taken out, none of that id is found
none_found : (id : ℕ) (es : List (Entry Call)) → find (λ e. e.key == id) (without id es) ≡ None
none_found id [] = refl
none_found id (e ∷ es) = by (e.key == id) refl (none_found id es)
  where
    by : (b : Bool) → (e.key == id) ≡ b → find (λ e. e.key == id) (without id es) ≡ None →
        find (λ e. e.key == id) (without id (e ∷ es)) ≡ None
    by true is rest = rw is rest
    by false is rest = rw (is, is) rest

-- the entries of other ids are found as before
others_found : (id other : ℕ) (es : List (Entry Call)) → (other == id) ≡ false →
    find (λ e. e.key == other) (without id es) ≡ find (λ e. e.key == other) es
others_found id other [] apart = refl
others_found id other (e ∷ es) apart =
    by (e.key == id) refl (e.key == other) refl (others_found id other es apart)
  where
    by : (b : Bool) → (e.key == id) ≡ b → (c : Bool) → (e.key == other) ≡ c →
        find (λ e. e.key == other) (without id es) ≡ find (λ e. e.key == other) es →
        find (λ e. e.key == other) (without id (e ∷ es)) ≡ find (λ e. e.key == other) (e ∷ es)
    by true is true here rest =
        absurd (eqb-false other id apart (sym (eqb-true _ _ here) ∙ eqb-true _ _ is))
    by true is false here rest = rw (is, here) rest
    by false is true here rest = rw (is, here) refl
    by false is false here rest = rw (is, here) rest

-- if the call of an id is taken out, what the other ids answer are operations of the table as
-- before
fits_still : (C table : Table) (id other : ℕ) (es : List (Entry Call)) →
    IfSome (option_and_then (λ call. option_and_then (operation_numbered table) call.operation)
    (option_map (λ e. e.value) (find (λ e. e.key == other) es)))
    (λ o. o.0 < length C.operations) →
    IfSome (option_and_then (λ call. option_and_then (operation_numbered table) call.operation)
    (option_map (λ e. e.value) (find (λ e. e.key == other) (without id es))))
    (λ o. o.0 < length C.operations)
fits_still C table id other es fits = by (other == id) refl
  where
    by : (b : Bool) → (other == id) ≡ b →
        IfSome (option_and_then (λ call. option_and_then (operation_numbered table) call.operation)
        (option_map (λ e. e.value) (find (λ e. e.key == other) (without id es))))
        (λ o. o.0 < length C.operations)
    by true is =
        let same : other ≡ id = eqb-true _ _ is in
        rw (same, none_found id es) tt
    by false is = rw (others_found id other es is) fits

pub known_still : (C : Table) (s : ExchangeView) (event : CallEvent) → AreKnown C (answer_of s) →
    HasKnownOperation C event → AreKnown C (answer_of (notified s event))
known_still C s (Requested number id name operation expects) known fits = known
known_still C s (Replied number id) known fits =
    λ other. fits_still C s.table id other s.opposite.entries (known other)
known_still C s (Raised number name) known fits = known

-- an operation that is found by its number is in the table
numbered_known : (C : Table) (n : ℕ) →
    IfSome (operation_numbered C n) (λ o. o.0 < length C.operations)
numbered_known C n = by (ltb n (length C.operations)) refl
  where
    by : (b : Bool) → ltb n (length C.operations) ≡ b →
        IfSome (cond b (Some (op_id n)) None) (λ o. o.0 < length C.operations)
    by true is = ltb-true n (length C.operations) is
    by false is = tt

known_by : (C : Table) (n : Option ℕ) →
    IfSome (option_and_then (operation_numbered C) n) (λ o. o.0 < length C.operations)
known_by C None = tt
known_by C (Some n) = numbered_known C n

by_call : (C : Table) (o : Option Call) →
    IfSome (option_and_then (λ call. option_and_then (operation_numbered C) call.operation) o)
    (λ o. o.0 < length C.operations)
by_call C None = tt
by_call C (Some call) = known_by C call.operation

pub all_known : (s : ExchangeView) → AreKnown s.table (answer_of s)
all_known s id = by_call s.table (outstanding_call s.opposite id)
