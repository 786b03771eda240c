-- That a direction answers operations of a table alone, and goes on to (laws).
use Rattle.std.proofs.Common.{◌≡◌, ◌<◌, ℕ, cond, ltb, ◌==◌, Bool, true, false, List, [], ◌∷◌, length, Option, Some, None, IfSome, option_and_then, refl, sym, ◌∙◌}
use Rattle.std.specs.List.{find}
use Rattle.std.proofs.lemmas.Bool.{eqb-true, eqb-false, ltb-true}
use Rattle.giop_sig.specs.Table.{Table, op_id}
use Rattle.giop_entry_table.specs.declared.entry_table.Entry.{Entry}
use Rattle.giop_calls.specs.declared.calls.Call.{Call}
use Rattle.giop_calls.specs.Outstanding.{without}
use Rattle.giop_message.specs.MessageState.{AreKnown}
use Rattle.giop_message.specs.HeaderEnds.{CallEvent, Requested, Replied, Raised}
use Rattle.giop_conversation_rows.specs.Sides.{SideState, answered_operation, after_event, operation_numbered}

module _ {V : Type 0} where
  -- no call of the id that was taken away is found
  none_found : (id : ℕ) (es : List (Entry V)) → find (λ e. e.key == id) (without id es) ≡ None
  none_found id [] = refl
  none_found id (e ∷ es) = by (e.key == id) refl (none_found id es)
    where
      by : (b : Bool) → (e.key == id) ≡ b → find (λ e. e.key == id) (without id es) ≡ None →
          find (λ e. e.key == id) (without id (e ∷ es)) ≡ None
      by true is rest = rw is rest
      by false is rest = rw (is, is) rest

  -- a call of another id is found as before
  other_found : (id gone : ℕ) (es : List (Entry V)) → (id == gone) ≡ false →
      find (λ e. e.key == id) (without gone es) ≡ find (λ e. e.key == id) es
  other_found id gone [] other = refl
  other_found id gone (e ∷ es) other =
      by (e.key == gone) refl (e.key == id) refl (other_found id gone es other)
    where
      by : (b : Bool) → (e.key == gone) ≡ b → (c : Bool) → (e.key == id) ≡ c →
          find (λ e. e.key == id) (without gone es) ≡ find (λ e. e.key == id) es →
          find (λ e. e.key == id) (without gone (e ∷ es)) ≡ find (λ e. e.key == id) (e ∷ es)
      by true is true here rest =
          absurd (eqb-false id gone other (sym (eqb-true _ _ here) ∙ eqb-true _ _ is))
      by true is false here rest = rw (is, here) rest
      by false is true here rest = rw (is, here) refl
      by false is false here rest = rw (is, here) rest

-- After an event it answers operations of a table alone, if it did before.
pub stays_known : (C : Table) (s : SideState) (event : CallEvent) →
    AreKnown C (answered_operation s) → AreKnown C (answered_operation (after_event s event))
stays_known C s (Requested number gone name operation expects) known id = known id
stays_known C s (Raised number name) known id = known id
stays_known C s (Replied number gone) known id = by (id == gone) refl
  where
    by : (b : Bool) → (id == gone) ≡ b →
        IfSome (answered_operation (after_event s (Replied number gone)) id)
        (λ o. o.0 < length C.operations)
    by true is = rw (eqb-true _ _ is, none_found gone s.theirs.entries) tt
    by false is = rw (other_found id gone s.theirs.entries is) (known id)

-- an operation of a number is one of the table
numbered_known : (C : Table) (n : ℕ) →
    IfSome (operation_numbered C n) (λ o. o.0 < length C.operations)
numbered_known C n = by (ltb n (length C.operations)) refl
  where
    by : (b : Bool) → ltb n (length C.operations) ≡ b →
        IfSome (cond b (Some (op_id n)) None) (λ o. o.0 < length C.operations)
    by true is = ltb-true n (length C.operations) is
    by false is = tt

known_by : (C : Table) (n : Option ℕ) →
    IfSome (option_and_then (operation_numbered C) n) (λ o. o.0 < length C.operations)
known_by C None = tt
known_by C (Some n) = numbered_known C n

-- It answers operations of its table alone.
pub answers_known : (C : Table) (s : SideState) → C ≡ s.table → AreKnown C (answered_operation s)
answers_known C s same id = rw same (found (find (λ e. e.key == id) s.theirs.entries))
  where
    found : (e : Option (Entry Call)) →
        IfSome (option_and_then
        (λ e. option_and_then (operation_numbered s.table) e.value.operation) e)
        (λ p. p.0 < length s.table.operations)
    found None = tt
    found (Some e) = known_by s.table e.value.operation
