-- The request table of the worked Replies gives the operations that their request list gives.
use Rattle.std.proofs.Common.{◌≡◌, ℕ, Bool, true, false, refl}
use Rattle.std.specs.Prelude.{◌==◌}
use Rattle.std.proofs.lemmas.Bool.{eqb-true}
use Rattle.std.specs.Option.{option_map}
use Rattle.giop_sig.specs.Table.{asked_number}
use Rattle.giop_sig.specs.RequestList.{kept_operation, operation_of}
use Rattle.giop_stream_worked.specs.Worked.{operation_of_structs, table_of, late_exception, ask_table, request_entry, request_entries, ask_requests, IsTableOfEntries}

answers : (id : ℕ) (b c : Bool) → (id == 1) ≡ b → (id == 2) ≡ c →
    option_map (λ o. o.0) (kept_operation ask_requests id) ≡ operation_of
    (asked_number ask_table) request_entries id
unfolding operation_of_structs table_of late_exception ask_table request_entry request_entries
    ask_requests
answers id true c e f = let one = eqb-true id 1 e in rw one refl
answers id false true e f = let two = eqb-true id 2 f in rw two refl
answers id false false e f = rw (e, f) refl

pub request_table : IsTableOfEntries
unfolding request_entry request_entries ask_requests
request_table = record { operation = λ id. answers id (id == 1) (id == 2) refl refl; count = refl }
