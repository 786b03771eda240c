-- The fields of a catalogue as contracts see them: its table (state).
use Rattle.std.specs.Prelude.{ℕ, false, List, map}
use Rattle.arrayvec.specs.ArrayVec.{ArrayVec}
use Rattle.giop_sig.specs.declared.types.TypeId.{TypeId}
use Rattle.giop_sig.specs.declared.catalogue.Signature.{Signature}
use Rattle.giop_sig.specs.Interfaces.{Interfaces}
use Rattle.giop_sig.specs.Table.{Node, Operation, Exception, Identity, Table}

abbrev pub operation_view : (key_and_signature : ArrayVec ℕ × Signature) → Operation
operation_view entry =
    record { key = entry.0.items; request = entry.1.request.0; reply = entry.1.reply.0 }

abbrev pub exception_view : (repository_id_and_members : ArrayVec ℕ × TypeId) → Exception
exception_view entry = record { repository = entry.0.items; members = entry.1.0 }

abbrev pub identity_view : (repository_id_and_type : ArrayVec ℕ × TypeId) → Identity
identity_view entry = record { repository = entry.0.items; type = entry.1.0 }

abbrev pub table_view : (file_version : ℕ) (types : List Node)
    (operations : List (ArrayVec ℕ × Signature)) (exceptions : List (ArrayVec ℕ × TypeId))
    (declared_type_count operation_count : ℕ) (interfaces : Interfaces)
    (identities : List (ArrayVec ℕ × TypeId)) (repository_id_fronts : List (ArrayVec ℕ)) → Table
table_view version types operations exceptions declared called interfaces identities fronts =
    record {
      version = version;
      types = types;
      operations = map operation_view operations;
      exceptions = map exception_view exceptions;
      declared = declared;
      called = called;
      interfaces = interfaces;
      identities = map identity_view identities;
      fronts = map (λ f. f.items) fronts;
      forbids_wide = false;
    }
