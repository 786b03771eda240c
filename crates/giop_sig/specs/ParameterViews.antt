-- The parameters that were read, and an operation's name and structs, as contracts see them
-- (state).
use Rattle.std.specs.Prelude.{◌≡◌, map}
use Rattle.giop_sig.specs.declared.read_calls.Parameters.{Parameters}
use Rattle.giop_sig.specs.declared.read_calls.OperationStructs as code
use Rattle.giop_sig.specs.UnionCases.{part_view}
use Rattle.giop_sig.specs.Scopes.{Scope}
use Rattle.giop_sig.specs.CallReading.{ParameterLists, OperationStructs}

abbrev pub parameter_lists_view : (parameters : Parameters) → ParameterLists
parameter_lists_view w =
    record {
      seen = map (λ n. n.now) w.seen.items;
      request = map part_view w.request.items;
      reply = map part_view w.reply.items;
    }

abbrev pub operation_structs_view : (operation : code.OperationStructs) → OperationStructs
operation_structs_view c = record {
  name = c.name.now;
  request = c.signature.request.0;
  reply = c.signature.reply.0;
}

-- a scope has the same types as before, and as many operations
pub record KeepsTypes (scope_before scope : Scope) : Type 0 where
  pub types : scope.table.types ≡ scope_before.table.types
  pub called : scope.table.called ≡ scope_before.table.called
