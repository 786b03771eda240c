-- How the code keeps what a value has told of what comes next, and which types tell it (meaning).
use Rattle.std.specs.Prelude.{ℕ, ◌-◌, ◌<◌, ◌++◌}
use Rattle.giop_sig.specs.declared.types.Following.{Following}
use Rattle.giop_sig.specs.declared.types.Following.TheVariants as followings
use Rattle.giop_sig.specs.declared.types.Sign.{Sign}
use Rattle.giop_sig.specs.declared.types.Sign.TheVariants as signs
use Rattle.giop_sig.specs.declared.types.Signal.{Signal}
use Rattle.giop_sig.specs.declared.types.Signal.TheVariants as signals
use Rattle.giop_sig.specs.Heard.{inferred_after}
use Rattle.giop_sig.specs.Table.{Node, Table, node_at}
use Rattle.giop_sig.specs.Table as nodes
use Rattle.giop_sig.specs.Types.{Ty, Led, TypeInference, InferredType, Sequel}
use Rattle.giop_sig.specs.Types as types

-- what a signal stands for
abbrev pub inferred_of_signal : (signal : Signal) → InferredType
inferred_of_signal signals.Untold = types.Untold
inferred_of_signal (signals.Awaits n) = types.Awaits n
inferred_of_signal (signals.Offers i) = types.Offers i
inferred_of_signal (signals.Is i) = types.Is i
inferred_of_signal signals.Empty = types.Empty
inferred_of_signal signals.Unknown = types.Unknown

-- the signal that stands for what was told
abbrev pub signal_of : (told : InferredType) → Signal
signal_of types.Untold = signals.Untold
signal_of (types.Awaits n) = signals.Awaits n
signal_of (types.Offers i) = signals.Offers i
signal_of (types.Is i) = signals.Is i
signal_of types.Empty = signals.Empty
signal_of types.Unknown = signals.Unknown

-- what a sign of the code stands for
abbrev pub sign_view : (sign : Sign) → types.Sign
sign_view (signs.Marked mark n) = types.MarkedNumber mark n
sign_view (signs.Counted n) = types.Counted n
sign_view (signs.Spelt held rest more) = types.Spelt (held.now ++ rest.now) more

-- what a following of the code stands for; the part that tells has index 0
abbrev pub sequel_view : (following_counted_from_1 : Following) → Sequel
sequel_view (followings.Then index) = types.Then (index - 1)
sequel_view followings.Ends = types.Ends
sequel_view followings.Stops = types.Stops

abbrev pub HasPositiveIndex : (following : Following) → Type 0
HasPositiveIndex (followings.Then index) = 0 < index
HasPositiveIndex following = Unit {0}

-- a type that doesn't begin with such a part tells nothing
abbrev pub infers_nothing : TypeInference
infers_nothing = record {
  inferred_after = λ told sign. told;
  selects = λ told. types.Ends;
}

-- how the part of a type that tells what comes next is heard
abbrev pub inference_in : (type : Ty) → TypeInference
inference_in (Led h F parts) = h
inference_in T = infers_nothing

-- the signal after a sign, in a type with this node: only an any tells something
abbrev pub signal_by_node : (table : Table) (node : Node) (signal_before : Signal)
    (sign : types.Sign) → Signal
signal_by_node C (nodes.any code) told sign = signal_of
    (inferred_after C (inferred_of_signal told) sign)
signal_by_node C node told sign = told

abbrev pub signal_after : (table : Table) (type_number : ℕ) (signal_before : Signal) (sign : Sign) →
    Signal
signal_after C number told sign = signal_by_node C (node_at C number) told (sign_view sign)
