-- The error list: of errors with their places each one where it first arose (the order and the places are this project's own).
use Rattle.std.specs.Prelude.{◌==◌, ◌+◌, ◌&&◌, ℕ, Bool, true, false, List, [], ◌∷◌, ◌++◌, map, if◌then◌else◌}
use Rattle.std.specs.Cmp.Lexicographic.{pointwise}
use Rattle.std.specs.List.{list_any}
use Rattle.std.specs.Str.{bytes_eq}
use Rattle.mf_tree.specs.Kinds.{class_of}
use Rattle.mf_tree.specs.declared.fault.Fault.{Fault}
use Rattle.mf_value.specs.Traces.{Node, of_declaration, of_call, Spot, at_operand, at_function, at_option, Placed}

abbrev pub is_same_node : Node → Node → Bool
is_same_node (of_declaration a) (of_declaration b) = a == b
is_same_node (of_call a) (of_call b) = a == b
is_same_node (of_declaration a) (of_call b) = false
is_same_node (of_call a) (of_declaration b) = false

abbrev pub is_same_spot : Spot → Spot → Bool
is_same_spot at_operand at_operand = true
is_same_spot at_operand at_function = false
is_same_spot at_operand (at_option b) = false
is_same_spot at_function at_operand = false
is_same_spot at_function at_function = true
is_same_spot at_function (at_option b) = false
is_same_spot (at_option a) at_operand = false
is_same_spot (at_option a) at_function = false
is_same_spot (at_option a) (at_option b) = a == b

-- two errors have one place, one class, and are about the same
abbrev pub is_same_fault : Placed → Placed → Bool
is_same_fault a b =
    is_same_node a.node b.node && is_same_spot a.spot b.spot && bytes_eq (class_of a.kind) (class_of b.kind) && pointwise ◌==◌ a.of b.of

abbrev pub is_among : List Placed → Placed → Bool
is_among faults fault = list_any (is_same_fault fault) faults

-- one more error, unless it is there already
abbrev pub with_fault : List Placed → Placed → List Placed
with_fault faults fault = if is_among faults fault then faults else faults ++ fault ∷ []

-- errors, each where it first arose, behind those that are there
abbrev pub firsts_behind : List Placed → List Placed → List Placed
firsts_behind before [] = before
firsts_behind before (fault ∷ faults) = firsts_behind (with_fault before fault) faults

abbrev pub firsts : List Placed → List Placed
firsts faults = firsts_behind [] faults

abbrev pub without_place : Placed → Fault
without_place fault = record { kind = fault.kind; of = fault.of }

abbrev pub error_list : List Placed → List Fault
error_list faults = map without_place (firsts faults)

-- The calls on a scope so far: how many they were, and their errors joined.
pub record Calls : Type 0 where
  pub count : ℕ
  pub joined : List Placed

abbrev pub no_calls : Calls
no_calls = record { count = 0; joined = [] }

-- one more call, which stands at a place of its own: the errors of its trace are joined to the others
abbrev pub after_call : (Node → List Placed) → Calls → Calls
after_call traced calls = record { count = calls.count + 1; joined = calls.joined ++ traced (of_call calls.count) }

-- an error is added at a place of its own
abbrev pub added : Fault → Node → List Placed
added fault node = record { node = node; spot = at_operand; kind = fault.kind; of = fault.of } ∷ []

abbrev pub after_adding : Fault → Calls → Calls
after_adding fault calls = after_call (added fault) calls
