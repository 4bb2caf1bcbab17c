use Rattle.std.proofs.Common.{◌+◌, ◌*◌, take}
use Rattle.mf_resolve.specs.Resolving.{ResolvesOptions}
use Rattle.mf_resolve.proofs.scope.Scope.+resolving.Given as goal

abbrev pub decreases-resolve_declaration : goal.decreases-resolve_declaration
decreases-resolve_declaration g l = 7 * l.place + 6

abbrev pub decreases-declaration_value : goal.decreases-declaration_value
decreases-declaration_value g l = 7 * l.place + 5

abbrev pub decreases-expression_under : goal.decreases-expression_under
decreases-expression_under g l = 7 * l.limit + 4

abbrev pub decreases-resolve_call : goal.decreases-resolve_call
decreases-resolve_call g l = 7 * l.limit + 3

abbrev pub decreases-resolve_options : goal.decreases-resolve_options
decreases-resolve_options g l = 7 * l.limit + 2

abbrev pub decreases-option_value : goal.decreases-option_value
decreases-option_value g l = 7 * l.limit + 1

abbrev pub decreases-resolve_operand : goal.decreases-resolve_operand
decreases-resolve_operand g l = 7 * l.limit + 1

abbrev pub decreases-use_variable : goal.decreases-use_variable
decreases-use_variable g l = 7 * l.limit

abbrev pub invariant-resolve_options-loop-option : goal.invariant-resolve_options-loop-option
invariant-resolve_options-loop-option g l =
    ResolvesOptions (g.F.Functions.meaning l.fn.functions) l.fn.limit l.fn.self l.self l.fn.directs (take l.option-index l.options) l.settings
