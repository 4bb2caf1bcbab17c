-- The names of the classes of errors in a reply.
use Rattle.std.specs.Prelude.{ℕ, List, codes}
use Rattle.mf_tree.specs.declared.fault.Kind.{Kind}
use Rattle.mf_tree.specs.declared.fault.Kind.TheVariants

abbrev pub class_of : Kind → List ℕ
class_of TheVariants.Syntax = codes "syntax-error"
class_of TheVariants.Limit = codes "limit"
class_of TheVariants.VariantKeyMismatch = codes "variant-key-mismatch"
class_of TheVariants.MissingFallbackVariant = codes "missing-fallback-variant"
class_of TheVariants.MissingSelectorAnnotation = codes "missing-selector-annotation"
class_of TheVariants.DuplicateDeclaration = codes "duplicate-declaration"
class_of TheVariants.DuplicateOptionName = codes "duplicate-option-name"
class_of TheVariants.DuplicateVariant = codes "duplicate-variant"
class_of TheVariants.UnresolvedVariable = codes "unresolved-variable"
class_of TheVariants.UnknownFunction = codes "unknown-function"
class_of TheVariants.BadSelector = codes "bad-selector"
class_of TheVariants.BadOperand = codes "bad-operand"
class_of TheVariants.BadOption = codes "bad-option"
class_of TheVariants.BadVariantKey = codes "bad-variant-key"
