-- For private clauses: how the value that callers share is told apart from others.
use Rattle.std.specs.Prelude.{ℕ, refl}
use Rattle.std.specs.Coded.{Coded, code_by, coded×, coded_ℕ}
use Rattle.std.specs.contracts.alloc.Global.{the_row as global_row}
use Rattle.std.specs.contracts.impls.GlobalAllocator.TheImpl.{ghosts}
use Rattle.std.specs.contracts.sync.Arc.{the_row as arc_row}
use Rattle.std.specs.declared.alloc.Global.{Global}
use Rattle.std.specs.declared.sync.Arc.{Arc}
use Rattle.mf_core.specs.contracts.board.Board.{the_row as board_row}
use Rattle.mf_core.specs.declared.board.Board.{Board}
use Rattle.mf_plan.specs.contracts.plan.Plan.{the_row as plan_row}
use Rattle.mf_plan.specs.declared.plan.Plan.{Plan}
use Rattle.mf_hub.specs.Stores.{Stored}

abbrev pub stored_code : Coded Stored
stored_code =
    code_by (Board (Arc Plan Global) × ℕ) (coded× (board_row (arc_row plan_row global_row ghosts)).coded coded_ℕ) (λ s. (s.board, s.given))
    (λ p. record { board = p.0; given = p.1 }) (λ _. refl)
