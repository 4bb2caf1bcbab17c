-- The numbers that the program ends with.
use Rattle.std.specs.Prelude.{ℕ}
use Rattle.mf_io.specs.declared.statuses.Status.{Status}
use Rattle.mf_io.specs.declared.statuses.Status.TheVariants.{Ended, Usage, ReadFault, WriteFault, LineTooLong, OutOfMemory, InputFull, ListenFault}

-- the number of each status
abbrev pub status_number : Status → ℕ
status_number Ended = 0
status_number Usage = 1
status_number ReadFault = 2
status_number WriteFault = 3
status_number LineTooLong = 4
status_number OutOfMemory = 5
status_number InputFull = 6
status_number ListenFault = 7
