-- What is written of a rehearsal: the replies by callers, the log, and the verdict.
use Rattle.std.specs.Prelude.{ℕ, zero, suc, ◌+◌, List, [], ◌∷◌, ◌++◌, codes, decimal}
use Rattle.std.specs.List.{flat_map}
use Rattle.mf_edition.specs.declared.change.Entry.{Entry}
use Rattle.mf_lines.specs.Served.{ended}
use Rattle.mf_wire.specs.Replies.{op_name, op_of}

-- a reply behind its caller's digit and a space
abbrev pub tagged : ℕ → List ℕ → List ℕ
tagged caller reply = (48 + caller) ∷ 32 ∷ ended reply

-- the replies of the callers from 1 to a number
abbrev pub replies_print : (ℕ → List (List ℕ)) → ℕ → List ℕ
replies_print replies zero = []
replies_print replies (suc n) = replies_print replies n ++ flat_map (tagged (suc n)) (replies (suc n))

-- an entry, which makes edition k
abbrev pub entry_line : ℕ → Entry → List ℕ
entry_line k entry =
    codes "{\"caller\":" ++ (decimal entry.caller
    ++ (codes ",\"change\":\"" ++ (op_name (op_of entry.change)
    ++ (codes "\",\"edition\":" ++ (decimal k
    ++ (codes ",\"nth\":" ++ (decimal entry.nth ++ codes "}")))))))

-- the entries of a log, the first of which makes edition k
abbrev pub log_print : ℕ → List Entry → List ℕ
log_print k [] = []
log_print k (entry ∷ log) = codes "log " ++ (ended (entry_line k entry) ++ log_print (k + 1) log)

-- all of it
abbrev pub print : ℕ → (ℕ → List (List ℕ)) → List Entry → List ℕ
print callers replies log = replies_print replies callers ++ (log_print 1 log ++ ended (codes "legal yes"))
