-- What is written of a run of PHOLD (own).
use Rattle.std.specs.Prelude.{ℕ, List, [], ◌∷◌, ◌++◌, codes, map}
use Rattle.std.specs.Fmt.{decimal}
use Rattle.std.specs.List.{flat_map, range_with_len}
use Rattle.tw_phold.specs.Phold.{checksum, simulation}
use Rattle.tw_phold.specs.declared.phold.Phold.{Phold}
use Rattle.tw_phold.specs.declared.state.State.{State}
use Rattle.tw_report.specs.Words.{line}
use Rattle.tw_sim.specs.Seq.{at}

-- what process r knows in the sequential run to a stop
abbrev pub knows : Phold → ℕ → ℕ → State
knows m stop r = at (simulation m) stop r

-- how many jobs process r has handled
abbrev pub process_line : Phold → ℕ → ℕ → List ℕ
process_line m stop r = line (codes "process" ∷ decimal r ∷ codes "handled" ∷ decimal (knows m stop r).handled ∷ [])

-- of each process a line
abbrev pub process_lines : Phold → ℕ → List ℕ
process_lines m stop = flat_map (process_line m stop) (range_with_len 0 m.processes)

-- the checksum of all states
abbrev pub checksum_at : Phold → ℕ → ℕ
checksum_at m stop = checksum (map (knows m stop) (range_with_len 0 m.processes))

-- the report of the sequential run to a stop: the name of the format, the stop, the processes, and the checksum
unfoldable pub report_text : Phold → ℕ → List ℕ
report_text m stop =
    line (codes "phold-report" ∷ codes "1" ∷ [])
    ++ (line (codes "stop" ∷ decimal stop ∷ []) ++ (process_lines m stop ++ line (codes "checksum" ∷ decimal (checksum_at m stop) ∷ [])))

-- that the longest delay is shorter than the lookahead
abbrev pub refused_text : List ℕ
refused_text = line (codes "refused" ∷ codes "option" ∷ codes "longest" ∷ [])
