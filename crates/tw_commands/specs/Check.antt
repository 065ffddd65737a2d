-- What `check` writes (own).
use Rattle.std.specs.Prelude.{ℕ, List, [], ◌∷◌, length, codes}
use Rattle.std.specs.Fmt.{decimal}
use Rattle.tw_commands.specs.declared.cause.Status.TheVariants.{Done}
use Rattle.tw_commands.specs.ForCase.{for_case}
use Rattle.tw_commands.specs.Output.{Output}
use Rattle.tw_model.specs.Case.{Case}
use Rattle.tw_report.specs.Words.{line}
use Rattle.tw_text.specs.Reading.{case_of}

-- the sizes of a case
abbrev pub sizes_line : ℕ → ℕ → ℕ → ℕ → List ℕ
sizes_line nodes links paths scenario =
    line (codes "accepted" ∷ codes "nodes" ∷ decimal nodes ∷ codes "links" ∷ decimal links ∷ codes "paths" ∷ decimal paths
    ∷ codes "scenario" ∷ decimal scenario ∷ [])

-- how large a case is
abbrev pub sizes_of : Case → Output
sizes_of case = record {
  status = Done;
  text = sizes_line case.net.nodes (length case.net.links) (length case.net.permitted) (length case.scenes);
}

-- how large the case of a text is, or why it has none
abbrev pub check_output : List ℕ → Output
check_output input = for_case sizes_of (case_of input)
