use Rattle.std.proofs.Common.{◌≡◌, ◌++◌, drop}
use Rattle.std.specs.List.{flat_map}
use Rattle.std.specs.String.{string_bytes}
use Rattle.tw_lines.specs.Words.{ended_line}
use Rattle.tw_text.specs.Text.{line_of_path}
use Rattle.tw_text.proofs.write.push_paths.Given as goal

abbrev pub invariant-loop-path : goal.invariant-loop-path
invariant-loop-path l =
    string_bytes l.text ++ flat_map (λ p. ended_line (line_of_path p)) (drop l.path-index l.paths)
    ≡ string_bytes l.initial.text ++ flat_map (λ p. ended_line (line_of_path p)) l.paths
