use Rattle.std.proofs.Common.{◌≡◌, ◌++◌, drop}
use Rattle.std.specs.List.{flat_map}
use Rattle.std.specs.String.{string_bytes}
use Rattle.tw_lines.specs.Words.{ended_line}
use Rattle.tw_text.specs.Text.{line_of_scene}
use Rattle.tw_text.proofs.write.push_scenes.Given as goal

abbrev pub invariant-loop-scene : goal.invariant-loop-scene
invariant-loop-scene l =
    string_bytes l.text ++ flat_map (λ s. ended_line (line_of_scene s)) (drop l.scene-index l.scenes)
    ≡ string_bytes l.initial.text ++ flat_map (λ s. ended_line (line_of_scene s)) l.scenes
