use Rattle.std.proofs.Common.{◌≡◌, ◌++◌, drop}
use Rattle.std.specs.List.{flat_map}
use Rattle.std.specs.String.{string_bytes}
use Rattle.tw_lines.specs.Words.{ended_line}
use Rattle.tw_text.specs.Statements.{link_line}
use Rattle.tw_text.specs.Text.{line_of}
use Rattle.tw_text.proofs.write.push_links.Given as goal

abbrev pub invariant-loop-link : goal.invariant-loop-link
invariant-loop-link l =
    string_bytes l.text ++ flat_map (λ k. ended_line (line_of l.version (link_line k))) (drop l.link-index l.links)
    ≡ string_bytes l.initial.text ++ flat_map (λ k. ended_line (line_of l.version (link_line k))) l.links
