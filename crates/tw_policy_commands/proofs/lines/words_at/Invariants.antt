use Rattle.std.proofs.Common.{◌≡◌, ◌++◌, length, map, take}
use Rattle.tw_model.specs.Net.{path}
use Rattle.tw_report.specs.Words.{path_text, word_text}
use Rattle.tw_policy_commands.specs.Safe.{head_words}
use Rattle.tw_policy_commands.proofs.lines.words_at.Given as goal

abbrev pub invariant-loop-path : goal.invariant-loop-path
invariant-loop-path l =
    map word_text l.words.items ≡ head_words l.node (length l.left) ++ map (λ q. path_text (path l.instance q)) (take l.path-index l.left)
