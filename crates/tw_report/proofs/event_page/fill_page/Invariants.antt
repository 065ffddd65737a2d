use Rattle.std.proofs.Common.{◌≡◌, ◌≤◌, length, take}
use Rattle.tw_report.specs.Report.{event_lines}
use Rattle.tw_report.proofs.event_page.fill_page.Given as goal

-- the lines of the events before stand on the page
abbrev pub invariant-loop-count : goal.invariant-loop-count
invariant-loop-count l =
    (l.end ≤ length l.page)
    × (length l.page ≡ length l.initial.page)
    × (l.count ≡ 0 → l.end ≡ 0)
    × (take l.end l.page ≡ event_lines l.instance (take l.count l.events))
