-- Where elimination leaves no choice, and the time from which on a case then rests (own).
use Rattle.std.specs.Prelude.{ℕ, suc, ◌+◌, ◌==◌, Bool, List, fold, length, max}
use Rattle.std.specs.List.{list_all, range_with_len}
use Rattle.tw_event.specs.declared.event.Event.{Event}
use Rattle.tw_model.specs.declared.net.Link.{Link}
use Rattle.tw_model.specs.Case.{Case, opening_events}
use Rattle.tw_policy.specs.Elimination.{after_rounds}
use Rattle.tw_elimination.specs.Rounds.{left_in}

-- whether each router has one path left after n rounds
abbrev pub is_solved : Case → ℕ → Bool
is_solved case n = list_all (λ v. length (left_in case n v) == 1) (range_with_len 0 case.net.nodes)

-- the time of the last of these events, or 0
abbrev pub last_time : List Event → ℕ
last_time events = fold (λ t e. max t e.time) 0 events

-- the longest delay of these links, in either direction, or 0
abbrev pub longest_delay : List Link → ℕ
longest_delay links = fold (λ d l. max (max d l.delay) l.back) 0 links

-- a tick after the last scripted event, and from there on once more the longest delay than there were rounds
abbrev pub rests_before : Case → ℕ → ℕ
rests_before case n = after_rounds (last_time (opening_events case.scenes) + 1) (longest_delay case.net.links) (suc n)
