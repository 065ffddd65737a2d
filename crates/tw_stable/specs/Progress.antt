-- How far a search has come (own).
use Rattle.std.specs.Prelude.{ℕ, suc, zero, Bool, false, true, List, [], ◌∷◌, ◌++◌, fold, if◌then◌else◌}
use Rattle.tw_event.specs.declared.event.PathNo.{PathNo}
use Rattle.tw_instance.specs.Tables.{items}
use Rattle.tw_stable.specs.declared.search.Progress.{Progress}
use Rattle.tw_stable.specs.Splitting.{Found, Meeting, Split}

-- the assignments found, how many splits are left, and whether there were enough so far
pub record Way : Type 0 where
  pub found : List (List PathNo)
  pub splits : ℕ
  pub is_whole : Bool

abbrev pub way_of : Progress → Way
way_of p = record { found = items p.found.items; splits = p.splits; is_whole = p.is_whole }

-- what a meeting makes of them, where there were enough
abbrev pub after_one : List (List PathNo) → ℕ → Meeting → Way
after_one found zero Split = record { found = found; splits = 0; is_whole = false }
after_one found (suc splits) Split = record { found = found; splits = splits; is_whole = true }
after_one found splits (Found ribs) = record { found = found ++ ribs ∷ []; splits = splits; is_whole = true }

-- what is met after the splits ran out changes nothing
abbrev pub go_on : Way → List Meeting → Way
go_on way met = fold (λ w m. if w.is_whole then after_one w.found w.splits m else w) way met
