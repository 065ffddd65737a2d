-- The report of a run (own).
use Rattle.std.specs.Prelude.{ℕ, Bool, List, [], ◌∷◌, ◌++◌, codes, if◌then◌else◌}
use Rattle.std.specs.Fmt.{decimal}
use Rattle.std.specs.List.{All, enumerate_from, flat_map}
use Rattle.tw_event.specs.declared.event.Event.{Event}
use Rattle.tw_model.specs.declared.outcome.RouterEnd.{RouterEnd}
use Rattle.tw_model.specs.Net.{Net, IsPath}
use Rattle.tw_model.specs.Summary.{Summary}
use Rattle.tw_report.specs.Lines.{NamesPath, event_words, router_words}
use Rattle.tw_report.specs.Words.{line}
use Rattle.tw_shape.specs.declared.verdict.Verdict.{Verdict}
use Rattle.tw_shape.specs.declared.verdict.Verdict.TheVariants.{Oscillates, Quiet, Undecided}

-- the words of the last line
abbrev pub verdict_words : Verdict → List (List ℕ)
verdict_words (Quiet c) = codes "verdict" ∷ codes "quiet" ∷ decimal c ∷ []
verdict_words (Oscillates a p) = codes "verdict" ∷ codes "oscillates" ∷ codes "from" ∷ decimal a ∷ codes "period" ∷ decimal p ∷ []
verdict_words Undecided = codes "verdict" ∷ codes "open" ∷ []

-- of each event a line
abbrev pub event_lines : Net → List Event → List ℕ
event_lines net events = flat_map (λ e. line (event_words net e)) events

-- of each router a line, numbered from v
abbrev pub router_lines : Net → ℕ → List RouterEnd → List ℕ
router_lines net v routers = flat_map (λ r. line (router_words net r.0 r.1)) (enumerate_from v routers)

-- the name of the format, the stop and the bound
unfoldable pub head_lines : Summary → List ℕ
head_lines o =
    line (codes "spp-report" ∷ codes "1" ∷ []) ++ (line (codes "stop" ∷ decimal o.stop ∷ []) ++ line (codes "bound" ∷ decimal o.bound ∷ []))

-- the events, where they are asked for
abbrev pub logged_lines : Net → Bool → List Event → List ℕ
logged_lines net log events = if log then event_lines net events else []

-- the whole report
unfoldable pub report_text : Net → Summary → Verdict → Bool → List ℕ
report_text net o verdict log =
    head_lines o ++ (logged_lines net log o.events ++ (router_lines net 0 o.routers ++ line (verdict_words verdict)))

-- the paths that the report shows are paths of the net
pub record HasPaths (net : Net) (o : Summary) : Type 0 where
  pub events : All (λ e. NamesPath net e.body) o.events
  pub routers : All (λ r. IsPath net r.rib) o.routers
