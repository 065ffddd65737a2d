-- The words of the lines of events, routers and refusals (own).
use Rattle.std.specs.Prelude.{ℕ, List, [], ◌∷◌, codes}
use Rattle.std.specs.Fmt.{decimal}
use Rattle.tw_event.specs.declared.event.Body.{Body}
use Rattle.tw_event.specs.declared.event.Body.TheVariants.{Start, Fail, Restore, Swap, Forbid, Allow, Update}
use Rattle.tw_event.specs.declared.event.Event.{Event}
use Rattle.tw_model.specs.declared.outcome.RouterEnd.{RouterEnd}
use Rattle.tw_model.specs.Net.{Net, IsPath, path}
use Rattle.tw_report.specs.declared.lines.Refused.{Refused}
use Rattle.tw_report.specs.declared.lines.Refused.TheVariants.{CommandOption, Step, TextLine}
use Rattle.tw_report.specs.Words.{path_text}

-- what happens, with the sender's number of it
abbrev pub body_words : Net → Event → Body → List (List ℕ)
body_words net e Start = codes "start" ∷ []
body_words net e (Fail w) = codes "fail" ∷ decimal w ∷ decimal e.seq ∷ []
body_words net e (Restore w) = codes "restore" ∷ decimal w ∷ decimal e.seq ∷ []
body_words net e (Swap i j) = codes "swap" ∷ decimal e.seq ∷ decimal i ∷ decimal j ∷ []
body_words net e (Forbid k) = codes "forbid" ∷ decimal e.seq ∷ decimal k ∷ []
body_words net e (Allow k) = codes "allow" ∷ decimal e.seq ∷ decimal k ∷ []
body_words net e (Update q n) = codes "update" ∷ decimal e.src ∷ decimal e.seq ∷ decimal n ∷ path_text (path net q) ∷ []

-- an event, with its time and its receiver
abbrev pub event_words : Net → Event → List (List ℕ)
event_words net e = codes "event" ∷ decimal e.time ∷ decimal e.dst ∷ body_words net e e.body

-- router v, with its counters and its path
abbrev pub router_words : Net → ℕ → RouterEnd → List (List ℕ)
router_words net v r =
    codes "router" ∷ decimal v ∷ codes "sent" ∷ decimal r.counters.sent ∷ codes "handled" ∷ decimal r.counters.handled
    ∷ codes "dropped" ∷ decimal r.counters.dropped ∷ codes "changed" ∷ decimal r.counters.changed ∷ codes "rib" ∷ path_text (path net r.rib) ∷ []

-- what is refused, with the code and the name of the reason
abbrev pub refused_words : Refused → List ℕ → List ℕ → List (List ℕ)
refused_words (TextLine n) code name = codes "refused" ∷ codes "line" ∷ decimal n ∷ code ∷ name ∷ []
refused_words CommandOption code name = codes "refused" ∷ codes "option" ∷ code ∷ name ∷ []
refused_words (Step n) code name = codes "step" ∷ decimal n ∷ codes "refused" ∷ code ∷ name ∷ []

-- the path that a body names is one of the net
abbrev pub NamesPath : Net → Body → Type 0
NamesPath net Start = Unit {0}
NamesPath net (Fail w) = Unit {0}
NamesPath net (Restore w) = Unit {0}
NamesPath net (Swap i j) = Unit {0}
NamesPath net (Forbid k) = Unit {0}
NamesPath net (Allow k) = Unit {0}
NamesPath net (Update q n) = IsPath net q
