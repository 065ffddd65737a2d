-- The replay of a list of steps of the machine (own).
use Rattle.std.specs.Prelude.{ℕ, List, [], ◌∷◌, ◌++◌, codes, Option, None, Some, Result, Ok, Err}
use Rattle.std.specs.Fmt.{decimal}
use Rattle.std.specs.List.{All, enumerate_from, flat_map}
use Rattle.tw_core.specs.declared.refusal.Refusal.{Refusal}
use Rattle.tw_core.specs.RefusalNames.{refusal_label}
use Rattle.tw_event.specs.declared.event.Event.{Event}
use Rattle.tw_model.specs.declared.outcome.RouterEnd.{RouterEnd}
use Rattle.tw_model.specs.Net.{Net, IsPath}
use Rattle.tw_report.specs.declared.replay.Counts.{Counts}
use Rattle.tw_report.specs.declared.replay.Replay.{Replay}
use Rattle.tw_report.specs.declared.lines.Refused.TheVariants.{Step}
use Rattle.tw_report.specs.Lines.{NamesPath, refused_words}
use Rattle.tw_report.specs.Report.{event_lines, router_lines}
use Rattle.tw_report.specs.Words.{line}

-- what a list of steps has left: whether each was done or why not, and of the machine the bound, how much there is of what, the
-- committed events and the routers
pub record Replayed : Type 0 where
  pub answers : List (Result (Unit {0}) Refusal)
  pub bound : ℕ
  pub counts : Counts
  pub committed : List Event
  pub routers : List RouterEnd

-- the lists of a replay
abbrev pub replayed_of : Replay → Replayed
replayed_of r = record {
  answers = r.answers.items;
  bound = r.bound;
  counts = r.counts;
  committed = r.committed.items;
  routers = r.routers.items;
}

-- step n, and whether it was done, or why not
abbrev pub step_words : ℕ → Result (Unit {0}) Refusal → List (List ℕ)
step_words n (Ok x) = codes "step" ∷ decimal n ∷ codes "ok" ∷ []
step_words n (Err f) = refused_words (Step n) (refusal_label f).0 (refusal_label f).1

-- of each step a line, numbered from n
abbrev pub step_lines : ℕ → List (Result (Unit {0}) Refusal) → List ℕ
step_lines n answers = flat_map (λ a. line (step_words a.0 a.1)) (enumerate_from n answers)

-- how many messages are held, where they may be
abbrev pub held_words : Option ℕ → List (List ℕ)
held_words None = []
held_words (Some n) = codes "held" ∷ decimal n ∷ []

-- how many messages are in flight, events pending, antimessages kept, events handled that are not committed, and messages held
abbrev pub counts_words : Counts → List (List ℕ)
counts_words c =
    codes "flight" ∷ decimal c.flight ∷ codes "pending" ∷ decimal c.pending ∷ codes "kept" ∷ decimal c.kept ∷ codes "ahead" ∷ decimal c.ahead
    ∷ held_words c.held

-- the name of the format, and the steps
unfoldable pub told_lines : List (Result (Unit {0}) Refusal) → List ℕ
told_lines answers = line (codes "spp-replay" ∷ codes "1" ∷ []) ++ step_lines 1 answers

-- the bound and the counts
unfoldable pub standing_lines : ℕ → Counts → List ℕ
standing_lines bound counts = line (codes "bound" ∷ decimal bound ∷ []) ++ line (counts_words counts)

-- the whole replay
unfoldable pub replay_text : Net → Replayed → List ℕ
replay_text net r =
    told_lines r.answers ++ (standing_lines r.bound r.counts ++ (event_lines net r.committed ++ router_lines net 0 r.routers))

-- the paths that the replay shows are paths of the net
pub record ShowsPaths (net : Net) (r : Replayed) : Type 0 where
  pub events : All (λ e. NamesPath net e.body) r.committed
  pub routers : All (λ x. IsPath net x.rib) r.routers
