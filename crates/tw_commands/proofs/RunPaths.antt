-- The paths that a run shows are paths of its instance.
use Rattle.std.proofs.Common.{◌≡◌, ℕ, ◌<◌, ◌==◌, true, List, reverse, subst, sym}
use Rattle.std.specs.List.{All, range_with_len}
use Rattle.std.proofs.lemmas.Bool.{and_parts, eqb-true}
use Rattle.tw_event.specs.declared.event.Body.{Body}
use Rattle.tw_event.specs.declared.event.Body.TheVariants.{Start, Fail, Restore, Swap, Forbid, Allow, Update}
use Rattle.tw_event.specs.declared.event.Event.{Event}
use Rattle.tw_event.proofs.Order.{same_self}
use Rattle.tw_model.specs.Net.{Net, IsPath, is_permitted}
use Rattle.tw_model.specs.Effect.{body_suits, suits}
use Rattle.tw_model.specs.State.{has_peer}
use Rattle.tw_sim.specs.Simulation.{only, state, times}
use Rattle.tw_sim.specs.Seq.{log}
use Rattle.tw_model.specs.Case.{Case, IsCase, simulation}
use Rattle.tw_sim.proofs.Counts.{times-reverse}
use Rattle.tw_sim.proofs.Members.{In, all_from_in, in_filter, in_map, times_in}
use Rattle.tw_model.proofs.Paths.{permitted_is_path}
use Rattle.tw_model.proofs.Quiet.{suit_seq}
use Rattle.tw_model.proofs.Suits.{own_state}
use Rattle.tw_report.specs.Lines.{NamesPath}
use Rattle.tw_report.specs.Report.{HasPaths}
use Rattle.tw_model.specs.Summary.{end_of}
use Rattle.tw_seq.specs.Outcome.{outcome_of}
use Rattle.tw_seq.specs.Run.{complete_run, router_after}

pub names_path : (net : Net) (v : ℕ) (e : Event) (b : Body) → body_suits net v e b ≡ true → NamesPath net b
names_path net v e Start h = tt
names_path net v e (Fail w) h = tt
names_path net v e (Restore w) h = tt
names_path net v e (Swap i j) h = tt
names_path net v e (Forbid k) h = tt
names_path net v e (Allow k) h = tt
names_path net v e (Update q n) h = permitted_is_path net e.src q (and_parts (has_peer net v e.src) (is_permitted net e.src q) h).1

module _ (case : Case) (is : IsCase case) where
  pub logged_suits : (t : ℕ) (e : Event) → 0 < times (simulation case) e (log (simulation case) t) → suits case.net e.dst e ≡ true
  logged_suits t e h = (suit_seq case is t).handled e h

  logged_names : (t : ℕ) (e : Event) → In e (reverse (log (simulation case) t)) → NamesPath case.net e.body
  logged_names t e h =
      let there = times_in (simulation case) same_self e (reverse (log (simulation case) t)) h in
      let same = times-reverse (simulation case) e (log (simulation case) t) in
      let fit = logged_suits t e (rw same at there) in
      names_path case.net e.dst e e.body (and_parts (e.dst == e.dst) (body_suits case.net e.dst e e.body) fit).1

  -- the events of the run, in the order handled
  pub events_name_paths : (t : ℕ) → All (λ e. NamesPath case.net e.body) (reverse (log (simulation case) t))
  events_name_paths t = all_from_in (λ e. NamesPath case.net e.body) (reverse (log (simulation case) t)) (logged_names t)

  -- a router's path, whatever it has handled
  pub rib_is_path : (v : ℕ) (events : List Event) → IsPath case.net (state (simulation case) v (only (simulation case) v events)).rib
  rib_is_path v events =
      let own = own_state case v (only (simulation case) v events) (λ y k. let home = (in_filter (λ x. x.dst == v) y events k).0 in eqb-true y.dst v home) in
      permitted_is_path case.net v (state (simulation case) v (only (simulation case) v events)).rib own.rib

  -- all that the report of the run shows
  pub has_paths : (t : ℕ) → HasPaths case.net (outcome_of (complete_run case t))
  has_paths t = record {
    events = events_name_paths t;
    routers = all_from_in (λ r. IsPath case.net r.rib) (outcome_of (complete_run case t)).routers (λ r there.
        let of = in_map (λ v. end_of (router_after case (complete_run case t).events v).state) r (range_with_len 0 case.net.nodes) there in
        subst (λ x. IsPath case.net x.rib) (sym of.1) (rib_is_path of.0 (reverse (complete_run case t).events)));
  }
