-- The paths that a replay shows are paths of its instance.
use Rattle.std.proofs.Common.{◌≡◌, ℕ, ◌<◌, ◌==◌, true, List, sym, subst, [], flat_map, nat_lt, arith}
use Rattle.std.specs.List.{range_with_len}
use Rattle.std.proofs.lemmas.Bool.{and_parts}
use Rattle.tw_commands.proofs.RunPaths.{names_path}
use Rattle.tw_commands.specs.Replay.{committed_of, replayed}
use Rattle.tw_core.specs.Good.{IsGood}
use Rattle.tw_core.specs.Machine.{Core, committed}
use Rattle.tw_core.specs.Steps.{run}
use Rattle.tw_core.proofs.Steps.{good_opening, run_keeps}
use Rattle.tw_event.specs.declared.event.Event.{Event}
use Rattle.tw_event.proofs.Order.{same_is, same_self}
use Rattle.tw_model.specs.Case.{Case, IsCase, simulation}
use Rattle.tw_model.specs.Effect.{body_suits, suits}
use Rattle.tw_model.specs.Net.{Net, IsPath}
use Rattle.tw_model.proofs.Lawful.{lawful}
use Rattle.tw_model.proofs.Paths.{permitted_is_path}
use Rattle.tw_model.proofs.Suits.{own_state}
use Rattle.tw_report.specs.Lines.{NamesPath}
use Rattle.tw_report.specs.ReplayText.{Replayed, ShowsPaths}
use Rattle.tw_sim.specs.declared.machine.Cancel.{Cancel}
use Rattle.tw_sim.specs.declared.machine.Step.{Step}
use Rattle.tw_sim.specs.Simulation.{state, times}
use Rattle.tw_sim.proofs.Counts.{times-insert_all}
use Rattle.tw_sim.proofs.Members.{In, all_from_in, in_filter, in_flat_map, in_map, in_times, times_in}
use Rattle.tw_warp.proofs.Openings.{machine_opens}
use Rattle.tw_warp.specs.Committed.{end_at}
use Rattle.tw_warp.specs.Openings.{opening_machine}

module _ (case : Case) (is : IsCase case) where
  -- the machine is good after whatever steps
  stays_good : (cancel : Cancel) (stop : ℕ) (steps : List Step) → IsGood (simulation case) (run (simulation case) (opening_machine case cancel stop) steps)
  stays_good cancel stop steps =
      let m = simulation case in
      let law = lawful case is in
      (run_keeps m law (opening_machine case cancel stop) steps (good_opening m law (opening_machine case cancel stop) (machine_opens case cancel stop))).good

  module _ (C : Core Event) (good : IsGood (simulation case) C) where
    home : (r : ℕ) (e : Event) → In e (C.history r) → e.dst ≡ r
    home r e there = good.home r e (times_in (simulation case) same_self e (C.history r) there)

    -- what a router has handled suits it
    handled_names : (r : ℕ) (e : Event) → In e (C.history r) → NamesPath case.net e.body
    handled_names r e there =
        let m = simulation case in
        let own : 0 < times m e (C.history e.dst) = subst (λ q. 0 < times m e (C.history q)) (sym (home r e there)) (times_in m same_self e (C.history r) there) in
        let fit : suits case.net e.dst e ≡ true = good.suit e (omega arith) in
        names_path case.net e.dst e e.body (and_parts (e.dst == e.dst) (body_suits case.net e.dst e e.body) fit).1

    committed_names : (e : Event) → In e (committed_of case C) → NamesPath case.net e.body
    committed_names e there =
        let m = simulation case in
        let all = flat_map (λ r. committed m C r) (range_with_len 0 case.net.nodes) in
        let counted = times_in m same_self e (committed_of case C) there in
        let same = times-insert_all m e all [] in
        let of = in_flat_map (λ r. committed m C r) e (range_with_len 0 case.net.nodes) (in_times m same_is e all (omega arith)) in
        handled_names of.0 e (in_filter (λ x. nat_lt x.time (C.done of.0)) e (C.history of.0) of.1).1

    rib_is_path : (r : ℕ) → IsPath case.net (state (simulation case) r (C.history r)).rib
    rib_is_path r =
        let own = own_state case r (C.history r) (λ y k. home r y k) in
        permitted_is_path case.net r (state (simulation case) r (C.history r)).rib own.rib

  -- all that the replay of steps shows
  pub replay_paths : (stop : ℕ) (cancel : Cancel) (steps : List Step) → ShowsPaths case.net (replayed stop cancel case steps)
  replay_paths stop cancel steps =
      let C = run (simulation case) (opening_machine case cancel stop) steps in
      let good = stays_good cancel stop steps in
      record {
        events = all_from_in (λ e. NamesPath case.net e.body) (committed_of case C) (committed_names C good);
        routers = all_from_in (λ x. IsPath case.net x.rib) (replayed stop cancel case steps).routers (λ x there.
            let of = in_map (end_at case C) x (range_with_len 0 case.net.nodes) there in
            subst (λ y. IsPath case.net y.rib) (sym of.1) (rib_is_path C good of.0));
      }

-- the same of what is equal
pub same_paths : (case : Case) → IsCase case → (stop : ℕ) (cancel : Cancel) (net : Net) (same : Case) (steps : List Step) (told : Replayed) → net ≡ case.net → same ≡ case → told ≡ replayed stop cancel same steps
    → ShowsPaths net told
same_paths case is stop cancel net same steps told is_net is_case is_told = rw (is_net, is_told, is_case) (replay_paths case is stop cancel steps)
