-- A run before its first event.
use Rattle.std.proofs.Common.{◌≡◌, [], map, reverse, refl, ap, sym, ◌∙◌, subst, arith}
use Rattle.std.specs.List.{range_with_len}
use Rattle.tw_event.specs.Order.{event_before}
use Rattle.tw_model.specs.Case.{IsCase, opening_events, simulation}
use Rattle.tw_model.specs.Quiet.{last_change}
use Rattle.tw_model.specs.State.{opening}
use Rattle.tw_sim.specs.Ordered.{insert_all}
use Rattle.tw_sim.specs.Seq.{begin}
use Rattle.tw_seq.specs.declared.one_thread.OneThread.TheInside.{Inside}
use Rattle.tw_seq.specs.Run.{IsBegun, opening_run, routers_after}
use Rattle.tw_seq.specs.Thread.{IsThread, handled_count, run_of, world_after}
use Rattle.tw_seq.proofs.Counted.{count_opening}

-- its routers have handled nothing, and the opening events are pending
pub record IsOpening (a : Inside) : Type 0 where
  pub case : IsCase a.case.now
  pub stop : a.stop ≡ 0
  pub routers : a.routers.items ≡ map (λ r. record { net = a.case.now.net; node = r; state = opening a.case.now.net r }) (range_with_len 0 a.case.now.net.nodes)
  pub pending : a.pending.events ≡ insert_all event_before (opening_events a.case.now.scenes) []
  pub homes : a.pending.routers ≡ a.case.now.net.nodes
  pub change : a.last_change ≡ 0
  pub sent : a.sends.items ≡ []

module _ (a : Inside) (h : IsOpening a) where
  at_first : world_after a.case.now (handled_count a.routers.items) ≡ begin (simulation a.case.now)
  at_first = ap (world_after a.case.now) (ap handled_count h.routers ∙ count_opening a.case.now.net (range_with_len 0 a.case.now.net.nodes))

  no_events : (run_of a).events ≡ []
  no_events = ap (λ w. reverse w.log) at_first

  pub opening_is : run_of a ≡ opening_run a.case.now
  opening_is = λ i. record { case = a.case.now; stop = h.stop i; events = no_events i; pending = h.pending i }

  pub opening_thread : IsThread a
  opening_thread = record {
    begun = subst IsBegun (sym opening_is) (record { case = h.case; turns = (0, refl) });
    waiting = h.pending ∙ ap (λ w. w.rest) (sym at_first);
    stop = omega (arith, h.stop);
    routers = h.routers ∙ ap (routers_after a.case.now) (sym no_events);
    homes = h.homes;
    change = h.change ∙ ap (λ events. last_change a.case.now (reverse events)) (sym no_events);
    sent = h.sent;
  }
