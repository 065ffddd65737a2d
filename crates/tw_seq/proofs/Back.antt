-- The way back from the least pending event, where there is no room for it.
use Rattle.std.proofs.Common.{◌≡◌, ◌≤◌, [], reverse, ap, sym, ◌∙◌, subst}
use Rattle.tw_model.specs.declared.limits.TheConstants.{LATEST}
use Rattle.tw_model.specs.Quiet.{last_change}
use Rattle.tw_seq.specs.declared.one_thread.OneThread.TheInside.{Inside}
use Rattle.tw_seq.specs.Run.{IsBegun, routers_after}
use Rattle.tw_seq.specs.Thread.{IsThread, handled_count, run_of, world_after}

-- a run with the same fields
module _ (a b : Inside) (case : b.case.now ≡ a.case.now) (routers : b.routers.items ≡ a.routers.items) where
  same_world : world_after a.case.now (handled_count a.routers.items) ≡ world_after b.case.now (handled_count b.routers.items)
  same_world = λ i. world_after (sym case i) (handled_count (sym routers i))

  -- it has handled the same events
  pub same_run : b.stop ≡ a.stop → b.pending.events ≡ a.pending.events → run_of a ≡ run_of b
  same_run stop pending = λ i. record { case = sym case i; stop = sym stop i; events = reverse (same_world i).log; pending = sym pending i }

  pub back_thread : IsThread a → b.stop ≡ a.stop → b.pending.routers ≡ a.pending.routers → b.pending.events ≡ a.pending.events → b.last_change ≡ a.last_change
      → b.sends.items ≡ [] → IsThread b
  back_thread thread stop homes pending change sent =
      let events = ap (λ w. reverse w.log) same_world in
      record {
        begun = subst IsBegun (same_run stop pending) thread.begun;
        waiting = pending ∙ (thread.waiting ∙ ap (λ w. w.rest) same_world);
        stop = subst (λ t. t ≤ LATEST) (sym stop) thread.stop;
        routers = routers ∙ (thread.routers ∙ λ i. routers_after (sym case i) (events i));
        homes = homes ∙ (thread.homes ∙ ap (λ c. c.net.nodes) (sym case));
        change = change ∙ (thread.change ∙ λ i. last_change (sym case i) (reverse (events i)));
        sent = sent;
      }
