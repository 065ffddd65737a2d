use Rattle.std.proofs.Common.{◌≡◌, ℕ, ◌+◌, List, ◌∷◌, [], ◌++◌, append_assoc, map, ap, sym, ◌∙◌}
use Rattle.std.specs.List.{range_with_len}
use Rattle.tw_model.specs.Case.{simulation}
use Rattle.tw_model.specs.State.{State}
use Rattle.tw_parallel.proofs.Ends.{one_read}
use Rattle.tw_parallel.specs.Sim.{machine}
use Rattle.tw_shape.specs.Shape.{RouterShape, bare}
use Rattle.tw_sim.specs.Simulation.{state}
use Rattle.tw_parallel.proofs.sim.Sim.gather.Goals as goal

-- one more is read of a list of routers
more : {A : Type 0} (known : ℕ → State) (read : State → A) (n : ℕ) (old now next : List A) (a : A) → next ≡ now ++ a ∷ []
    → now ≡ old ++ map read (map known (range_with_len 0 n)) → a ≡ read (known n) → next ≡ old ++ map read (map known (range_with_len 0 (n + 1)))
more known read n old now next a added so is =
    added
    ∙ ((λ i. so i ++ is i ∷ [])
    ∙ (append_assoc old (map read (map known (range_with_len 0 n))) (read (known n) ∷ []) ∙ ap (λ ys. old ++ ys) (sym (one_read known read n))))

pub loop-number-preserved : goal.loop-number-preserved
loop-number-preserved c =
    let s = c.args.self.now in
    let known : ℕ → State = λ r. state (simulation s.case) r ((machine s).history r) in
    let n = c.loop-number.number in
    let old = c.args.builder.now in
    let now = c.loop-number.builder in
    let added = c.in_ok-add_router.ensures.ok in
    let router = c.router-router.ensures.value in
    let read : ◌≡◌ {A = RouterShape} (record { rib = c.rib.result; rows = c.rows.result.now; order = c.order.result.now; barred = c.barred.result.now }) (bare c.router-router.result.now.state)
    = λ i. record { rib = c.rib.ensures.value i; rows = c.rows.ensures.value i; order = c.order.ensures.value i; barred = c.barred.ensures.value i } in
    let shape : ◌≡◌ {A = RouterShape} (record { rib = c.rib.result; rows = c.rows.result.now; order = c.order.result.now; barred = c.barred.result.now }) (bare (known n))
    = read ∙ ap (λ r. bare r.state) router in
    let sent : c.counters-sent.result.sent ≡ (known n).counters.sent = ap (λ k. k.sent) c.counters-sent.ensures.value ∙ ap (λ r. r.state.counters.sent) router in
    record {
      time = ap (λ d. d.time) added ∙ c.loop-number.invariant.time;
      routers = more known bare n old.routers now.routers _ _ (ap (λ d. d.routers) added) c.loop-number.invariant.routers shape;
      sent = more known (λ k. k.counters.sent) n old.sent now.sent _ _ (ap (λ d. d.sent) added) c.loop-number.invariant.sent sent;
    }
