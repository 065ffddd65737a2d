use Rattle.std.proofs.Common.{◌≡◌, ◌≤◌, Ok, map, ap, sym, ◌∙◌, subst, arith}
use Rattle.std.specs.Vec.{with_items}
use Rattle.std.proofs.lemmas.List.{with_items_is}
use Rattle.tw_core.specs.Steps.{least_loose, step}
use Rattle.tw_core.proofs.Steps.{next_keeps}
use Rattle.tw_model.specs.Case.{simulation}
use Rattle.tw_sim.specs.declared.machine.Step.TheVariants.{Bound}
use Rattle.tw_warp.specs.Bounds.{raised}
use Rattle.tw_warp.specs.Inside.{warp_of}
use Rattle.tw_warp.specs.Warp.{IsWarp, Warp, warp_core}
use Rattle.tw_warp.proofs.Bounds.{at_bound, bound_step, raised_is}
use Rattle.tw_warp.proofs.Moves.{law}
use Rattle.tw_warp.proofs.Turns.{seq_of}
use Rattle.tw_warp.proofs.warp.Warp.advance_bound.Goals as goal

least_is : (c : goal.After-self-2-1) → c.least_loose-least.result ≡ least_loose (simulation (warp_of c.self.inside).case) (warp_core (warp_of c.self.inside))
least_is c = c.least_loose-least.ensures ∙ ap (λ (v : Warp). least_loose (simulation v.case) (warp_core v)) (sym c.self.view_is)

reached : (c : goal.After-self-2-1)
    → record (warp_of c.self.inside) { shards = (with_items c.self.inside.shards c.raise_bounds.new.shards).items; bound = c.least_loose-least.result }
    ≡ at_bound (warp_of c.self.inside) c.least_loose-least.result
reached c =
    let w = warp_of c.self.inside in
    let bound = c.least_loose-least.result in
    ap (λ shards. record w { shards = shards; bound = bound })
    (with_items_is c.self.inside.shards c.raise_bounds.new.shards (c.raise_bounds.auto.shards ∙ c.deref_mut.ensures.len)
    ∙ (c.raise_bounds.ensures ∙ ap (map (raised bound)) c.deref_mut.ensures.value))

pub invariant_of-self : goal.invariant_of-self
invariant_of-self c =
    subst IsWarp (sym (reached c)) (raised_is (warp_of c.self.inside) c.self.invariant c.least_loose-least.result (least_is c))

pub returns-clause-done : goal.returns-clause-done
returns-clause-done c =
    let w = warp_of c.self.inside in
    let after = record w { shards = (with_items c.self.inside.shards c.raise_bounds.new.shards).items; bound = c.least_loose-least.result } in
    subst (λ (v : Warp). step (simulation v.case) (warp_core v) Bound ≡ Ok (warp_core after)) c.self.view_is
    (bound_step w c.self.invariant c.least_loose-least.result (least_is c) ∙ ap (λ v. Ok (warp_core v)) (sym (reached c)))

pub returns-clause-seq : goal.returns-clause-seq
returns-clause-seq c = seq_of _ (invariant_of-self c)

pub returns-clause-rising : goal.returns-clause-rising
returns-clause-rising c =
    let w = warp_of c.self.inside in
    let rises : w.bound ≤ least_loose (simulation w.case) (warp_core w) = (next_keeps (simulation w.case) (law w c.self.invariant) (warp_core w) Bound c.self.invariant.good).bound in
    let told : w.bound ≡ c.args.self.now.bound = ap (λ (v : Warp). v.bound) c.self.view_is in
    let least = least_is c in
    omega arith
