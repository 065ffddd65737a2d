-- What a stable path depends on.
use Rattle.std.proofs.Common.{arith, ◌≡◌, ℕ, ◌<◌, not, ◌&&◌, refl, ap}
use Rattle.std.specs.List.{zip}
use Rattle.tw_event.specs.declared.event.PathNo.{PathNo}
use Rattle.tw_model.specs.Net.{Net, hops_of}
use Rattle.tw_model.specs.State.{State, bars}
use Rattle.tw_model.specs.Quiet.{is_reached, reaches, stable_path}
use Rattle.tw_sim.proofs.Members.{find_agree, in_zip}
use Rattle.tw_model.proofs.Nets.{hop_of}
use Rattle.tw_policy.proofs.Lists.{any_agree}

-- two assignments that agree on the net's routers allow the same
reaches_agree : (net : Net) (v : ℕ) (s : State) (one two : ℕ → PathNo) → ((w : ℕ) → w < net.nodes → one w ≡ two w) → (q : PathNo)
    → is_reached net one v s q ≡ is_reached net two v s q
reaches_agree net v s one two same q =
    ap (λ b. not (bars net v s.barred q) && b)
    (any_agree (reaches net v one q) (reaches net v two q) (zip (hops_of net v) s.rows)
    (λ p i. let there = (hop_of net v p.0 (in_zip p (hops_of net v) s.rows i).0).2 in rw (same p.0.peer there) refl))

pub stable_agree : (net : Net) (v : ℕ) (s : State) (one two : ℕ → PathNo) → ((w : ℕ) → w < net.nodes → one w ≡ two w)
    → stable_path net one v s ≡ stable_path net two v s
stable_agree net v s one two same = grind (arith, find_agree, reaches_agree)
