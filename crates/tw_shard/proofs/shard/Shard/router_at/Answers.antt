use Rattle.std.proofs.Common.{◌≡◌, ℕ, List, Some, get_or, ap, sym, ◌∙◌}
use Rattle.std.proofs.lemmas.Option.{slice_get-get_or}
use Rattle.tw_shard.specs.Shard.{routers}
use Rattle.tw_shard.proofs.Rosters.{has_at}
use Rattle.tw_shard.proofs.shard.Shard.router_at.Goals as goal

same : (c : goal.After-shared_slice_known-1) → c.routers.result.now ≡ routers c.args.self.now
same c = c.routers.ensures.value ∙ ap (λ s. s.routers) c.self.view_is

pub returns-clause-value : goal.returns-clause-value
returns-clause-value c = slice_get-get_or (routers c.args.self.now) c.args.k 0 c.requires ∙ ap (λ (rs : List ℕ). Some (get_or rs c.args.k 0)) (sym (same c))

pub returns-clause-own : goal.returns-clause-own
returns-clause-own c =
    has_at (routers c.args.self.now) c.args.k (get_or c.routers.result.now c.args.k 0) (record { within = c.requires; is = ap (λ (rs : List ℕ). get_or rs c.args.k 0) (sym (same c)) })
