use Rattle.std.proofs.Common.{◌≡◌, ◌<◌, ◌-◌, min, vec_capacity, vec_len, ◌++◌, ◌∷◌, [], false, length, set, sym, subst, arith, ap, ◌∙◌}
use Rattle.tw_shard.specs.Roster.{IsTableOf, has}
use Rattle.tw_shard.proofs.Rosters.{table_added}
use Rattle.tw_shard.proofs.roster.Roster.add.Goals as goal

pub invariant_of-self : goal.invariant_of-self
invariant_of-self c =
    let a = c.self.inside in
    let r = c.args.router in
    let known : r < length a.places.items = subst (λ x. r < x.count) (sym c.self.view_is) c.requires.known in
    let new : has a.routers.items r ≡ false = ap (λ x. has x.routers r) c.self.view_is ∙ c.requires.new in
    let room : 0 < min (vec_capacity a.routers - vec_len a.routers) (4294967295 - vec_len a.routers) = subst (λ x. 0 < x.room) (sym c.self.view_is) c.requires.room in
    let long = a.routers.ok.0 in
    subst (λ rs. IsTableOf rs (set a.places.items r c.len.result)) (sym c.push_reserved.ensures.items)
    (subst (λ n. IsTableOf (a.routers.items ++ r ∷ []) (set a.places.items r n)) (sym (c.len.ensures ∙ long))
    (table_added a.routers.items a.places.items c.self.invariant r known new (omega arith)))
