use Rattle.std.proofs.Common.{◌≡◌, ◌<◌, ℕ, Some, true, length, slice_get, ap, sym, subst, ◌∙◌}
use Rattle.std.proofs.lemmas.Option.{get_or_from_slice_get, slice_get_within}
use Rattle.tw_shard.specs.declared.roster.Roster.TheInside.{Inside}
use Rattle.tw_shard.specs.Roster.{IsIndexed, Roster, has, place_in, roster_of}
use Rattle.tw_shard.proofs.Rosters.{noted_place, stands}
use Rattle.tw_shard.proofs.roster.Roster.place.Goals as goal

noted : (a : Inside) (x : Roster) (r : ℕ) → roster_of a ≡ x → IsIndexed a → has x.routers r ≡ true → slice_get a.places.items r ≡ Some (place_in x.routers r)
noted a x r is t here =
    noted_place a.routers.items a.places.items t r (ap (λ x. has x.routers r) is ∙ here) ∙ ap (λ x. Some (place_in x.routers r)) is

pub index-requires : goal.index-requires
index-requires c =
    let a = c.self.inside in
    let within = slice_get_within a.places.items c.args.router _ (noted a c.args.self.now c.args.router c.self.view_is c.self.invariant c.requires) in
    subst (λ n. c.args.router < n) (sym a.places.ok.0) within

pub returns-clause-value : goal.returns-clause-value
returns-clause-value c =
    let a = c.self.inside in
    c.index.ensures
    ∙ get_or_from_slice_get a.places.items c.args.router _ c.index.result.now (noted a c.args.self.now c.args.router c.self.view_is c.self.invariant c.requires)

pub returns-clause-within : goal.returns-clause-within
returns-clause-within c =
    subst (λ k. k < length c.args.self.now.routers) (sym (returns-clause-value c)) (stands c.args.self.now.routers c.args.router c.requires).within
