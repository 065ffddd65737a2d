use Rattle.std.proofs.Common.{slice_get, ap, subst, sym, ◌∙◌}
use Rattle.tw_shard.specs.Roster.{IsRoster, has, room_of}
use Rattle.tw_shard.proofs.Rosters.{has_noted, has_none, is_roster}
use Rattle.tw_shard.proofs.roster.Roster.has.Goals as goal

pub returns-in-Some-clause-value : goal.returns-in-Some-clause-value
returns-in-Some-clause-value c =
    let a = c.self.inside in
    has_noted a.routers.items a.places.items c.self.invariant c.args.router c.in-Some.place (sym (c.noted.ensures ∙ ap (λ ps. slice_get ps c.args.router) c.deref.ensures.value) ∙ c.in-Some.is)
    ∙ ap (λ x. has x.routers c.args.router) c.self.view_is

pub returns-in-None-clause-value : goal.returns-in-None-clause-value
returns-in-None-clause-value c =
    let a = c.self.inside in
    has_none a.routers.items a.places.items c.self.invariant c.args.router (sym (c.noted.ensures ∙ ap (λ ps. slice_get ps c.args.router) c.deref.ensures.value) ∙ c.in-None.is)
    ∙ ap (λ x. has x.routers c.args.router) c.self.view_is

pub returns-in-Some-clause-roster : goal.returns-in-Some-clause-roster
returns-in-Some-clause-roster c = let a = c.self.inside in subst IsRoster c.self.view_is (is_roster a.routers.items a.places.items c.self.invariant (room_of a))

pub returns-in-None-clause-roster : goal.returns-in-None-clause-roster
returns-in-None-clause-roster c = let a = c.self.inside in subst IsRoster c.self.view_is (is_roster a.routers.items a.places.items c.self.invariant (room_of a))
