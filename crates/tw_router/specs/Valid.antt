-- What holds of every router (own).
use Rattle.std.specs.Prelude.{◌<◌}
use Rattle.tw_model.specs.Rules.{IsNet}
use Rattle.tw_model.specs.State.{IsState, Router}

-- a router of an instance that keeps the rules, in a state that it can have
pub record IsRouter (router : Router) : Type 0 where
  pub net : IsNet router.net
  pub node : router.node < router.net.nodes
  pub state : IsState router.net router.node router.state
