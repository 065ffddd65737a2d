use Rattle.std.proofs.Common.{◌≡◌, ◌↔◌, true, sym, subst}
use Rattle.tw_parallel.proofs.Owners.{have_all}
use Rattle.tw_parallel.proofs.Removing.{none_records}
use Rattle.tw_parallel.specs.Inside.{sim_of}
use Rattle.tw_parallel.specs.Settled.{HasNoRecords}
use Rattle.tw_parallel.specs.Sim.{Sim}
use Rattle.tw_shard.specs.Cut.{NoneAhead}
use Rattle.tw_shard.specs.Shards.{HaveAll}
use Rattle.tw_parallel.proofs.sim.Sim.has_no_records.Goals as goal

pub is_none_ahead-requires : goal.is_none_ahead-requires
is_none_ahead-requires c =
    let a = c.self.inside in
    subst (HaveAll (sim_of a).case) (sym c.deref.ensures.value) (have_all a c.self.invariant)

pub returns : goal.returns
returns c =
    let a = c.self.inside in
    let told = c.is_none_ahead.ensures in
    let records = none_records a c.self.invariant in
    subst (λ (s : Sim). (c.is_none_ahead.result ≡ true) ↔ HasNoRecords s) c.self.view_is (
      (λ told_so. records.0 (subst (NoneAhead a.case.now) c.deref.ensures.value (told.0 told_so))),
      (λ none. told.1 (subst (NoneAhead a.case.now) (sym c.deref.ensures.value) (records.1 none))),
    )
