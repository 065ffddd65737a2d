use Rattle.std.proofs.Common.{subst}
use Rattle.tw_process.specs.Behaviour.{simulation_of}
use Rattle.tw_rounds.specs.Members.{KeepsTo}
use Rattle.tw_rounds.proofs.member.Member.begin_round.Goals as goal

pub returns-clause-kept : goal.returns-clause-kept
returns-clause-kept g c =
    let sim = λ (model : g.row.M.Denot). simulation_of g.M.Event.Timed.parts g.M.Event.Ord.cmp (g.M.ProcessModel.behaviour model) in
    subst (λ x. KeepsTo (sim x.process.model) 0 x c.commit.new.self) c.raise_bound.ensures c.commit.ensures.kept
