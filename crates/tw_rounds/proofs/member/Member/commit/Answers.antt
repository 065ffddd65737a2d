use Rattle.std.proofs.Common.{[], subst}
use Rattle.tw_process.specs.Behaviour.{simulation_of}
use Rattle.tw_rounds.proofs.Members.{committed, mailed}
use Rattle.tw_rounds.specs.Members.{KeepsTo}
use Rattle.tw_rounds.specs.Shares.{on_way}
use Rattle.tw_rounds.proofs.member.Member.commit.Goals as goal

pub returns-clause-kept : goal.returns-clause-kept
returns-clause-kept g c =
    let a = c.self.inside in
    let sim = λ (model : g.row.M.Denot). simulation_of g.M.Event.Timed.parts g.M.Event.Ord.cmp (g.M.ProcessModel.behaviour model) in
    subst (λ x. KeepsTo (sim x.process.model) 0 x (mailed c.commit.new.self [] (on_way a.sent) a.least)) c.self.view_is
    (committed (sim a.process.model) (mailed a.process [] (on_way a.sent) a.least) c.commit.new.self c.in_ok-commit.ensures.events c.in_ok-commit.ensures.ok)
