use Rattle.std.proofs.Common.{[], OnErr, OnOk, sym, subst}
use Rattle.tw_process.specs.Behaviour.{simulation_of}
use Rattle.tw_rounds.proofs.Lists.{on_err_each, on_ok_each}
use Rattle.tw_rounds.proofs.Members.{handed_met, handed_received, handed_welcome, mailed}
use Rattle.tw_rounds.specs.Members.{IsSound, KeepsTo, handed}
use Rattle.tw_rounds.specs.Shares.{on_way}
use Rattle.tw_rounds.proofs.member.Member.receive.Goals as goal

pub receive-requires-clause-own : goal.receive-requires-clause-own
receive-requires-clause-own g c =
    let a = c.self.inside in
    let sim = λ (model : g.row.M.Denot). simulation_of g.M.Event.Timed.parts g.M.Event.Ord.cmp (g.M.ProcessModel.behaviour model) in
    let x = mailed a.process [] (on_way a.sent) a.least in
    let s = c.args.message in
    let sound = subst (λ z. IsSound (sim z.process.model) c.requires.0 (handed s z)) (sym c.self.view_is) c.requires.1 in
    (handed_welcome (sim a.process.model) x s c.requires.0 sound).0

pub receive-requires-clause-late : goal.receive-requires-clause-late
receive-requires-clause-late g c =
    let a = c.self.inside in
    let sim = λ (model : g.row.M.Denot). simulation_of g.M.Event.Timed.parts g.M.Event.Ord.cmp (g.M.ProcessModel.behaviour model) in
    let x = mailed a.process [] (on_way a.sent) a.least in
    let s = c.args.message in
    let sound = subst (λ z. IsSound (sim z.process.model) c.requires.0 (handed s z)) (sym c.self.view_is) c.requires.1 in
    (handed_welcome (sim a.process.model) x s c.requires.0 sound).1

pub receive-requires-clause-suits : goal.receive-requires-clause-suits
receive-requires-clause-suits g c =
    let a = c.self.inside in
    let sim = λ (model : g.row.M.Denot). simulation_of g.M.Event.Timed.parts g.M.Event.Ord.cmp (g.M.ProcessModel.behaviour model) in
    let x = mailed a.process [] (on_way a.sent) a.least in
    let s = c.args.message in
    let sound = subst (λ z. IsSound (sim z.process.model) c.requires.0 (handed s z)) (sym c.self.view_is) c.requires.1 in
    (handed_welcome (sim a.process.model) x s c.requires.0 sound).2

pub returns-clause-ok : goal.returns-clause-ok
returns-clause-ok g c =
    let a = c.self.inside in
    let sim = λ (model : g.row.M.Denot). simulation_of g.M.Event.Timed.parts g.M.Event.Ord.cmp (g.M.ProcessModel.behaviour model) in
    let x = mailed a.process [] (on_way a.sent) a.least in
    let s = c.args.message in
    let q = c.receive.new.process in
    subst (λ z. OnOk c.receive.result (KeepsTo (sim z.process.model) 0 (handed s z) (mailed q [] (on_way a.sent) a.least))) c.self.view_is
    (on_ok_each c.receive.result (handed_received (sim a.process.model) x s q c.receive.ensures.same.model c.receive.ensures.same.number) c.receive.ensures.ok)

pub returns-clause-err : goal.returns-clause-err
returns-clause-err g c =
    let a = c.self.inside in
    let sim = λ (model : g.row.M.Denot). simulation_of g.M.Event.Timed.parts g.M.Event.Ord.cmp (g.M.ProcessModel.behaviour model) in
    let x = mailed a.process [] (on_way a.sent) a.least in
    let s = c.args.message in
    let q = c.receive.new.process in
    subst (λ z. OnErr c.receive.result (KeepsTo (sim z.process.model) 0 (handed s z) (handed s (mailed q [] (on_way a.sent) a.least)))) c.self.view_is
    (on_err_each c.receive.result (handed_met (sim a.process.model) x s q c.receive.ensures.same.model c.receive.ensures.same.number) c.receive.ensures.err)
