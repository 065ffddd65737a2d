use Rattle.std.proofs.Common.{sym, ◌∙◌}
use Rattle.tw_engine.proofs.Openings.{own_inserted, passed, taken}
use Rattle.tw_process.specs.Behaviour.{simulation_of}
use Rattle.tw_engine.proofs.logical.put_own.Goals as goal

pub returns-then-dst-number : goal.returns-then-dst-number
returns-then-dst-number g c =
    let m = simulation_of g.M.Event.Timed.parts g.M.Event.Ord.cmp (g.M.ProcessModel.behaviour c.args.model.now) in
    record { own = c.requires.own; pending = passed m c.args.number c.args.event c.args.pending.now (λ home. c.if-dst-number.true (c.dst.ensures ∙ home)) }

pub returns : goal.returns
returns g c =
    let m = simulation_of g.M.Event.Timed.parts g.M.Event.Ord.cmp (g.M.ProcessModel.behaviour c.args.model.now) in
    let home = sym c.dst.ensures ∙ c.if-dst-number.false in
    record {
      own = own_inserted m c.args.number c.args.event c.args.pending.now c.insert.new.self c.in_ok-insert.ensures.ok home c.requires.suits c.requires.own;
      pending = c.in_ok-insert.ensures.ok ∙ taken m c.args.number c.args.event c.args.pending.now home;
    }
