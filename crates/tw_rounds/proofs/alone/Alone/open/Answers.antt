use Rattle.std.proofs.Common.{◌≡◌, ap, ◌∙◌, arith}
use Rattle.tw_process.specs.Behaviour.{simulation_of}
use Rattle.tw_rounds.proofs.Lone.{alone_opened, committed_opened, none_logged}
use Rattle.tw_sim.specs.Seq.{begin, insert_all}
use Rattle.tw_rounds.proofs.alone.Alone.open.Goals as goal

pub invariant_of-result : goal.invariant_of-result
invariant_of-result g c =
    let model = c.args.model.now in
    let m = simulation_of g.M.Event.Timed.parts g.M.Event.Ord.cmp (g.M.ProcessModel.behaviour model) in
    let law = c.model_is_lawful.ensures.lawful in
    let pending = c.insert_all.new.self in
    let events = c.deref.ensures.value ∙ c.in_ok-openings.ensures in
    let is : pending ≡ (begin m).rest =
    c.in_ok-insert_all.ensures.ok ∙ (ap (λ xs. insert_all m xs c.in_ok-pending.pending) events ∙ ap (insert_all m m.opening) c.in_ok-pending.ensures) in (
      alone_opened m law c.model_is_lawful.ensures.numbered model pending is,
      committed_opened m law c.model_is_lawful.ensures.numbered model pending is c.in_ok-members.members.items c.in_ok-members.ensures.count c.in_ok-members.ensures.each,
      c.in_ok-sends.ensures.len,
      omega (arith, c.in_ok-sends.ensures.capacity, c.most_sends.ensures),
      omega arith,
    )

pub returns-clause-none : goal.returns-clause-none
returns-clause-none g c =
    let model = c.args.model.now in
    let m = simulation_of g.M.Event.Timed.parts g.M.Event.Ord.cmp (g.M.ProcessModel.behaviour model) in
    let events = c.deref.ensures.value ∙ c.in_ok-openings.ensures in
    none_logged m c.model_is_lawful.ensures.lawful c.model_is_lawful.ensures.numbered model c.insert_all.new.self
    (c.in_ok-insert_all.ensures.ok ∙ (ap (λ xs. insert_all m xs c.in_ok-pending.pending) events ∙ ap (insert_all m m.opening) c.in_ok-pending.ensures))
