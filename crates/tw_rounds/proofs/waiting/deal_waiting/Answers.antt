use Rattle.std.proofs.Common.{◌≡◌, ◌+◌, [], ◌∷◌, drop, set, true, refl, ap, sym, ◌∙◌, subst, arith}
use Rattle.std.proofs.lemmas.List.{drop_all}
use Rattle.tw_engine.proofs.Openings.{step, taken}
use Rattle.tw_process.specs.Behaviour.{simulation_of}
use Rattle.tw_rounds.proofs.Lists.{set_same, there_at}
use Rattle.tw_rounds.proofs.Waits.{AreLeft, changed, one_changed, one_dealt, waits_same}
use Rattle.tw_rounds.specs.Alone.{AreCommitted, dealt}
use Rattle.tw_rounds.specs.Members.{awaiting}
use Rattle.tw_sim.specs.Seq.{insert, insert_all}
use Rattle.tw_sim.specs.Simulation.{only}
use Rattle.tw_rounds.proofs.waiting.deal_waiting.Goals as goal

pub loop-event-init : goal.loop-event-init
loop-event-init g c = record {
  so_far = λ run are. ((λ r. []), are, record { rest = λ r. refl });
  suited = c.requires.suits;
}

pub returns-clause-ok : goal.returns-clause-ok
returns-clause-ok g c = λ run are.
    let m = simulation_of g.M.Event.Timed.parts g.M.Event.Ord.cmp (g.M.ProcessModel.behaviour c.args.model.now) in
    let k = c.loop-event.invariant.so_far run are in
    let over = drop_all c.loop-event.event-index c.args.events.now (let end = c.loop-event-test.false in omega arith) in
    let left = subst (λ events. AreLeft m run c.args.events.now events k.0) over k.2 in
    waits_same m run k.0 (dealt m c.args.events.now) c.loop-event.members (λ r l. left.rest r) k.1

pub returns-clause-some : goal.returns-clause-some
returns-clause-some g c = λ run are. (let k = c.loop-event.invariant.so_far run are in (k.0, k.1))

pub returns-in_err-add_at-clause-some : goal.returns-in_err-add_at-clause-some
returns-in_err-add_at-clause-some g c = λ run are.
    let m = simulation_of g.M.Event.Timed.parts g.M.Event.Ord.cmp (g.M.ProcessModel.behaviour c.args.model.now) in
    let xs = c.loop-event.members in
    let e = c.event-item.result in
    let suits = (step (λ x. m.suits x ≡ true) c.args.events.now c.loop-event.event-index e c.loop-event-test.true c.event-item.is c.loop-event.invariant.suited).1 in
    let there = c.model_is_lawful.ensures.lawful.receiver e suits in
    let k = c.loop-event.invariant.so_far run are in
    let n = c.dst.result in
    let old = there_at xs n (let count = k.1.count in omega (arith, c.dst.ensures, count, there)) in
    (k.0, subst (AreCommitted m run k.0) (sym (c.in_err-add_at.ensures.err old.0 old.1 ∙ set_same xs n old.0 old.1)) k.1)

pub add_at-requires-clause-here : goal.add_at-requires-clause-here
add_at-requires-clause-here g c =
    let m = simulation_of g.M.Event.Timed.parts g.M.Event.Ord.cmp (g.M.ProcessModel.behaviour c.args.model.now) in
    let suits = (step (λ e. m.suits e ≡ true) c.args.events.now c.loop-event.event-index c.event-item.result c.loop-event-test.true c.event-item.is c.loop-event.invariant.suited).1 in
    let there = c.model_is_lawful.ensures.lawful.receiver c.event-item.result suits in
    let count = (c.loop-event.invariant.so_far c.requires.each.0 c.requires.each.2).1.count in
    omega (arith, c.dst.ensures, count, there)

pub add_at-requires-clause-own : goal.add_at-requires-clause-own
add_at-requires-clause-own g c = λ x at.
    let k = c.loop-event.invariant.so_far c.requires.each.0 c.requires.each.2 in
    sym c.dst.ensures ∙ sym (k.1.each c.dst.result x at).0.number

pub add_at-requires-clause-suit : goal.add_at-requires-clause-suit
add_at-requires-clause-suit g c = λ x at.
    let m = simulation_of g.M.Event.Timed.parts g.M.Event.Ord.cmp (g.M.ProcessModel.behaviour c.args.model.now) in
    let suits = (step (λ e. m.suits e ≡ true) c.args.events.now c.loop-event.event-index c.event-item.result c.loop-event-test.true c.event-item.is c.loop-event.invariant.suited).1 in
    let k = c.loop-event.invariant.so_far c.requires.each.0 c.requires.each.2 in
    subst (λ md. (g.M.ProcessModel.behaviour md).suits c.event-item.result ≡ true) (sym ((k.1.each c.dst.result x at).0.model ∙ c.requires.each.1)) suits

pub loop-event-preserved : goal.loop-event-preserved
loop-event-preserved g c =
    let sim = λ (model : g.row.M.Denot). simulation_of g.M.Event.Timed.parts g.M.Event.Ord.cmp (g.M.ProcessModel.behaviour model) in
    let model = c.args.model.now in
    let m = sim model in
    let xs = c.loop-event.members in
    let events = c.args.events.now in
    let index = c.loop-event.event-index in
    let e = c.event-item.result in
    let next = step (λ x. m.suits x ≡ true) events index e c.loop-event-test.true c.event-item.is c.loop-event.invariant.suited in
    let there = c.model_is_lawful.ensures.lawful.receiver e next.1 in
    let one = c.loop-event.invariant.so_far c.requires.each.0 c.requires.each.2 in
    let n = c.dst.result in
    let home : m.dst e ≡ n = sym c.dst.ensures in
    let old = there_at xs n (let count = one.1.count in omega (arith, c.dst.ensures, count, there)) in
    let x = old.0 in
    let same = (one.1.each n x old.1).0.model ∙ c.requires.each.1 in
    let became = subst (λ md. c.add_at.new.members ≡ set xs n (awaiting (sim md) e x)) same (c.in_ok-add_at.ensures.ok x old.1) in
    record {
      so_far = λ run are.
          let k = c.loop-event.invariant.so_far run are in
          let left = subst (λ es. AreLeft m run events es k.0) next.0 k.2 in
          let to_n = one_dealt m run events (drop (index + 1) events) k.0 e left in
          let pending : insert m e x.process.pending ≡ insert_all m (only m n (e ∷ [])) (k.0 n) =
          taken m n e x.process.pending home ∙ ap (insert_all m (only m n (e ∷ []))) (k.1.each n x old.1).1 in
          let put = one_changed m run k.0 xs n x (insert m e x.process.pending) old.1 k.1 in (
            changed m run n (insert_all m (only m n (e ∷ [])) (k.0 n)) k.0,
            subst (λ ys. AreCommitted m run (changed m run n (insert_all m (only m n (e ∷ [])) (k.0 n)) k.0) ys) (sym became)
                (subst (λ p. AreCommitted m run (changed m run n p k.0) (set xs n (awaiting m e x))) pending put),
            subst (λ d. AreLeft m run events (drop (index + 1) events) (changed m run d (insert_all m (only m d (e ∷ [])) (k.0 d)) k.0)) home to_n,
          );
      suited = next.2;
    }
