use Rattle.std.proofs.Common.{◌≡◌, ◌≤◌, ◌++◌, drop, nat_lt, reverse, take, ap, sym, ◌∙◌, subst}
use Rattle.std.specs.List.{prefix_len}
use Rattle.tw_engine.specs.Past.{committed_to, count_left, events_of, not_before}
use Rattle.tw_engine.proofs.Below.{all_committed, all_stay}
use Rattle.tw_engine.proofs.Commits.{gone_events, left_events, past_committed}
use Rattle.tw_process.specs.Behaviour.{simulation_of}
use Rattle.tw_sim.specs.Simulation.{IsFalling, below}
use Rattle.tw_engine.proofs.past.Past.commit.Goals as goal

pub invariant_of-self-2 : goal.invariant_of-self-2
invariant_of-self-2 g c =
    let a = c.self.inside in
    let bound = c.args.bound in
    let m = simulation_of g.M.Event.Timed.parts g.M.Event.Ord.cmp (g.M.ProcessModel.behaviour a.model.now) in
    let steps = a.steps.items in
    let n = c.first_before-count.result in
    let first : n ≡ prefix_len (λ d. nat_lt (m.time d.event) bound) steps = c.first_before-count.ensures.value ∙ ap (prefix_len (λ d. nat_lt (m.time d.event) bound)) c.deref.ensures.value in
    let gone : c.add_steps.new.self ≡ record a.committed { past = events_of (reverse (take n steps)) ++ a.committed.past } =
    c.in_ok-add_steps.ensures.ok ∙ ap (λ xs. record a.committed { past = events_of (reverse (take n xs)) ++ a.committed.past }) c.deref-2.ensures.value in
    let later : a.done ≤ bound = subst (λ p. p.done ≤ bound) (sym c.self.view_is) c.requires in (
      c.self.invariant.0,
      past_committed m (g.M.ProcessModel.behaviour a.model.now).latest (g.M.ProcessModel.is_note a.model.now) a.number (g.M.ProcessModel.known a.state) a.done bound n a.committed.past c.add_steps.new.self.past
          steps c.drop_first.new.steps.items later first (ap (λ s. s.past) gone) c.drop_first.ensures c.self.invariant.1,
      ap (λ s. s.model) gone ∙ c.self.invariant.2,
      ap (λ s. s.number) gone ∙ c.self.invariant.3,
    )

pub returns-clause-ok : goal.returns-clause-ok
returns-clause-ok g c =
    let a = c.self.inside in
    let bound = c.args.bound in
    let m = simulation_of g.M.Event.Timed.parts g.M.Event.Ord.cmp (g.M.ProcessModel.behaviour a.model.now) in
    let steps = a.steps.items in
    let n = c.first_before-count.result in
    let first : n ≡ prefix_len (λ d. nat_lt (m.time d.event) bound) steps = c.first_before-count.ensures.value ∙ ap (prefix_len (λ d. nat_lt (m.time d.event) bound)) c.deref.ensures.value in
    let gone : c.add_steps.new.self ≡ record a.committed { past = events_of (reverse (take n steps)) ++ a.committed.past } =
    c.in_ok-add_steps.ensures.ok ∙ ap (λ xs. record a.committed { past = events_of (reverse (take n xs)) ++ a.committed.past }) c.deref-2.ensures.value in
    let sim = λ (model : g.row.M.Denot). simulation_of g.M.Event.Timed.parts g.M.Event.Ord.cmp (g.M.ProcessModel.behaviour model) in
    let events = events_of (reverse steps) in
    let left : events_of (reverse c.drop_first.new.steps.items) ≡ take (count_left m bound events) events = ap (λ l. events_of (reverse l)) c.drop_first.ensures ∙ sym (left_events m bound n steps first) in
    let kept : c.add_steps.new.self.past ≡ drop (count_left m bound events) events ++ a.committed.past =
    ap (λ s. s.past) gone ∙ ap (λ l. l ++ a.committed.past) (sym (gone_events m bound n steps first)) in
    (λ i. record { model = a.model.now; number = a.number; ahead = left i; past = kept i; done = bound }) ∙ (λ i. committed_to (sim (c.self.view_is i).model) bound (c.self.view_is i))

pub returns-clause-past : goal.returns-clause-past
returns-clause-past g c =
    let a = c.self.inside in
    let bound = c.args.bound in
    let m = simulation_of g.M.Event.Timed.parts g.M.Event.Ord.cmp (g.M.ProcessModel.behaviour a.model.now) in
    let steps = a.steps.items in
    let n = c.first_before-count.result in
    let first : n ≡ prefix_len (λ d. nat_lt (m.time d.event) bound) steps = c.first_before-count.ensures.value ∙ ap (prefix_len (λ d. nat_lt (m.time d.event) bound)) c.deref.ensures.value in
    let gone : c.add_steps.new.self ≡ record a.committed { past = events_of (reverse (take n steps)) ++ a.committed.past } =
    c.in_ok-add_steps.ensures.ok ∙ ap (λ xs. record a.committed { past = events_of (reverse (take n xs)) ++ a.committed.past }) c.deref-2.ensures.value in
    let later : a.done ≤ bound = subst (λ p. p.done ≤ bound) (sym c.self.view_is) c.requires in
    let sim = λ (model : g.row.M.Denot). simulation_of g.M.Event.Timed.parts g.M.Event.Ord.cmp (g.M.ProcessModel.behaviour model) in
    subst (λ p. IsFalling (sim p.model) (p.ahead ++ p.past) → c.add_steps.new.self.past ≡ below (sim p.model) bound (p.ahead ++ p.past)) c.self.view_is
    (λ falling. ap (λ s. s.past) gone ∙ sym (all_committed m c.model_is_lawful.ensures.lawful bound a.done n a.committed.past steps later first c.self.invariant.1.early falling))

pub returns-clause-ahead : goal.returns-clause-ahead
returns-clause-ahead g c =
    let a = c.self.inside in
    let bound = c.args.bound in
    let m = simulation_of g.M.Event.Timed.parts g.M.Event.Ord.cmp (g.M.ProcessModel.behaviour a.model.now) in
    let steps = a.steps.items in
    let n = c.first_before-count.result in
    let first : n ≡ prefix_len (λ d. nat_lt (m.time d.event) bound) steps = c.first_before-count.ensures.value ∙ ap (prefix_len (λ d. nat_lt (m.time d.event) bound)) c.deref.ensures.value in
    let later : a.done ≤ bound = subst (λ p. p.done ≤ bound) (sym c.self.view_is) c.requires in
    let sim = λ (model : g.row.M.Denot). simulation_of g.M.Event.Timed.parts g.M.Event.Ord.cmp (g.M.ProcessModel.behaviour model) in
    subst (λ p. IsFalling (sim p.model) (p.ahead ++ p.past) → events_of (reverse c.drop_first.new.steps.items) ≡ not_before (sim p.model) bound (p.ahead ++ p.past)) c.self.view_is
    (λ falling.
    ap (λ l. events_of (reverse l)) c.drop_first.ensures
    ∙ sym (all_stay m c.model_is_lawful.ensures.lawful bound a.done n a.committed.past steps later first c.self.invariant.1.early falling))
