use Rattle.std.proofs.Common.{◌≡◌, ℕ, ◌<◌, arith, ap, sym, ◌∙◌, subst, inl, inr}
use Rattle.tw_exchange.specs.Board.{Board, IsListed, listed, who}
use Rattle.tw_exchange.proofs.Moving.{same_listed}
use Rattle.tw_parallel.proofs.Moved.{all_listed, all_owned, listed_sim, mail_known}
use Rattle.tw_parallel.specs.Inside.{sim_of}
use Rattle.tw_parallel.specs.Sim.{IsSim, Sim}
use Rattle.tw_parallel.proofs.sim.Sim.move_to.Goals as goal

pub list_owners-requires : goal.list_owners-requires
list_owners-requires c =
    let a = sim_of c.self.inside in
    let many = c.nodes.ensures.value ∙ ap (λ net. net.nodes) c.instance.ensures.value in
    -- an exchange fits into memory
    (omega arith, (all_owned a c.self.invariant.sim c.nodes.result many, mail_known a c.self.invariant.sim c.nodes.result many))

pub invariant_of-self-2 : goal.invariant_of-self-2
invariant_of-self-2 c = record {
  sim = subst (λ (x : Board). IsSim (record (sim_of c.self.inside) { board = x })) (sym c.in_ok-list_owners.ensures.listed)
      (listed_sim (sim_of c.self.inside) c.self.invariant.sim c.nodes.result (c.nodes.ensures.value ∙ ap (λ net. net.nodes) c.instance.ensures.value));
  hands = c.self.invariant.hands;
}

pub move_each-requires-clause-listed : goal.move_each-requires-clause-listed
move_each-requires-clause-listed c =
    let count : c.nodes.result ≡ c.self.inside.case.now.net.nodes = c.nodes.ensures.value ∙ ap (λ net. net.nodes) c.instance.ensures.value in
    λ r l. subst (IsListed r) (sym c.in_ok-list_owners.ensures.listed) (all_listed (sim_of c.self.inside) c.self.invariant.sim c.nodes.result count r (subst (λ n. r < n) (sym count) l))

pub returns-in_err-move_each-clause-sim : goal.returns-in_err-move_each-clause-sim
returns-in_err-move_each-clause-sim c = c.move_each.ensures.sim

pub returns-clause-sim : goal.returns-clause-sim
returns-clause-sim c = c.move_each.ensures.sim

-- the workers of the list that is made first are the old ones
as_listed : (s : Sim) (x : Board) (n r : ℕ) → x ≡ listed n s.board → r < n → who x r ≡ who s.board r
as_listed s x n r same within = ap (λ (y : Board). who y r) same ∙ same_listed s.board n r within

pub returns-in_err-move_each-clause-each : goal.returns-in_err-move_each-clause-each
returns-in_err-move_each-clause-each c = λ r l.
    let s = sim_of c.self.inside in
    let count : c.nodes.result ≡ s.case.net.nodes = c.nodes.ensures.value ∙ ap (λ net. net.nodes) c.instance.ensures.value in
    let here : r < s.case.net.nodes = subst (λ (t : Sim). r < t.case.net.nodes) (sym c.self.view_is) l in
    let old = as_listed s c.list_owners.new.self c.nodes.result r c.in_ok-list_owners.ensures.listed (subst (λ n. r < n) (sym count) here) ∙ ap (λ (t : Sim). who t.board r) c.self.view_is in
    elim (c.move_each.ensures.each r here) [ inl is ↦ inl (is ∙ old) | inr is ↦ inr is ]

pub returns-clause-each : goal.returns-clause-each
returns-clause-each c = λ r l.
    let s = sim_of c.self.inside in
    let count : c.nodes.result ≡ s.case.net.nodes = c.nodes.ensures.value ∙ ap (λ net. net.nodes) c.instance.ensures.value in
    let here : r < s.case.net.nodes = subst (λ (t : Sim). r < t.case.net.nodes) (sym c.self.view_is) l in
    let old = as_listed s c.list_owners.new.self c.nodes.result r c.in_ok-list_owners.ensures.listed (subst (λ n. r < n) (sym count) here) ∙ ap (λ (t : Sim). who t.board r) c.self.view_is in
    elim (c.move_each.ensures.each r here) [ inl is ↦ inl (is ∙ old) | inr is ↦ inr is ]
