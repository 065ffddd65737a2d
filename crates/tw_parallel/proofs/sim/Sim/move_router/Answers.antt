use Rattle.std.proofs.Common.{◌≡◌, ◌<◌, drop, length, ap, sym, ◌∙◌, subst, arith}
use Rattle.std.proofs.lemmas.Result.{on_err_weaker, on_ok_weaker}
use Rattle.std.specs.Vec.{with_items}
use Rattle.tw_exchange.specs.Board.{Board, IsListed, who, workers}
use Rattle.tw_parallel.proofs.Moved.{all_taken, are_ends, as_many, by_result, may_pass, sim_kept, sim_later}
use Rattle.tw_parallel.specs.declared.sim.Sim.TheInside.{Inside}
use Rattle.tw_parallel.specs.Inside.{sim_of}
use Rattle.tw_parallel.specs.Moving.{HasMovedBetween, IsRearranged}
use Rattle.tw_parallel.specs.Sim.{IsSim, Sim}
use Rattle.tw_table.specs.Shares.{shares_of}
use Rattle.tw_parallel.proofs.sim.Sim.move_router.Goals as goal
use Rattle.tw_table.proofs.Moving.{later_is}

-- the router is one of the case, and its worker and the other one are two of the run's
module _ (c : goal.After-deref_mut) where
  known : c.args.router < c.self.inside.case.now.net.nodes
  known = subst (λ (s : Sim). c.args.router < s.case.net.nodes) (sym c.self.view_is) c.requires.known

  within : c.args.worker < workers c.self.inside.exchange
  within = subst (λ (s : Sim). c.args.worker < workers s.board) (sym c.self.view_is) c.requires.there

pub hand_over-requires-clause-workers : goal.hand_over-requires-clause-workers
hand_over-requires-clause-workers c = as_many c.self.inside c.self.invariant c.args.router c.in-Some.from c.args.worker (known c) (within c) c.in-Some.ensures.value.1 c.if-from-worker.true

pub hand_over-requires-clause-ends : goal.hand_over-requires-clause-ends
hand_over-requires-clause-ends c = are_ends c.self.inside c.self.invariant c.args.router c.in-Some.from c.args.worker (known c) (within c) c.in-Some.ensures.value.1 c.if-from-worker.true

pub hand_over-requires-clause-fit : goal.hand_over-requires-clause-fit
hand_over-requires-clause-fit c = may_pass c.self.inside c.self.invariant c.args.router c.in-Some.from c.args.worker (known c) (within c) c.in-Some.ensures.value.1 c.if-from-worker.true

-- and the run stays one
module _ (c : goal.After-self-1) where
  known_then : c.args.router < c.self.inside.case.now.net.nodes
  known_then = subst (λ (s : Sim). c.args.router < s.case.net.nodes) (sym c.self.view_is) c.requires.known

  listed_then : IsListed c.args.router c.self.inside.exchange
  listed_then = subst (λ (s : Sim). c.args.router < s.case.net.nodes → IsListed c.args.router s.board) (sym c.self.view_is) (c.requires.listed c.args.router) known_then

  -- the fields afterwards
  abbrev after : Inside
  after = record { case = c.self.inside.case; exchange = c.hand_over.new.exchange; shards = c.hand_over.new.shards; hands = with_items c.self.inside.hands c.hand_over.new.hands }

  hands_are : after.hands.items ≡ c.hand_over.new.hands
  hands_are =
      let same = c.hand_over.ensures.hands in
      let len = c.deref_mut.ensures.len in
      all_taken c.hand_over.new.hands (drop (length c.hand_over.new.hands) c.self.inside.hands.items) c.self.inside.hands.len (omega arith)

  shares_are : (sim_of after).shares ≡ shares_of c.hand_over.new.shards.items c.hand_over.new.hands
  shares_are = ap (shares_of c.hand_over.new.shards.items) hands_are

  shares_were : shares_of c.self.inside.shards.items c.deref_mut.result.now ≡ (sim_of c.self.inside).shares
  shares_were = ap (shares_of c.self.inside.shards.items) c.deref_mut.ensures.value

  moved : IsSim (sim_of after) × IsRearranged (sim_of c.self.inside) (sim_of after)
  moved =
      let s = sim_of c.self.inside in
      let r = c.args.router in
      let from = c.in-Some.from in
      let to = c.args.worker in
      let home = sym c.in-Some.ensures.value.1 in
      by_result c.hand_over.result _ _ _ _ (IsSim (sim_of after) × IsRearranged s (sim_of after)) c.hand_over.ensures.board c.hand_over.ensures.moved c.hand_over.ensures.err_board
      c.hand_over.ensures.err_shares
      (λ board between. sim_later s c.self.invariant.sim r from to c.if-from-worker.true listed_then known_then home c.hand_over.new.exchange (sim_of after).shares board
      (subst (HasMovedBetween r from to s.board s.shares) (sym shares_are)
      (subst (λ ts. HasMovedBetween r from to s.board ts (shares_of c.hand_over.new.shards.items c.hand_over.new.hands)) shares_were between)))
      (λ board same. sim_kept s c.self.invariant.sim r from to c.if-from-worker.true listed_then known_then home c.hand_over.new.exchange (sim_of after).shares board (shares_are ∙ (same ∙ shares_were)))

pub invariant_of-self : goal.invariant_of-self
invariant_of-self c = record {
  sim = (moved c).0;
  hands = (
      let same = c.hand_over.ensures.hands in
      let shards = c.hand_over.ensures.shards in
      let len = c.deref_mut.ensures.len in
      let new = c.hand_over.new.shards.ok.0 in
      let old = c.self.inside.shards.ok.0 in
      let was = c.self.invariant.hands in
      let hands = c.self.inside.hands.ok.0 in
      ap length (hands_are c) ∙ omega arith);
}

pub returns-in-Some-clause-moved : goal.returns-in-Some-clause-moved
returns-in-Some-clause-moved c =
    on_ok_weaker c.hand_over.result (λ same. ap (λ (x : Board). who x c.args.router) same ∙ later_is c.self.inside.exchange.owners _ c.args.router c.args.worker (listed_then c)) c.hand_over.ensures.board

pub returns-in-Some-clause-rearranged : goal.returns-in-Some-clause-rearranged
returns-in-Some-clause-rearranged c = subst (λ (s : Sim). IsRearranged s (sim_of (after c))) c.self.view_is (moved c).1

pub returns-in-Some-clause-sim : goal.returns-in-Some-clause-sim
returns-in-Some-clause-sim c = (moved c).0

pub returns-in-Some-clause-stays : goal.returns-in-Some-clause-stays
returns-in-Some-clause-stays c =
    on_err_weaker c.hand_over.result (λ same. ap (λ (x : Board). who x c.args.router) same ∙ ap (λ (s : Sim). who s.board c.args.router) c.self.view_is) c.hand_over.ensures.err_board
