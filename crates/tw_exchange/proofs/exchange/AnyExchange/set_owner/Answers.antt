use Rattle.smallvec.proofs.SmallVecLemmas.{items-with_items}
use Rattle.smallvec.specs.SmallVec.{with_items}
use Rattle.std.proofs.Common.{Some, ap, length, refl, set, ◌∙◌}
use Rattle.std.proofs.lemmas.List.{length-set}
use Rattle.tw_exchange.specs.declared.exchange.AnyExchange.TheInside.{Inside}
use Rattle.tw_exchange.proofs.Moves.{IsWithOwner, exchange_given}
use Rattle.tw_exchange.proofs.exchange.AnyExchange.set_owner.Goals as goal
use Rattle.tw_exchange.proofs.exchange.AnyExchange.set_owner.Given.{Over}
use Rattle.tw_exchange.proofs.exchange.AnyExchange.set_owner.Goals.{After-self-1}

-- the fields afterwards
abbrev after : (g : Over) (c : After-self-1 g) → Inside g.row.E.Denot
after g c = record c.self.inside { owners = c.set.new.self; reports = with_items c.self.inside.reports (set c.deref_mut.result.now c.args.worker (Some c.self.inside.bound)) }

is_given : (g : Over) (c : After-self-1 g) → IsWithOwner c.self.inside (after g c) c.args.router c.args.worker
is_given g c =
    let a = c.self.inside in
    let rows = c.deref_mut.result.now in
    let w = c.args.worker in
    let told = Some a.bound in
    record {
      owners = c.set.ensures;
      mail = refl;
      soonest = refl;
      reports = items-with_items a.reports (set rows w told) (length-set rows w told ∙ ap length c.deref_mut.ensures.value) ∙ ap (λ l. set l w told) c.deref_mut.ensures.value;
      bound = refl;
      workers = refl;
      stop = refl;
      halted = refl;
    }

pub invariant_of-self : goal.invariant_of-self
invariant_of-self g c = exchange_given g.E.Timed.parts c.self.inside (after g c) c.args.router c.args.worker c.args.self.now c.self.invariant c.self.view_is (is_given g c) c.requires.no_mail

pub returns-clause-whole : goal.returns-clause-whole
returns-clause-whole g c = (exchange_given g.E.Timed.parts c.self.inside (after g c) c.args.router c.args.worker c.args.self.now c.self.invariant c.self.view_is (is_given g c) c.requires.no_mail).board
