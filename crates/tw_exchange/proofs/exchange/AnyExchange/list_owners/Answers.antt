use Rattle.std.proofs.Common.{◌≡◌, ◌<◌, Some, map, ap, sym, ◌∙◌, subst}
use Rattle.std.specs.List.{AllByRecursion, range_with_len}
use Rattle.tw_exchange.specs.AnyBoard.{AnyBoard, IsBoard, all_mail, listed, who}
use Rattle.tw_exchange.specs.declared.exchange.AnyExchange.TheInside.{Inside}
use Rattle.tw_exchange.specs.declared.owners.Owners.TheVariants.{Listed}
use Rattle.tw_exchange.specs.Inside.{IsExchange, board_of}
use Rattle.tw_exchange.proofs.Moving.{listed_board}
use Rattle.tw_exchange.proofs.exchange.AnyExchange.list_owners.Goals as goal
use Rattle.tw_exchange.proofs.exchange.AnyExchange.list_owners.Given.{Over}

-- the fields afterwards
abbrev after : (g : Over) (c : goal.Joined-self g) → Inside g.row.E.Denot
after g c = record c.self.inside { owners = Listed c.in_ok-workers_of.field-0 }

is_listed : (g : Over) (c : goal.Joined-self g) → board_of (after g c) ≡ listed c.args.routers (board_of c.self.inside)
is_listed g c =
    ap (λ l. record (board_of c.self.inside) { owners = Some l })
    (c.in_ok-workers_of.ensures ∙ ap (λ (x : AnyBoard g.row.E.Denot). map (who x) (range_with_len 0 c.args.routers)) (sym c.self.view_is))

kept : (g : Over) (c : goal.Joined-self g) → IsExchange g.E.Timed.parts (after g c)
kept g c = record {
  board = subst (IsBoard g.E.Timed.parts) (sym (is_listed g c)) (listed_board g.E.Timed.parts c.args.routers (board_of c.self.inside) c.self.invariant.board
      (subst (λ (x : AnyBoard g.row.E.Denot). AllByRecursion (λ m. g.E.Timed.parts.dst m.event < c.args.routers) (all_mail x)) (sym c.self.view_is) c.requires.mail));
  soonest = c.self.invariant.soonest;
  reports = c.self.invariant.reports;
}

pub invariant_of-self : goal.invariant_of-self
invariant_of-self g c = kept g c

pub returns-clause-whole : goal.returns-clause-whole
returns-clause-whole g c = (kept g c).board
