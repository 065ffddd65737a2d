use Rattle.std.proofs.Common.{◌≡◌, Some, [], ap, false, length, map, replicate, sym, ◌∙◌, subst}
use Rattle.std.proofs.lemmas.List.{length-replicate}
use Rattle.tw_exchange.specs.AnyBoard.{IsBoard}
use Rattle.tw_exchange.specs.Owners.{list_of}
use Rattle.tw_exchange.specs.Rows.{items, soonest_of}
use Rattle.tw_exchange.proofs.Boards.{opening_board, opening_soonest}
use Rattle.tw_exchange.proofs.exchange.AnyExchange.open.Goals as goal

pub invariant_of-result : goal.invariant_of-result
invariant_of-result g c =
    let n = c.args.workers in
    let bound = c.args.bound in
    let mail : items c.in_ok-no_mail.field-0.items ≡ replicate n [] = c.in_ok-no_mail.ensures in
    let reports : c.in_ok-row-2.field-0.items ≡ replicate n (Some bound) = c.in_ok-row-2.ensures in
    record {
      board = subst (IsBoard g.E.Timed.parts) (sym (λ i. record { owners = list_of c.args.owners; mail = mail i; reports = reports i; bound = bound; stop = c.args.stop; halted = false })) (opening_board g.E.Timed.parts (list_of c.args.owners) n bound c.args.stop c.requires);
      soonest = c.in_ok-row.ensures ∙ (opening_soonest g.E.Timed.parts n ∙ ap (map (soonest_of g.E.Timed.parts)) (sym mail));
      reports = ap length reports ∙ length-replicate n (Some bound);
    }
