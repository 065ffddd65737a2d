use Rattle.std.proofs.Common.{◌≡◌, ◌==◌, ◌-◌, true, false, ap, ◌∙◌, get_or, length, subst, sym}
use Rattle.std.specs.List.{position_or_len}
use Rattle.std.proofs.lemmas.Option.{get_or_from_slice_get}
use Rattle.tw_event.specs.declared.event.PathNo.{PathNo}
use Rattle.tw_model.specs.Net.{paths_of}
use Rattle.tw_router.proofs.Offered.{bars_at, rank_known, rank_unbarred}
use Rattle.tw_router.proofs.ranks.rank_at.Goals as goal

abbrev no_path : PathNo
no_path = record { 0 = 0 }

pub returns-then-not-altered : goal.returns-then-not-altered
returns-then-not-altered c q at =
    let plain = c.requires.order c.if-not-altered.true in
    rank_unbarred c.args.instance.now c.args.node c.args.order.now c.args.barred.now c.args.place q c.requires.distinct plain.0 plain.1 at

pub returns-then-barred-place : goal.returns-then-barred-place
returns-then-barred-place c q at =
    rank_known c.args.instance.now c.args.node c.args.order.now c.args.barred.now true q
    (sym c.if-barred-place.true ∙ bars_at c.args.instance.now c.args.node c.args.barred.now c.args.place q at)

pub returns : goal.returns
returns c q at =
    let here = ap (λ qs. get_or qs c.args.place no_path) c.permitted.ensures.value ∙ get_or_from_slice_get (paths_of c.args.instance.now c.args.node) c.args.place q no_path at in
    ap (λ n. length c.args.order.now - n)
    (subst (λ (x : PathNo). c.count_before.result ≡ position_or_len (λ p. p.0 == x.0) c.args.order.now) here c.count_before.ensures.value)
    ∙ rank_known c.args.instance.now c.args.node c.args.order.now c.args.barred.now false q
    (sym c.if-barred-place.false ∙ bars_at c.args.instance.now c.args.node c.args.barred.now c.args.place q at)
