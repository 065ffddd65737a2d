use Rattle.std.proofs.Common.{◌≡◌, ◌==◌, ◌∙◌, Bool, true, false, ap, ap₂, get_or, length, subst, sym, if◌then◌else◌}
use Rattle.std.specs.List.{position_or_len}
use Rattle.std.proofs.lemmas.Option.{get_or_from_slice_get}
use Rattle.tw_event.specs.declared.event.PathNo.{PathNo}
use Rattle.tw_model.specs.Net.{paths_of}
use Rattle.tw_model.specs.State.{bars}
use Rattle.tw_router.proofs.Offered.{bars_at}
use Rattle.tw_elimination.proofs.marks.place_at.Goals as goal

abbrev no_path : PathNo
no_path = record { 0 = 0 }

pub returns-then-barred-line-clause-value : goal.returns-then-barred-line-clause-value
returns-then-barred-line-clause-value c q at =
    let r = c.args.router.now in
    let barred : bars r.net r.node r.state.barred q ≡ true
    = sym (bars_at r.net r.node r.state.barred c.args.line q at) ∙ (ap (λ bs. get_or bs c.args.line false) (sym c.barred.ensures.value) ∙ c.if-barred-line.true) in
    ap length c.order.ensures.value
    ∙ sym (ap (λ (b : Bool). if b then length r.state.order else position_or_len (λ p. p.0 == q.0) r.state.order) barred)

pub returns-clause-value : goal.returns-clause-value
returns-clause-value c q at =
    let r = c.args.router.now in
    let open_is : bars r.net r.node r.state.barred q ≡ false
    = sym (bars_at r.net r.node r.state.barred c.args.line q at) ∙ (ap (λ bs. get_or bs c.args.line false) (sym c.barred.ensures.value) ∙ c.if-barred-line.false) in
    let are : c.permitted.result.now ≡ paths_of r.net r.node = c.permitted.ensures.value ∙ ap₂ paths_of c.requires.own c.node-node.ensures.value in
    let here : get_or c.permitted.result.now c.args.line no_path ≡ q
    = ap (λ qs. get_or qs c.args.line no_path) are ∙ get_or_from_slice_get (paths_of r.net r.node) c.args.line q no_path at in
    subst (λ (x : PathNo). c.place_of.result ≡ position_or_len (λ p. p.0 == x.0) c.order-2.result.now) here c.place_of.ensures.value
    ∙ (ap (position_or_len (λ p. p.0 == q.0)) c.order-2.ensures.value
    ∙ sym (ap (λ (b : Bool). if b then length r.state.order else position_or_len (λ p. p.0 == q.0) r.state.order) open_is))
