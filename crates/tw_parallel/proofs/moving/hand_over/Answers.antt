use Rattle.std.proofs.Common.{◌≡◌, ℕ, ◌++◌, List, filter, get_or, length, set, refl, ap, sym, ◌∙◌, subst}
use Rattle.std.specs.Prelude.{OnOk}
use Rattle.tw_exchange.specs.Board.{all_mail, is_to}
use Rattle.tw_parallel.proofs.Handing.{HoldsSame, moved_between, same_shares}
use Rattle.tw_parallel.proofs.PutBack.{on_err}
use Rattle.tw_parallel.specs.Moving.{AreEnds}
use Rattle.tw_shard.specs.Shard.{Shard}
use Rattle.tw_table.specs.declared.hand.Hand.{Hand}
use Rattle.tw_table.specs.Shares.{shares_of}
use Rattle.tw_parallel.proofs.moving.hand_over.Goals as goal

pub returns-in_err-reserve_mail-clause-err_shares : goal.returns-in_err-reserve_mail-clause-err_shares
returns-in_err-reserve_mail-clause-err_shares c =
    on_err c.from_residual.result _
    (same_shares c.args.shards.now.items c.args.hands.now c.reserve_mail.new.hands c.reserve_mail.ensures.count
    (λ k d. record { mail = c.reserve_mail.ensures.mail k d; next = c.reserve_mail.ensures.next k d; out = c.reserve_mail.ensures.out k d }))

pub returns-in_err-hand_over_router-clause-err_shares : goal.returns-in_err-hand_over_router-clause-err_shares
returns-in_err-hand_over_router-clause-err_shares c =
    on_err c.from_residual-in_err-hand_over_router.result _
    (ap (λ ss. shares_of ss c.reserve_mail.new.hands) c.in_err-hand_over_router.ensures.err
    ∙ same_shares c.args.shards.now.items c.args.hands.now c.reserve_mail.new.hands c.reserve_mail.ensures.count
    (λ k d. record { mail = c.reserve_mail.ensures.mail k d; next = c.reserve_mail.ensures.next k d; out = c.reserve_mail.ensures.out k d }))

pub returns-clause-moved : goal.returns-clause-moved
returns-clause-moved c =
    let hs2 = c.hand_over_mail.new.hands in
    let d = c.index-hands-target.result in
    let ss = c.args.shards.now.items in
    let r = c.args.router in
    let known = c.args.shards.now.ok.0 in
    moved_between r c.args.from c.args.to c.args.exchange.now ss c.hand_over_router.new.shards.items c.args.hands.now c.reserve_mail.new.hands hs2 d
    (record { mail = c.take_for.new.to; next = (get_or hs2 c.args.to d).next; out = (get_or hs2 c.args.to d).out })
    (c.requires.hands ∙ known) (subst (AreEnds c.args.from c.args.to) known c.requires.ends) c.reserve_mail.ensures.count
    (λ k e. record { mail = c.reserve_mail.ensures.mail k e; next = c.reserve_mail.ensures.next k e; out = c.reserve_mail.ensures.out k e })
    c.in_ok-hand_over_router.ensures.passed (c.hand_over_mail.ensures d)
    (subst (λ z. OnOk z (c.take_for.new.to.items ≡ (get_or hs2 c.args.to d).mail.items ++ filter (is_to r) (all_mail c.args.exchange.now))) c.unwrap.ensures c.take_for.ensures.taken) refl refl
