use Rattle.std.proofs.Common.{◌∷◌, ◌+◌, drop, refl, ap, sym, ◌∙◌}
use Rattle.tw_table.specs.Shares.{share}
use Rattle.tw_workers.proofs.Places.{arrived, drop_one, kept_received, kept_rolled_back, welcome}
use Rattle.tw_workers.proofs.delivering.receive_next.Goals as goal

pub receive_welcome-requires : goal.receive_welcome-requires
receive_welcome-requires c =
    let hand = c.args.hand.now in
    let x = c.index.result.now in
    let s = share c.args.shard.now hand in
    welcome c.requires.work.0 s x (drop (hand.next + 1) hand.mail.items) c.requires.work.1
    (drop_one hand.mail.items hand.next x c.requires.some ∙ ap (λ y. y ∷ drop (hand.next + 1) hand.mail.items) (sym c.index.ensures))

pub returns-in_err-receive_welcome-clause-preserved : goal.returns-in_err-receive_welcome-clause-preserved
returns-in_err-receive_welcome-clause-preserved c = λ stop work.
    let hand = c.args.hand.now in
    let x = c.index.result.now in
    let s = share c.args.shard.now hand in
    let t = share c.receive_welcome.new.self hand in
    kept_rolled_back stop s t x (drop (hand.next + 1) hand.mail.items) work
    (drop_one hand.mail.items hand.next x c.requires.some ∙ ap (λ y. y ∷ drop (hand.next + 1) hand.mail.items) (sym c.index.ensures))
    c.receive_welcome.ensures.same (c.in_err-receive_welcome.ensures.memory stop) refl refl

pub returns-clause-preserved : goal.returns-clause-preserved
returns-clause-preserved c = λ stop work.
    let hand = c.args.hand.now in
    let x = c.index.result.now in
    let rest = drop (hand.next + 1) hand.mail.items in
    let s = share c.args.shard.now hand in
    let t = share c.receive_welcome.new.self (record hand { next = hand.next + 1 }) in
    let first = drop_one hand.mail.items hand.next x c.requires.some ∙ ap (λ y. y ∷ rest) (sym c.index.ensures) in
    kept_received stop s t x rest work first c.receive_welcome.ensures.same
    (arrived c.args.shard.now c.receive_welcome.new.self x stop (welcome stop s x rest work first) (c.in_ok-receive_welcome.ensures.ok stop)) refl refl
