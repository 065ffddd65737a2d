use Rattle.std.proofs.Common.{[], ◌∙◌, arith}
use Rattle.tw_rounds.proofs.Lists.{there_at}
use Rattle.tw_rounds.proofs.Shares.{outbox_at, still_share}
use Rattle.tw_rounds.specs.Shares.{on_way}
use Rattle.tw_rounds.proofs.share.take_turn.Goals as goal

pub go_on-went-requires : goal.go_on-went-requires
go_on-went-requires g c = record { share = still_share g.M.Event.Timed.parts g.M.Event.Ord.cmp g.M.ProcessModel.behaviour c.args.round c.args.start c.args.members.now c.take_sent-sent.new.members [] (on_way c.take_sent-sent.result) c.requires.share (c.take_sent-sent.ensures.rule c.args.round c.args.start) }

pub keep_sent-requires-clause-empty : goal.keep_sent-requires-clause-empty
keep_sent-requires-clause-empty g c = λ x at.
    let before = there_at c.take_sent-sent.new.members 0 (omega (arith, c.requires.some, c.take_sent-sent.auto.members)) in
    outbox_at c.take_sent-sent.new.members c.go_on-went.new.members 0 before.0 x c.go_on-went.ensures.outboxes before.1 at ∙ c.take_sent-sent.ensures.empty before.0 before.1

pub returns : goal.returns
returns g c = record {
  rule = λ model front back others from ruled.
      c.tell_least.ensures.rule c.args.round c.args.start model front back others from
      (c.keep_sent.ensures c.args.round c.args.start model front back others from (c.go_on-went.ensures.rule model front back others from (c.take_sent-sent.ensures.rule c.args.round c.args.start model front back others from ruled)));
  told = c.tell_least.ensures.told;
}
