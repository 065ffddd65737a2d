use Rattle.tw_shard.specs.Shard.{shard_core}
use Rattle.tw_shard.proofs.Comings.{received, welcome}
use Rattle.tw_shard.proofs.shard.Shard.receive_welcome.Goals as goal

pub take_in-requires-clause-own : goal.take_in-requires-clause-own
take_in-requires-clause-own c = (welcome c.args.self.now c.args.message.now.event c.requires).0

pub take_in-requires-clause-late : goal.take_in-requires-clause-late
take_in-requires-clause-late c = (welcome c.args.self.now c.args.message.now.event c.requires).1

pub take_in-requires-clause-suit : goal.take_in-requires-clause-suit
take_in-requires-clause-suit c = (welcome c.args.self.now c.args.message.now.event c.requires).2

pub returns-clause-ok : goal.returns-clause-ok
returns-clause-ok c = λ stop. received stop c.args.self.now c.args.message.now (shard_core stop c.take_in.new.self) c.requires (c.in_ok-take_in.ensures.ok stop)
