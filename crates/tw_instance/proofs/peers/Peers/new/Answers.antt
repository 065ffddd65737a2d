use Rattle.tw_instance.proofs.Indexed.{has_peers}
use Rattle.tw_instance.proofs.peers.Peers.new.Goals as goal

pub returns : goal.returns
returns c = has_peers c.args.instance.now _ c.in_ok-starts.ensures.net c.in_ok-starts.ensures.rows c.in_ok-guesses.ensures.long c.in_ok-guesses.ensures.right c.in_ok-orders.ensures.long c.in_ok-orders.ensures.right
