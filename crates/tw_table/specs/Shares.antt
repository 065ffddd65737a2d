-- What a worker has beside the exchange, and the rule over all workers (own, after Jefferson, Virtual Time, 1985).
use Rattle.std.specs.Prelude.{ℕ, ◌+◌, ◌≡◌, ◌<◌, ◌≤◌, true, List, [], drop, length, map, zip}
use Rattle.std.specs.List.{AllByRecursion}
use Rattle.tw_core.specs.Good.{IsGood, times_there}
use Rattle.tw_core.specs.Machine.{antimessages, messages}
use Rattle.tw_core.specs.Parts.{times_wanted}
use Rattle.tw_core.specs.Run.{IsSeq}
use Rattle.tw_event.specs.declared.event.Event.{Event}
use Rattle.tw_exchange.specs.Board.{Board, all_mail, who, workers}
use Rattle.tw_model.specs.Case.{Case, IsCase, simulation}
use Rattle.tw_rule.specs.Board as rule
use Rattle.tw_rule.specs.Place.{Place, whole}
use Rattle.tw_rule.specs.Rule.{Rule, Stands, assembled}
use Rattle.tw_shard.specs.Shard.{Shard, no_shard, owns, shard_core}
use Rattle.tw_sim.specs.declared.machine.Signed.{Signed}
use Rattle.tw_table.specs.declared.hand.Hand.{Hand}

-- a worker's shard, and the messages in its hand
pub record Share : Type 0 where
  pub shard : Shard
  -- the mail that it was handed and that is not delivered
  pub mail : List (Signed Event)
  -- what no visit has taken
  pub unsent : List (Signed Event)

-- a shard and a hand
abbrev pub share : Shard → Hand → Share
share s h = record { shard = s; mail = drop h.next h.mail.items; unsent = h.out.items }

-- shards with a hand each
abbrev pub shares_of : List Shard → List Hand → List Share
shares_of shards hands = map (λ (p : Shard × Hand). share p.0 p.1) (zip shards hands)

-- what stands where there is none
abbrev pub no_share : Share
no_share = record { shard = no_shard; mail = []; unsent = [] }

-- a worker's share, as the rule sees it
abbrev pub place_of : Share → Place Event
place_of s = record {
  worker = s.shard.terms.worker;
  owns = owns s.shard;
  history = (shard_core 0 s.shard).history;
  pending = s.shard.pending;
  kept = s.shard.kept;
  outgoing = s.shard.outgoing;
  held = s.shard.held;
  done = (shard_core 0 s.shard).done;
  past = (shard_core 0 s.shard).past;
  room = (shard_core 0 s.shard).room;
  bound = s.shard.bound;
  cancel = s.shard.terms.cancel;
  mail = s.mail;
  unsent = s.unsent;
}

-- the exchange, as the rule sees it
abbrev pub board_of : Board → rule.Board Event
board_of x = record { mail = all_mail x; reports = x.reports; bound = x.bound; stop = x.stop }

-- the exchange and the shares of all workers keep the rule, for this case
pub record IsRuled (case : Case) (x : Board) (shares : List Share) : Type 0 where
  pub is_case : IsCase case
  -- all shards keep this case
  pub cases : AllByRecursion (λ s. s.shard.terms.case ≡ case) shares
  -- there are as many shares as workers
  pub count : length shares ≡ workers x
  pub rule : Rule (simulation case) (who x) (board_of x) (map place_of shares)

module _ (case : Case) (e : Event) where
  -- how often an event is in the mail, as a message and as an antimessage
  abbrev pub mailed : Board → ℕ
  mailed x = messages (simulation case) e (all_mail x)

  abbrev pub mailed_back : Board → ℕ
  mailed_back x = antimessages (simulation case) e (all_mail x)

  -- how often it should be with a worker, and how often it is there
  abbrev pub wanted : Share → ℕ
  wanted s = times_wanted (simulation case) (whole 0 (place_of s)) e

  abbrev pub there : Share → ℕ
  there s = times_there (simulation case) (whole 0 (place_of s)) e

-- the worker that took the exchange x, and left the share s, may leave the share t with the exchange y, which it has visited
pub record MayBeGiven (x : Board) (s : Share) (y : Board) (t : Share) : Type 0 where
  -- its shard keeps the same case, and is the same worker's
  pub case : t.shard.terms.case ≡ s.shard.terms.case
  pub worker : t.shard.terms.worker ≡ s.shard.terms.worker
  -- its place stands as it reported
  pub stands : Stands (simulation s.shard.terms.case) (who x) (board_of y) (place_of t)
  -- what it has less went to the mail, and what it has more came from there
  pub moved : (e : Event) → wanted s.shard.terms.case e t + there s.shard.terms.case e s + (mailed_back s.shard.terms.case e y + mailed s.shard.terms.case e x)
      ≡ wanted s.shard.terms.case e s + there s.shard.terms.case e t + (mailed s.shard.terms.case e y + mailed_back s.shard.terms.case e x)
  -- what it added to the mail suits its receiver
  pub suit : (e : Event) → mailed s.shard.terms.case e x + mailed_back s.shard.terms.case e x < mailed s.shard.terms.case e y + mailed_back s.shard.terms.case e y → (simulation s.shard.terms.case).suits e ≡ true
  -- no commit is taken back
  pub done : (r : ℕ) → (place_of s).done r ≤ (place_of t).done r

-- the exchange and the shares of all workers are, put together, a good state of the machine of their case
pub record AreGoodTogether (x : Board) (shares : List Share) : Type 0 where
  pub case : Case
  pub ruled : IsRuled case x shares
  pub good : IsGood (simulation case) (assembled (board_of x) (map place_of shares))
  -- and so the one-thread run, as far as it is committed
  pub seq : IsSeq (simulation case) (assembled (board_of x) (map place_of shares))
