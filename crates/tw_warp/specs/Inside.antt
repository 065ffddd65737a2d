-- What the fields of a machine say (own).
use Rattle.tw_warp.specs.declared.warp.Warp.TheInside.{Inside}
use Rattle.tw_warp.specs.Warp.{Warp}

-- the machine that the fields stand for
abbrev pub warp_of : Inside → Warp
warp_of a = record {
  case = a.case.now;
  shards = a.shards.items;
  flight = a.flight;
  bound = a.bound;
  stop = a.stop;
  cancel = a.cancel;
}
